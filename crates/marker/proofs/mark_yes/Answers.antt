use mathlib.Core.Path.{◌≡◌, sym, ap, ◌∙◌}
use mathlib.Core.List.{List, ◌++◌, map}
use Prim.Native.Nat.{ℕ, ◌≤◌}
use native.Mathlib.Omega.{arith}
use lib.ListN.{length, take, drop, length-append, length-map}
use lib.Seq.{length-take-le, take_at}
use Rattle.semantics.specs.Runs.{Place}
use Rattle.model.specs.Places.{number_of}
use Rattle.handin.proofs.Runs.{run-writable}
use Rattle.marker.proofs.Said.{first_small, decodes}
use Rattle.marker.proofs.mark_yes.Goals as goal

-- the table w after the run of n places is written over r: its first numbers are those of the places
module _ (ps : List Place) (r w : List ℕ) (n : ℕ) (wrote : w ≡ map number_of ps ++ drop (length ps) r) (many : n ≡ length ps) where
  count : length (map number_of ps) ≡ n
  count = length-map ps number_of ∙ sym many

  enough : n ≤ length w
  enough = omega (arith, count, ap length wrote, length-append (map number_of ps) (drop (length ps) r))

  long : length (take n w) ≡ n
  long = length-take-le n w enough

  numbers : take n w ≡ map number_of ps
  numbers = ap (take n) wrote ∙ take_at (map number_of ps) (drop (length ps) r) n count

pub slice_bounds-mark_run-end : goal.slice_bounds-mark_run-end
slice_bounds-mark_run-end c = let p = c.requires.4 in enough p.0 c.args.run.now c.write.new.run c.args.yes.places (c.write.ensures c.args.yes.first p.0 p.1) p.2

pub slice_bounds-mark_run-end-2 : goal.slice_bounds-mark_run-end-2
slice_bounds-mark_run-end-2 c = let p = c.requires.4 in sym (long p.0 c.args.run.now c.write.new.run c.args.yes.places (c.write.ensures c.args.yes.first p.0 p.1) p.2)

pub mark_run-requires : goal.mark_run-requires
mark_run-requires c =
    let p = c.requires.4 in
    let f = first_small c.args.yes.first p.0 c.args.handin.now p.1 in
    let w = run-writable c.args.handin.now c.args.yes.first p.0 p.1 in
    let l = long p.0 c.args.run.now c.write.new.run c.args.yes.places (c.write.ensures c.args.yes.first p.0 p.1) p.2 in
    (c.requires.0, omega (arith, f, w.0, l, p.2), omega (arith, w.0, l, p.2), c.requires.1, c.requires.3)

pub returns : goal.returns
returns c =
    let p = c.requires.4 in
    let w = run-writable c.args.handin.now c.args.yes.first p.0 p.1 in
    let e = c.mark_run.ensures in
    let wrote = c.write.ensures c.args.yes.first p.0 p.1 in
    let n = numbers p.0 c.args.run.now c.write.new.run c.args.yes.places wrote p.2 in
    rw p.1 (e.0 p.0 (rw n (decodes p.0 w.1)), (e.2, wrote, rw (← n) e.1))

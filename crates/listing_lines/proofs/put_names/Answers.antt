use mathlib.Core.Path.{◌≡◌, sym, ◌∙◌}
use mathlib.Core.List.{[], append-nil}
use native.Mathlib.Numerals.{add-one}
use native.Mathlib.Omega.{arith}
use lib.ListN.{length, drop}
use Rattle.std.proofs.lemmas.List.{length-take}
use Rattle.limits.specs.Limits as limit
use Rattle.model.specs.Records.{name_of}
use Rattle.listing_bytes.proofs.Writing.{item, kept, slice-part}
use borrow.Author.Rules.{rules}
use Prim.Native.Nat.{◌<◌, ◌+◌, ◌-◌, ◌≤◌}
use Rattle.listing_lines.specs.Lines.{names_in}
use Rattle.listing_lines.proofs.Items.{name-room}
use Rattle.listing_lines.proofs.put_names.Goals as goal
use Rattle.listing_lines.proofs.put_names.Goals.{else-has, then-has}

pub put_name-next-requires : goal.put_name-next-requires
put_name-next-requires c =
    let l = c.loop-i in
    let e = sym c.has.ensures ∙ c.if-has.true in
    let h : l.i < c.args.m.now.relations.count = omega arith in
    let whole : length c.args.m.now.relations.codes ≡ limit.declared = search rules in
    simp length-take (omega (arith, l.invariant.0.next, kept l.invariant.0, name-room c.args.text.now c.args.m.now c.args.set c.ranges.set c.requires.0 c.requires.1 whole l.i h e, c.requires.1.short l.i h))

pub loop-i-preserved : goal.loop-i-preserved
loop-i-preserved c =
    let a = c.args in
    let l = c.loop-i in
    let h = c.has in
    let m = a.m.now in
    let start = (name_of m l.i).start in
    let end = start + (name_of m l.i).len in
    let ordered : start ≤ end = omega arith in
    let inside : l.i < m.relations.count = omega arith in
    let whole : length m.relations.codes ≡ limit.declared = search rules in
    let names = names_in a.text.now m a.set l.i in
    elim (c.if-has.branch) [
      | then-has w ↦
          let e = sym h.ensures ∙ w.if-has.true in (
            rw (w.out-is, w.next-is, add-one l.i, e, slice-part start end a.text.now ordered) (item [] names l.invariant.0 w.put_name-next.ensures),
            rw w.next-is (omega (arith, w.put_name-next.ensures.next, l.invariant.0.next, name-room a.text.now m a.set c.ranges.set c.requires.0 c.requires.1 whole l.i inside e, c.requires.1.short l.i inside, length-take (end - start) (drop start a.text.now))),
          )
      | else-has w ↦ (rw (w.out-is, w.next-is, add-one l.i, sym h.ensures ∙ w.if-has.false, append-nil names) l.invariant.0, rw w.next-is l.invariant.1)
    ]

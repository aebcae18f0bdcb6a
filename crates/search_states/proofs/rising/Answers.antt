use mathlib.Core.Path.{ap, subst, ◌∙◌}
use mathlib.Core.List.{List}
use Prim.Native.Nat.{ℕ, ◌+◌, ◌-◌}
use native.Mathlib.Omega.{arith}
use borrow.Rule.Slice.PartMut.{put_mid}
use lib.ListN.{take, drop}
use Rattle.std.specs.List.Sorted.{IsPermutation}
use Rattle.std.proofs.lemmas.List.Sorted.{IsNonDecreasingBy-from_sort}
use Rattle.search_states.proofs.Sorting.{zeros, mid-row, lists-sorted}
use Rattle.search_states.proofs.rising.Goals as goal

pub returns : goal.returns
returns c =
    let s = c.args.s in
    let f = c.from-first.result in
    let k = f + s.count - f in
    let ys = c.sort_unstable.new.self in
    let same = rw c.row.ensures at c.copy_from_slice.ensures.after in
    rw same
    (lists-sorted s c.requires ys
    (subst (λ (xs : List ℕ). IsPermutation xs ys) (ap (λ (xs : List ℕ). take k (drop f (put_mid f k zeros xs))) same ∙ mid-row s c.requires f k c.from-first.ensures (omega arith)) c.sort_unstable.ensures.permutation)
    (IsNonDecreasingBy-from_sort (λ (x : ℕ). x) ys c.sort_unstable.ensures.sorted) f k c.from-first.ensures (omega arith))

use mathlib.Core.Path.{refl}
use Prim.Native.Nat.{ℕ}
use native.Mathlib.Omega.{arith}
use borrow.Author.Rules.{rules}
use Rattle.std.proofs.lemmas.Iterator.{YieldsList-from_range, cases_from_all}
use Rattle.asbestos.specs.Messages.{Proper}
use Rattle.asbestos_writer.specs.Writing.{kind_at}
use Rattle.asbestos_writer.proofs.Checks.{good-kind, bad-kind, tested}
use Rattle.asbestos_writer.proofs.all_proper.Goals as goal

pub returns : goal.returns
returns c =
    let a = c.args in
    let Good = λ (i : ℕ). Proper (kind_at a.kinds.now i) in
    let Bad = λ (i : ℕ). Proper (kind_at a.kinds.now i) → ⊥ in
    tested a.kinds.now a.count c.all.result (cases_from_all _ _ c.all.result Good Bad c.all.ensures.ran (YieldsList-from_range 0 a.count a.count refl (omega arith)) (λ x q k. search (rules, good-kind)) (λ x q k. search (rules, bad-kind)))

use mathlib.Core.Path.{◌≡◌, sym, ap, ◌∙◌}
use mathlib.Core.Logic.{⊎_elim}
use mathlib.Core.Bool.{not}
use Prim.Native.Nat.{ℕ}
use lib.Dec.{eqb}
use lib.ListN.{length}
use native.Mathlib.Omega.{arith}
use Rattle.model.specs.Records.{program_of}
use Rattle.strike_list.specs.declared.Lines.{Lines}
use Rattle.strike_list.specs.Lists.{named}
use Rattle.strike_list.proofs.Named.{named-judges, faulty-empty, faulty-long}
use Rattle.strike_list.proofs.Gathering.{model-rising}
use borrow.Author.Tests.{eqb-true, eqb-false}
use Rattle.strike_list.proofs.faulty.Goals as goal

pub returns-then-is_empty : goal.returns-then-is_empty
returns-then-is_empty c =
    let a = c.args in
    ⊎_elim
    (λ e. faulty-empty (program_of a.m) a.list.now (eqb-true (length a.list.now) 0 (sym c.is_empty.ensures ∙ e)))
    (λ e. faulty-long (program_of a.m) a.list.now e.1)
    c.then-is_empty.either

pub returns : goal.returns
returns c =
    let n = length c.args.list.now in
    let some = eqb-false n 0 (sym c.is_empty.ensures ∙ c.if-is_empty.false) in
    let e : c.gather-found.result.count ≡ length (named (program_of c.args.m) c.args.list.now) = ap (λ (r : Lines). r.count) c.gather-found.ensures in
    ap (λ (k : ℕ). not (eqb k n)) e ∙ sym (named-judges (program_of c.args.m) c.args.list.now (model-rising c.args.m c.requires) (omega (arith, some)) (omega arith))

use mathlib.Core.Path.{◌≡◌, refl, ap, ◌∙◌, subst}
use Prim.Native.Nat.{ℕ, ◌<◌}
use mathlib.Core.Bool.{true}
use Rattle.semantics.specs.Facts.{state}
use Rattle.semantics.specs.Walkers.{Comes}
use Rattle.model.specs.Records.{program_of}
use mathlib.Core.Logic.{◌≢◌}
use Rattle.semantics.specs.Tables.{seat}
use Rattle.search_states.specs.declared.States.{States}
use Rattle.search_states.specs.States.{row, Proper, Known}
use Rattle.shortest_answer.specs.Ending.{Ended}
use Rattle.shortest_answer.proofs.Laws.{between-ended, slot, stuck}
use Rattle.shortest_answer.proofs.onward.Goals as goal

-- the slot that is sought is that of the state
seated : (s : States) → Proper s → (t e : ℕ) → t ≢ 0 → Known s t → e ≡ seat t (row s) → (e < s.count) × (state (row s) e ≡ t)
seated s proper t e n k q = let r = slot s proper t n k in (rw q r.0, ap (state (row s)) q ∙ r.1)

pub returns-then-from-eq0 : goal.returns-then-from-eq0
returns-then-from-eq0 c =
    let a = c.args in
    let q = c.if-from-eq0.true in
    ((λ h. stuck a.m c.requires.0.model a.s a.to (λ z. c.requires.3 (q ∙ z)) (subst (λ (f : ℕ). Comes (program_of a.m) (row a.s) f a.to) q h)), refl)

pub way-requires : goal.way-requires
way-requires c =
    (c.requires.0, (seated c.args.s c.requires.0.proper c.args.from c.unwrap-e.result c.if-from-eq0.false c.requires.1 (rw (c.row.ensures, c.unwrap-e.ensures) at c.seek.ensures).1).0, c.requires.4)

pub returns-then-to-eq0 : goal.returns-then-to-eq0
returns-then-to-eq0 c =
    let a = c.args in
    let r = c.way in
    rw c.if-to-eq0.true (subst (λ (x : ℕ). Ended (program_of a.m) (row a.s) x 0 a.run.now r.new.out r.result) (seated c.args.s c.requires.0.proper c.args.from c.unwrap-e.result c.if-from-eq0.false c.requires.1 (rw (c.row.ensures, c.unwrap-e.ensures) at c.seek.ensures).1).1 r.ensures)

pub between-requires : goal.between-requires
between-requires c =
    (c.requires.0, (seated c.args.s c.requires.0.proper c.args.from c.unwrap-e.result c.if-from-eq0.false c.requires.1 (rw (c.row.ensures, c.unwrap-e.ensures) at c.seek.ensures).1).0, (seated c.args.s c.requires.0.proper c.args.to c.unwrap-u.result c.if-to-eq0.false c.requires.2 (rw (c.row-2.ensures, c.unwrap-u.ensures) at c.seek-2.ensures).1).0, c.requires.4)

pub returns : goal.returns
returns c =
    let a = c.args in
    let r = c.between in
    subst (λ (y : ℕ). Ended (program_of a.m) (row a.s) a.from y a.run.now r.new.out r.result) (seated c.args.s c.requires.0.proper c.args.to c.unwrap-u.result c.if-to-eq0.false c.requires.2 (rw (c.row-2.ensures, c.unwrap-u.ensures) at c.seek-2.ensures).1).1
    (subst (λ (x : ℕ). Ended (program_of a.m) (row a.s) x (state (row a.s) c.unwrap-u.result) a.run.now r.new.out r.result) (seated c.args.s c.requires.0.proper c.args.from c.unwrap-e.result c.if-from-eq0.false c.requires.1 (rw (c.row.ensures, c.unwrap-e.ensures) at c.seek.ensures).1).1
    (between-ended a.m a.s c.unwrap-e.result c.unwrap-u.result a.run.now r.new.out r.result r.ensures))

-- A stage with one variable, as the record has it and as the question has it; and the row of slots that meet it.
use mathlib.Core.Path.{◌≡◌, refl, sym, ap, ◌∙◌, subst}
use mathlib.Core.Logic.{⊎_elim, ◌↔◌, ◌≢◌}
use mathlib.Core.Bool.{true, cond}
use mathlib.Core.List.{List}
use Prim.Native.Nat.{ℕ, ◌+◌, ◌/◌, ◌<◌}
use native.Mathlib.Omega.{arith}
use borrow.Author.Tests.{eqb-true, eq-eqb}
use lib.Dec.{eqb}
use lib.ListN.{length, take, drop, replicate}
use Rattle.std.proofs.lemmas.Bool.{or_cases}
use Rattle.limits.specs.Limits as limit
use Rattle.semantics.specs.Models.{elem, Body, vars, supported, Supported}
use Rattle.semantics.specs.Facts.{Database, In, Derived}
use Rattle.semantics.proofs.Tools.{same?, clash, or_right}
use Rattle.semantics.proofs.Bodies.{holds_agree, more-facts, supported-vars}
use Rattle.model.specs.declared.Model.{Model}
use Rattle.model.specs.declared.Stage.{Stage}
use Rattle.model.specs.Records.{renamed, Injective, stage_body, stage_of, number_in, program_of, stage_at}
use Rattle.model.specs.WellFormed.{WellFormed}
use Rattle.model.proofs.Accepted.{stage-here, stage-vars, stage_body_lem, stage-different}
use Rattle.model.proofs.Renaming.{elem-map, elem-of-map, vars-renamed, supported-renamed, holds-renamed}
use Rattle.facts_bits.specs.Width as width
use Rattle.facts_bits.specs.Bits.{bit_at, with_bit}
use Rattle.facts_bits.proofs.Laws.{with-bit, zero_bits}
use Rattle.facts_table.specs.Table.{table_of}
use Rattle.facts_candidates.specs.declared.Choice.{Choice}
use Rattle.facts_candidates.specs.Choices.{element_of}
use Rattle.std.specs.Prelude.{Option, Some, unwrap_or}
use Rattle.facts_find.specs.Bodies.{Fixed}
use Rattle.model.specs.Literals.{body_of}
use Rattle.model.proofs.Bodies.{own-body}
use Rattle.facts_holds.specs.Shows.{Evaluable}
use Rattle.facts_holds.proofs.Laws.{part-evaluable}
use Rattle.facts.specs.Facts.{Exact}
use Rattle.game_lists.specs.Lists.{OneVariable}
use Rattle.game_stage.specs.Meeting.{ShowsWith, MetAt}

-- ONE FIXED VARIABLE
pub fixed-one : (free fixed : Choice) (e : ℕ) → ((x : ℕ) → x < limit.variables → element_of fixed x ≡ cond (eqb x 0) (Some e) (element_of free x)) → (σ : ℕ → ℕ) → Fixed 1 fixed σ ↔ (σ 0 ≡ e)
fixed-one free fixed e c σ =
    let here : element_of fixed 0 ≡ Some e = c 0 (omega arith) in (
      (λ h. h 0 (omega arith) e here),
      λ q x h i n. let z : x ≡ 0 = omega (arith, h) in ap σ z ∙ q ∙ ap (λ (o : Option ℕ). unwrap_or o 0) (sym here ∙ ap (element_of fixed) (sym z) ∙ n),
    )

-- a body is safe if it is with other names
local-supported : (f : ℕ → ℕ) (b : Body) → Injective f (vars b) → Supported (vars (renamed f b)) (renamed f b) → Supported (vars b) b
local-supported f b inj h x e =
    let q = rw (supported-renamed f b) at (h (f x) (rw (vars-renamed f b) (elem-map f x (vars b) e))) in
    let y = elem-of-map f (f x) (supported b) q in
    subst (λ (z : ℕ). elem z (supported b) ≡ true) (sym (inj x y.0 e (supported-vars y.0 b y.1) y.2)) y.1

-- THE STAGE of a well-formed model
module _ (m : Model) (wf : WellFormed m) (one : OneVariable m) where
  abbrev g : Stage
  g = stage_at m 0

  abbrev b : Body
  b = stage_body m.literals g

  abbrev f : ℕ → ℕ
  f = number_in g

  here : 0 < m.stagecount
  here = omega (arith, one.0)

  -- its body by itself
  abbrev pub codes : List ℕ
  codes = take g.count (drop g.first m.literals)

  pub codes-say : body_of codes (length codes) ≡ b
  codes-say = own-body (drop g.first m.literals) g.count (stage_body_lem m wf 0 here).within

  pub evaluable : Evaluable codes 1
  evaluable = subst (Evaluable codes) one.1 (part-evaluable (drop g.first m.literals) g.count g.variables (stage_body_lem m wf 0 here)
      (local-supported f b (stage-different m wf 0 here) (rw (stage-here m wf 0 here) at (wf.safely 0))))

  -- its one variable
  only : (x : ℕ) → elem x (vars b) ≡ true → x ≡ 0
  only x e = omega (arith, (stage-vars m wf 0 here x).0 e, one.1)

  -- what shows over the states with slot e is met with it
  pub shows-met : (S : Database) (w : List ℕ) → Exact m S w → (e : ℕ) → ShowsWith S w b e ↔ MetAt (program_of m) S (stage_of m.literals g) (f 0) e
  shows-met S w exact e = (
    λ h. (
      (λ y. e),
      refl,
      (holds-renamed f S (Derived (program_of m) S) (λ y. e) b).1
          (holds_agree S (Derived (program_of m) S) h.0 (λ y. e) b (λ x i. ap h.0 (only x i) ∙ h.1) (more-facts S (In (table_of w)) (Derived (program_of m) S) (λ r os q. (exact.facts r os).0 q) h.0 b h.2)),
    ),
    λ h. ((λ x. h.0 (f x)), h.1, more-facts S (Derived (program_of m) S) (In (table_of w)) (λ r os q. (exact.facts r os).1 q) (λ x. h.0 (f x)) b ((holds-renamed f S (Derived (program_of m) S) h.0 b).0 h.2)),
  )

  -- the question's number of it
  pub own-variable : elem (f 0) (vars (stage_of m.literals g)) ≡ true
  own-variable = rw (vars-renamed f b) (elem-map f 0 (vars b) ((stage-vars m wf 0 here 0).1 (omega (arith, one.1))))

  -- the slot is one of the states
  pub met-below : (S : Database) (e : ℕ) → MetAt (program_of m) S (stage_of m.literals g) (f 0) e → e < length S
  met-below S e h = subst (λ (y : ℕ). y < length S) h.1 (h.2.0 (f 0) own-variable)

-- THE ROW slot by slot: it has those of D below e
module _ (D : ℕ → Type 0) where
  abbrev pub Below : ℕ → List ℕ → Type 0
  Below e r = (t : ℕ) → t < limit.listed → (bit_at r t ≡ true) ↔ ((t < e) × D t)

  pub row-none : Below 0 (replicate width.bytes 0)
  row-none t l = ((λ q. clash q (zero_bits t (omega (arith, l)))), λ q. absurd (omega (arith, q.0)))

  module _ (e : ℕ) (r : List ℕ) (h : Below e r) where
    pub row_more : D e → e / 8 < length r → Below (e + 1) (with_bit r e)
    row_more d room t l = (
      λ q. ⊎_elim
          (λ x. let z = eqb-true t e x in (omega (arith, z), subst D (sym z) d))
          (λ x. let y = (h t l).0 x in (omega (arith, y.0), y.1))
          (or_cases (eqb t e) (bit_at r t) (sym (with-bit r e t room) ∙ q)),
      λ q. with-bit r e t room ∙ ⊎_elim (λ (z : t ≡ e). rw (eq-eqb t e z) refl) (λ (z : t ≢ e). or_right (eqb t e) (bit_at r t) ((h t l).1 (omega (arith, q.0, z), q.1))) (same? t e),
    )

    pub row-skip : (D e → ⊥) → Below (e + 1) r
    row-skip n t l = (
      λ q. let y = (h t l).0 q in (omega (arith, y.0), y.1),
      λ q. ⊎_elim (λ (z : t ≡ e). absurd (n (subst D z q.1))) (λ (z : t ≢ e). (h t l).1 (omega (arith, q.0, z), q.1)) (same? t e),
    )

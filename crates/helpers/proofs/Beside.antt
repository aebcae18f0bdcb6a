-- BESIDE THE HELPERS an object is led as over a row S of the non-empty reachable states: the empty ones help nobody.
use mathlib.Core.Path.{◌≡◌, refl, sym, ap, ◌∙◌, subst}
use mathlib.Core.Logic.{◌⊎◌, inl, inr, ⊎_elim, ◌↔◌, ◌≢◌}
use mathlib.Core.Bool.{Bool, true, false, false≢true}
use mathlib.Core.List.{List, [], ◌∷◌}
use Prim.Native.Nat.{ℕ, ◌<◌}
use native.Mathlib.Omega.{arith}
use borrow.Author.Tests.{eqb-true}
use lib.Dec.{eqb}
use lib.ListN.{length, set, length-append, get_or-append}
use lib.Seq.{get_or-append_seam}
use Rattle.std.proofs.lemmas.Bool.{or_cases}
use Rattle.semantics.specs.Labels.{relabel}
use Rattle.semantics.specs.Models.{elem, Body, Line, rule, new, next, other, Program, line, SafeLine, Safe, Distinct}
use Rattle.semantics.specs.Facts.{Database, state, Meets}
use Rattle.semantics.specs.Steps.{Enabled, execute, Steps, Reachable}
use Rattle.semantics.specs.Tables.{Within, seat}
use Rattle.semantics.specs.Building.{with}
use Rattle.semantics.specs.Walkers.{Whole, Takes, Way, Copy}
use Rattle.semantics.proofs.Tools.{same?, or_right, elem-here, seat-ok}
use Rattle.semantics.proofs.Similar.{Covered, live_below}
use Rattle.semantics.proofs.WalkersMoves.{elem-state, enabled-takes, takes-enabled, walk}
use Rattle.semantics.proofs.WalkersSlots.{takes-within}
use Rattle.helpers.specs.Helpers.{Helpers, beside, Leads}

-- SOME HELPERS: the non-empty reachable states, and the empty one before them if it is reachable
pub some-helpers : (P : Program) (S : Database) (b : Bool) → Distinct S → elem 0 S ≡ false → ((t : ℕ) → Reachable P t ↔ (((t ≡ 0) × (b ≡ true)) ⊎ (elem t S ≡ true))) → (H : Database) × Helpers P H
some-helpers P S false one full known = (S, record { one = one; each = λ t. (λ r. ⊎_elim (λ q. absurd (false≢true q.1)) (λ q. q) ((known t).0 r), λ e. (known t).1 (inr e)) })
some-helpers P S true one full known = (
  0 ∷ S,
  record {
    one = (full, one);
    each = λ t. (
      λ r. ⊎_elim (λ (q : (t ≡ 0) × (true ≡ true)). rw q.0 (elem-here 0 S)) (λ (q : elem t S ≡ true). or_right (eqb t 0) (elem t S) q) ((known t).0 r),
      λ e. (known t).1 (⊎_elim (λ q. inl (eqb-true t 0 q, refl)) (λ q. inr q) (or_cases (eqb t 0) (elem t S) e)),
    );
  },
)

set-behind : (H : Database) (s t : ℕ) → set (beside H s) (length H) t ≡ beside H t
set-behind [] s t = refl
set-behind (u ∷ H) s t = ap {B = List ℕ} (λ (r : List ℕ). u ∷ r) (set-behind H s t)

last-state : (H : Database) (s : ℕ) → state (beside H s) (length H) ≡ s
last-state H s = get_or-append_seam H s [] 0

same_end : (H : Database) (s t : ℕ) → beside H s ≡ beside H t → s ≡ t
same_end H s t e = sym (last-state H s) ∙ ap (λ (d : Database). state d (length H)) e ∙ last-state H t

-- S IS A ROW of reachable states that has all but the empty one
module _ (P : Program) (safe : Safe P) (S : Database) (listed : (t : ℕ) → elem t S ≡ true → Reachable P t) (reached : (t : ℕ) → Reachable P t → Within S t) (H : Database) (helpers : Helpers P H) where
  -- the helper of a slot's state
  abbrev place : ℕ → ℕ
  place i = seat (state S i) H

  placed : (i : ℕ) → i < length S → (place i < length H) × (state H (place i) ≡ state S i)
  placed i l = seat-ok (state S i) H ((helpers.each (state S i)).0 (listed (state S i) (elem-state S i l)))

  copied : (s : ℕ) → Copy S (beside H s) place
  copied s i l = let r = placed i l in (rw length-append (omega (arith, r.0)), sym (get_or-append H (s ∷ []) 0 (place i) r.0 ∙ r.1))

  object : (s : ℕ) → length H < length (beside H s)
  object s = rw length-append (omega arith)

  covered : (s : ℕ) → Within S s → Covered S (beside H s)
  covered s w o v = ⊎_elim
      (λ (e : o ≡ length H). let q : state (beside H s) o ≡ s = rw e (last-state H s) in rw q (⊎_elim (λ z. absurd (v (q ∙ z))) (λ z. z) w))
      (λ (e : o ≢ length H).
      let l : o < length H = omega (arith, e, live_below (beside H s) o v, length-append H (s ∷ [])) in
      let q : state (beside H s) o ≡ state H o = get_or-append H (s ∷ []) 0 o l in
      rw q (⊎_elim (λ z. absurd (v (q ∙ z))) (λ z. z) (reached (state H o) ((helpers.each (state H o)).1 (elem-state H o l)))))
      (same? o (length H))

  -- A WAY over S leads the object beside the helpers
  pub way-leads : (s t : ℕ) (ls : List ℕ) → Way P S s ls t → Leads P H s ls t
  way-leads s t ls h = subst (λ (d : Database). Steps P (beside H s) (with (length H) ls) d) (set-behind H s t)
      (walk P safe S place ls (beside H s) (copied s) (length H) s t (object s) (λ i l e. omega (arith, e, (placed i l).0)) (last-state H s) h)

  -- a line that is allowed for the object moves its state
  moved : (s : ℕ) → Within S s → (L : Line) → SafeLine L → Enabled P (beside H s) (length H) L → (u : ℕ) × Takes P S s u L × (execute (beside H s) (length H) L ≡ beside H u)
  moved s w (rule r xs b) k a = absurd a
  moved s w (new v b) k a = absurd (omega (arith, a.0, length-append H (s ∷ [])))
  moved s w (next x plus minus b) k a = (
    relabel s plus minus,
    subst (λ (z : ℕ). Takes P S z (relabel z plus minus) (next x plus minus b)) (last-state H s) (enabled-takes P safe S (beside H s) (covered s w) (length H) x plus minus b k a),
    ap (λ (z : ℕ). set (beside H s) (length H) (relabel z plus minus)) (last-state H s) ∙ set-behind H s (relabel s plus minus),
  )
  moved s w other k a = absurd a

  -- A MOVE of the object is one over S
  pub moves-takes : (s : ℕ) → Within S s → (ℓ t : ℕ) → (Enabled P (beside H s) (length H) (line P ℓ) × (execute (beside H s) (length H) (line P ℓ) ≡ beside H t)) ↔ Takes P S s t (line P ℓ)
  moves-takes s w ℓ t = (
    λ m. let k = moved s w (line P ℓ) (safe ℓ) m.0 in subst (λ (u : ℕ). Takes P S s u (line P ℓ)) (same_end H k.0 t (sym k.2 ∙ m.1)) k.1,
    λ a. let r = takes-enabled P safe S place (beside H s) (copied s) (length H) s t (line P ℓ) (object s) (last-state H s) a in (r.0, r.1 ∙ set-behind H s t),
  )

  -- A STAGE with the object for x is met as over S with a slot of its state
  pub asked-own : (b : Body) (x : ℕ) → SafeLine (next x 0 0 b) → (s : ℕ) → Within S s → ((σ : ℕ → ℕ) × (σ x ≡ length H) × Meets P (beside H s) σ b) ↔ ((σ : ℕ → ℕ) × (state S (σ x) ≡ s) × Meets P S σ b)
  asked-own b x k s w = (
    λ q. let r = enabled-takes P safe S (beside H s) (covered s w) (length H) x 0 0 b k (object s, q) in (r.1.0, r.1.1 ∙ last-state H s, r.1.2),
    λ q. (takes-enabled P safe S place (beside H s) (copied s) (length H) s (relabel s 0 0) (next x 0 0 b) (object s) (last-state H s) (refl, q)).0.1,
  )

  -- NO OTHER WAY leads the object
  pub leads-way : Whole P S → (s t : ℕ) (ls : List ℕ) → Within S s → Leads P H s ls t → Way P S s ls t
  leads-way whole s t [] w h = same_end H s t h
  leads-way whole s t (ℓ ∷ ls) w h =
      let k = moved s w (line P ℓ) (safe ℓ) h.0 in
      (k.0, k.1, leads-way whole k.0 t ls (takes-within P safe S whole s k.0 ℓ k.1) (subst (λ (d : Database). Steps P d (with (length H) ls) (beside H t)) k.2 h.1))

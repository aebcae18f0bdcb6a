-- THE CARRIED OBJECTS in their cells: which of them stands for which variable, and what a meeting leaves in them.
use mathlib.Core.Path.{◌≡◌, refl, sym, ap, ap₂, ◌∙◌, subst}
use mathlib.Core.Logic.{◌⊎◌, inl, inr, ⊎_elim, ◌≢◌}
use Rattle.std.specs.Prelude.{Option, Some, None}
use mathlib.Core.Bool.{Bool, true, false, cond, ◌&&◌}
use mathlib.Core.List.{List, [], ◌∷◌}
use mathlib.Core.Option.{none, some, some-injective}
use Prim.Native.Nat.{ℕ, zero, suc, ◌≤◌, ◌<◌}
use native.Mathlib.Omega.{arith}
use native.Mathlib.Nat.{suc_inj}
use borrow.Author.Tests.{eqb-true, eq-eqb, ne_eqb}
use lib.Dec.{eqb}
use lib.ListN.{length, get_or, replicate}
use Rattle.std.proofs.lemmas.Bool.{cases_Bool}
use Rattle.limits.specs.Limits as limit
use Rattle.semantics.specs.Models.{elem, Body, Question, vars, shared, carriers}
use Rattle.semantics.specs.Runs.{named}
use Rattle.semantics.proofs.Tools.{no_none}
use Rattle.semantics.proofs.Carriers.{carriers-elem, carriers-shared}
use Rattle.model.specs.declared.Model.{Model}
use Rattle.model.specs.Records.{question_of, padded, carried_at}
use Rattle.model.specs.WellFormed.{WellFormed}
use Rattle.model.proofs.Carried.{stands-below, carried-own, carried-differ}
use Rattle.replay_session.specs.declared.Session.{Session}
use Rattle.replay_session.specs.Sessions.{optional, carried_for, carried_in, carried_by}
use Rattle.replay_session.specs.Records.{session_of}

-- an object that is there
optional-some : (o : Option ℕ) (d : ℕ) → optional o ≡ some d → o ≡ Some d
optional-some None d e = no_none e
optional-some (Some o) d e = ap Some (some-injective o d e)

-- no variable stands in a cell behind the last
empty-cell : (n v : ℕ) → get_or (padded n []) v limit.none ≡ limit.none
empty-cell zero v = refl
empty-cell (suc n) zero = refl
empty-cell (suc n) (suc v) = empty-cell n v

-- nobody stands for a variable where nobody is carried
pub nobody-carried : (cs : List ℕ) (n x : ℕ) → carried_for cs (replicate n None) x ≡ none
nobody-carried [] n x = refl
nobody-carried (c ∷ cs) zero x = refl
nobody-carried (c ∷ cs) (suc n) x = ⊎_elim (λ (q : eqb x c ≡ true). rw q) (λ (q : eqb x c ≡ false). rw q (nobody-carried cs n x)) (cases_Bool (eqb x c))

-- WHO STANDS FOR A VARIABLE is in its cell
for-cell : (n : ℕ) (cs : List ℕ) (held : List (Option ℕ)) (x d : ℕ) → length cs ≤ n → carried_for cs held x ≡ some d → (v : ℕ) × (v < n) × (get_or (padded n cs) v limit.none ≡ x) × (get_or held v None ≡ Some d)
for-cell n [] held x d l e = no_none e
for-cell n (c ∷ cs) [] x d l e = no_none e
for-cell zero (c ∷ cs) (h ∷ hs) x d l e = absurd (omega arith)
for-cell (suc n) (c ∷ cs) (h ∷ hs) x d l e = ⊎_elim
    (λ (q : eqb x c ≡ true). (0, omega arith, sym (eqb-true x c q), optional-some h d (rw q at e)))
    (λ (q : eqb x c ≡ false). let r = for-cell n cs hs x d (omega arith) (rw q at e) in (suc r.0, omega (arith, r.1), r.2, r.3))
    (cases_Bool (eqb x c))

-- and what is in the only cell of a variable stands for it
cell-for : (n : ℕ) (cs : List ℕ) (held : List (Option ℕ)) (x v d : ℕ) → length cs ≤ length held → get_or (padded n cs) v limit.none ≡ x → x ≢ limit.none → ((w : ℕ) → get_or (padded n cs) w limit.none ≡ x → w ≡ v) → get_or held v None ≡ Some d
    → carried_for cs held x ≡ some d
cell-for zero cs held x v d l e there only given = absurd (there (sym e))
cell-for (suc n) [] held x v d l e there only given = absurd (there (sym e ∙ empty-cell (suc n) v))
cell-for (suc n) (c ∷ cs) [] x v d l e there only given = absurd (omega arith)
cell-for (suc n) (c ∷ cs) (h ∷ hs) x zero d l e there only given = rw (eq-eqb x c (sym e)) (ap optional given)
cell-for (suc n) (c ∷ cs) (h ∷ hs) x (suc v) d l e there only given =
    rw (ne_eqb x c (λ q. absurd (let z = only 0 (sym q) in omega arith))) (cell-for n cs hs x v d (omega arith) e there (λ w q. suc_inj (only (suc w) q)) given)

-- A MEETING leaves as many cells
pub cells_stay : (cs : List ℕ) (b : Body) (os : List ℕ) (held : List (Option ℕ)) → length (carried_by cs b os held) ≡ length held
cells_stay [] b os held = refl
cells_stay (c ∷ cs) b os [] = refl
cells_stay (c ∷ cs) b os (h ∷ hs) = ap suc (cells_stay cs b os hs)

-- each with what was in it or with an object that is named
pub cell-after : (cs : List ℕ) (b : Body) (os : List ℕ) (held : List (Option ℕ)) (v : ℕ) → (get_or (carried_by cs b os held) v None ≡ get_or held v None) ⊎ ((c : ℕ) × (elem c (vars b) ≡ true) × (get_or (carried_by cs b os held) v None ≡ Some (named b os c)))
cell-after [] b os held v = inl refl
cell-after (c ∷ cs) b os [] v = inl refl
cell-after (c ∷ cs) b os (h ∷ hs) zero = ⊎_elim (λ (q : elem c (vars b) ≡ true). inr (c, q, rw q)) (λ (q : elem c (vars b) ≡ false). inl (rw q)) (cases_Bool (elem c (vars b)))
cell-after (c ∷ cs) b os (h ∷ hs) (suc v) = cell-after cs b os hs v

-- and so stands for each variable who stood for it or is named for it
for_after : (cs : List ℕ) (b : Body) (os : List ℕ) (held : List (Option ℕ)) (x : ℕ) → length cs ≤ length held
    → carried_for cs (carried_by cs b os held) x ≡ cond (elem x cs && elem x (vars b)) (some (named b os x)) (carried_for cs held x)
for_after [] b os held x l = refl
for_after (c ∷ cs) b os [] x l = absurd (omega arith)
for_after (c ∷ cs) b os (h ∷ hs) x l = ⊎_elim own (λ (q : eqb x c ≡ false). rw q (for_after cs b os hs x (omega arith))) (cases_Bool (eqb x c))
  where
    Same : ℕ → Type 0
    Same y = optional (cond (elem c (vars b)) (Some (named b os c)) h) ≡ cond (elem y (vars b)) (some (named b os y)) (optional h)

    at : Same c
    at = ⊎_elim (λ (q : elem c (vars b) ≡ true). rw q) (λ (q : elem c (vars b) ≡ false). rw q) (cases_Bool (elem c (vars b)))

    own : eqb x c ≡ true → carried_for (c ∷ cs) (carried_by (c ∷ cs) b os (h ∷ hs)) x ≡ cond (elem x (c ∷ cs) && elem x (vars b)) (some (named b os x)) (carried_for (c ∷ cs) (h ∷ hs) x)
    own q = rw q (subst Same (sym (eqb-true x c q)) at)

-- the cells with what is left in each of them
by-cells : (n : ℕ) (cs : List ℕ) (b : Body) (os : List ℕ) (held left : List (Option ℕ)) → length cs ≤ n → length held ≡ n → length left ≡ n → elem limit.none (vars b) ≡ false
    → ((v : ℕ) → v < n → get_or left v None ≡ cond (elem (get_or (padded n cs) v limit.none) (vars b)) (Some (named b os (get_or (padded n cs) v limit.none))) (get_or held v None)) → left ≡ carried_by cs b os held
by-cells zero [] b os [] [] l e f absent each = refl
by-cells zero [] b os [] (k ∷ ks) l e f absent each = absurd (omega arith)
by-cells zero [] b os (h ∷ hs) left l e f absent each = absurd (omega arith)
by-cells zero (c ∷ cs) b os held left l e f absent each = absurd (omega arith)
by-cells (suc n) cs b os [] left l e f absent each = absurd (omega arith)
by-cells (suc n) cs b os (h ∷ hs) [] l e f absent each = absurd (omega arith)
by-cells (suc n) [] b os (h ∷ hs) (k ∷ ks) l e f absent each =
    ap₂ {C = List (Option ℕ)} (λ (x : Option ℕ) (xs : List (Option ℕ)). x ∷ xs) (each 0 (omega arith) ∙ rw absent) (by-cells n [] b os hs ks (omega arith) (omega arith) (omega arith) absent (λ v k. each (suc v) (omega arith)))
by-cells (suc n) (c ∷ cs) b os (h ∷ hs) (k ∷ ks) l e f absent each =
    ap₂ {C = List (Option ℕ)} (λ (x : Option ℕ) (xs : List (Option ℕ)). x ∷ xs) (each 0 (omega arith)) (by-cells n cs b os hs ks (omega arith) (omega arith) (omega arith) absent (λ v k. each (suc v) (omega arith)))

-- a variable is carried exactly if it is one of the carried variables
carrier : (Q : Question) (x : ℕ) → elem x (carriers Q) ≡ shared Q x
carrier Q x = ⊎_elim
    (λ (q : shared Q x ≡ true). carriers-elem Q x q ∙ sym q)
    (λ (q : shared Q x ≡ false). ⊎_elim (λ r. r ∙ sym (carriers-shared Q x r)) (λ r. r ∙ sym q) (cases_Bool (elem x (carriers Q))))
    (cases_Bool (shared Q x))

-- OVER THE RECORD of a text
module _ (m : Model) (w : WellFormed m) where
  cell : (v : ℕ) → carried_at m v ≡ get_or (padded limit.carried (carriers (question_of m))) v limit.none
  cell v = ap (λ (l : List ℕ). get_or l v limit.none) w.carried

  -- 255 is no variable of a stage
  none-absent : (i : ℕ) → elem limit.none (vars (get_or (question_of m) i [])) ≡ false
  none-absent i = ⊎_elim (λ q. absurd (let l = stands-below m w i limit.none q in omega arith)) (λ q. q) (cases_Bool (elem limit.none (vars (get_or (question_of m) i []))))

  module _ (s : Session) (cells : length s.carried ≡ limit.carried) where
    pub stands-cell : (x d : ℕ) → (session_of m s).carried x ≡ some d → (v : ℕ) × (v < limit.carried) × (carried_at m v ≡ x) × (carried_in s v ≡ Some d)
    stands-cell x d e = let r = for-cell limit.carried (carriers (question_of m)) s.carried x d w.carries e in (r.0, r.1, cell r.0 ∙ r.2, r.3)

    pub cell-stands : (v i d : ℕ) → v < limit.carried → elem (carried_at m v) (vars (get_or (question_of m) i [])) ≡ true → carried_in s v ≡ Some d → (session_of m s).carried (carried_at m v) ≡ some d
    cell-stands v i d l e = cell-for limit.carried (carriers (question_of m)) s.carried (carried_at m v) v d (omega (arith, w.carries)) (sym (cell v))
        (λ q. absurd (let k = stands-below m w i (carried_at m v) e in omega arith))
        (λ u q. sym (carried-differ m w v u l (carried-own m w v i e) (sym (cell u ∙ q))))

    -- the objects that are carried after the meeting of stage i, where each cell has its own
    pub carried-left : (i : ℕ) (os : List ℕ) (left : List (Option ℕ)) → length left ≡ limit.carried
        → ((v : ℕ) → v < limit.carried → get_or left v None ≡ cond (elem (carried_at m v) (vars (get_or (question_of m) i []))) (Some (named (get_or (question_of m) i []) os (carried_at m v))) (carried_in s v))
        → left ≡ carried_by (carriers (question_of m)) (get_or (question_of m) i []) os s.carried
    carried-left i os left long each = by-cells limit.carried (carriers (question_of m)) (get_or (question_of m) i []) os s.carried left w.carries cells long (none-absent i)
        (λ v l. each v l ∙ ap (λ (c : ℕ). cond (elem c (vars (get_or (question_of m) i []))) (Some (named (get_or (question_of m) i []) os c)) (carried_in s v)) (cell v))

    -- who stands for a variable after the meeting
    pub carried-after : (i : ℕ) (os : List ℕ) (x : ℕ) → carried_for (carriers (question_of m)) (carried_by (carriers (question_of m)) (get_or (question_of m) i []) os s.carried) x
        ≡ cond (shared (question_of m) x && elem x (vars (get_or (question_of m) i []))) (some (named (get_or (question_of m) i []) os x)) ((session_of m s).carried x)
    carried-after i os x = for_after (carriers (question_of m)) (get_or (question_of m) i []) os s.carried x (omega (arith, w.carries))
        ∙ ap (λ (b : Bool). cond (b && elem x (vars (get_or (question_of m) i []))) (some (named (get_or (question_of m) i []) os x)) ((session_of m s).carried x)) (carrier (question_of m) x)

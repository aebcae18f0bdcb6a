-- STRIKING LINES: what a struck line changes, and what it does not.
use mathlib.Core.Path.{◌≡◌, refl, sym, ap, ◌∙◌, subst}
use mathlib.Core.Logic.{◌⊎◌, inl, inr, ⊎_elim, ◌↔◌}
use mathlib.Core.Bool.{true, false, not, ◌||◌, false≢true}
use mathlib.Core.List.{List, [], ◌∷◌}
use Prim.Native.Nat.{ℕ, ◌≤◌}
use native.Mathlib.Omega.{arith}
use lib.Dec.{eqb, ltb}
use lib.ListN.{length}
use borrow.Author.Tests.{eqb-true, eqb-false, ltb-false, not-false, le-ltb, ne_eqb}
use Rattle.std.proofs.lemmas.Bool.{cases_Bool}
use Rattle.semantics.specs.Models.{elem, Body, Line, rule, new, next, other, Program, line, Question, Distinct, Safe}
use Rattle.semantics.specs.Facts.{Database, Obeys, In, Derived, Meets}
use Rattle.semantics.specs.Steps.{Enabled, execute, Pair, Steps, Reachable}
use Rattle.semantics.specs.Questions.{Answers, Reached}
use Rattle.striking.specs.Striking.{strike, strikable, AllStrikable, twice, strange, most, faulty, Among}
use Rattle.semantics.proofs.Tools.{clash, or-false, each-head, each_tail, each-cons}
use Rattle.semantics.proofs.Bodies.{more-facts}

-- WHAT STANDS ON A LINE
pub strike-struck : (P : Program) (L : List ℕ) (ℓ : ℕ) → elem ℓ L ≡ true → line (strike P L) ℓ ≡ other
strike-struck [] L ℓ e = refl
strike-struck (c ∷ P) L ℓ e = ⊎_elim
    (λ (q : elem c.0 L ≡ true). rw q (strike-struck P L ℓ e))
    (λ (q : elem c.0 L ≡ false). rw q (⊎_elim
    (λ (t : eqb ℓ c.0 ≡ true). clash (subst (λ (z : ℕ). elem z L ≡ true) (eqb-true ℓ c.0 t) e) q)
    (λ (t : eqb ℓ c.0 ≡ false). rw t (strike-struck P L ℓ e)) (cases_Bool (eqb ℓ c.0))))
    (cases_Bool (elem c.0 L))

pub strike-kept : (P : Program) (L : List ℕ) (ℓ : ℕ) → elem ℓ L ≡ false → line (strike P L) ℓ ≡ line P ℓ
strike-kept [] L ℓ e = refl
strike-kept (c ∷ P) L ℓ e = ⊎_elim
    (λ (t : eqb ℓ c.0 ≡ true). rw (subst (λ (z : ℕ). elem z L ≡ false) (eqb-true ℓ c.0 t) e, t))
    (λ (t : eqb ℓ c.0 ≡ false). rw t (⊎_elim
    (λ (q : elem c.0 L ≡ true). rw q (strike-kept P L ℓ e))
    (λ (q : elem c.0 L ≡ false). rw (q, t) (strike-kept P L ℓ e)) (cases_Bool (elem c.0 L))))
    (cases_Bool (eqb ℓ c.0))

-- striking nothing is the program itself
pub strike-none : (P : Program) → strike P [] ≡ P
strike-none [] = refl
strike-none (c ∷ P) = ap {B = Program} (λ (R : Program). c ∷ R) (strike-none P)

-- order and repetition do not matter: it is the set of numbers that counts
same-elem : (L L' : List ℕ) → Among L L' → Among L' L → (x : ℕ) → elem x L ≡ elem x L'
same-elem L L' h k x = ⊎_elim
    (λ (q : elem x L ≡ true). q ∙ sym (h x q))
    (λ (q : elem x L ≡ false). ⊎_elim (λ (t : elem x L' ≡ true). clash (k x t) q) (λ (t : elem x L' ≡ false). q ∙ sym t) (cases_Bool (elem x L')))
    (cases_Bool (elem x L))

pub strike-same : (P : Program) (L L' : List ℕ) → Among L L' → Among L' L → strike P L ≡ strike P L'
strike-same [] L L' h k = refl
strike-same (c ∷ P) L L' h k = rw (same-elem L L' h k c.0, strike-same P L L' h k)

-- a safe text stays safe
pub strike-safe : (P : Program) (L : List ℕ) → Safe P → Safe (strike P L)
strike-safe P L s ℓ = ⊎_elim (λ (q : elem ℓ L ≡ true). rw (strike-struck P L ℓ q) tt) (λ (q : elem ℓ L ≡ false). rw (strike-kept P L ℓ q) (s ℓ)) (cases_Bool (elem ℓ L))

-- FEWER LINES: each line of P is the line of that number of P', or none
abbrev pub Fewer : Program → Program → Type 0
Fewer P P' = (ℓ : ℕ) → (line P ℓ ≡ other) ⊎ (line P ℓ ≡ line P' ℓ)

pub strike-fewer : (P : Program) (L L' : List ℕ) → Among L L' → Fewer (strike P L') (strike P L)
strike-fewer P L L' h ℓ = ⊎_elim
    (λ (q : elem ℓ L' ≡ true). inl (strike-struck P L' ℓ q))
    (λ (q : elem ℓ L' ≡ false). inr (strike-kept P L' ℓ q ∙ sym (strike-kept P L ℓ (⊎_elim (λ (t : elem ℓ L ≡ true). clash (h ℓ t) q) (λ (t : elem ℓ L ≡ false). t) (cases_Bool (elem ℓ L))))))
    (cases_Bool (elem ℓ L'))

-- MORE LINES: every fact, every meeting and every step is there still
module _ (P P' : Program) (fewer : Fewer P P') where
  pub derived-more : (db : Database) (r : ℕ) (os : List ℕ) → Derived P db r os → Derived P' db r os
  derived-more db r os d T c = d T (λ ℓ. ⊎_elim (λ (e : line P ℓ ≡ other). rw e tt) (λ (e : line P ℓ ≡ line P' ℓ). rw e (c ℓ)) (fewer ℓ))

  pub meets-more : (db : Database) (σ : ℕ → ℕ) (b : Body) → Meets P db σ b → Meets P' db σ b
  meets-more db σ b m = more-facts db (Derived P db) (Derived P' db) (derived-more db) σ b m

  pub enabled-more : (db : Database) (o : ℕ) (L : Line) → Enabled P db o L → Enabled P' db o L
  enabled-more db o (rule r xs b) h = h
  enabled-more db o (new s b) h = (h.0, (h.1.0, meets-more db h.1.0 b h.1.1))
  enabled-more db o (next x plus minus b) h = (h.0, (h.1.0, h.1.1, meets-more db h.1.0 b h.1.2))
  enabled-more db o other h = h

  -- a line that is allowed stands in both
  pub allowed-line : (db : Database) (o ℓ : ℕ) → Enabled P db o (line P ℓ) → line P ℓ ≡ line P' ℓ
  allowed-line db o ℓ h = ⊎_elim (λ (e : line P ℓ ≡ other). absurd (subst (λ (M : Line). Enabled P db o M) e h)) (λ (e : line P ℓ ≡ line P' ℓ). e) (fewer ℓ)

  pub steps-more : (ts : List Pair) (db db' : Database) → Steps P db ts db' → Steps P' db ts db'
  steps-more [] db db' h = h
  steps-more (t ∷ ts) db db' h =
      let e = allowed-line db t.1 t.0 h.0 in
      (subst (λ (M : Line). Enabled P' db t.1 M) e (enabled-more db t.1 (line P t.0) h.0), subst (λ (M : Line). Steps P' (execute db t.1 M) ts db') e (steps-more ts (execute db t.1 (line P t.0)) db' h.1))

  pub answers-more : (σ : ℕ → ℕ) (Q : Question) (db : Database) → Answers P σ Q db → Answers P' σ Q db
  answers-more σ [] db h = tt
  answers-more σ (b ∷ Q) db h = (h.0, h.1, steps-more h.0 db h.1 h.2, meets-more h.1 σ b h.3, answers-more σ Q h.1 h.4)

  pub reached-more : (Q : Question) → Reached P Q → Reached P' Q
  reached-more Q h = (h.0, answers-more h.0 Q [] h.1)

  pub reachable-more : (s : ℕ) → Reachable P s → Reachable P' s
  reachable-more s h = (h.0, h.1, steps-more h.0 [] h.1 h.2, h.3)

-- "A REACHED CHOICE OF KEPT LINES IS STILL REACHED WITH ANY FURTHER LINE KEPT" (R-10): L' strikes all that L does
pub still-reached : (P : Program) (Q : Question) (L L' : List ℕ) → Among L L' → Reached (strike P L') Q → Reached (strike P L) Q
still-reached P Q L L' h = reached-more (strike P L') (strike P L) (strike-fewer P L L' h) Q

pub still-unreached : (P : Program) (Q : Question) (L L' : List ℕ) → Among L L' → (Reached (strike P L) Q → ⊥) → Reached (strike P L') Q → ⊥
still-unreached P Q L L' h n r = n (still-reached P Q L L' h r)

-- no choice has a state that the whole text has not
pub reachable-whole : (P : Program) (s : ℕ) (L : List ℕ) → Reachable (strike P L) s → Reachable P s
reachable-whole P s L r = subst (λ (R : Program). Reachable R s) (strike-none P) (reachable-more (strike P L) (strike P []) (strike-fewer P [] L (λ x e. absurd (false≢true e))) s r)

-- STRIKING NO RULE: the facts stay, in every database
module _ (P : Program) (L : List ℕ) (may : AllStrikable P L) where
  whole : Fewer (strike P L) P
  whole ℓ = ⊎_elim (λ (q : elem ℓ L ≡ true). inl (strike-struck P L ℓ q)) (λ (q : elem ℓ L ≡ false). inr (strike-kept P L ℓ q)) (cases_Bool (elem ℓ L))

  unruled : (db : Database) (F : ℕ → List ℕ → Type 0) (M : Line) → strikable M ≡ true → Obeys db F M
  unruled db F (rule r xs b) s = absurd (false≢true s)
  unruled db F (new t b) s = tt
  unruled db F (next x plus minus b) s = tt
  unruled db F other s = absurd (false≢true s)

  pub derived-stay : (db : Database) (r : ℕ) (os : List ℕ) → Derived (strike P L) db r os ↔ Derived P db r os
  derived-stay db r os = (
    derived-more (strike P L) P whole db r os,
    λ d T c. d T (λ ℓ. ⊎_elim (λ (q : elem ℓ L ≡ true). unruled db (In T) (line P ℓ) (may ℓ q)) (λ (q : elem ℓ L ≡ false). subst (λ (M : Line). Obeys db (In T) M) (strike-kept P L ℓ q) (c ℓ)) (cases_Bool (elem ℓ L))),
  )

  pub meets-stay : (db : Database) (σ : ℕ → ℕ) (b : Body) → Meets (strike P L) db σ b ↔ Meets P db σ b
  meets-stay db σ b = (
    meets-more (strike P L) P whole db σ b,
    more-facts db (Derived P db) (Derived (strike P L) db) (λ r os. (derived-stay db r os).1) σ b,
  )

  enabled-less : (db : Database) (o : ℕ) (M : Line) → Enabled P db o M → Enabled (strike P L) db o M
  enabled-less db o (rule r xs b) h = h
  enabled-less db o (new s b) h = (h.0, (h.1.0, (meets-stay db h.1.0 b).1 h.1.1))
  enabled-less db o (next x plus minus b) h = (h.0, (h.1.0, h.1.1, (meets-stay db h.1.0 b).1 h.1.2))
  enabled-less db o other h = h

  pub enabled-stay : (db : Database) (o : ℕ) (M : Line) → Enabled (strike P L) db o M ↔ Enabled P db o M
  enabled-stay db o M = (enabled-more (strike P L) P whole db o M, enabled-less db o M)

  -- a struck line is never allowed, and any other exactly as before
  pub struck-never : (db : Database) (o ℓ : ℕ) → elem ℓ L ≡ true → Enabled (strike P L) db o (line (strike P L) ℓ) → ⊥
  struck-never db o ℓ e h = subst (λ (M : Line). Enabled (strike P L) db o M) (strike-struck P L ℓ e) h

  pub kept-as-before : (db : Database) (o ℓ : ℕ) → elem ℓ L ≡ false → Enabled (strike P L) db o (line (strike P L) ℓ) ↔ Enabled P db o (line P ℓ)
  kept-as-before db o ℓ e = rw (strike-kept P L ℓ e) (enabled-stay db o (line P ℓ))

-- THE LIST: what it has where it is not faulty, and conversely
twice-distinct : (L : List ℕ) → twice L ≡ false → Distinct L
twice-distinct [] e = tt
twice-distinct (x ∷ L) e = let k = or-false (elem x L) (twice L) e in (k.0, twice-distinct L k.1)

distinct-once : (L : List ℕ) → Distinct L → twice L ≡ false
distinct-once [] d = refl
distinct-once (x ∷ L) d = rw d.0 (distinct-once L d.1)

strange-all : (P : Program) (L : List ℕ) → strange P L ≡ false → AllStrikable P L
strange-all P [] e = λ x u. absurd (false≢true u)
strange-all P (x ∷ L) e = let k = or-false (not (strikable (line P x))) (strange P L) e in each-cons (λ (ℓ : ℕ). strikable (line P ℓ) ≡ true) x L (not-false (strikable (line P x)) k.0) (strange-all P L k.1)

all_known : (P : Program) (L : List ℕ) → AllStrikable P L → strange P L ≡ false
all_known P [] h = refl
all_known P (x ∷ L) h = rw (each-head (λ (ℓ : ℕ). strikable (line P ℓ) ≡ true) x L h) (all_known P L (each_tail (λ (ℓ : ℕ). strikable (line P ℓ) ≡ true) x L h))

pub not-faulty : (P : Program) (L : List ℕ) → faulty P L ≡ false ↔ ((1 ≤ length L) × (length L ≤ most) × Distinct L × AllStrikable P L)
unfolding faulty
not-faulty P L = (
  (λ e. let a = or-false (eqb (length L) 0) (ltb most (length L) || (twice L || strange P L)) e in
      let b = or-false (ltb most (length L)) (twice L || strange P L) a.1 in
      let c = or-false (twice L) (strange P L) b.1 in
      (omega (arith, eqb-false (length L) 0 a.0), ltb-false most (length L) b.0, twice-distinct L c.0, strange-all P L c.1)),
  (λ h. rw (ne_eqb (length L) 0 (λ z. omega (arith, h.0)), le-ltb most (length L) h.1, distinct-once L h.2, all_known P L h.3)),
)

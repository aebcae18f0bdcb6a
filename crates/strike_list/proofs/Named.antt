-- HOW THE LIST IS JUDGED: by how many of its lines the program has.
use mathlib.Core.Path.{◌≡◌, refl, sym, ap, ◌∙◌, subst}
use mathlib.Core.Logic.{⊎_elim}
use mathlib.Core.Bool.{true, false, not, ◌&&◌, ◌||◌, and-eq-true_iff}
use mathlib.Core.List.{List, [], ◌∷◌, ◌++◌, map}
use Prim.Native.Nat.{ℕ, ◌≤◌, ◌<◌}
use native.Mathlib.Omega.{arith}
use lib.Dec.{eqb, ltb}
use lib.ListN.{length}
use borrow.Author.Tests.{eqb-true, eqb-false, lt-ltb}
use Rattle.std.proofs.lemmas.Bool.{cases_Bool}
use Rattle.semantics.specs.Models.{elem, Line, Program, line}
use Rattle.semantics.proofs.Tools.{or_right}
use Rattle.striking.specs.Striking.{strikable, AllStrikable, twice, strange, most, faulty, Among, Rising, rising}
use Rattle.striking.proofs.Striking.{not-faulty}
use Rattle.striking.proofs.Choices.{rising-elem, rising-rising, rising-length}
use Rattle.strike_list.specs.Lists.{named}
use Rattle.strike_list.proofs.Orders.{rising-one, all-distinct, all_among}

-- the lines of the clauses
abbrev pub numbers : Program → List ℕ
numbers P = map (λ (c : ℕ × Line). c.0) P

pub named-append : (P R : Program) (L : List ℕ) → named (P ++ R) L ≡ named P L ++ named R L
named-append [] R L = refl
named-append (c ∷ P) R L = ⊎_elim
    (λ (q : (strikable c.1 && elem c.0 L) ≡ true). rw q (ap {B = List ℕ} (λ (l : List ℕ). c.0 ∷ l) (named-append P R L)))
    (λ (q : (strikable c.1 && elem c.0 L) ≡ false). rw q (named-append P R L))
    (cases_Bool (strikable c.1 && elem c.0 L))

-- a line that no clause has is not named
named-known : (P : Program) (L : List ℕ) (x : ℕ) → elem x (named P L) ≡ true → elem x (numbers P) ≡ true
named-known [] L x e = e
named-known (c ∷ P) L x e = ⊎_elim
    (λ (t : eqb x c.0 ≡ true). rw t)
    (λ (t : eqb x c.0 ≡ false). or_right (eqb x c.0) (elem x (numbers P)) (named-known P L x (⊎_elim
    (λ (q : (strikable c.1 && elem c.0 L) ≡ true). rw t at (rw q at e))
    (λ (q : (strikable c.1 && elem c.0 L) ≡ false). rw q at e)
    (cases_Bool (strikable c.1 && elem c.0 L)))))
    (cases_Bool (eqb x c.0))

-- THE NAMED LINES rise, where the clauses' lines do,
pub named-rising : (P : Program) (L : List ℕ) → Rising (numbers P) → Rising (named P L)
named-rising [] L r = tt
named-rising (c ∷ P) L r = ⊎_elim
    (λ (q : (strikable c.1 && elem c.0 L) ≡ true). rw q ((λ y e. r.0 y (named-known P L y e)), named-rising P L r.1))
    (λ (q : (strikable c.1 && elem c.0 L) ≡ false). rw q (named-rising P L r.1))
    (cases_Bool (strikable c.1 && elem c.0 L))

-- and are the listed ones that may be struck
pub named-elem : (P : Program) (L : List ℕ) (x : ℕ) → Rising (numbers P) → elem x (named P L) ≡ (strikable (line P x) && elem x L)
named-elem [] L x r = refl
named-elem (c ∷ P) L x r = ⊎_elim
    (λ (t : eqb x c.0 ≡ true). let e = eqb-true x c.0 t in rw t (⊎_elim
    (λ (q : (strikable c.1 && elem c.0 L) ≡ true). rw q (rw t (sym (subst (λ (z : ℕ). (strikable c.1 && elem z L) ≡ true) (sym e) q))))
    (λ (q : (strikable c.1 && elem c.0 L) ≡ false). rw q (later e ∙ sym (subst (λ (z : ℕ). (strikable c.1 && elem z L) ≡ false) (sym e) q)))
    (cases_Bool (strikable c.1 && elem c.0 L))))
    (λ (t : eqb x c.0 ≡ false). rw t (⊎_elim
    (λ (q : (strikable c.1 && elem c.0 L) ≡ true). rw q (rw t (named-elem P L x r.1)))
    (λ (q : (strikable c.1 && elem c.0 L) ≡ false). rw q (named-elem P L x r.1))
    (cases_Bool (strikable c.1 && elem c.0 L))))
    (cases_Bool (eqb x c.0))
  where
    later : x ≡ c.0 → elem x (named P L) ≡ false
    later e = ⊎_elim (λ (u : elem x (named P L) ≡ true). absurd (omega (arith, e, r.0 x (named-known P L x u)))) (λ u. u) (cases_Bool (elem x (named P L)))

module _ (P : Program) (L : List ℕ) (r : Rising (numbers P)) where
  pub named-listed : Among (named P L) L
  named-listed x e = ((and-eq-true_iff (strikable (line P x)) (elem x L)).0 (sym (named-elem P L x r) ∙ e)).1

  all_named : AllStrikable P L → Among L (named P L)
  all_named h x e = named-elem P L x r ∙ rw (h x e, e)

  -- of a good list they are all lines, in rising order,
  pub named-is : faulty P L ≡ false → named P L ≡ rising L
  named-is f = let g = (not-faulty P L).0 f in rising-one (named P L) (rising L) (named-rising P L r) (rising-rising L)
      (λ x e. rising-elem x L ∙ named-listed x e) (λ x e. all_named g.3 x (sym (rising-elem x L) ∙ e))

  -- and a list of one to ten lines is good exactly if they are as many
  pub named-judges : 1 ≤ length L → length L ≤ most → faulty P L ≡ not (eqb (length (named P L)) (length L))
  named-judges one ten = ⊎_elim
      (λ (q : eqb (length (named P L)) (length L) ≡ true).
      let l : length L ≤ length (named P L) = omega (arith, eqb-true (length (named P L)) (length L) q) in
      rw q ((not-faulty P L).1 (one, ten, all-distinct (named P L) L (named-rising P L r) named-listed l, λ x e. ((and-eq-true_iff (strikable (line P x)) (elem x L)).0 (sym (named-elem P L x r) ∙ all_among (named P L) L (named-rising P L r) named-listed l x e)).0)))
      (λ (q : eqb (length (named P L)) (length L) ≡ false). rw q (⊎_elim (λ f. f)
      (λ (f : faulty P L ≡ false). absurd (eqb-false (length (named P L)) (length L) q (ap length (named-is f) ∙ rising-length L ((not-faulty P L).0 f).2)))
      (cases_Bool (faulty P L))))
      (cases_Bool (eqb (length (named P L)) (length L)))

-- a good list has at most ten lines
pub rising-few : (P : Program) (L : List ℕ) → faulty P L ≡ false → length (rising L) ≤ most
rising-few P L f = let g = (not-faulty P L).0 f in omega (arith, rising-length L g.2, g.1)

-- an empty list and one of more than ten lines are not good
pub faulty-empty : (P : Program) (L : List ℕ) → length L ≡ 0 → true ≡ faulty P L
unfolding faulty
faulty-empty P L e = rw e

pub faulty-long : (P : Program) (L : List ℕ) → most < length L → true ≡ faulty P L
unfolding faulty
faulty-long P L l = sym (or_right (eqb (length L) 0) (ltb most (length L) || (twice L || strange P L)) (rw (lt-ltb most (length L) l)))

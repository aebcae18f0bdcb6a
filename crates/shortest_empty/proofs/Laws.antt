-- Every way to the empty state leaves some slot by a line that empties, so the nearest such slot gives a shortest one.
use mathlib.Core.Path.{◌≡◌, refl, sym, ap, ◌∙◌, subst}
use mathlib.Core.Logic.{⊎_elim, ◌≢◌}
use mathlib.Core.Bool.{true}
use mathlib.Core.List.{List, [], ◌∷◌}
use Prim.Native.Nat.{ℕ, zero, suc, ◌+◌, ◌≤◌, ◌<◌}
use native.Mathlib.Omega.{arith}
use borrow.Author.Count.{below_more}
use lib.ListN.{length, take, drop, set}
use lib.Seq.{take-suc-set, drop-set-lt, drop-drop}
use Rattle.std.specs.Prelude.{Option, Some, None, MatchOption}
use Rattle.semantics.specs.Models.{elem, Program, line, Safe}
use Rattle.semantics.specs.Facts.{Database, state}
use Rattle.semantics.specs.Tables.{seat}
use Rattle.semantics.specs.Walkers.{Whole, Takes, Way, Comes}
use Rattle.semantics.proofs.Tools.{same?, seat-ok}
use Rattle.semantics.proofs.WalkersMoves.{elem-state, way-append}
use Rattle.semantics.proofs.WalkersSlots.{takes-within}
use Rattle.search_ways.specs.Shortest.{Shortest}
use Rattle.shortest_empty.specs.Emptying.{Empties, Approach, NearestTo, Nearest, Fewest}

pub take-most : (k : ℕ) (xs : List ℕ) → length (take k xs) ≤ k
take-most zero xs = omega arith
take-most (suc k) [] = omega arith
take-most (suc k) (x ∷ xs) = let r = take-most k xs in omega arith

module _ (P : Program) (S : Database) (e : ℕ) where
  -- no slot below u is so,
  abbrev NoneBelow : ℕ → Type 0
  NoneBelow u = (v : ℕ) → v < u → (ls : List ℕ) (ℓ : ℕ) → Way P S (state S e) ls (state S v) → Empties P S v ℓ → ⊥

  -- or slot `near` is, with k steps to it, and none below u is nearer
  pub record Best (u k near : ℕ) : Type 0 where
    pub here : near < length S
    pub empties : (ℓ : ℕ) × Empties P S near ℓ
    pub way : (ls : List ℕ) × Way P S (state S e) ls (state S near) × (length ls ≤ k)
    pub least : (v : ℕ) → v < u → (ls : List ℕ) (ℓ : ℕ) → Way P S (state S e) ls (state S v) → Empties P S v ℓ → k ≤ length ls

  -- THE NEAREST SLOT SO FAR; without one the number of steps is that of the slots
  abbrev pub SoFar : ℕ → ℕ → Option ℕ → Type 0
  SoFar u k near = MatchOption near ((k ≡ length S) × NoneBelow u) (Best u k)

  -- with slot u, to which there is no way, no nearer one, or a nearer one
  pub sofar-none : (u k : ℕ) (near : Option ℕ) → SoFar u k near → Approach P S e u None → SoFar (u + 1) k near
  sofar-none u k None (q, h) a = (q, below_more _ _ h (λ ls ℓ w x. a ls ℓ w x))
  sofar-none u k (Some v) b a = record { here = b.here; empties = b.empties; way = b.way; least = below_more _ _ b.least (λ ls ℓ w x. absurd (a ls ℓ w x)) }

  pub sofar-all : (k : ℕ) (near : Option ℕ) → SoFar (length S) k near → Nearest P S e near
  sofar-all k None b = λ v ls ℓ l w x. b.1 v l ls ℓ w x
  sofar-all k (Some u) b = record {
    here = b.here;
    empties = b.empties;
    comes = (b.way.0, b.way.1);
    least = λ v ls ℓ l w x. (b.way.0, b.way.1, omega (arith, b.way.2, b.least v l ls ℓ w x));
  }

module _ (P : Program) (safe : Safe P) (S : Database) (whole : Whole P S) where
  -- THE STEP THAT EMPTIES: a way to the empty state leads to some slot, from where a line empties the object
  last_step : (ls : List ℕ) (s : ℕ) → elem s S ≡ true → s ≢ 0 → Way P S s ls 0 → (v : ℕ) × (ms : List ℕ) × (ℓ : ℕ) × (v < length S) × Way P S s ms (state S v) × Empties P S v ℓ × (suc (length ms) ≤ length ls)
  last_step [] s e n w = absurd (n w)
  last_step (ℓ ∷ ls) s e n w = ⊎_elim
      (λ (z : w.0 ≡ 0). let k = seat-ok s S e in
      (seat s S, [], ℓ, k.0, sym k.1, subst (λ (x : ℕ). Takes P S x 0 (line P ℓ)) (sym k.1) (subst (λ (x : ℕ). Takes P S s x (line P ℓ)) z w.1), omega arith))
      (λ (z : w.0 ≢ 0).
      let r = last_step ls w.0 (⊎_elim (λ q. absurd (z q)) (λ q. q) (takes-within P safe S whole s w.0 ℓ w.1)) z w.2 in
      (r.0, ℓ ∷ r.1, r.2, r.3, (w.0, w.1, r.4), r.5, omega (arith, r.6)))
      (same? w.0 0)

  -- without such a slot there is no way
  pub no_way : (e : ℕ) → e < length S → state S e ≢ 0 → Nearest P S e None → Comes P S (state S e) 0 → ⊥
  no_way e l live none c = let r = last_step c.0 (state S e) (elem-state S e l) live c.1 in none r.0 r.1 r.2 r.3 r.4 r.5

  module _ (e u : ℕ) (l : e < length S) (live : state S e ≢ 0) (near : NearestTo P S e u) where
    leaving : (ls : List ℕ) → Way P S (state S e) ls 0 → (ms : List ℕ) × Way P S (state S e) ms (state S u) × (suc (length ms) ≤ length ls)
    leaving ls w =
        let r = last_step ls (state S e) (elem-state S e l) live w in
        let q = near.least r.0 r.1 r.2 r.3 r.4 r.5 in
        (q.0, q.1, omega (arith, r.6, q.2))

    -- the way to that slot and the line that empties are a shortest way
    pub one_more : (out out₁ : List ℕ) (k ℓ : ℕ) → k < length out₁ → Shortest P S e u out out₁ k → Empties P S u ℓ → Fewest P S (state S e) 0 out (set out₁ k ℓ) (suc k)
    one_more out out₁ k ℓ h w x =
        record {
          few = w.few;
          way = subst (λ (ls : List ℕ). Way P S (state S e) ls 0) (sym (take-suc-set out₁ k ℓ h)) (way-append P S (state S e) (state S u) 0 (take k out₁) (ℓ ∷ []) w.way (0, x, refl));
          least = λ ls q. let r = leaving ls q in omega (arith, r.2, w.least r.0 r.1);
          rest = drop-set-lt (suc k) out₁ k ℓ (omega arith) ∙ next out₁ ∙ ap (drop 1) w.rest ∙ sym (next out);
        }
      where
        next : (xs : List ℕ) → drop (suc k) xs ≡ drop 1 (drop k xs)
        next xs = let e : k + 1 ≡ suc k = omega arith in sym (drop-drop 1 k xs ∙ ap (λ (n : ℕ). drop n xs) e)

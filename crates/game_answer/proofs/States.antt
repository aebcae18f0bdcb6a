-- THE GAME OF THE STATES AND THE GAME OF THEIR SLOTS have the same numbers, round by round.
-- S is the row of found states, each at one place and none empty; the slot behind the last stands for the empty state.
use mathlib.Core.Path.{◌≡◌, refl, sym, ap, ◌∙◌, subst}
use mathlib.Core.Bool.{Bool, true, false}
use mathlib.Core.List.{List, [], ◌∷◌, map}
use mathlib.Core.Option.{Option}
use Prim.Native.Nat.{ℕ, zero, suc, ◌≤◌}
use native.Mathlib.Omega.{arith}
use lib.ListN.{length}
use Rattle.semantics.specs.Models.{elem, Distinct}
use Rattle.semantics.specs.Facts.{Database, state}
use Rattle.semantics.specs.Tables.{Within, seat}
use Rattle.facts_bits.specs.Bits.{bit_at}
use Rattle.games.specs.Game.{Side, attacker, guardian, Arena, or_stay, options, at}
use Rattle.games.specs.Rounds.{any, every, Ranks, is_some, ready, fill, table, Saturated}
use Rattle.games.proofs.InPlace.{any_same, every-same}
use Rattle.games.proofs.Sides.{elem-within}
use Rattle.games.proofs.Lists.{options-closed}
use Rattle.game_moves.proofs.Laws.{seat-most, state-seat, seat-state}
use Rattle.game_rounds.specs.Board.{slots, of, board, up_to, Fits}
use Rattle.game_rounds.proofs.Slots.{up-here, up-below}
use Rattle.game_rounds.proofs.Numbers.{closed}

any-map : (f : ℕ → Bool) (g : ℕ → ℕ) (xs : List ℕ) → any f (map g xs) ≡ any (λ x. f (g x)) xs
any-map f g [] = refl
any-map f g (x ∷ xs) = rw (any-map f g xs) refl

every_map : (f : ℕ → Bool) (g : ℕ → ℕ) (xs : List ℕ) → every f (map g xs) ≡ every (λ x. f (g x)) xs
every_map f g [] = refl
every_map f g (x ∷ xs) = rw (every_map f g xs) refl

stay-map : (g : ℕ → ℕ) (e : ℕ) (xs : List ℕ) → or_stay (g e) (map g xs) ≡ map g (or_stay e xs)
stay-map g e [] = refl
stay-map g e (x ∷ xs) = refl

-- the game of the states, by the matrices of the two sides' moves and the row of the slots that meet the question
abbrev pub arena : List ℕ → List ℕ → List ℕ → Database → Arena
arena A B M S = record { moves = λ a s. map (state S) (slots (of A B a) (seat s S) (suc (length S))); met = λ s. bit_at M (seat s S) }

module _ (A B M : List ℕ) (S : Database) (one : Distinct S) (full : elem 0 S ≡ false) (fits : Fits A B M (length S)) where
  abbrev G : Arena
  G = arena A B M S

  abbrev F : Arena
  F = board A B M (length S)

  place : (e : ℕ) → e ≤ length S → seat (state S e) S ≡ e
  place e l = seat-state S one full e l

  options-same : (a : Side) (e : ℕ) → e ≤ length S → options G a (state S e) ≡ map (state S) (options F a e)
  options-same a e l = ap (λ (d : ℕ). or_stay (state S e) (map (state S) (slots (of A B a) d (suc (length S))))) (place e l) ∙ stay-map (state S) e (slots (of A B a) e (suc (length S)))

  below : (a : Side) (e t : ℕ) → e ≤ length S → elem t (options F a e) ≡ true → t ≤ length S
  below a e t l i = omega (arith, up-below (suc (length S)) t (options-closed F (up_to (suc (length S))) (closed A B M (length S) fits) a e t (up-here (suc (length S)) e (omega (arith, l))) i))

  -- who can get a number, where the numbers are the same
  ready-same : (T R : Ranks) → ((a : Side) (e : ℕ) → e ≤ length S → T (at a (state S e)) ≡ R (at a e)) → (a : Side) (e : ℕ) → e ≤ length S → ready G T (at a (state S e)) ≡ ready F R (at a e)
  ready-same T R h attacker e l = ap (any (λ t. is_some (T (at guardian t)))) (options-same attacker e l) ∙ any-map (λ t. is_some (T (at guardian t))) (state S) (options F attacker e)
      ∙ any_same (λ t. is_some (T (at guardian (state S t)))) (λ t. is_some (R (at guardian t))) (options F attacker e) (λ t i. ap is_some (h guardian t (below attacker e t l i)))
  ready-same T R h guardian e l = ap (every (λ t. is_some (T (at attacker t)))) (options-same guardian e l) ∙ every_map (λ t. is_some (T (at attacker t))) (state S) (options F guardian e)
      ∙ every-same (λ t. is_some (T (at attacker (state S t)))) (λ t. is_some (R (at attacker t))) (options F guardian e) (λ t i. ap is_some (h attacker t (below guardian e t l i)))

  -- THE NUMBERS AFTER k ROUNDS
  pub table_same : (k : ℕ) (a : Side) (e : ℕ) → e ≤ length S → table G k (at a (state S e)) ≡ table F k (at a e)
  table_same zero a e l = rw (place e l) refl
  table_same (suc k) a e l = ap (λ (o : Option ℕ). fill o (ready G (table G k) (at a (state S e))) (suc k)) (table_same k a e l) ∙ ap (λ (b : Bool). fill (table F k (at a e)) b (suc k)) (ready-same (table G k) (table F k) (table_same k) a e l)

  -- of a state by itself
  pub table_at : (k : ℕ) (a : Side) (s : ℕ) → Within S s → table G k (at a s) ≡ table F k (at a (seat s S))
  table_at k a s w = subst (λ (t : ℕ). table G k (at a t) ≡ table F k (at a (seat s S))) (state-seat S s w) (table_same k a (seat s S) (seat-most s S))

  pub saturated-same : (k : ℕ) → Saturated F (up_to (suc (length S))) k → Saturated G (0 ∷ S) k
  saturated-same k h a s u q =
      let w = elem-within S s u in
      ap is_some (table_at k a s w) ∙ h a (seat s S) (up-here (suc (length S)) (seat s S) (let m = seat-most s S in omega (arith, m))) (ap is_some (sym (table_at (suc k) a s w)) ∙ q)

-- The numbers that the rounds give are those of the theory, and soon a round gives none.
use mathlib.Core.Path.{◌≡◌, refl, sym, ap, ◌∙◌, subst}
use mathlib.Core.Logic.{◌⊎◌, inl, inr, ⊎_elim, ◌≢◌}
use mathlib.Core.Bool.{Bool, true, false, cond}
use mathlib.Core.List.{List}
use mathlib.Core.Option.{Option, none, some}
use Prim.Native.Nat.{ℕ, suc, ◌+◌, ◌≤◌, ◌<◌}
use native.Mathlib.Omega.{arith}
use borrow.Author.Tests.{ltb-true, ltb-false}
use lib.Dec.{ltb}
use lib.ListN.{length}
use Rattle.std.proofs.lemmas.Bool.{cases_Bool}
use Rattle.std.specs.Prelude as prelude
use Rattle.limits.specs.Limits as limit
use Rattle.semantics.specs.Models.{elem}
use Rattle.semantics.proofs.Tools.{same?, clash}
use Rattle.facts_bits.specs.Bits.{bit_at, in_row}
use Rattle.games.specs.Game.{Side, attacker, guardian, Arena, options, at}
use Rattle.games.specs.Rounds.{Closed, Ranks, is_some, fill, table, Saturated, before, ready_before, Amid}
use Rattle.games.proofs.Lists.{options-closed}
use Rattle.games.proofs.Rounds.{saturated, saturated-later}
use Rattle.games.proofs.InPlace.{any_same, every-same, amid-fill}
use Rattle.games.proofs.Dead.{Dead, unmet-le, few-rounds}
use Rattle.game_rounds.specs.Board.{of, board, up_to, Inside, Fits, Number, number_at, rank_of, sooner, ready_by, given, Turned, Begun, Solves}
use Rattle.game_rounds.proofs.Slots.{slots_set, slots-none, up-here, up-below, length_up}

-- a number given is filled in
given-fill : (v : Number) (b : Bool) (r : ℕ) → rank_of (given v b r) ≡ fill (rank_of v) b r
given-fill (prelude.Some v) b r = refl
given-fill prelude.None true r = refl
given-fill prelude.None false r = refl

-- THE NUMBERS of the two sides us a table of ranks, and that they are those of k rounds
abbrev pub ranked : List Number → List Number → Ranks
ranked us vs (at attacker e) = rank_of (number_at us e)
ranked us vs (at guardian e) = rank_of (number_at vs e)

pub record Agree (G : Arena) (n k : ℕ) (us vs : List Number) : Type 0 where
  pub first : length us ≡ limit.listed
  pub second : length vs ≡ limit.listed
  pub same : (a : Side) (e : ℕ) → e ≤ n → ranked us vs (at a e) ≡ table G k (at a e)

module _ (A B M : List ℕ) (n : ℕ) (fits : Fits A B M n) where
  abbrev G : Arena
  G = board A B M n

  inside : (a : Side) → Inside (of A B a) n
  inside attacker = fits.ours
  inside guardian = fits.theirs

  pub closed : Closed G (up_to (suc n))
  closed a s t u i = up-here (suc n) t (slots_set (of A B a) s (suc n) t i).0

  -- the slot of the empty state is dead
  dead : Dead G n
  dead = (
    fits.unmet,
    λ a. slots-none (of A B a) n (suc n) (λ t l. ⊎_elim
        (λ (q : in_row (of A B a) n t ≡ true). absurd (omega (arith, (inside a n t (omega (arith, l, fits.few)) q).0)))
        (λ (q : in_row (of A B a) n t ≡ false). q)
        (cases_Bool (in_row (of A B a) n t))),
  )

  -- AT MOST 252 ROUNDS give a number
  few : (k : ℕ) × (k ≤ 252) × Saturated G (up_to (suc n)) k
  few = ⊎_elim
      (λ (z : n ≡ 0). let r = saturated G (up_to (suc n)) closed in (r.0, omega (arith, r.1, unmet-le G (up_to (suc n)), length_up (suc n), z), r.2))
      (λ (z : n ≢ 0). let r = few-rounds G n (up_to n) dead closed (omega (arith, z, length_up n)) in (r.0, omega (arith, r.1, length_up n, fits.few), r.2))
      (same? n 0)

  -- BEFORE THE FIRST ROUND
  pub begun : (ranks : List Number) → Begun M n ranks → Agree G n 0 ranks ranks
  begun ranks h = record { first = h.long; second = h.long; same = same }
    where
      start : (e : ℕ) → e ≤ n → rank_of (number_at ranks e) ≡ cond (bit_at M e) (some 0) none
      start e l = ⊎_elim
          (λ (q : bit_at M e ≡ true). rw q (ap rank_of (rw q at (h.each e l))))
          (λ (q : bit_at M e ≡ false). rw q (ap rank_of (rw q at (h.each e l))))
          (cases_Bool (bit_at M e))

      same : (a : Side) (e : ℕ) → e ≤ n → ranked ranks ranks (at a e) ≡ table G 0 (at a e)
      same attacker e l = start e l
      same guardian e l = start e l

  -- A ROUND
  module _ (k : ℕ) (us vs : List Number) (agree : Agree G n k us vs) (us' : List Number) (r : Bool) (first : Turned attacker A n us vs (suc k) us' r) where
    below : (a : Side) (s t : ℕ) → s ≤ n → elem t (options G a s) ≡ true → t ≤ n
    below a s t l i = let q = up-below (suc n) t (options-closed G (up_to (suc n)) closed a s t (up-here (suc n) s (omega (arith, l))) i) in omega (arith, q)

    filled : (T : Ranks) (a : Side) (e : ℕ) (v : Number) (b : Bool) → T (at a e) ≡ rank_of v → b ≡ ready_before G (suc k) T (at a e) → ((c : Side) (t : ℕ) → t ≤ n → Amid G k T (at c t)) → e ≤ n → rank_of (given v b (suc k)) ≡ table G (suc k) (at a e)
    filled T a e v b q h amid l = given-fill v b (suc k) ∙ ap (λ (o : Option ℕ). fill o b (suc k)) (sym q) ∙ ap (λ (c : Bool). fill (T (at a e)) c (suc k)) h ∙ amid-fill G k T a e (amid a e l) (λ c t i. amid c t (below a e t l i))

    -- the attacker's part
    attacked : (e : ℕ) → e ≤ n → rank_of (number_at us' e) ≡ table G (suc k) (at attacker e)
    attacked e l = ap rank_of (first.each e l) ∙ filled (ranked us vs) attacker e (number_at us e) (ready_by attacker A e n vs (suc k)) refl
        (any_same (sooner vs (suc k)) (λ t. before (suc k) (ranked us vs (at guardian t))) (options G attacker e) (λ t i. refl))
        (λ c t h. inl (agree.same c t h)) l

    module _ (vs' : List Number) (q : Bool) (second : Turned guardian B n vs us' (suc k) vs' q) where
      -- the guardian's part, where the attacker has his numbers already
      guarded : (e : ℕ) → e ≤ n → rank_of (number_at vs' e) ≡ table G (suc k) (at guardian e)
      guarded e l = ap rank_of (second.each e l) ∙ filled (ranked us' vs) guardian e (number_at vs e) (ready_by guardian B e n us' (suc k)) refl
          (every-same (sooner us' (suc k)) (λ t. before (suc k) (ranked us' vs (at attacker t))) (options G guardian e) (λ t i. refl)) amid l
        where
          amid : (c : Side) (t : ℕ) → t ≤ n → Amid G k (ranked us' vs) (at c t)
          amid attacker t h = inr (attacked t h)
          amid guardian t h = inl (agree.same guardian t h)

      round-more : Agree G n (suc k) us' vs'
      round-more = record { first = first.long ∙ agree.first; second = second.long ∙ agree.second; same = same }
        where
          same : (a : Side) (e : ℕ) → e ≤ n → ranked us' vs' (at a e) ≡ table G (suc k) (at a e)
          same attacker e l = attacked e l
          same guardian e l = guarded e l

      -- a round that gives a number is one of the few
      given-new : (a : Side) (e : ℕ) (v v' : Number) → e ≤ n → rank_of v ≡ table G k (at a e) → rank_of v' ≡ table G (suc k) (at a e) → v ≡ prelude.None → v' ≡ prelude.Some (suc k) → Saturated G (up_to (suc n)) k → ⊥
      given-new a e v v' l q q' z z' sat = clash
          (sat a e (up-here (suc n) e (omega (arith, l))) (ap is_some (sym q' ∙ ap rank_of z')))
          (ap is_some (sym q ∙ ap rank_of z))

      fresh : (v : Number) (b : Bool) → v ≡ prelude.None → b ≡ true → given v b (suc k) ≡ prelude.Some (suc k)
      fresh v b z y = rw (z, y) refl

      moved_on : r ≡ true → Saturated G (up_to (suc n)) k → ⊥
      moved_on y sat = let c = first.changed y in given-new attacker c.0 (number_at us c.0) (number_at us' c.0) c.1 (agree.same attacker c.0 c.1) (attacked c.0 c.1) c.2 (first.each c.0 c.1 ∙ fresh (number_at us c.0) _ c.2 c.3) sat

      answered-on : q ≡ true → Saturated G (up_to (suc n)) k → ⊥
      answered-on y sat = let c = second.changed y in given-new guardian c.0 (number_at vs c.0) (number_at vs' c.0) c.1 (agree.same guardian c.0 c.1) (guarded c.0 c.1) c.2 (second.each c.0 c.1 ∙ fresh (number_at vs c.0) _ c.2 c.3) sat

      -- and one that gives none is the last
      at-end : k ≤ 252 → r ≡ false → q ≡ false → Solves A B M n us'
      at-end most y z =
          record {
            long = first.long ∙ agree.first;
            rounds = k;
            few = omega (arith, most);
            same = λ e l. ap rank_of (first.same y e l) ∙ agree.same attacker e l;
            saturated = sat;
          }
        where
          sat : Saturated G (up_to (suc n)) k
          sat attacker e u h = let l : e ≤ n = omega (arith, up-below (suc n) e u) in
              subst (λ (o : Option ℕ). is_some o ≡ true) (sym (attacked e l) ∙ ap rank_of (first.same y e l) ∙ agree.same attacker e l) h
          sat guardian e u h = let l : e ≤ n = omega (arith, up-below (suc n) e u) in
              subst (λ (o : Option ℕ). is_some o ≡ true) (sym (guarded e l) ∙ ap rank_of (second.same z e l) ∙ agree.same guardian e l) h

  -- so the rounds come to an end
  ends : (k : ℕ) → (Saturated G (up_to (suc n)) k → ⊥) → k < 252
  ends k h = ⊎_elim (λ (q : ltb k few.0 ≡ true). omega (arith, ltb-true k few.0 q, few.1)) (λ (q : ltb k few.0 ≡ false). absurd (h (saturated-later G (up_to (suc n)) closed few.0 k (ltb-false k few.0 q) few.2))) (cases_Bool (ltb k few.0))

  -- THE LOOP: where k rounds were made, and the round's number is one more
  module _ (k round : ℕ) (number : round ≡ suc k) (most : k ≤ 252) (us vs : List Number) (agree : Agree G n k us vs) (us' : List Number) (r : Bool) (first : Turned attacker A n us vs round us' r) (vs' : List Number) (q : Bool) (second : Turned guardian B n vs us' round vs' q) where
    one : Turned attacker A n us vs (suc k) us' r
    one = subst (λ (i : ℕ). Turned attacker A n us vs i us' r) number first

    two : Turned guardian B n vs us' (suc k) vs' q
    two = subst (λ (i : ℕ). Turned guardian B n vs us' i vs' q) number second

    pub next-round : (r ≡ true) ⊎ (q ≡ true) → (j : ℕ) × (round + 1 ≡ suc j) × (j ≤ 252) × Agree G n j us' vs'
    next-round y = (
      suc k,
      omega (arith, number),
      omega (arith, ends k (⊎_elim (λ z. moved_on k us vs agree us' r one vs' q two z) (λ z. answered-on k us vs agree us' r one vs' q two z) y)),
      round-more k us vs agree us' r one vs' q two,
    )

    pub last-round : r ≡ false → q ≡ false → Solves A B M n us'
    last-round y z = at-end k us vs agree us' r one vs' q two most y z

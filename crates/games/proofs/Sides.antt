-- THE GAME OF A MODEL: its moves are those of R-5's table, it stays among the reachable states and the empty one, and a solved table tells for each.
use mathlib.Core.Path.{◌≡◌, refl, sym, subst}
use mathlib.Core.Logic.{◌⊎◌, inl, inr, ⊎_elim}
use mathlib.Core.Bool.{true, false}
use mathlib.Core.List.{List, [], ◌∷◌}
use Prim.Native.Nat.{ℕ, ◌+◌, ◌≤◌}
use borrow.Author.Tests.{eqb-true}
use lib.Dec.{eqb}
use lib.ListN.{length}
use Rattle.std.proofs.lemmas.Bool.{cases_Bool, or_cases}
use Rattle.semantics.specs.Models.{elem, Body, next, Program, line, SafeLine, Safe}
use Rattle.semantics.specs.Facts.{Database}
use Rattle.semantics.specs.Steps.{Reachable}
use Rattle.semantics.specs.Tables.{Within}
use Rattle.semantics.specs.Walkers.{Whole}
use Rattle.semantics.proofs.Tools.{or_right, elem-here}
use Rattle.semantics.proofs.Similar.{meets-live}
use Rattle.semantics.proofs.WalkersMoves.{takes-live}
use Rattle.semantics.proofs.WalkersSlots.{takes-within}
use Rattle.helpers.specs.Helpers.{Helpers}
use Rattle.helpers.proofs.Beside.{moves-takes, asked-own}
use Rattle.games.specs.Game.{Side, attacker, Arena, at, CanForce, HoldsOut, Fewest, Tells}
use Rattle.games.specs.Rounds.{Closed, Ranks, Solved, Saturated}
use Rattle.games.specs.Sides.{Asked, Hosts}
use Rattle.games.proofs.Determined.{determined, exclusive}
use Rattle.games.proofs.Ranked.{tells}
use Rattle.games.proofs.Dead.{Dead, few-moves, few-rounds}

-- listed or empty
pub within-elem : (S : Database) (s : ℕ) → Within S s → elem s (0 ∷ S) ≡ true
within-elem S s w = ⊎_elim (λ q. subst (λ (z : ℕ). elem z (0 ∷ S) ≡ true) (sym q) (elem-here 0 S)) (λ q. or_right (eqb s 0) (elem s S) q) w

pub elem-within : (S : Database) (s : ℕ) → elem s (0 ∷ S) ≡ true → Within S s
elem-within S s e = ⊎_elim (λ q. inl (eqb-true s 0 q)) (λ q. inr q) (or_cases (eqb s 0) (elem s S) e)

no-elem : (xs : List ℕ) → ((t : ℕ) → elem t xs ≡ true → ⊥) → xs ≡ []
no-elem [] h = refl
no-elem (x ∷ xs) h = absurd (h x (elem-here x xs))

-- S IS A ROW of reachable states that has all but the empty one, and H are the helpers
module _ (P : Program) (safe : Safe P) (S : Database) (listed : (t : ℕ) → elem t S ≡ true → Reachable P t) (reached : (t : ℕ) → Reachable P t → Within S t) (H : Database) (helpers : Helpers P H) where
  -- what is listed or empty is a state of which the arena speaks
  pub spoken : (s : ℕ) → elem s (0 ∷ S) ≡ true → elem s (0 ∷ H) ≡ true
  spoken s e = ⊎_elim (λ q. subst (λ (z : ℕ). elem z (0 ∷ H) ≡ true) (sym q) (elem-here 0 H)) (λ q. or_right (eqb s 0) (elem s H) ((helpers.each s).0 (listed s q))) (elem-within S s e)

  module _ (whole : Whole P S) (lines : Side → List ℕ) (b : Body) (x : ℕ) (k : SafeLine (next x 0 0 b)) (G : Arena) (hosts : Hosts P H lines b x G) where
    -- the game stays among the listed states and the empty one
    pub hosts-closed : Closed G (0 ∷ S)
    hosts-closed a s t u i = let r = (hosts.moving a s t (spoken s u)).0 i in
        within-elem S t (takes-within P safe S whole s t r.0 ((moves-takes P safe S listed reached H helpers s (elem-within S s u) r.0 t).0 r.2))

    -- "The empty state is the guardian's": nothing moves it, and it doesn't meet
    pub hosts-dead : Dead G 0
    hosts-dead = (
      ⊎_elim (λ (q : G.met 0 ≡ true). absurd (unmet-empty ((hosts.asking 0 (elem-here 0 H)).0 q))) (λ (q : G.met 0 ≡ false). q) (cases_Bool (G.met 0)),
      λ a. no-elem (G.moves a 0) (λ t i. let r = (hosts.moving a 0 t (elem-here 0 H)).0 i in takes-live P safe S 0 t (line P r.0) (safe r.0) ((moves-takes P safe S listed reached H helpers 0 (inl refl) r.0 t).0 r.2) refl),
    )
      where
        unmet-empty : Asked P H b x 0 → ⊥
        unmet-empty q = let r = (asked-own P safe S listed reached H helpers b x k 0 (inl refl)).0 q in meets-live P safe S r.0 b r.2 x k.0 r.1

    -- FOR EACH REACHABLE STATE A SOLVED TABLE TELLS who can force the outcome, and the attacker's fewest moves
    pub hosts-tell : (rank : Ranks) → Solved G (0 ∷ S) rank → (s : ℕ) → Reachable P s → Tells G s (rank (at attacker s))
    hosts-tell rank W s r = tells G (0 ∷ S) hosts-closed rank W s (within-elem S s (reached s r))

    -- at most two less than twice the states: 252 for 127
    pub hosts-few : (n s : ℕ) → Reachable P s → Fewest G n s → n + 2 ≤ length S + length S
    hosts-few n s r f = few-moves G 0 S hosts-dead hosts-closed n s (within-elem S s (reached s r)) f

    -- and the rounds that fill such a table are no more
    pub hosts-rounds : 1 ≤ length S → (n : ℕ) × (n + 2 ≤ length S + length S) × Saturated G (0 ∷ S) n
    hosts-rounds l = few-rounds G 0 S hosts-dead hosts-closed l

    -- EXACTLY ONE of the two can force the outcome from a reachable state
    pub hosts-one : (s : ℕ) → Reachable P s → (((n : ℕ) × Fewest G n s) ⊎ HoldsOut G s) × ((n : ℕ) → CanForce G n s → HoldsOut G s → ⊥)
    hosts-one s r =
        let u = within-elem S s (reached s r) in
        (⊎_elim (λ q. inl (q.0, q.2)) (λ q. inr q) (determined G (0 ∷ S) hosts-closed s u), λ n f d. exclusive G (0 ∷ S) hosts-closed s u n f d)

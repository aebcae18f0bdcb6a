-- THE BOARD: a game on the slots 0 to n, by matrices of moves, and the numbers that rounds give its positions.
use Rattle.std.specs.Prelude.{◌≡◌, Bool, true, false, if◌then◌else◌, List, [], ◌∷◌, ℕ, zero, suc, ◌≤◌, ◌<◌, length, slice_index_or}
use Rattle.std.specs.Prelude as prelude
use Rattle.std.proofs.Math.Option.{Option, none, some}
use Rattle.limits.specs.Limits as limit
use Rattle.facts_bits.specs.Width as width
use Rattle.facts_bits.specs.Bits.{bit_at, in_row}
use Rattle.game_rounds.specs.declared.Side as declared
use Rattle.game_rounds.specs.declared.Side.TheVariants.{Attacker, Guardian}
use Rattle.games.specs.Game.{Side, attacker, guardian, Arena, or_stay, at}
use Rattle.games.specs.Rounds.{any, every, before, table, Saturated}

-- the slots below k that row e of a matrix has, the last first
abbrev pub slots : List ℕ → ℕ → ℕ → List ℕ
slots w e zero = []
slots w e (suc k) = if in_row w e k then k ∷ slots w e k else slots w e k

-- THE GAME of slots: A has the attacker's moves, B the guardian's, and M the slots that meet the question
abbrev pub of : List ℕ → List ℕ → Side → List ℕ
of A B attacker = A
of A B guardian = B

abbrev pub board : List ℕ → List ℕ → List ℕ → ℕ → Arena
board A B M n = record { moves = λ a e. slots (of A B a) e (suc n); met = λ e. bit_at M e }

-- the slots below k, the last first
abbrev pub up_to : ℕ → List ℕ
up_to zero = []
up_to (suc k) = k ∷ up_to k

-- a matrix has moves from the slots below n, to those and to slot n, which stands for the empty state
abbrev pub Inside : List ℕ → ℕ → Type 0
Inside w n = (e t : ℕ) → t < width.slots → in_row w e t ≡ true → (e < n) × (t ≤ n)

pub record Fits (A B M : List ℕ) (n : ℕ) : Type 0 where
  pub few : n ≤ limit.atomic
  pub ours : Inside A n
  pub theirs : Inside B n
  -- and the empty state does not meet the question
  pub unmet : bit_at M n ≡ false

-- A NUMBER of a slot, or none
abbrev pub Number : Type 0
Number = prelude.Option ℕ

abbrev pub rank_of : Number → Option ℕ
rank_of (prelude.Some v) = some v
rank_of prelude.None = none

abbrev pub number_at : List Number → ℕ → Number
number_at ranks e = slice_index_or ranks e prelude.None

-- a slot's number is below the round's
abbrev pub sooner : List Number → ℕ → ℕ → Bool
sooner ranks round t = before round (rank_of (number_at ranks t))

-- the side can get a number in the round: some option of the attacker, each option of the guardian has one of a round before
abbrev pub ready_by : Side → List ℕ → ℕ → ℕ → List Number → ℕ → Bool
ready_by attacker w e n ranks round = any (sooner ranks round) (or_stay e (slots w e (suc n)))
ready_by guardian w e n ranks round = every (sooner ranks round) (or_stay e (slots w e (suc n)))

abbrev pub side_of : declared.Side → Side
side_of Attacker = attacker
side_of Guardian = guardian

-- who has no number and can get one gets the round's
abbrev pub given : Number → Bool → ℕ → Number
given (prelude.Some v) b round = prelude.Some v
given prelude.None true round = prelude.Some round
given prelude.None false round = prelude.None

-- A SIDE'S PART OF A ROUND, and whether it gave a number
pub record Turned (a : Side) (w : List ℕ) (n : ℕ) (ranks others : List Number) (round : ℕ) (ranks' : List Number) (r : Bool) : Type 0 where
  pub long : length ranks' ≡ length ranks
  pub each : (e : ℕ) → e ≤ n → number_at ranks' e ≡ given (number_at ranks e) (ready_by a w e n others round) round
  pub changed : r ≡ true → (e : ℕ) × (e ≤ n) × (number_at ranks e ≡ prelude.None) × (ready_by a w e n others round ≡ true)
  pub same : r ≡ false → (e : ℕ) → e ≤ n → number_at ranks' e ≡ number_at ranks e

-- before the first round: 0 where the question is met, and no number elsewhere
pub record Begun (M : List ℕ) (n : ℕ) (ranks : List Number) : Type 0 where
  pub long : length ranks ≡ limit.listed
  pub each : (e : ℕ) → e ≤ n → number_at ranks e ≡ (if bit_at M e then prelude.Some 0 else prelude.None)

-- THE ATTACKER'S NUMBERS are those of so many rounds, and another round would give none
pub record Solves (A B M : List ℕ) (n : ℕ) (ranks : List Number) : Type 0 where
  pub long : length ranks ≡ limit.listed
  pub rounds : ℕ
  pub few : rounds < limit.none
  pub same : (e : ℕ) → e ≤ n → rank_of (number_at ranks e) ≡ table (board A B M n) rounds (at attacker e)
  pub saturated : Saturated (board A B M n) (up_to (suc n)) rounds

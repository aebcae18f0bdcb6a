-- ATTACKER AND GUARDIAN (document 02, R-12): what is answered for a program, a question and the lines of the two sides, and what is left in the work area.
use Rattle.std.specs.Prelude.{◌≡◌, ◌⊎◌, Bool, true, false, if◌then◌else◌, ◌||◌, List, ℕ, ◌-◌, ◌<◌, ◌==◌, drop, slice_index, replicate, Result, Ok, Err}
use Rattle.rows.specs.Rows.{number_of}
use Rattle.rows.specs.declared.Refusal.{Refusal}
use Rattle.std.proofs.Math.Option.{Option, none, some}
use Rattle.limits.specs.Limits as limit
use Rattle.semantics.specs.Models.{Body, Program, Question}
use Rattle.semantics.specs.Facts.{Database}
use Rattle.calls.specs.Wiping.{wiped}
use Rattle.calls.specs.Crowding.{Crowded, too_many}
use Rattle.helpers.specs.Helpers.{Helped}
use Rattle.games.specs.Game.{Side, attacker, guardian, Arena, Tells}
use Rattle.games.specs.Sides.{Hosts}
use Rattle.search_states.specs.Listed.{Listed}
use Rattle.game_lists.specs.Lists.{faulty, Form}
use Rattle.game_answer.specs.declared.Game.{Game}

-- the lines of each side
abbrev pub owned : List ℕ → List ℕ → Side → List ℕ
owned A B attacker = A
owned A B guardian = B

-- WHAT A NUMBER TELLS: 255 stands for none
unfoldable pub told : ℕ → Option ℕ
told v = if v == limit.none then none else some v

-- THE GAME IS TOLD beside the helpers H: it has an arena, and in each arena of it, in whatever order that has the moves, each of the first n states has the number of moves within which the attacker
-- can force the outcome, and with no fewer; or 255, and the guardian can hold out
pub record Played (P : Program) (lines : Side → List ℕ) (b : Body) (x : ℕ) (states moves : List ℕ) (n : ℕ) (H : Database) : Type 0 where
  pub arena : Arena
  pub hosts : Hosts P H lines b x arena
  pub tells : (G : Arena) → Hosts P H lines b x G → (i : ℕ) → i < n → Tells G (slice_index states i) (told (slice_index moves i))

-- the ask has the form of a game's
abbrev pub Formed : Question → Type 0
Formed Q = (b : Body) × (x : ℕ) × Form Q b x

-- WHAT IS TOLD: "for each reachable state", in the listing's order, the game on the ask's one stage and variable; the numbers behind them are zero
pub record Telling (P : Program) (Q : Question) (A B : List ℕ) (g : Game) : Type 0 where
  pub listed : Listed P g.states g.count
  pub blank : drop g.count g.moves ≡ replicate (limit.listed - g.count) 0
  pub stage : Body
  pub variable : ℕ
  pub form : Form Q stage variable
  pub played : Helped P (Played P (owned A B) stage variable g.states g.moves g.count)

-- "a side's list is over ten or names a line that isn't `next`"
abbrev pub faulted : Program → List ℕ → List ℕ → Bool
faulted P A B = faulty P A || faulty P B

-- THE REFUSALS "in this order": 21 for a list, 22 "if the ask has another form", 15. 21 and 22 leave the work area, 15 leaves "the first 65,536 work bytes zero"
abbrev pub Refusing : Program → Question → List ℕ → List ℕ → ℕ → List ℕ → List ℕ → Type 0
Refusing P Q A B n work work' =
    ((n ≡ 21) × (faulted P A B ≡ true) × (work' ≡ work))
    ⊎ (((n ≡ 22) × (faulted P A B ≡ false) × (Formed Q → ⊥) × (work' ≡ work))
    ⊎ ((n ≡ too_many) × (faulted P A B ≡ false) × Formed Q × Crowded P × (work' ≡ wiped work)))

-- THE ANSWER r: the game is told, which leaves these bytes zero too, or refused "with line 0"
abbrev pub Settles : Program → Question → List ℕ → List ℕ → List ℕ → Result Game Refusal → List ℕ → Type 0
Settles P Q A B work (Ok g) work' = (faulted P A B ≡ false) × (Crowded P → ⊥) × Telling P Q A B g × (work' ≡ wiped work)
Settles P Q A B work (Err x) work' = Refusing P Q A B (number_of x.row) work work' × (x.line ≡ 0)

-- THE SHORTEST WAY BETWEEN LABELS (document 02, R-13): what is answered for a program and two atomic states, and what is left in the work area and the run table.
use Rattle.std.specs.Prelude.{◌≡◌, ◌⊎◌, List, ℕ, ◌≤◌, length, take, drop, Option, Some, None, Result, Ok, Err}
use Rattle.rows.specs.Rows.{number_of}
use Rattle.rows.specs.declared.Refusal.{Refusal}
use Rattle.limits.specs.Limits as limit
use Rattle.semantics.specs.Models.{Program}
use Rattle.semantics.specs.Facts.{Database}
use Rattle.semantics.specs.Steps.{Reachable}
use Rattle.calls.specs.Wiping.{wiped}
use Rattle.calls.specs.Crowding.{Crowded, too_many}
use Rattle.helpers.specs.Helpers.{Helped, Leads}

-- the lines lead the object from s to t beside the helpers, and no fewer lines do
abbrev pub Shortest : Program → ℕ → ℕ → List ℕ → Database → Type 0
Shortest P s t ls H = Leads P H s ls t × ((ms : List ℕ) → Leads P H s ms t → length ls ≤ length ms)

-- no lines do, however many
abbrev pub Unled : Program → ℕ → ℕ → Database → Type 0
Unled P s t H = (ls : List ℕ) → Leads P H s ls t → ⊥

-- "THE FEWEST `next` STEPS on one object", n, "and one such row of line numbers (which one is free) in the first places of the run table"
pub record Shown (P : Program) (s t : ℕ) (run run' : List ℕ) (n : ℕ) : Type 0 where
  pub lines : List ℕ
  pub count : n ≡ length lines
  pub written : take n run' ≡ lines
  pub rest : drop n run' ≡ drop n run
  pub shortest : Helped P (Shortest P s t lines)
  -- "A way has at most 127 steps"
  pub most : n ≤ limit.atomic

-- "two reachable atomic states"
abbrev pub Both : Program → ℕ → ℕ → Type 0
Both P s t = Reachable P s × Reachable P t

-- THE REFUSALS: 15, and 23 "if either state isn't reachable, after 15"
abbrev pub Refusing : Program → ℕ → ℕ → ℕ → Type 0
Refusing P s t n = ((n ≡ too_many) × Crowded P) ⊎ ((n ≡ 23) × (Crowded P → ⊥) × (Both P s t → ⊥))

-- THE ANSWER a: a shortest way, or "that there is no way, the table then untouched", or a refusal "with line 0", which leaves the table too
abbrev pub Answered : Program → ℕ → ℕ → List ℕ → List ℕ → Result (Option ℕ) Refusal → Type 0
Answered P s t run run' (Ok (Some n)) = (Crowded P → ⊥) × Both P s t × Shown P s t run run' n
Answered P s t run run' (Ok None) = (Crowded P → ⊥) × Both P s t × Helped P (Unled P s t) × (run' ≡ run)
Answered P s t run run' (Err x) = Refusing P s t (number_of x.row) × (x.line ≡ 0) × (run' ≡ run)

-- with the work area before and after it, of which "the first 65,536 work bytes" are zero with every answer
pub record Finds (P : Program) (s t : ℕ) (work run : List ℕ) (a : Result (Option ℕ) Refusal) (work' run' : List ℕ) : Type 0 where
  pub answer : Answered P s t run run' a
  pub area : work' ≡ wiped work

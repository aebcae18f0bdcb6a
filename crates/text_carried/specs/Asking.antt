-- The variables of the `ask` line that a table stands for.
use Rattle.std.specs.Prelude.{◌≡◌, if◌then◌else◌, List, [], ◌∷◌, ◌++◌, map, ℕ, ◌+◌, ◌≤◌, nat_lt, length, take, Option, Some, None}
use Rattle.std.proofs.Math.Seq.{slice}
use Rattle.limits.specs.Limits as limit
use Rattle.semantics.specs.Models.{elem, only}
use Rattle.model.specs.Records.{up_from, padded}
use Rattle.grammar.specs.Bytes.{Word}
use Rattle.grammar.specs.Forms.{Literal}
use Rattle.grammar.specs.Declarations.{member, extend, place, variables}
use Rattle.text_scope.specs.Scopes as scopes
use Rattle.text_scope.specs.declared.Scope.{Scope}

-- the numbers of the variables that stand in a second stage, rising
unfoldable pub marked : Scope limit.asked → List ℕ
marked t = only (scopes.mark t) (up_from 0 limit.asked)

-- THE CARRIED VARIABLES that the table tells, if there are no more than cells
abbrev pub carriers_of : Scope limit.asked → Option (List ℕ)
carriers_of t = if nat_lt limit.carried (length (marked t)) then None else Some (padded limit.carried (marked t))

-- the words of a stage, each once
abbrev pub own : List Literal → List Word
own q = extend [] (variables q)

-- the words of all stages, each once for each stage
abbrev pub each : List (List Literal) → List Word
each [] = []
each (q ∷ qs) = own q ++ each qs

-- the words that stand in ws although they were seen before, in order
abbrev pub repeated : List Word → List Word → List Word
repeated seen [] = []
repeated seen (w ∷ ws) = if member w seen then w ∷ repeated seen ws else repeated (seen ++ (w ∷ [])) ws

-- THE TABLE HOLDS the words ws, the variables of the stages so far, each once for each stage
pub record Holds (text : List ℕ) (t : Scope limit.asked) (ws : List Word) : Type 0 where
  pub valid : scopes.Valid text t
  pub known : scopes.known_of text t ≡ extend [] ws
  pub again : (i : ℕ) → scopes.mark t i ≡ elem i (map (place (extend [] ws)) (repeated [] ws))

-- the table t' has the word from a to e more, with the number n
pub record Met (text : List ℕ) (t : Scope limit.asked) (a e : ℕ) (t' : Scope limit.asked) (n : ℕ) : Type 0 where
  pub few : t'.count ≤ t.count + 1
  pub small : n ≤ t.count
  pub number : n ≡ place (scopes.known_of text t) (slice a e text)
  pub holds : (ws : List Word) → Holds text t ws → Holds text t' (ws ++ (slice a e text ∷ []))

-- the table t' has the words own more, with the numbers ns
pub record Numbers (text : List ℕ) (t : Scope limit.asked) (own : List Word) (t' : Scope limit.asked) (ns : List ℕ) : Type 0 where
  pub few : t'.count ≤ t.count + length own
  pub holds : (ws : List Word) → Holds text t ws → Holds text t' (ws ++ own)
  pub numbers : (ws : List Word) → Holds text t ws → take (length own) ns ≡ map (place (extend [] (ws ++ own))) own
  pub room : length ns ≡ limit.variables

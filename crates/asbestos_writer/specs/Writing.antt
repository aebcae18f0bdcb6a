-- WHAT THE DESK ANSWERS, and what the output then has, for all inputs.
use Rattle.std.specs.Prelude.{◌≡◌, Bool, true, false, not, ◌&&◌, ◌||◌, List, [], ◌∷◌, ◌++◌, ℕ, ◌+◌, ◌*◌, ◌==◌, nat_lt, length, drop, slice_index, Result, Ok}
use Rattle.rows.specs.Rows.{Refuses}
use Rattle.rows.specs.declared.Refusal.{Refusal}
use Rattle.limits.specs.Limits as limit
use Rattle.asbestos.specs.Messages.{levels, Process, most}
use Rattle.asbestos.specs.Desk.{each}
use Rattle.asbestos_forms.specs.Forms.{text}

-- THE KINDS, as they are given: a kind has three cells, its send level, its receive level, and its mark, 0 if it has none
abbrev pub kind_at : List ℕ → ℕ → Process
kind_at cells i = record { send = slice_index cells (3 * i); receive = slice_index cells (3 * i + 1); mark = not (slice_index cells (3 * i + 2) == 0) }

-- the first n of them
abbrev pub kinds_of : List ℕ → ℕ → List Process
kinds_of cells n = each n (λ (i : ℕ). kind_at cells i ∷ [])

-- a level is one of the five; so are those of each kind
abbrev pub is_level : ℕ → Bool
is_level n = nat_lt n levels

abbrev pub all_proper : List Process → Bool
all_proper [] = true
all_proper (k ∷ ks) = is_level k.send && is_level k.receive && all_proper ks

-- REFUSAL 20: "if there are no kinds, over 18, a level outside the five, or an output under 16,384 bytes"
unfoldable pub refuses : List Process → ℕ → ℕ → ℕ → Bool
refuses kinds port level room =
    length kinds == 0
    || nat_lt most (length kinds)
    || not (all_proper kinds)
    || not (is_level port)
    || not (is_level level)
    || nat_lt room limit.text

-- WHAT THE CALL LEAVES of the output: "which is then untouched"; or the text and its length, and "Output bytes after the text stay"
abbrev pub Leaves : Bool → List ℕ → List ℕ → Result ℕ Refusal → List ℕ → Type 0
Leaves true written out a out' = Refuses 20 0 a × (out' ≡ out)
Leaves false written out a out' = (a ≡ Ok (length written)) × (out' ≡ written ++ drop (length written) out)

-- THE DESK for kinds, a port level and an asked receive level, with the output before and after it
abbrev pub Desks : List Process → ℕ → ℕ → List ℕ → Result ℕ Refusal → List ℕ → Type 0
Desks kinds port level out a out' = Leaves (refuses kinds port level (length out)) (text kinds port level) out a out'

-- WHAT A LINE MAKES OF AN OBJECT, as a number: its kind × 2^32 and the state after it.
use Rattle.std.specs.Prelude.{ℕ, ◌+◌, ◌*◌}
use Rattle.semantics.specs.Labels.{relabel}
use Rattle.semantics.specs.Models.{Line, rule, new, next, other, line}
use Rattle.model.specs.declared.Action.{Action}
use Rattle.model.specs.declared.Action.TheVariants.{Rule, New, Next}
use Rattle.grammar.specs.Texts.{Outcome, accepted, refused}

-- a `new` line creates an object with its set, kind 2; a `next` line relabels one, kind 3; no other line makes anything
abbrev pub made : Line → ℕ → ℕ
made (rule r xs b) s = 0
made (new t b) s = 2 * 4294967296 + t
made (next x plus minus b) s = 3 * 4294967296 + relabel s plus minus
made other s = 0

-- a line of an accepted text; 0 where the text is refused
unfoldable pub effect_at : Outcome → ℕ → ℕ → ℕ
effect_at (refused n l) ℓ s = 0
effect_at (accepted D P Q) ℓ s = made (line P ℓ) s

-- the same of a clause's action
abbrev pub action_made : Action → ℕ → ℕ
action_made (Rule r n) s = 0
action_made (New t) s = 2 * 4294967296 + t
action_made (Next plus minus) s = 3 * 4294967296 + relabel s plus minus

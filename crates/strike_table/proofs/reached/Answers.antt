use mathlib.Core.Path.{refl}
use Rattle.std.specs.Prelude.{Option, Some, None, MatchOption, IsSome}
use Rattle.search.specs.declared.Found.{Found}
use Rattle.strike_table.proofs.Laws.{struck-sparse}
use Rattle.strike_table.proofs.reached.Goals as goal

-- a search finds something, where there are not too many states
there : (P : Type 0) (Q : Found → Type 0) (r : Option Found) → MatchOption r P Q → (P → ⊥) → IsSome r
there P Q None h never = absurd (never h)
there P Q (Some f) h never = refl

pub unwrap-requires : goal.unwrap-requires
unwrap-requires c = there _ _ c.search.result c.search.ensures.0 (struck-sparse c.args.m _ _ c.strike-struck.ensures c.requires.1)

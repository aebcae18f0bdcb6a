-- An `ask` line is refused 3 only where it has no shape.
use mathlib.Core.Path.{◌≡◌}
use Rattle.std.specs.Prelude.{Result, Err}
use Rattle.std.proofs.Math.Option.{none}
use Rattle.grammar.specs.Declarations as grammar
use Rattle.grammar.specs.Forms.{Form}
use Rattle.grammar.specs.Shapes.{Read, whole}
use Rattle.rows.specs.declared.Row.{Row}
use Rattle.rows.specs.declared.Row.TheVariants.{Shape}
use Rattle.text_faults.proofs.Missing as faults
use Rattle.model.specs.declared.Model.{Model}
use Rattle.text_ask.specs.Asks.{AskEnd}

pub missing : (D : grammar.Declared) (m m' : Model) {read : Read Form} {r : Result (Unit {0}) Row} → AskEnd D m read r m' → r ≡ Err Shape → whole read ≡ none
missing D m m' = faults.missing D (λ form n e. (0, e 0))

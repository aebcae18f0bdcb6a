-- A declaration is refused 3 only where its line has no shape.
use mathlib.Core.Path.{◌≡◌}
use Prim.Native.Nat.{ℕ}
use Rattle.std.specs.Prelude.{Result, Err}
use Rattle.std.proofs.Math.Option.{none}
use Rattle.grammar.specs.Forms.{Form}
use Rattle.grammar.specs.Shapes.{Read, whole}
use Rattle.rows.specs.declared.Row.{Row}
use Rattle.rows.specs.declared.Row.TheVariants.{Shape}
use Rattle.text_faults.proofs.Missing as faults
use mathlib.Core.List.{List}
use Rattle.text_names.specs.Names.{declared_of}
use Rattle.text_names.specs.declared.Declared.{Declared}
use Rattle.text_declarations.specs.Declares.{DeclarationEnd}

pub missing : {text : List ℕ} {d : Declared} {read : Read Form} {r : Result Declared Row} → DeclarationEnd text d read r → r ≡ Err Shape → whole read ≡ none
missing {text} {d} = faults.missing (declared_of text d) (λ form n e. (0, e 0))

-- The record of an accepted text has the states that the text declares.
use mathlib.Core.Path.{◌≡◌}
use mathlib.Core.Bool.{Bool}
use mathlib.Core.List.{List}
use Prim.Native.Nat.{ℕ}
use lib.ListN.{length}
use Rattle.model.specs.declared.Model.{Model}
use Rattle.model.specs.Records.{program_of, question_of}
use Rattle.model.specs.WellFormed.{declared_in}
use Rattle.grammar.specs.Bytes.{lines}
use Rattle.grammar.specs.Declarations.{count}
use Rattle.acceptance.proofs.Acceptance.{accepted-sound}
use Rattle.acceptance.proofs.WellFormed.{declared-in}
use Rattle.calls.specs.Calls.{called}
use Rattle.text.specs.Reading.{Accepts}
use Rattle.text.proofs.Laws.{lines-say}

pub declared-states : (text : List ℕ) (m : Model) (short long : Bool) (a : Accepts (called text short long) text m) → declared_in m 0 ≡ count 0 a.declared
declared-states text m short long a =
    let P = program_of m in
    let Q = question_of m in
    declared-in (length (lines text)) a.declared P Q m (accepted-sound text a.declared P Q (lines-say text m short long a)) a.represents 0

-- `put_kinds` meets its contract.
use mathlib.Core.List.{map}
use Rattle.listing_bytes.specs.Writing.{Writes}
use Rattle.asbestos_forms.specs.Forms.{born_form, printed}
use Rattle.asbestos_writer.specs.Writing.{kinds_of}
use Rattle.asbestos_writer.proofs.put_kinds.Given as goal

abbrev pub invariant-loop-i : goal.invariant-loop-i
invariant-loop-i l = Writes l.initial.out l.at (printed (map born_form (kinds_of l.kinds l.i))) l.next l.out

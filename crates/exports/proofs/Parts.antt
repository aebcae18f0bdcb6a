-- What is answered of a line that is longer than a text.
use mathlib.Core.Path.{refl}
use mathlib.Core.List.{List}
use mathlib.Core.Option.{Option}
use Prim.Native.Nat.{ℕ, ◌<◌}
use lib.ListN.{length}
use borrow.Author.Tests.{lt-ltb}
use Rattle.limits.specs.Limits as limit
use Rattle.std.specs.Prelude.{None}
use Rattle.exports.specs.Calls.{Spanned}

pub long-line : (line : List ℕ) (part : Option (List ℕ)) → limit.text < length line → Spanned line part 0
long-line line part h = record { span = None; shows = rw (lt-ltb limit.text (length line) h) tt; number = refl }

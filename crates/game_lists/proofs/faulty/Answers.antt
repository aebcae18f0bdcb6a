use mathlib.Core.Path.{◌∙◌}
use native.Mathlib.Omega.{arith}
use borrow.Author.Tests.{lt-ltb}
use lib.ListN.{length}
use Rattle.model.specs.Records.{program_of}
use Rattle.game_lists.specs.Lists.{most}
use Rattle.game_lists.proofs.Laws.{faulty-long, faulty-short}
use Rattle.game_lists.proofs.faulty.Goals as goal

pub returns-then-list-gt-MOST : goal.returns-then-list-gt-MOST
returns-then-list-gt-MOST c = let a = c.args in lt-ltb most (length a.list.now) (omega arith) ∙ faulty-long (program_of a.m) a.list.now (omega arith)

pub returns-else-list-gt-MOST : goal.returns-else-list-gt-MOST
returns-else-list-gt-MOST c = let a = c.args in faulty-short (program_of a.m) a.list.now c.strange.result (λ l. omega arith) c.strange.ensures

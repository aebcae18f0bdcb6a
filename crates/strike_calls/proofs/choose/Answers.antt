use mathlib.Core.Path.{ap, ◌∙◌, subst}
use mathlib.Core.List.{List}
use Prim.Native.Nat.{ℕ, ◌≤◌}
use lib.ListN.{length}
use Rattle.rows.proofs.Options.{some_of}
use Rattle.model.specs.Records.{program_of, question_of}
use Rattle.striking.specs.Striking.{most, rising}
use Rattle.striking.proofs.Striking.{not-faulty}
use Rattle.strike_list.specs.Lists.{listed}
use Rattle.strike_list.proofs.Named.{rising-few}
use Rattle.strike_list.proofs.Records.{listed-shown}
use Rattle.strike_table.specs.Tables.{Filled}
use Rattle.strike_calls.proofs.choose.Goals as goal
use Rattle.strike_calls.proofs.choose.Goals.{After-rising-lines}

-- the lines of the list in rising order, and at most ten
few : (c : After-rising-lines) → length (rising c.args.list.now) ≤ most
few c = rising-few (program_of c.args.m) c.args.list.now c.requires.1

pub returns : goal.returns
returns c =
    let L = c.args.list.now in
    let P = program_of c.args.m in
    let Q = question_of c.args.m in
    let lines = ap listed c.rising-lines.ensures ∙ listed-shown (rising L) in
    record {
      once = ((not-faulty P L).0 c.requires.1).2;
      few = few (goal.at.returns c).After-rising-lines;
      lines = c.rising-lines.ensures;
      filled = subst (λ (xs : List ℕ). Filled P Q xs c.in_ok-table.table) lines (rw (some_of _ c.ok_or.ensures.value c.in_ok-table.was) at c.fill.ensures);
    }

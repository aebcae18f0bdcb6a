use Rattle.model.specs.Records.{program_of, question_of}
use Rattle.search.specs.Search.{Searched}
use Rattle.analyzer_verdict.proofs.Laws.{listed, beside}
use Rattle.analyzer_verdict.proofs.judge.Goals as goal
use Rattle.analyzer_verdict.proofs.judge.Goals.{In-Some}

-- the search ended with all states
found : (c : In-Some) → let a = c.args in Searched a.m a.facts.now c.in-Some.found
found c = rw c.in-Some.is at c.requires.1

pub returns : goal.returns
returns c =
    let a = c.args in
    let r = c.conclude-answer in
    let f = found (goal.at.returns c).In-Some in
    rw c.with_states.ensures (r.ensures, beside (program_of a.m) (question_of a.m) a.run.now _ _ _ f.explored.few (listed a.m a.facts.now _ f.explored) r.result r.ensures)

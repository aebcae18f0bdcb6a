use mathlib.Core.Path.{refl}
use Rattle.text_faults.specs.Faults.{unshaped}
use lib.ListN.{drop}
use Rattle.text_lines.proofs.Laws.{line-rule, line-new, line-next, line-none}
use Rattle.text_lines.proofs.read_clause.Goals as goal

pub returns-in-Some : goal.returns-in-Some
returns-in-Some c = λ _. let r = c.requires.3 in rw (line-rule (drop c.args.at c.args.text.now) r.states r.relations c.in-Some.ensures.read) c.read_rule.ensures

pub returns-in-Some-past_bytes : goal.returns-in-Some-past_bytes
returns-in-Some-past_bytes c = λ _. let r = c.requires.3 in rw (line-new (drop c.args.at c.args.text.now) r.states r.relations c.in_default.ensures c.in-Some-past_bytes.ensures.read) c.read_new.ensures

pub returns-in-Some-past_bytes-2 : goal.returns-in-Some-past_bytes-2
returns-in-Some-past_bytes-2 c = λ _. let r = c.requires.3 in rw (line-next (drop c.args.at c.args.text.now) r.states r.relations c.in_default.ensures c.in_default-past_bytes.ensures c.in-Some-past_bytes-2.ensures.read) c.read_next.ensures

pub returns : goal.returns
returns c = λ y. let r = c.requires.3 in unshaped (rw (line-none (drop c.args.at c.args.text.now) r.states r.relations c.in_default.ensures c.in_default-past_bytes.ensures c.in_default-past_bytes-2.ensures (y refl))) refl

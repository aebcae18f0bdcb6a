use mathlib.Core.List.{[]}
use native.Mathlib.Omega.{arith}
use Rattle.text_names.specs.Names.{declared_of}
use Rattle.text_lists.proofs.Laws.{empty-list, list-empty, list-read}
use Rattle.text_lists.proofs.read_list.Goals as goal

pub returns-in-Some : goal.returns-in-Some
returns-in-Some c = list-empty c.args.text.now c.args.at c.in-Some.ensures

pub read_bracket-requires : goal.read_bracket-requires
read_bracket-requires c = (tt, [], omega arith, (c.requires.1, empty-list (declared_of c.args.text.now c.args.d)))

pub returns : goal.returns
returns c = list-read c.args.text.now c.args.at c.read_bracket.result c.in_default.ensures c.requires.1 c.read_bracket.ensures

use mathlib.Core.List.{List}
use Prim.Native.Nat.{◌+◌, ◌-◌, ◌≤◌, ◌<◌}
use lib.ListN.{length}
use Rattle.grammar.specs.Forms as forms
use Rattle.text_names.specs.Names.{declared_of, Valid}
use Rattle.model.specs.declared.Model.{Model}
use Rattle.text_stages.specs.Questions as questions
use Rattle.text_ask.proofs.Laws.{StagesSo}
use Rattle.text_ask.proofs.read_stages.Given as goal

abbrev pub invariant-loop : goal.invariant-loop
invariant-loop l = StagesSo l.text (declared_of l.text l.d) l.at l.n l.initial.table l.initial.m l.table l.m l.i (l.n - l.counter) × (length l.text < 4294967296) × Valid l.text l.d × ((m₀ : Model) × (qs : List (List forms.Literal)) × (length qs + l.n ≤ 4) × questions.Holds l.text (declared_of l.text l.d) m₀ qs l.initial.table l.initial.m) × questions.Aside l.initial.m l.m

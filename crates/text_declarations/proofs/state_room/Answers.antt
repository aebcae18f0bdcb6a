use mathlib.Core.Path.{sym, ◌∙◌}
use Rattle.text_names.specs.Names.{declared_of}
use Rattle.text_names.proofs.Laws.{tally-count}
use Rattle.text_declarations.proofs.Laws.{state-crowded, state-free}
use Rattle.text_declarations.proofs.state_room.Goals as goal

pub returns-then-tally_of-ge-STATES : goal.returns-then-tally_of-ge-STATES
returns-then-tally_of-ge-STATES c = let t = c.args.text.now in let d = c.args.d.now in sym (state-crowded (declared_of t d) c.args.word.now c.tally_of.result (tally-count t d 0 ∙ sym c.tally_of.ensures) c.if-tally_of-ge-STATES.true)

pub returns : goal.returns
returns c = let t = c.args.text.now in let d = c.args.d.now in c.unused.ensures ∙ sym (state-free (declared_of t d) c.args.word.now c.tally_of.result (tally-count t d 0 ∙ sym c.tally_of.ensures) c.if-tally_of-ge-STATES.false)

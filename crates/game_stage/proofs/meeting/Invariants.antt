use mathlib.Core.Path.{◌≡◌}
use Prim.Native.Nat.{ℕ}
use lib.ListN.{length}
use Rattle.semantics.specs.Facts.{Database}
use Rattle.model.specs.declared.Model.{Model}
use Rattle.model.specs.Records.{stage_of, number_in, program_of, stage_at}
use Rattle.facts_bits.specs.Width as width
use Rattle.facts.specs.Facts.{Exact}
use Rattle.game_stage.specs.Meeting.{MetAt}
use Rattle.game_stage.proofs.Laws.{Below}
use Rattle.game_stage.proofs.meeting.Given as goal

-- the question is met with slot e
abbrev pub Met : Model → Database → ℕ → Type 0
Met m S e = MetAt (program_of m) S (stage_of m.literals (stage_at m 0)) (number_in (stage_at m 0) 0) e

abbrev pub invariant-loop-e : goal.invariant-loop-e
invariant-loop-e l = (length l.met ≡ width.bytes) × ((S : Database) → length S ≡ l.fn.s.count → Exact l.fn.m S l.work → Below (Met l.fn.m S) l.e l.met)

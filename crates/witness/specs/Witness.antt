-- THE SHOWN RUN of a reached question.
use Rattle.std.specs.Prelude.{◌≡◌, List, [], ◌∷◌, ◌++◌, map, ℕ, ◌≤◌, length, take, drop}
use Rattle.std.proofs.Math.Option.{some}
use Rattle.limits.specs.Limits as limit
use Rattle.semantics.specs.Runs.{Place, meet, Kept}
use Rattle.model.specs.declared.Model.{Model}
use Rattle.model.specs.Records.{program_of, question_of}
use Rattle.model.specs.Places.{place_of}
use Rattle.witness_table.specs.Runs.{numbers}

-- The first r numbers of the table are those of a kept run, which they stand for; the others are as they were. Its last place is the meeting of the last stage.
pub record Shown (m : Model) (run run' : List ℕ) (r : ℕ) : Type 0 where
  pub places : List Place
  pub kept : Kept (program_of m) (question_of m) places
  pub index : r ≡ length places
  pub few : r ≤ limit.shown
  pub written : run' ≡ numbers places ++ drop r run
  pub decoded : map place_of (take r run') ≡ map some places
  pub last : (first : List Place) × (os : List ℕ) × (places ≡ first ++ (meet m.stagecount os ∷ []))

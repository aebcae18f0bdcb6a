-- THE REPLAY KEEPS the run shown.
use mathlib.Core.List.{List, []}
use Prim.Native.Nat.{ℕ}
use lib.ListN.{take}
use Rattle.semantics.specs.Models.{Program, Question}
use Rattle.semantics.specs.Runs.{start}
use Rattle.model.specs.declared.Place.{Place}
use Rattle.replay_session.specs.declared.Answer.TheVariants.{Kept}
use Rattle.replay_session.specs.Replays.{Replays}
use Rattle.replay_session.proofs.Answers.{kept_run}
use Rattle.analyzer_verdict.specs.Judging.{Shown}

-- the first n numbers of the table are answered kept
pub replay-keeps : (P : Program) (Q : Question) (run run' : List ℕ) (n : ℕ) (place : Place) → Shown P Q run run' n place → Replays P Q (start []) (take n run') 0 Kept
replay-keeps P Q run run' n place h = (kept_run P Q (take n run')).1 (h.places, h.decoded, h.kept)

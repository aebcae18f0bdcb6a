-- THE REPLAY'S ANSWER to a run ("Places of a run").
use Rattle.std.specs.Prelude.{◌≡◌, ◌⊎◌, ◌≢◌, List, [], ◌∷◌, map, ℕ, suc, length}
use Rattle.std.proofs.Math.Option.{some}
use Rattle.semantics.specs.Models.{Program, Question}
use Rattle.semantics.specs.Runs as runs
use Rattle.semantics.specs.Runs.{Session, Allowed, after}
use Rattle.model.specs.Places.{place_of}
use Rattle.replay_session.specs.declared.Answer.{Answer}
use Rattle.replay_session.specs.declared.Answer.TheVariants.{Kept, Broken}

module _ (P : Program) (Q : Question) where
  -- the number has one of the forms of a place, and the semantics allow that place
  abbrev pub Allows : Session → ℕ → Type 0
  Allows s n = (p : runs.Place) × (place_of n ≡ some p) × Allowed P Q s p

  -- "The replay .. says kept, or broken at the first place (from 0) that has none of these forms or that the semantics don't allow."
  -- "A run that ends early is broken at its length." The run stands at s, and its next place is number i.
  abbrev pub Replays : Session → List ℕ → ℕ → Answer → Type 0
  Replays s [] i Kept = s.met ≡ length Q
  Replays s [] i (Broken j) = (s.met ≢ length Q) × (j ≡ i)
  Replays s (n ∷ ns) i a = ((p : runs.Place) × (place_of n ≡ some p) × Allowed P Q s p × Replays (after P Q s p) ns (suc i) a) ⊎ ((Allows s n → ⊥) × (a ≡ Broken i))

-- the numbers are those of the places
abbrev pub Decodes : List ℕ → List runs.Place → Type 0
Decodes ns ps = map place_of ns ≡ map some ps

-- THE REPLAY'S SECOND TABLE (document 02, R-1): who stood by at each kept step.
use Rattle.std.specs.Prelude.{◌≡◌, ◌⊎◌, List, [], ◌∷◌, ℕ, ◌+◌, ◌*◌, slice_index_or, drop}
use Rattle.std.proofs.Math.Option.{some}
use Rattle.limits.specs.Limits as limit
use Rattle.semantics.specs.Models.{Program, line, Question}
use Rattle.semantics.specs.Runs.{Place, step, meet, Session, Allowed, after}
use Rattle.semantics.specs.StandingBy.{StoodBy}
use Rattle.model.specs.Places.{place_of}
use Rattle.replay_session.specs.Replays.{Allows}

-- the number of objects: "o1 × 65,536 + o2 × 256 + o3 over the line's variables, 255 where there is none"
abbrev pub standing : List ℕ → ℕ
standing os = slice_index_or os 0 limit.none * 65536 + slice_index_or os 1 limit.none * 256 + slice_index_or os 2 limit.none

-- k is the number of a kept place: that of those who stood by at a step; "a kept meeting gets 0"
abbrev pub Stands : Program → Session → Place → ℕ → Type 0
Stands P s (step ℓ o) k = (os : List ℕ) × StoodBy P s.db o (line P ℓ) os × (k ≡ standing os)
Stands P s (meet i os) k = k ≡ 0

-- "The replay writes this for each kept step, also of a run that breaks later, into a second lent table, at the step's place ..; a kept meeting gets 0, the rest stays."
-- The run stands at s, the numbers ns are still to come, and t is the table from there on; t' is that table afterwards.
module _ (P : Program) (Q : Question) where
  abbrev pub Notes : Session → List ℕ → List ℕ → List ℕ → Type 0
  Notes s [] t t' = t' ≡ t
  Notes s (n ∷ ns) t t' =
      ((p : Place) × (place_of n ≡ some p) × Allowed P Q s p × ((k : ℕ) × (u : List ℕ) × Stands P s p k × (t' ≡ k ∷ u) × Notes (after P Q s p) ns (drop 1 t) u))
      ⊎ ((Allows P Q s n → ⊥) × (t' ≡ t))

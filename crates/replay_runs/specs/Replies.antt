-- WHAT THE REPLAY REPLIES over a text's program P and question Q.
use Rattle.std.specs.Prelude.{◌≡◌, ◌⊎◌, None, ℕ, replicate}
use Rattle.std.proofs.Math.Option.{some}
use Rattle.limits.specs.Limits as limit
use Rattle.semantics.specs.Models.{Program, Question}
use Rattle.semantics.specs.Runs as runs
use Rattle.semantics.specs.Runs.{Allowed}
use Rattle.model.specs.Places.{place_of}
use Rattle.replay_session.specs.declared.PlaceAnswer.{PlaceAnswer}
use Rattle.replay_session.specs.declared.PlaceAnswer.TheVariants.{Kept, Broken}
use Rattle.replay_session.specs.declared.Session.{Session}
use Rattle.replay_session.specs.Sessions.{session_of, Fits, taken}
use Rattle.replay_session.specs.Replays.{Allows}
use Rattle.replay_session.specs.Notes.{Stands}

-- the state before the first place: no objects, no stage met, none carried, no place kept
abbrev pub fresh : Session
fresh = record { states = replicate limit.objects 0; objects = 0; met = 0; carried = replicate limit.carried None; kept = 0 }

-- ONE PLACE put to a lent state: "kept then means that one place, and a broken place is answered broken at the count of places kept and leaves it as before".
-- The text declares so many state relations.
module _ (declared : ℕ) (P : Program) (Q : Question) where
  -- a state that doesn't fit the text "is answered broken at 0 and left too"
  pub record Misfit (s : Session) (a : PlaceAnswer) (t : Session) : Type 0 where
    pub misfit : Fits declared Q s → ⊥
    pub answer : a ≡ Broken 0
    pub left : t ≡ s

  pub record KeptPlace (s : Session) (n : ℕ) (a : PlaceAnswer) (t : Session) : Type 0 where
    pub place : runs.Place
    pub form : place_of n ≡ some place
    pub allowed : Allowed P Q (session_of Q s) place
    -- "The place-by-place caller is answered the same number": the one that the replay of a whole run notes at that place
    pub stood : ℕ
    pub stands : Stands P (session_of Q s) place stood
    pub answer : a ≡ Kept stood
    pub taken : t ≡ taken P Q s place

  pub record BrokenPlace (s : Session) (n : ℕ) (a : PlaceAnswer) (t : Session) : Type 0 where
    pub disallowed : Allows P Q (session_of Q s) n → ⊥
    pub answer : a ≡ Broken s.kept
    pub left : t ≡ s

  abbrev pub PlaceReply : Session → ℕ → PlaceAnswer → Session → Type 0
  PlaceReply s n a t = Misfit s a t ⊎ (Fits declared Q s × (KeptPlace s n a t ⊎ BrokenPlace s n a t))

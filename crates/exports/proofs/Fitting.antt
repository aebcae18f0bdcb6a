-- What the public calls answer fits the numbers and cells.
use mathlib.Core.Path.{◌≡◌, sym, ◌∙◌}
use mathlib.Core.Logic.{⊎_elim}
use mathlib.Core.Bool.{Bool, true, false, false≢true}
use mathlib.Core.List.{List, [], ◌∷◌}
use Prim.Native.Nat.{ℕ, suc, ◌+◌, ◌≤◌, ◌<◌}
use native.Mathlib.Omega.{arith}
use lib.Dec.{eqb, ltb}
use lib.ListN.{length, get_or, length-take}
use borrow.Author.Tests.{eqb-true, eqb-false, ltb-false}
use Rattle.std.proofs.lemmas.Bool.{cases_Bool}
use Rattle.std.specs.Prelude.{Result, Ok, Err}
use Rattle.rows.specs.declared.Refusal.{Refusal}
use Rattle.limits.specs.Limits as limit
use Rattle.semantics.specs.Models.{Line, rule, new, next, other, line, Program, Question, carriers}
use Rattle.semantics.specs.Runs as runs
use Rattle.semantics.specs.Runs.{step, meet, start, Allowed, after}
use Rattle.grammar.specs.Declarations.{Declared}
use Rattle.grammar.specs.Texts.{Outcome, accepted, refused, outcome}
use Rattle.acceptance.proofs.Acceptance.{accepted-sound}
use Rattle.calls.specs.Calls.{early, called}
use Rattle.calls.proofs.Laws.{called-early, called-lines, sizes}
use Rattle.replay_session.specs.declared.Answer as session
use Rattle.replay_session.specs.declared.Answer.TheVariants as reply
use Rattle.replay_session.specs.declared.PlaceAnswer.{PlaceAnswer}
use Rattle.replay_session.specs.declared.Session.{Session}
use Rattle.replay_session.specs.Sessions.{session_of, Fits, stepped, taken}
use Rattle.replay_session.specs.Replays.{Replays}
use Rattle.replay_session.specs.Notes.{Stands}
use Rattle.replay_session.proofs.Carrying.{cell-after}
use Rattle.replay_session.proofs.Noting.{standing-small}
use Rattle.replay_runs.specs.Replies.{PlaceReply}
use Rattle.replay.specs.Replies.{Replayed, Put}
use Rattle.exports.specs.Ranges.{LowPlace, LowNumber, Small}

-- AN ACCEPTED CALL is of an accepted text, and its buffers and its run have their sizes
pub record Taken (text : List ℕ) (short long : Bool) (D : Declared) (P : Program) (Q : Question) : Type 0 where
  pub text-accepted : outcome text ≡ accepted D P Q
  pub long-not : long ≡ false

called-taken : (text : List ℕ) (short long : Bool) (D : Declared) (P : Program) (Q : Question) → called text short long ≡ accepted D P Q → Taken text short long D P Q
called-taken text short long D P Q e = ⊎_elim
    (λ (q : eqb row 0 ≡ true).
    let z = eqb-true row 0 q in
    record { text-accepted = sym (called-lines text short long z) ∙ e; long-not = (sizes (length text) short long z).1 })
    (λ (q : eqb row 0 ≡ false).
    let r : refused row 0 ≡ accepted D P Q = sym (called-early text short long (eqb-false row 0 q)) ∙ e in
    absurd (false≢true cc))
    (cases_Bool (eqb row 0))
  where
    row : ℕ
    row = early (length text) short long

-- THE REPLAY
module _ (P : Program) (Q : Question) where
  within : (s : runs.Session) (ns : List ℕ) (i : ℕ) (a : session.Answer) → i + length ns ≤ limit.run → Replays P Q s ns i a → LowPlace (Ok a)
  within s [] i reply.Kept h r = tt
  within s [] i (reply.Broken j) h r = omega (arith, r.1)
  within s (n ∷ ns) i a h r = ⊎_elim (λ w. within (after P Q s w.0) ns (suc i) a (omega arith) w.3) (λ w. rw w.1 (omega arith)) r

pub replay-fits : (text run work table : List ℕ) (short : Bool) (a : Result session.Answer Refusal) (work' table' : List ℕ) (o : Outcome) → called text short (ltb limit.run (length run)) ≡ o
    → Replayed o run work table a work' table' → LowPlace a
replay-fits text run work table short (Err x) work' table' o e h = tt
replay-fits text run work table short (Ok a) work' table' (refused n l) e h = absurd h.0
replay-fits text run work table short (Ok a) work' table' (accepted D P Q) e h =
    within P Q (start []) run 0 a (omega (arith, ltb-false limit.run (length run) (called-taken text short (ltb limit.run (length run)) D P Q e).long-not)) h.0

-- ONE PLACE
stepped-small : (Q : Question) (d : ℕ) (s : Session) → Fits d Q s → Small s → (o : ℕ) (l : Line) → Small (stepped s o l)
stepped-small Q d s f h o (rule r xs b) = h
stepped-small Q d s f h o (new t b) = record { objects = omega (arith, f.objects); met = h.met; carried = h.carried; kept = omega (arith, f.places) }
stepped-small Q d s f h o (next x plus minus b) = record { objects = h.objects; met = h.met; carried = h.carried; kept = omega (arith, f.places) }
stepped-small Q d s f h o other = h

taken-small : (P : Program) (Q : Question) (d : ℕ) (s : Session) → length Q ≤ 4 → Fits d Q s → Small s → (p : runs.Place) → Allowed P Q (session_of Q s) p → Small (taken P Q s p)
taken-small P Q d s few f h (step ℓ o) a = stepped-small Q d s f h o (line P ℓ)
taken-small P Q d s few f h (meet i os) a =
    record {
      objects = h.objects;
      met = omega (arith, f.stages);
      carried = λ v l. ⊎_elim
          (λ e. rw e (h.carried v l))
          (λ r. rw r.2 (omega (arith, a.3.0 r.0 r.1, f.objects, length-take s.objects s.states)))
          (cell-after (carriers Q) (get_or Q s.met []) os s.carried v);
      kept = omega (arith, f.places);
    }

number_small : (P : Program) (Q : Question) (d : ℕ) (s : Session) → Fits d Q s → (p : runs.Place) (k : ℕ) → Stands P (session_of Q s) p k → k < 4294967296
number_small P Q d s f p k h =
    omega (arith, standing-small P (session_of Q s) p k (omega (arith, f.objects, length-take s.objects s.states)) h)

reply-fits : (P : Program) (Q : Question) (d : ℕ) (s : Session) (n : ℕ) (a : PlaceAnswer) (t : Session) → length Q ≤ 4 → Small s → PlaceReply d P Q s n a t → LowNumber (Ok a) × Small t
reply-fits P Q d s n a t few h r = ⊎_elim (λ w. (rw w.answer (omega arith), rw w.left h))
    (λ w. ⊎_elim (λ k. (rw k.answer (number_small P Q d s w.0 k.place k.stood k.stands), rw k.taken (taken-small P Q d s few w.0 h k.place k.allowed)))
    (λ b. (rw b.answer h.kept, rw b.left h)) w.1) r

pub place-fits : (text : List ℕ) (short long : Bool) (s : Session) (n : ℕ) (work : List ℕ) (a : Result PlaceAnswer Refusal) (t : Session) (work' : List ℕ) → Small s
    → (o : Outcome) → called text short long ≡ o → Put o s n work a t work' → LowNumber a × Small t
place-fits text short long s n work (Ok a) t work' h (refused k l) e w = absurd w.0
place-fits text short long s n work (Err x) t work' h (refused k l) e w = (tt, rw w.1 h)
place-fits text short long s n work (Err x) t work' h (accepted D P Q) e w = absurd w.0
place-fits text short long s n work (Ok a) t work' h (accepted D P Q) e w =
    reply-fits P Q _ s n a t (accepted-sound text D P Q (called-taken text short long D P Q e).text-accepted).question.stages h w.0

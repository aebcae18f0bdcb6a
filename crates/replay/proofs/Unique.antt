-- THE CONTRACTS LEAVE NO FREEDOM: a call has one answer, and one state, work area and table after it.
use mathlib.Core.Path.{◌≡◌, sym, ap, ◌∙◌, subst}
use mathlib.Core.Logic.{inl, inr, ◌↔◌}
use mathlib.Core.List.{List, []}
use mathlib.Core.Option.{some-injective}
use Prim.Native.Nat.{ℕ}
use Rattle.std.specs.Prelude.{Result, Ok, Err, MatchResult}
use Rattle.rows.specs.declared.Refusal.{Refusal}
use Rattle.rows.proofs.Laws.{refuses_one}
use Rattle.semantics.specs.Models.{Program, Question}
use Rattle.semantics.specs.Runs as runs
use Rattle.semantics.specs.Runs.{start}
use Rattle.grammar.specs.Declarations.{Declared, count}
use Rattle.grammar.specs.Texts.{Outcome, accepted, refused}
use Rattle.replay_session.specs.declared.Answer.{Answer}
use Rattle.replay_session.specs.declared.Answer.TheVariants.{Kept}
use Rattle.replay_session.specs.declared.PlaceAnswer.{PlaceAnswer}
use Rattle.replay_session.specs.declared.PlaceAnswer.TheVariants as place
use Rattle.replay_session.specs.declared.Session.{Session}
use Rattle.replay_session.specs.Sessions.{session_of, taken}
use Rattle.replay_session.specs.Replays.{Replays, Decodes}
use Rattle.replay_session.specs.Notes.{Stands}
use Rattle.replay_session.proofs.Answers.{unique, kept_run}
use Rattle.replay_session.proofs.Noting.{one-standing, one-notes}
use Rattle.replay_runs.specs.Replies.{PlaceReply}
use Rattle.replay.specs.Replies.{Replayed, Put}

-- A WHOLE RUN
pub one-replay : (o : Outcome) (run work table work' table' work'' table'' : List ℕ) (a b : Result Answer Refusal) → Replayed o run work table a work' table' → Replayed o run work table b work'' table''
    → (a ≡ b) × (work' ≡ work'') × (table' ≡ table'')
one-replay (refused n l) run work table work' table' work'' table'' a b g h = (refuses_one n l a b g.0 h.0, g.1 ∙ sym h.1, g.2 ∙ sym h.2)
one-replay (accepted D P Q) run work table work' table' work'' table'' (Ok a) (Ok b) g h =
    (ap Ok (unique P Q (start []) run 0 a b g.0 h.0), g.2 ∙ sym h.2, one-notes P Q (start []) run table table' table'' g.1 h.1)
one-replay (accepted D P Q) run work table work' table' work'' table'' (Ok a) (Err y) g h = absurd h.0
one-replay (accepted D P Q) run work table work' table' work'' table'' (Err x) b g h = absurd g.0

-- the replay of an accepted text keeps a run EXACTLY IF the semantics allow it
pub kept-exactly : (D : Declared) (P : Program) (Q : Question) (run work table work' table' : List ℕ) (a : Result Answer Refusal) → Replayed (accepted D P Q) run work table a work' table'
    → (a ≡ Ok Kept) ↔ ((ps : List runs.Place) × Decodes run ps × runs.Kept P Q ps)
kept-exactly D P Q run work table work' table' (Ok a) h = (
  (λ e. (kept_run P Q run).0 (subst (λ (r : Result Answer Refusal). MatchResult r (Replays P Q (start []) run 0) (λ _. ⊥)) e h.0)),
  (λ k. ap Ok (unique P Q (start []) run 0 a Kept h.0 ((kept_run P Q run).1 k))),
)
kept-exactly D P Q run work table work' table' (Err x) h = absurd h.0

-- ONE PLACE
one-reply : (declared : ℕ) (P : Program) (Q : Question) (s : Session) (n : ℕ) (a b : PlaceAnswer) (t u : Session)
    → PlaceReply declared P Q s n a t → PlaceReply declared P Q s n b u → (a ≡ b) × (t ≡ u)
one-reply declared P Q s n a b t u (inl g) (inl h) = (g.answer ∙ sym h.answer, g.left ∙ sym h.left)
one-reply declared P Q s n a b t u (inl g) (inr h) = absurd (g.misfit h.0)
one-reply declared P Q s n a b t u (inr g) (inl h) = absurd (h.misfit g.0)
one-reply declared P Q s n a b t u (inr (f, inl g)) (inr (e, inl h)) =
    let same = some-injective g.place h.place (sym g.form ∙ h.form) in
    let stood = one-standing P (session_of Q s) h.place g.stood h.stood (subst (λ (p : runs.Place). Stands P (session_of Q s) p g.stood) same g.stands) h.stands in
    (g.answer ∙ ap place.Kept stood ∙ sym h.answer, g.taken ∙ ap (taken P Q s) same ∙ sym h.taken)
one-reply declared P Q s n a b t u (inr (f, inl g)) (inr (e, inr h)) = absurd (h.disallowed (g.place, g.form, g.allowed))
one-reply declared P Q s n a b t u (inr (f, inr g)) (inr (e, inl h)) = absurd (g.disallowed (h.place, h.form, h.allowed))
one-reply declared P Q s n a b t u (inr (f, inr g)) (inr (e, inr h)) = (g.answer ∙ sym h.answer, g.left ∙ sym h.left)

pub one_place : (o : Outcome) (s : Session) (n : ℕ) (work after other : List ℕ) (a b : Result PlaceAnswer Refusal) (t u : Session)
    → Put o s n work a t after → Put o s n work b u other → (a ≡ b) × (t ≡ u) × (after ≡ other)
one_place (refused r l) s n work after other a b t u g h = (refuses_one r l a b g.0 h.0, g.1 ∙ sym h.1, g.2 ∙ sym h.2)
one_place (accepted D P Q) s n work after other (Ok a) (Ok b) t u g h =
    let e = one-reply (count 0 D) P Q s n a b t u g.0 h.0 in
    (ap Ok e.0, e.1, g.1 ∙ sym h.1)
one_place (accepted D P Q) s n work after other (Ok a) (Err y) t u g h = absurd h.0
one_place (accepted D P Q) s n work after other (Err x) b t u g h = absurd g.0

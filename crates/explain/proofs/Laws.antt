-- The reason of a broken run, and from the record to the text.
use mathlib.Core.Path.{◌≡◌, sym, ◌∙◌, subst}
use mathlib.Core.Logic.{inl, inr}
use mathlib.Core.List.{List, [], ◌∷◌}
use mathlib.Core.Option.{some, some-injective}
use Prim.Native.Nat.{ℕ, zero, suc, ◌+◌, ◌≤◌, ◌<◌}
use native.Mathlib.Omega.{arith}
use lib.ListN.{length, get_or}
use Rattle.semantics.specs.Models.{Program, Question}
use Rattle.semantics.specs.Runs as runs
use Rattle.semantics.specs.Runs.{start, Allowed, after}
use Rattle.model.specs.declared.Model.{Model}
use Rattle.model.specs.Records.{program_of, question_of}
use Rattle.model.specs.Places.{place_of}
use Rattle.replay_session.specs.declared.Answer.TheVariants.{Broken}
use Rattle.replay_session.specs.declared.Session.{Session}
use Rattle.replay_session.specs.Records.{session_of}
use Rattle.replay_session.specs.Replays.{Replays}
use Rattle.replay_runs.specs.Endings.{Leads, Stopped}
use Rattle.reasons.specs.declared.Reason.{Reason}
use Rattle.reasons.specs.Reasons.{Explains}
use Rattle.explain.specs.Explains.{Reasoned}

module _ (P : Program) (Q : Question) where
  broken-late : (s : runs.Session) (ns : List ℕ) (i j : ℕ) → Replays P Q s ns i (Broken j) → i ≤ j
  broken-late s [] i j h = let e = h.1 in omega arith
  broken-late s (n ∷ ns) i j (inl (p, e, l, g)) = let r = broken-late (after P Q s p) ns (suc i) j g in omega arith
  broken-late s (n ∷ ns) i j (inr (never, e)) = let q : j ≡ i = cc in omega arith

  -- the place where a run breaks is not allowed in the state to which the places before it lead
  broken-not : (s : runs.Session) (ns : List ℕ) (i j k : ℕ) (t : runs.Session) → Leads P Q s ns k t → j ≡ i + k → k < length ns → Replays P Q s ns i (Broken j)
      → (p : runs.Place) → place_of (get_or ns k 0) ≡ some p → Allowed P Q t p → ⊥
  broken-not s [] i j k t h e l r p f a = absurd (omega arith)
  broken-not s (n ∷ ns) i j zero t h e l (inl (q, d, b, g)) p f a = let z = broken-late (after P Q s q) ns (suc i) j g in omega arith
  broken-not s (n ∷ ns) i j zero t h e l (inr (never, g)) p f a = never (p, f, subst (λ (x : runs.Session). Allowed P Q x p) h a)
  broken-not s (n ∷ ns) i j (suc k) t h e l (inl (q, d, b, g)) p f a =
      let same : q ≡ h.0 = some-injective q h.0 (sym d ∙ h.1) in
      broken-not (after P Q s h.0) ns (suc i) j k t h.3 (omega arith) (omega arith) (subst (λ (x : runs.Place). Replays P Q (after P Q s x) ns (suc i) (Broken j)) same g) p f a
  broken-not s (n ∷ ns) i j (suc k) t h e l (inr (never, g)) p f a = never (h.0, h.1, h.2)

module _ (m : Model) (run : List ℕ) (k : ℕ) (s : Session) (replays : Replays (program_of m) (question_of m) (start []) run 0 (Broken k)) (stopped : Stopped m run k s) where
  -- its place is not allowed
  pub reason-place : k < length run → (r : Reason) → ((p : runs.Place) → place_of (get_or run k 0) ≡ some p → Explains m s p r) → Reasoned (program_of m) (question_of m) run k r
  reason-place l r h =
      inr (l, λ p e. (session_of m s, stopped.leads, h p e (broken-not (program_of m) (question_of m) (start []) run 0 k k (session_of m s) stopped.leads (omega arith) l replays p e)))

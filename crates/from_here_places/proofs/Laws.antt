-- What the answer to a run says of where its places lead.
use mathlib.Core.Path.{◌≡◌, sym, ◌∙◌, subst}
use mathlib.Core.Logic.{inl, inr, ⊎_elim}
use mathlib.Core.Bool.{true, false}
use Rattle.std.proofs.lemmas.Bool.{cases_Bool}
use Rattle.std.specs.Bool.{then_some}
use mathlib.Core.List.{List, [], ◌∷◌}
use mathlib.Core.Option.{some-injective}
use Prim.Native.Nat.{ℕ, suc, ◌+◌}
use native.Mathlib.Omega.{arith}
use borrow.Author.Tests.{eqb-true, eq-eqb}
use lib.Dec.{eqb}
use lib.ListN.{length}
use Rattle.semantics.specs.Models.{Program, Question}
use Rattle.semantics.specs.Runs as runs
use Rattle.semantics.specs.Runs.{start, after}
use Rattle.semantics.proofs.Tools.{clash}
use Rattle.model.specs.declared.Model.{Model}
use Rattle.model.specs.Records.{program_of, question_of}
use Rattle.replay_session.specs.declared.Answer.{Answer}
use Rattle.replay_session.specs.declared.Answer.TheVariants.{Kept, Broken}
use Rattle.replay_session.specs.declared.Session.{Session}
use Rattle.replay_session.specs.Replays.{Replays}
use Rattle.replay_runs.specs.Endings.{Leads, Ends, Stopped}
use Rattle.from_here_places.specs.Stands.{unbroken, Stands}

module _ (P : Program) (Q : Question) where
  -- a run all of whose places are allowed is broken at its length at most
  at-its-length : (s t : runs.Session) (ns : List ℕ) (i j : ℕ) → Replays P Q s ns i (Broken j) → Leads P Q s ns (length ns) t → j ≡ i + length ns
  at-its-length s t [] i j h l = omega (arith, h.1)
  at-its-length s t (n ∷ ns) i j (inl (p, e, a, g)) (q, d, b, l) =
      let same : q ≡ p = some-injective q p (sym d ∙ e) in
      omega (arith, at-its-length (after P Q s p) t ns (suc i) j g (subst (λ (x : runs.Place). Leads P Q (after P Q s x) ns (length ns) t) same l))
  at-its-length s t (n ∷ ns) i j (inr (never, e)) (q, d, b, l) = absurd (never (q, d, b))

module _ (m : Model) (ns : List ℕ) (s : Session) where
  pub stands : (a : Answer) → Replays (program_of m) (question_of m) (start []) ns 0 a → Ends m ns a s → Stands m ns (then_some (unbroken a (length ns)) s)
  stands Kept h e = e
  stands (Broken k) h e = ⊎_elim
      (λ (q : eqb k (length ns) ≡ true). rw q (subst (λ (i : ℕ). Stopped m ns i s) (eqb-true k (length ns) q) e))
      (λ (q : eqb k (length ns) ≡ false). rw q (λ t l. clash (eq-eqb k (length ns) (omega (arith, at-its-length (program_of m) (question_of m) (start []) t ns 0 k h l))) q))
      (cases_Bool (eqb k (length ns)))

-- Why a step of a clause is not allowed.
use mathlib.Core.Path.{◌≡◌, refl, sym, ◌∙◌, subst}
use mathlib.Core.Logic.{◌≢◌}
use mathlib.Core.List.{List}
use Prim.Native.Nat.{ℕ, ◌≤◌, ◌<◌}
use native.Mathlib.Omega.{arith}
use lib.ListN.{length, take}
use Rattle.limits.specs.Limits as limit
use Rattle.semantics.specs.Models.{Body, rule, new, next, other, Program, line}
use Rattle.semantics.specs.Facts.{Database}
use Rattle.semantics.specs.Steps.{Enabled}
use Rattle.semantics.specs.Runs.{step}
use Rattle.model.specs.declared.Action.{Action}
use Rattle.model.specs.declared.Action.TheVariants.{Rule, New, Next}
use Rattle.model.specs.declared.Clause.{Clause}
use Rattle.model.specs.declared.Model.{Model}
use Rattle.model.specs.Records.{clause_body, program_of, question_of}
use Rattle.model.proofs.Accepted.{stages}
use Rattle.std.specs.Prelude.{Some, None}
use Rattle.facts_candidates.specs.declared.Choice.{Choice}
use Rattle.facts_candidates.specs.Choices.{element_of}
use Rattle.facts_find.specs.Bodies.{Fixed}
use Rattle.replay_session.specs.declared.Session.{Session}
use Rattle.replay_session.proofs.Effects.{size}
use Rattle.replay_view.specs.declared.View.{View}
use Rattle.replay_steps.specs.Tries.{Ready, Stepping, Holding, only, Fixes}
use Rattle.replay_steps.proofs.Steps.{on-action, next-variable, fixed-only, fixed-free}
use Rattle.reasons_bodies.specs.Blames.{Blames}
use Rattle.reasons.specs.declared.Reason.TheVariants.{NoLine, NotNext, NoObject, Literal}
use Rattle.reasons.specs.Reasons.{StepNoLine, StepNotNext, StepNoObject, StepLiteral, Explains}

-- choices that fit alike
pub refit : (P : Program) (db : Database) (b : Body) (Fit Fit' : (ℕ → ℕ) → Type 0) (k : ℕ) → ((σ : ℕ → ℕ) → Fit σ → Fit' σ) → ((σ : ℕ → ℕ) → Fit' σ → Fit σ) → Blames P db b Fit k → Blames P db b Fit' k
refit P db b Fit Fit' k to from h = record {
  before = h.before;
  literal = h.literal;
  behind = h.behind;
  stands = h.stands;
  met = (h.met.0, to h.met.0 h.met.1, h.met.2);
  fails = λ σ fit. h.fails σ (from σ fit);
}

-- A LINE of an accepted model, put to a state before the last meeting
module _ (m : Model) (s : Session) (v : View) (w : List ℕ) (ready : Ready m s v w) (left : s.met < m.stagecount) (ℓ o : ℕ) where
  abbrev P : Program
  P = program_of m

  abbrev db : List ℕ
  db = take s.objects s.states

  sized : length db ≡ s.objects
  sized = size m ready.accepted s ready.long ready.fits

  stage-left : s.met < length (question_of m)
  stage-left = let q = stages m ready.accepted in omega arith

  -- a line that is no `new` or `next` line
  pub no-clause : line P ℓ ≡ other → Explains m s (step ℓ o) NoLine
  no-clause on n = (stage-left, subst (StepNoLine P db o) (sym on) tt)

  pub no_step : (r : ℕ) (xs : List ℕ) (b : Body) → line P ℓ ≡ rule r xs b → Explains m s (step ℓ o) NoLine
  no_step r xs b on n = (stage-left, subst (StepNoLine P db o) (sym on) tt)

  -- a `new` line
  module _ (t : ℕ) (b : Body) (n : ℕ) (on : line P ℓ ≡ new t b) where
    pub new-other : o ≢ s.objects → Explains m s (step ℓ o) NotNext
    new-other e h = (stage-left, subst (StepNotNext P db o) (sym on) (λ q. e (q ∙ sized)))

    pub new-literal : (none : Choice) → ((x : ℕ) → element_of none x ≡ None) → o ≡ s.objects → (k : ℕ) → (((σ : ℕ → ℕ) → Holding m s b n none σ → ⊥) → Blames P db b (Fixed n none) k) → Explains m s (step ℓ o) (Literal k)
    new-literal none free e k blames h = (
      stage-left,
      subst (StepLiteral P db o k) (sym on) (
        e ∙ sym sized,
        refit P db b (Fixed n none) (λ (σ : ℕ → ℕ). Unit {0}) k (λ σ f. tt) (λ σ f. fixed-free n none free σ)
            (blames (λ σ q. h (stage-left, subst (Enabled P db o) (sym on) (e ∙ sym sized, (σ, q.0))))),
      ),
    )

  -- a `next` line
  module _ (plus minus : ℕ) (b : Body) (n : ℕ) (on : line P ℓ ≡ next 0 plus minus b) where
    pub next-other : s.objects ≤ o → Explains m s (step ℓ o) NoObject
    next-other l h = (stage-left, subst (StepNoObject P db o) (sym on) (let z = sized in omega arith))

    pub next-literal : 0 < n → o < s.objects → (k : ℕ) → (((σ : ℕ → ℕ) → Holding m s b n (only o) σ → ⊥) → Blames P db b (Fixed n (only o)) k) → Explains m s (step ℓ o) (Literal k)
    next-literal some l k blames h = (
      stage-left,
      subst (StepLiteral P db o k) (sym on) (
        below,
        refit P db b (Fixed n (only o)) (λ (σ : ℕ → ℕ). σ 0 ≡ o) k zeroth (λ σ f. fixed-only n o σ f)
            (blames (λ σ q. h (stage-left, subst (Enabled P db o) (sym on) (below, (σ, zeroth σ q.1, q.0))))),
      ),
    )
      where
        below : o < length db
        below = let z = sized in omega arith

        zeroth : (σ : ℕ → ℕ) → Fixed n (only o) σ → σ 0 ≡ o
        zeroth σ f = f 0 some o refl

-- the body of a clause is short
pub part-short : (m : Model) (v : View) (s : Session) (slots w : List ℕ) (c : Clause) → Stepping m v s slots w c → c.count ≤ limit.body
part-short m v s slots w c t = subst (λ (x : Clause). x.count ≤ limit.body) t.clause (t.ready.accepted.clause t.index t.within).part.short

-- the literal of the body of a clause is to blame, where the object is one for the line
module _ (m : Model) (v : View) (s : Session) (slots w : List ℕ) (c : Clause) (t : Stepping m v s slots w c) (o : ℕ) where
  abbrev body : Body
  body = clause_body m.literals c

  pub step-literal : (a : Action) → c.action ≡ a → (k : Choice) → Fixes a s.objects o (Some k) → (i : ℕ) → (((σ : ℕ → ℕ) → Holding m s body c.variables k σ → ⊥) → Blames (program_of m) (take s.objects s.states) body (Fixed c.variables k) i) → Explains m s (step c.line o) (Literal i)
  step-literal (Rule r n) e k f i blames = absurd f
  step-literal (New set) e k f i blames = new-literal m s v w t.ready t.left c.line o set body c.variables (on-action m v s slots w c t (New set) e) k f.1 f.0 i blames
  step-literal (Next plus minus) e k f i blames = next-literal m s v w t.ready t.left c.line o plus minus body c.variables (on-action m v s slots w c t (Next plus minus) e) (next-variable m v s slots w c t plus minus e) f.0 i
      (subst (λ (d : Choice). ((σ : ℕ → ℕ) → Holding m s body c.variables d σ → ⊥) → Blames (program_of m) (take s.objects s.states) body (Fixed c.variables d) i) f.1 blames)

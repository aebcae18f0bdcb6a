-- Steps of the lines of an accepted model.
use mathlib.Core.Path.{◌≡◌, refl, sym, ap, ◌∙◌, subst}
use mathlib.Core.Logic.{◌≢◌, ⊎_elim, ◌↔◌}
use mathlib.Core.Bool.{true}
use mathlib.Core.List.{List, [], ◌++◌, map}
use Rattle.std.specs.Prelude.{Option, Some, None}
use Prim.Native.Nat.{ℕ, ◌+◌, ◌≤◌, ◌<◌}
use native.Mathlib.Omega.{arith}
use borrow.Author.Tests.{eq-eqb, ne_eqb}
use lib.ListN.{length, take, drop}
use Rattle.limits.specs.Limits as limit
use Rattle.semantics.specs.Models.{elem, Body, Line, rule, new, next, other, line, vars, firsts, SafeLine, Supported}
use Rattle.semantics.specs.Steps.{Enabled}
use Rattle.semantics.specs.Runs.{step}
use Rattle.semantics.specs.StandingBy.{First, line_names, EnabledBy, StoodBy}
use Rattle.std.specs.Prelude.{Option, Some, None, is_some, unwrap_or}
use Rattle.semantics.proofs.Tools.{same?, clash}
use Rattle.semantics.proofs.Bodies.{supported-vars}
use Rattle.semantics.proofs.StandingBy.{first-same, stood-by-enabled}
use Rattle.model.specs.declared.Action.{Action}
use Rattle.model.specs.declared.Action.TheVariants.{Rule, New, Next}
use Rattle.model.specs.declared.Clause.{Clause}
use Rattle.model.specs.declared.Model.{Model}
use Rattle.model.specs.Literals.{body_of, GoodBody}
use Rattle.model.proofs.Bodies as bodies
use Rattle.model.specs.Lookups.{OnLine}
use Rattle.model.specs.Records.{up_from, head_of, line_of, clause_body, clause_line, program_of, clause_at}
use Rattle.model.specs.WellFormed.{WellFormed}
use Rattle.model.proofs.Accepted.{on_line, clause-safe, clause-vars, clause-body, stages}
use Rattle.facts_candidates.specs.declared.Choice.{Choice}
use Rattle.facts_candidates.specs.Choices.{element_of, chosen}
use Rattle.facts_find.specs.Bodies.{Fixed}
use Rattle.facts_rests.specs.Rests.{Within}
use Rattle.replay_session.specs.declared.Session.{Session}
use Rattle.replay_session.specs.Sessions.{created, relabeled, stepped}
use Rattle.replay_session.specs.Notes.{standing}
use Rattle.replay_session.proofs.Effects.{size}
use Rattle.replay_view.specs.declared.View.{View}
use Rattle.replay_view.specs.Views.{slots_of}
use Rattle.replay_steps.specs.Tries.{line_body, Ready, Open, Stepping, Holding, only, Fixes, Taken, Barred}

-- a choice that has an object for variable 0 alone
abbrev three : Option ℕ → Option ℕ → Option ℕ → Choice
three x y z = record { first = x; second = y; third = z }

pub only_one : (c : Choice) (o : ℕ) → element_of c 0 ≡ Some o → element_of c 1 ≡ None → element_of c 2 ≡ None → c ≡ only o
only_one c o e f g = ap (λ (x : Option ℕ). three x c.second c.third) e ∙ ap (λ (y : Option ℕ). three (Some o) y c.third) f ∙ ap (λ (z : Option ℕ). three (Some o) None z) g

-- WHAT STANDS on the line of clause k
body-supported : (a : Action) (b : Body) → SafeLine (line_of a b) → Supported (vars b) b
body-supported (Rule r n) b h = h.2
body-supported (New t) b h = h
body-supported (Next plus minus) b h = h.1

-- its body lies within the literal row
clause-within : (m : Model) → WellFormed m → (k : ℕ) → k < m.clausecount → (clause_at m k).first + (clause_at m k).count ≤ length m.literals
clause-within m wf k h = let p = (wf.clause k h).part.within in let l = wf.literalcount in let n = wf.literals in omega arith

module _ (m : Model) (v : View) (s : Session) (slots w : List ℕ) (c : Clause) (t : Stepping m v s slots w c) where
  abbrev body : Body
  body = clause_body m.literals c

  -- what holds of the record's clause holds of c
  own : (P : Clause → Type 0) → P (clause_at m t.index) → P c
  own P = subst P t.clause

  pub on-action : (a : Action) → c.action ≡ a → line (program_of m) c.line ≡ line_of a body
  on-action a e = own (λ (x : Clause). line (program_of m) x.line ≡ clause_line m.literals x) (on_line m t.ready.accepted t.index t.within) ∙ ap (λ (x : Action). line_of x body) e

  -- its body can be handed to the evaluator
  pub part-within : c.first + c.count ≤ length m.literals
  part-within = own (λ (x : Clause). x.first + x.count ≤ length m.literals) (clause-within m t.ready.accepted t.index t.within)

  pub part-good : GoodBody (drop c.first m.literals) c.count c.variables
  part-good = own (λ (x : Clause). GoodBody (drop x.first m.literals) x.count x.variables) (clause-body m t.ready.accepted t.index t.within)

  pub part-supported : Supported (vars body) body
  part-supported = own (λ (x : Clause). Supported (vars (clause_body m.literals x)) (clause_body m.literals x))
      (body-supported (clause_at m t.index).action (clause_body m.literals (clause_at m t.index)) (clause-safe m t.ready.accepted t.index t.within))

  -- its body by itself
  abbrev codes : List ℕ
  codes = take c.count (drop c.first m.literals)

  pub codes-long : length codes ≡ c.count
  codes-long = bodies.own-length (drop c.first m.literals) c.count part-good.within

  pub codes-say : body_of codes (length codes) ≡ body
  codes-say = bodies.own-body (drop c.first m.literals) c.count part-good.within

  pub codes-good : GoodBody codes (length codes) c.variables
  codes-good = bodies.own-good (drop c.first m.literals) c.count c.variables part-good

  pub codes-supported : Supported (vars (body_of codes (length codes))) (body_of codes (length codes))
  codes-supported = rw codes-say part-supported

  pub part-vars : (x : ℕ) → elem x (vars body) ≡ true ↔ x < c.variables
  part-vars = own (λ (y : Clause). (x : ℕ) → elem x (vars (clause_body m.literals y)) ≡ true ↔ x < y.variables) (clause-vars m t.ready.accepted t.index t.within)

  -- its variables in order of first appearance
  pub line-variables : (a : Action) → c.action ≡ a → firsts [] (head_of a ++ vars body) ≡ up_from 0 c.variables
  line-variables a e = subst (λ (x : Action). firsts [] (head_of x ++ vars body) ≡ up_from 0 c.variables) e
      (own (λ (x : Clause). firsts [] (head_of x.action ++ vars (clause_body m.literals x)) ≡ up_from 0 x.variables) (t.ready.accepted.clause t.index t.within).numbered)

  -- a `next` line has a variable
  pub next-variable : (plus minus : ℕ) → c.action ≡ Next plus minus → 0 < c.variables
  next-variable plus minus e =
      let safe = subst (λ (x : Action). SafeLine (line_of x body)) e (own (λ (x : Clause). SafeLine (clause_line m.literals x)) (clause-safe m t.ready.accepted t.index t.within)) in
      (part-vars 0).0 (supported-vars 0 body safe.0)

  -- the slots are those of the view
  pub slots-seat : slots_of v s.objects ≡ take s.objects slots
  slots-seat = ap (λ (l : List ℕ). take s.objects l) t.seats

  pub slots-enough : s.objects ≤ length slots
  slots-enough = let g = t.ready.sees.views.good.slots in let f = t.ready.fits.objects in omega (arith, ap length t.seats)

-- A CLAUSE of a model
body-on : (a : Action) (b : Body) → line_body (line_of a b) ≡ b
body-on (Rule r n) b = refl
body-on (New t) b = refl
body-on (Next plus minus) b = refl

module _ (m : Model) (accepted : WellFormed m) (k : ℕ) (h : k < m.clausecount) (c : Clause) (e : c ≡ clause_at m k) where
  -- the body on its line
  pub own_body : line_body (line (program_of m) c.line) ≡ clause_body m.literals c
  own_body = subst (λ (x : Clause). line_body (line (program_of m) x.line) ≡ clause_body m.literals x) (sym e)
      (ap line_body (on_line m accepted k h) ∙ body-on (clause_at m k).action (clause_body m.literals (clause_at m k)))

  -- its literals are good
  pub own-within : c.first + c.count ≤ length m.literals
  own-within = subst (λ (x : Clause). x.first + x.count ≤ length m.literals) (sym e) (clause-within m accepted k h)

  pub own-good : GoodBody (drop c.first m.literals) c.count c.variables
  own-good = subst (λ (x : Clause). GoodBody (drop x.first m.literals) x.count x.variables) (sym e) (clause-body m accepted k h)

-- a clause on the line of a step
pub stepping : (m : Model) (v : View) (s : Session) (slots w : List ℕ) (ℓ o : ℕ) (l : Open m v s slots w (step ℓ o)) (c : Clause) → OnLine m ℓ (Some c) → Stepping m v s slots w c
stepping m v s slots w ℓ o l c (k, here, e, on) =
    record {
      ready = l.ready;
      left = l.left;
      index = k;
      within = here;
      clause = sym e;
      rests = subst (Within l.ready.relations) (ap (λ (x : ℕ). line_body (line (program_of m) x)) (sym on) ∙ own_body m l.ready.accepted k here c e) l.rests;
      seats = l.seats;
    }

only-rest : (o x : ℕ) → x ≢ 0 → element_of (only o) x ≡ None
only-rest o x n = rw (ne_eqb x 0 n) (⊎_elim (λ (e : x ≡ 1). rw (eq-eqb x 1 e)) (λ (e : x ≢ 1). rw (ne_eqb x 1 e)) (same? x 1))

pub fixed-only : (n o : ℕ) (σ : ℕ → ℕ) → σ 0 ≡ o → Fixed n (only o) σ
fixed-only n o σ e x l i h = ⊎_elim
    (λ (q : x ≡ 0). ap σ q ∙ e ∙ ap (λ (p : Option ℕ). unwrap_or p 0) (sym (ap (element_of (only o)) q) ∙ h))
    (λ (q : x ≢ 0). clash (ap is_some h) (ap is_some (only-rest o x q)))
    (same? x 0)

-- a choice that fixes no variable
pub fixed-free : (n : ℕ) (c : Choice) → ((x : ℕ) → element_of c x ≡ None) → (σ : ℕ → ℕ) → Fixed n c σ
fixed-free n c free σ x l i h = clash (ap is_some h) (ap is_some (free x))

module _ (m : Model) (s : Session) (v : View) (w : List ℕ) (ready : Ready m s v w) (left : s.met < m.stagecount) (ℓ o : ℕ) where
  abbrev db : List ℕ
  db = take s.objects s.states

  sized : length db ≡ s.objects
  sized = size m ready.accepted s ready.long ready.fits

  -- those whom a choice has are objects
  pub objects-below : (b : Body) (n : ℕ) (fixed : Choice) (σ : ℕ → ℕ) → ((x : ℕ) → elem x (vars b) ≡ true ↔ x < n) → Holding m s b n fixed σ → (x : ℕ) → x < n → σ x < limit.objects
  objects-below b n fixed σ names h x l = let i = h.0.0 x ((names x).1 l) in let z = sized in let f = ready.fits.objects in omega arith

  module _ (L : Line) (on : line (program_of m) ℓ ≡ L) where
    -- the step is that of what stands on the line, and those stood by whom the first choice has
    stands : (n : ℕ) (Good : (ℕ → ℕ) → Type 0) (c : Choice) (k : ℕ) → line_names L ≡ up_from 0 n → ((σ : ℕ → ℕ) → Good σ ↔ EnabledBy (program_of m) db o L σ) → First (up_from 0 n) Good (chosen c)
        → k ≡ standing (map (chosen c) (up_from 0 n)) → Taken m s (step ℓ o) (stepped s o L) k
    stands n Good c k names same f e = (
      (let q = stages m ready.accepted in omega arith, subst (Enabled (program_of m) db o) (sym on) (stood-by-enabled (program_of m) ready.accepted.safe db o L (map (chosen c) (up_from 0 n)) by)),
      ap (stepped s o) (sym on),
      (map (chosen c) (up_from 0 n), subst (λ (M : Line). StoodBy (program_of m) db o M (map (chosen c) (up_from 0 n))) (sym on) by, e),
    )
      where
        by : StoodBy (program_of m) db o L (map (chosen c) (up_from 0 n))
        by = record {
          choice = chosen c;
          first = subst (λ (xs : List ℕ). First xs (EnabledBy (program_of m) db o L) (chosen c)) (sym names) (first-same (up_from 0 n) Good (EnabledBy (program_of m) db o L) (chosen c) same f);
          objects = ap (map (chosen c)) (sym names);
        }

    fails : (Enabled (program_of m) db o L → ⊥) → Barred m s (step ℓ o)
    fails n = λ a. n (subst (Enabled (program_of m) db o) on a.1)

  -- a line that is no `new` or `next` line
  pub no-clause : line (program_of m) ℓ ≡ other → Barred m s (step ℓ o)
  no-clause on = fails other on (λ e. e)

  no_step : (r : ℕ) (xs : List ℕ) (b : Body) → line (program_of m) ℓ ≡ rule r xs b → Barred m s (step ℓ o)
  no_step r xs b on = fails (rule r xs b) on (λ e. e)

  -- a `new` line
  module _ (t : ℕ) (b : Body) (n : ℕ) (on : line (program_of m) ℓ ≡ new t b) where
    pub new-kept : (none : Choice) → ((x : ℕ) → element_of none x ≡ None) → line_names (new t b) ≡ up_from 0 n → o ≡ s.objects → (c : Choice) (k : ℕ) → First (up_from 0 n) (Holding m s b n none) (chosen c) → k ≡ standing (map (chosen c) (up_from 0 n))
        → Taken m s (step ℓ o) (created s t) k
    new-kept none free names e c k = stands (new t b) on n (Holding m s b n none) c k names (λ σ. ((λ h. (e ∙ sym sized, h.0)), λ h. (h.1, fixed-free n none free σ)))

    new-other : o ≢ s.objects → Barred m s (step ℓ o)
    new-other e = fails (new t b) on (λ q. e (q.0 ∙ sized))

    new-fails : (none : Choice) → ((x : ℕ) → element_of none x ≡ None) → ((σ : ℕ → ℕ) → Holding m s b n none σ → ⊥) → Barred m s (step ℓ o)
    new-fails none free h = fails (new t b) on (λ q. h q.1.0 (q.1.1, fixed-free n none free q.1.0))

  -- a `next` line
  module _ (plus minus : ℕ) (b : Body) (n : ℕ) (on : line (program_of m) ℓ ≡ next 0 plus minus b) where
    pub next-kept : line_names (next 0 plus minus b) ≡ up_from 0 n → 0 < n → o < s.objects → (c : Choice) (k : ℕ) → First (up_from 0 n) (Holding m s b n (only o)) (chosen c)
        → k ≡ standing (map (chosen c) (up_from 0 n)) → Taken m s (step ℓ o) (relabeled s o plus minus) k
    next-kept names z l c k = stands (next 0 plus minus b) on n (Holding m s b n (only o)) c k names
        (λ σ. ((λ g. (let q = sized in omega arith, g.1 0 z o refl, g.0)), λ g. (g.2, fixed-only n o σ g.1)))

    next-other : s.objects ≤ o → Barred m s (step ℓ o)
    next-other l = fails (next 0 plus minus b) on (λ q. let i = q.0 in let z = sized in omega arith)

    next-fails : ((σ : ℕ → ℕ) → Holding m s b n (only o) σ → ⊥) → Barred m s (step ℓ o)
    next-fails h = fails (next 0 plus minus b) on (λ q. h q.1.0 (q.1.2, fixed-only n o q.1.0 q.1.1))

-- A STEP OF A CLAUSE that is not allowed
module _ (m : Model) (v : View) (s : Session) (slots w : List ℕ) (c : Clause) (t : Stepping m v s slots w c) (o : ℕ) where
  -- the object is none for the line
  pub unfit : (a : Action) → c.action ≡ a → Fixes a s.objects o None → Barred m s (step c.line o)
  unfit (Rule r n) e f = no_step m s v w t.ready t.left c.line o r (up_from 0 n) (body m v s slots w c t) (on-action m v s slots w c t (Rule r n) e)
  unfit (New set) e f = new-other m s v w t.ready t.left c.line o set (body m v s slots w c t) c.variables (on-action m v s slots w c t (New set) e) f
  unfit (Next plus minus) e f = next-other m s v w t.ready t.left c.line o plus minus (body m v s slots w c t) c.variables (on-action m v s slots w c t (Next plus minus) e) f

  -- the body holds for no choice with the objects fixed
  pub unheld : (a : Action) → c.action ≡ a → (k : Choice) → Fixes a s.objects o (Some k) → ((σ : ℕ → ℕ) → Holding m s (body m v s slots w c t) c.variables k σ → ⊥) → Barred m s (step c.line o)
  unheld (Rule r n) e k f h = absurd f
  unheld (New set) e k f h = new-fails m s v w t.ready t.left c.line o set (body m v s slots w c t) c.variables (on-action m v s slots w c t (New set) e) k f.1 h
  unheld (Next plus minus) e k f h = next-fails m s v w t.ready t.left c.line o plus minus (body m v s slots w c t) c.variables (on-action m v s slots w c t (Next plus minus) e)
      (subst (λ (d : Choice). (σ : ℕ → ℕ) → Holding m s (body m v s slots w c t) c.variables d σ → ⊥) f.1 h)

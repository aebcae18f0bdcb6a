-- One stage more, whatever its row.
use mathlib.Core.Path.{◌≡◌, refl, sym, ap, subst, ◌∙◌}
use mathlib.Core.List.{List, [], ◌∷◌, ◌++◌}
use Prim.Native.Nat.{ℕ, ◌+◌, ◌≤◌, ◌<◌}
use native.Mathlib.Omega.{arith}
use Rattle.limits.specs.Limits as limit
use Rattle.model.specs.declared.Model.{Model}
use Rattle.grammar.specs.Forms as forms
use Rattle.grammar.specs.Declarations.{Declared}
use Rattle.grammar.specs.Rows.{lower, body_fault, scope_fault, stages_fault}
use Rattle.grammar.proofs.Lower.{lower-first, lower-none}
use Rattle.std.specs.Prelude.{Result, Ok, Err, IfOk}
use Rattle.rows.specs.declared.Row.{Row}
use Rattle.text_faults.specs.Faults.{fault_in, Both}
use Rattle.text_scope.specs.Scopes as scopes
use Rattle.text_literals.specs.Frames as frames
use Rattle.text_literals.specs.Frames.{Framed}
use Rattle.text_literals.specs.declared.Frame.{Frame}
use Rattle.text_rows.specs.declared.Taken.{Taken}
use Rattle.text_clauses.specs.Clauses.{Completed}
use Rattle.text_clauses.proofs.Laws.{final, body-short}
use Rattle.text_carried.specs.Asking as asking
use Rattle.text_stages.specs.Questions.{with_stage, Stored, Asked, Holds, Aside, Addable, Added}
use Rattle.text_scope.specs.declared.Scope.{Scope}
use Rattle.text_stages.proofs.Laws.{fault-more, stored_more}

-- A RECORD with one stage more, or none, keeps the rest
pub none-aside : {m : Model} → Aside m m
none-aside = record { relations = refl; names = refl; clauses = refl; clausecount = refl; lines = refl }

stage-aside : {m : Model} (f : Frame) (ns : List ℕ) → Aside m (with_stage m f ns)
stage-aside f ns = record { relations = refl; names = refl; clauses = refl; clausecount = refl; lines = refl }

-- the number of the stages with the one more
module _ (text : List ℕ) (s : Asked) (m : Model) (b : Taken frames.Framed) {own : Framed} {r : Result (Scope limit.asked × Frame) Row} (o : Completed b.kept own) (t : Both s own r) where
  module _ {D : Declared} {m₀ : Model} {qs : List (List forms.Literal)} {q : List forms.Literal} (so : Holds text D m₀ qs s m) (fr : frames.Holds text D [] 0 q b.kept) where
    own-number : fault_in own ≡ lower (body_fault D q) (scope_fault [] q)
    own-number = o.row ∙ final D [] 0 q (omega arith) b.kept fr ∙ lower-first 0 (lower (body_fault D q) (scope_fault [] q)) refl

    number_more : fault_in r ≡ stages_fault D (qs ++ (q ∷ []))
    number_more = t.number ∙ rw (so.number, own-number) (sym (fault-more q D qs))

  pub added-fault : (x : Row) → r ≡ Err x → Added text s m b (Err x) m
  added-fault x z = record { added = λ D m₀ qs q few so fr. record { number = ap fault_in (sym z) ∙ number_more so fr; stored = tt }; aside = none-aside; unwritten = refl }

  -- where there is none
  module _ (a : Scope limit.asked) (f : Frame) (z : r ≡ Ok (a, f)) where
    parts : (s ≡ Ok a) × (own ≡ Ok f)
    parts = rw z at t.values

    is_frame : b.kept ≡ Ok f
    is_frame = rw (parts.1) at o.value

    stage_body : {D : Declared} {q : List forms.Literal} → frames.Holds text D [] 0 q b.kept → frames.Body text D [] q f
    stage_body {D} {q} fr = subst (λ (g : Framed). IfOk g (frames.Body text D [] q)) is_frame fr.body

    stored-before : {D : Declared} {m₀ : Model} {qs : List (List forms.Literal)} → Holds text D m₀ qs s m → Stored text D m₀ qs a m
    stored-before {D} {m₀} {qs} so = subst (λ (g : Asked). IfOk g (λ u. Stored text D m₀ qs u m)) parts.0 so.stored

    faultless : {D : Declared} {m₀ : Model} {qs : List (List forms.Literal)} {q : List forms.Literal} → Holds text D m₀ qs s m → frames.Holds text D [] 0 q b.kept → body_fault D q ≡ 0
    faultless {D} {q = q} so fr = (lower-none (body_fault D q) (scope_fault [] q) (sym (own-number so fr) ∙ ap fault_in parts.1)).0

    pub stage-ready : Addable text s m b → (m.stagecount < 4) × (m.literalcount + f.size ≤ limit.literals) × (f.size ≤ 8) × (f.scope.count ≤ 3)
    stage-ready p =
        let y = stored-before p.holds in
        let v = stage_body p.frame in
        let h = body-short v in
        (omega (arith, y.stagecount, p.few), omega (arith, y.room, p.few), h, v.scope.valid.count)

    pub added-stage : {t' : Scope limit.asked} {ns : List ℕ} {m' : Model} → asking.Numbers text a (scopes.known_of text f.scope) t' ns → m' ≡ with_stage m f ns
        → Added text s m b (Ok t') m'
    added-stage nu e = record {
      added = λ D m₀ qs q few so fr. record {
        number = ap fault_in (sym z) ∙ number_more so fr;
        stored = rw e (stored_more (stored-before so) few (faultless so fr) (stage_body fr) (body-short (stage_body fr)) nu);
      };
      aside = rw e (stage-aside f _);
      unwritten = tt;
    }

-- One stage more is stored, and those before it stay.
use mathlib.Core.Path.{◌≡◌, refl, sym, ap, ◌∙◌}
use mathlib.Core.Logic.{⊎_elim}
use mathlib.Core.Bool.{true, false}
use mathlib.Core.List.{List, [], ◌∷◌, ◌++◌, map, map-append, append-nil, append_assoc}
use Prim.Native.Nat.{ℕ, ◌+◌, ◌≤◌, ◌<◌}
use native.Mathlib.Numerals.{add-one}
use native.Mathlib.Omega.{arith}
use lib.Dec.{eqb}
use lib.ListN.{length, take, length-set, length-append}
use lib.Seq.{length-paste, take-set-le, get_or-set_same, take-take}
use borrow.Author.Tests.{eqb-true, eqb-false}
use Rattle.std.proofs.lemmas.Bool.{cases_Bool}
use Rattle.semantics.specs.Models as meaning
use Rattle.model.specs.Literals.{literal_of}
use Rattle.model.specs.Records as model
use Rattle.model.specs.Records.{stage_body, stage_at}
use Rattle.model.specs.declared.Model.{Model}
use Rattle.grammar.specs.Bytes.{Word}
use Rattle.grammar.specs.Forms as forms
use Rattle.grammar.specs.Declarations.{Declared, member, extend, place, variables, all_variables}
use Rattle.grammar.specs.Rows.{lower, body_fault, scope_fault, stages_fault}
use Rattle.grammar.specs.Models.{body_of, question_of}
use Rattle.grammar.proofs.Words.{member-left, member_right, extend-append, extend-new}
use Rattle.grammar.proofs.Lower.{lower-first, lower-second, lower-assoc}
use Rattle.grammar.proofs.Bodies.{body-stable}
use Rattle.acceptance.specs.Represents.{HoldsStage}
use Rattle.acceptance.specs.Growing.{Keeps}
use Rattle.acceptance.proofs.Questions.{ask_words, Within}
use Rattle.acceptance.proofs.Records.{line_words, stage-said, holds-stage}
use Rattle.acceptance.proofs.Growth.{held_stage, question-more}
use Rattle.text_scope.specs.Scopes as scopes
use Rattle.text_scope.proofs.Laws.{counted}
use Rattle.text_literals.specs.Frames as frames
use Rattle.text_literals.specs.declared.Frame.{Frame}
use Rattle.text_record.proofs.Laws.{copied, before}
use Rattle.text_carried.specs.Asking as asking
use Rattle.text_carried.specs.Asking.{own, each}
use Rattle.text_scope.specs.declared.Scope.{Scope}
use Rattle.limits.specs.Limits as limit
use Rattle.text_carried.proofs.Stages.{each-words}
use Rattle.text_stages.specs.Questions.{new_stage, with_stage, Stored}

-- ONE STAGE MORE, in words
module _ (q : List forms.Literal) where
  each_more : (qs : List (List forms.Literal)) → each (qs ++ (q ∷ [])) ≡ each qs ++ own q
  each_more [] = append-nil (own q)
  each_more (p ∷ qs) = rw (each_more qs) (sym (append_assoc (own p) (each qs) (own q)))

  variables-more : (qs : List (List forms.Literal)) → all_variables (qs ++ (q ∷ [])) ≡ all_variables qs ++ variables q
  unfolding all_variables
  variables-more [] = append-nil (variables q)
  variables-more (p ∷ qs) = rw (variables-more qs) (sym (append_assoc (variables p) (all_variables qs) (variables q)))

  pub fault-more : (D : Declared) (qs : List (List forms.Literal)) → stages_fault D (qs ++ (q ∷ [])) ≡ lower (stages_fault D qs) (lower (body_fault D q) (scope_fault [] q))
  unfolding stages_fault
  fault-more D [] = lower-second (lower (body_fault D q) (scope_fault [] q)) 0 refl ∙ sym (lower-first 0 (lower (body_fault D q) (scope_fault [] q)) refl)
  fault-more D (p ∷ qs) = rw (fault-more D qs) (sym (lower-assoc (lower (body_fault D p) (scope_fault [] p)) (stages_fault D qs) (lower (body_fault D q) (scope_fault [] q))))

  words_more : (qs : List (List forms.Literal)) → ask_words (qs ++ (q ∷ [])) ≡ extend (ask_words qs) (variables q)
  words_more qs = rw (variables-more qs) (extend-append [] (all_variables qs) (variables q))

  stable : (D : Declared) (vs ws : List Word) (ps : List (List forms.Literal)) → ((x : Word) → member x (all_variables ps) ≡ true → member x vs ≡ true) → map (body_of D (extend vs ws)) ps ≡ map (body_of D vs) ps
  unfolding all_variables
  stable D vs ws [] h = refl
  stable D vs ws (p ∷ ps) h = rw (body-stable D vs ws p (λ x m. h x (member-left x (variables p) (all_variables ps) m)), stable D vs ws ps (λ x m. h x (member_right x (variables p) (all_variables ps) m)))

  question-said : (D : Declared) (qs : List (List forms.Literal)) → question_of D (qs ++ (q ∷ [])) ≡ question_of D qs ++ (body_of D (ask_words (qs ++ (q ∷ []))) q ∷ [])
  question-said D qs =
      let e : map (body_of D (ask_words (qs ++ (q ∷ [])))) qs ≡ question_of D qs = (rw (words_more qs) (stable D (ask_words qs) (variables q) qs (λ x m. extend-new x [] (all_variables qs) m))) in
      map-append (body_of D (ask_words (qs ++ (q ∷ [])))) qs (q ∷ []) ∙ ap (λ (l : List meaning.Body). l ++ (body_of D (ask_words (qs ++ (q ∷ []))) q ∷ [])) e

-- ONE STAGE MORE in the record
module _ {text : List ℕ} {D : Declared} {m₀ : Model} {qs : List (List forms.Literal)} {t : Scope limit.asked} {m : Model} {q : List forms.Literal} {f : Frame} {t' : Scope limit.asked} {ns : List ℕ}
    (so : Stored text D m₀ qs t m) (few : length qs < 4) (faultless : body_fault D q ≡ 0) (body : frames.Body text D [] q f) (short : f.size ≤ 8)
    (numbers : asking.Numbers text t (scopes.known_of text f.scope) t' ns) where
  m' : Model
  m' = with_stage m f ns

  vs : List Word
  vs = ask_words (qs ++ (q ∷ []))

  fits : m.literalcount ≤ length m.literals
  fits = omega (arith, so.room, so.literals)

  enough : f.size ≤ length f.codes
  enough = omega (arith, body.codes)

  keeps : Keeps m m'
  unfolding m'
  keeps = record {
    clauses = refl;
    stages = take-set-le m.stagecount m.stages m.stagecount (new_stage m f ns) (omega arith);
    literals = before m.literals f.codes m.literalcount f.size fits enough m.literalcount (omega arith);
    literalcount = omega arith;
  }

  placed : stage_at m' m.stagecount ≡ new_stage m f ns
  unfolding m'
  placed = get_or-set_same m.stages m.stagecount (new_stage m f ns) _ (omega (arith, so.stagecount, so.stages))

  says : stage_body m'.literals (new_stage m f ns) ≡ body_of D (line_words [] q) q
  unfolding m'
  says = ap (map literal_of) (copied m.literals f.codes m.literalcount f.size fits enough) ∙ body.says

  counts : f.scope.count ≡ length (line_words [] q)
  counts = sym (counted body.scope)

  numbered : take f.scope.count ns ≡ map (place vs) (line_words [] q)
  unfolding vs
  numbered = rw (counts, sym (each-words [] (qs ++ (q ∷ []))), each_more q qs) (rw body.scope.known at (numbers.numbers (each qs) so.table))

  inside : Within vs (variables q)
  unfolding vs
  inside x e = rw (words_more q qs) (extend-new x (ask_words qs) (variables q) e)

  held : HoldsStage m' (new_stage m f ns)
  unfolding m'
  held = holds-stage D m' vs (new_stage m f ns) q faultless inside says counts numbered (omega arith) body.scope.valid.count numbers.room

  question : model.question_of m' ≡ question_of D (qs ++ (q ∷ []))
  unfolding m' vs
  question =
      question-more m m' keeps so.stage (add-one m.stagecount) (omega (arith, so.stagecount, so.stages, length-set m.stages m.stagecount (new_stage m f ns)))
      ∙ rw (placed, stage-said D m' vs (new_stage m f ns) q faultless inside says counts numbered, so.question)
      (sym (question-said q D qs))

  stages-held : (i : ℕ) → i < m.stagecount + 1 → HoldsStage m' (stage_at m' i)
  stages-held i h = ⊎_elim
      (λ (e : eqb i m.stagecount ≡ true). rw (eqb-true i m.stagecount e, placed) held)
      (λ (e : eqb i m.stagecount ≡ false). held_stage m m' keeps so.stage i (let z = eqb-false i m.stagecount e in omega arith))
      (cases_Bool (eqb i m.stagecount))

  pub stored_more : Stored text D m₀ (qs ++ (q ∷ [])) t' (with_stage m f ns)
  unfolding m'
  stored_more =
      let n = length-append qs (q ∷ []) in
      record {
        table = rw (each_more q qs) (rw body.scope.known at (numbers.holds (each qs) so.table));
        few = let a = numbers.few in let b = so.few in let c = ap length body.scope.known in let d = counts in let e = body.scope.valid.count in omega arith;
        kept = sym (take-take m₀.literalcount m.literalcount m'.literals so.longer) ∙ ap (take m₀.literalcount) keeps.literals ∙ take-take m₀.literalcount m.literalcount m.literals so.longer ∙ so.kept;
        longer = let a = so.longer in omega arith;
        relations = so.relations;
        names = so.names;
        clauses = so.clauses;
        clausecount = so.clausecount;
        lines = so.lines;
        stagecount = omega (arith, so.stagecount);
        question = question;
        stage = stages-held;
        room = let a = so.room in omega arith;
        literals = length-paste m.literals m.literalcount f.codes f.size (let a = so.room in omega (arith, so.literals)) enough ∙ so.literals;
        stages = length-set m.stages m.stagecount (new_stage m f ns) ∙ so.stages;
      }

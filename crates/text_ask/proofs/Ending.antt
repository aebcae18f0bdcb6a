-- The `ask` line as a whole: its first stage, the others, and its row.
use mathlib.Core.Path.{◌≡◌, refl, sym, ap, ◌∙◌}
use mathlib.Core.Logic.{◌⊎◌, inl, inr}
use mathlib.Core.Bool.{Bool, true, false, cond, not, ◌&&◌}
use mathlib.Core.List.{List, [], ◌∷◌}
use mathlib.Core.Option.{none, some}
use Prim.Native.Nat.{ℕ, zero, suc, ◌≤◌}
use native.Mathlib.Omega.{arith}
use lib.Dec.{ltb}
use lib.ListN.{length, take, drop, get_or, replicate, length-map}
use Rattle.limits.specs.Limits as limit
use Rattle.model.specs.Records as model
use Rattle.model.specs.Records.{padded}
use Rattle.model.specs.declared.Model.{Model}
use Rattle.grammar.specs.Forms as forms
use Rattle.grammar.specs.Shapes.{Read, stage, ask_rest, whole, rest}
use Rattle.grammar.specs.Declarations.{Declared, extend, place}
use Rattle.grammar.specs.Rows.{lower, row, body_fault, supported, few, scope_fault, stages_fault, carried, carries_many, fault}
use Rattle.grammar.specs.Models.{body_of}
use Rattle.grammar.proofs.Lower.{lower-first, lower-bound, lower-under}
use Rattle.std.specs.Prelude.{Some, None, Result, Ok, Err}
use Rattle.rows.specs.Rows.{number_of}
use Rattle.rows.specs.declared.Row.{Row}
use Rattle.rows.proofs.Laws.{some-number}
use Rattle.text_faults.specs.Faults.{shaped}
use Rattle.acceptance.proofs.Questions.{ask_words, carriers-words}
use Rattle.text_literals.proofs.Adding.{body-bound}
use Rattle.text_rows.specs.declared.Taken.{Taken}
use Rattle.text_literals.specs.Frames.{Framed}
use Rattle.text_clauses.proofs.Laws.{row-bound, whole-all, whole_part}
use Rattle.text_carried.specs.Asking as asking
use Rattle.text_carried.specs.Asking.{marked}
use Rattle.text_scope.specs.Scopes as scopes
use Rattle.text_scope.specs.Scopes.{blank}
use Rattle.text_scope.specs.declared.Scope.{Scope}
use Rattle.text_bodies.proofs.Laws.{empty-scope}
use Rattle.text_carried.proofs.Stages.{marked-carried}
use Rattle.text_stages.specs.Questions.{Empty, Stored, Asked, Holds, Added}
use Rattle.text_bodies.specs.Bodies.{StageEnd}
use Rattle.text_ask.specs.Asks.{StagesEnd, carrying, cells_of, finished, Asks, AskEnd}

-- NO STAGES
unmarked : (n i : ℕ) → (get_or (replicate n blank) i blank).marked ≡ false
unmarked zero i = refl
unmarked (suc n) zero = refl
unmarked (suc n) (suc i) = unmarked n i

pub no_words : {text : List ℕ} {t : Scope limit.asked} → (t.count ≡ 0) × (t.variables ≡ replicate limit.asked blank) → asking.Holds text t []
unfolding scopes.known_of extend
no_words (z, e) = record {
  valid = (empty-scope (z, e)).valid;
  known = rw z;
  again = λ i. rw e (unmarked limit.asked i);
}

module _ {text : List ℕ} {D : Declared} {t : Scope limit.asked} {m : Model} (empty : Empty m) (words : asking.Holds text t []) (count : t.count ≡ 0) where
  none-stored : Stored text D m [] t m
  unfolding model.question_of
  none-stored = record {
    table = words;
    few = omega arith;
    kept = refl;
    longer = omega arith;
    relations = refl;
    names = refl;
    clauses = refl;
    clausecount = refl;
    lines = refl;
    stagecount = empty.stagecount;
    question = rw empty.stagecount;
    stage = λ i h. absurd (omega (arith, empty.stagecount));
    room = omega (arith, empty.literalcount);
    literals = empty.literals;
    stages = empty.stages;
  }

  pub none-held : Holds text D m [] (Ok t) m
  unfolding stages_fault
  none-held = record { number = refl; stored = none-stored }

-- NUMBERS of the stages
stages-bound : (D : Declared) (qs : List (List forms.Literal)) → stages_fault D qs ≤ 9
unfolding stages_fault
stages-bound D [] = omega arith
stages-bound D (q ∷ qs) = lower-bound (lower (body_fault D q) (scope_fault [] q)) (stages_fault D qs) 9
    (lower-bound (body_fault D q) (scope_fault [] q) 9 (let u = body-bound D q in omega arith) (row-bound 9 (not (supported [] q && few [] q)) (omega arith))) (stages-bound D qs)

-- THE END: the record with the cells, or a row and any record
abbrev pub AskJudged : Declared → Model → Model → Read forms.Form → Result (List ℕ) Row → Type 0
AskJudged D m₀ m read (Err x) = (m' : Model) → AskEnd D m₀ read (Err x) m'
AskJudged D m₀ m read (Ok cells) = AskEnd D m₀ read (Ok tt) (carrying m cells)

module _ (text : List ℕ) (D : Declared) (m₀ m : Model) (qs : List (List forms.Literal)) (empty : Empty m₀) (short : length qs ≤ 4) where
  asks : {t : Scope limit.asked} → Stored text D m₀ qs t m → stages_fault D qs ≡ 0 → Asks D m₀ qs (carrying m (padded limit.carried (marked t)))
  unfolding model.question_of
  asks {t} st z = record {
    relations = st.relations;
    names = st.names;
    lines = st.lines;
    clauses = st.clauses;
    clausecount = st.clausecount;
    keeps = record {
      clauses = ap (take m₀.clausecount) st.clauses;
      stages = rw empty.stagecount;
      literals = st.kept;
      literalcount = st.longer;
    };
    stagecount = st.stagecount ∙ sym (length-map qs (body_of D (ask_words qs)));
    question = st.question;
    stage = λ i h. let g = st.stage i h in record { within = g.within; few = g.few; numbered = g.numbered; numbers = g.numbers; room = g.room };
    carried = ap (padded limit.carried) (marked-carried qs st.table ∙ sym (carriers-words D qs z));
    literalcount = omega (arith, st.room);
    literals = st.literals;
    stages = st.stages;
  }

  high : (b : Bool) → (row 11 b ≡ 0) ⊎ (stages_fault D qs ≤ row 11 b)
  high true = inr (let u = stages-bound D qs in omega arith)
  high false = inl refl

  module _ (read : Read forms.Form) (w : whole read ≡ some (forms.ask_form qs)) where
    refused : (r : Row) (m' : Model) → number_of r ≡ stages_fault D qs → AskEnd D m₀ read (Err r) m'
    unfolding fault
    refused r m' e = shaped (forms.ask_form qs) w (λ clauses. e ∙ sym (lower-under (stages_fault D qs) (row 11 (carries_many qs)) (λ z. some-number r (e ∙ z)) (high (carries_many qs)))) tt

    module _ (t : Scope limit.asked) (so : Holds text D m₀ qs (Ok t) m) where
      many-carried : ltb limit.carried (length (marked t)) ≡ carries_many qs
      many-carried = rw (marked-carried qs so.stored.table, length-map (carried qs (ask_words qs)) (place (ask_words qs)))

      eleven : (b : Bool) → carries_many qs ≡ b → (clauses : ℕ) → row 11 b ≡ fault D clauses (forms.ask_form qs)
      unfolding fault
      eleven b q clauses = sym (lower-first (stages_fault D qs) (row 11 (carries_many qs)) (sym so.number) ∙ ap (row 11) q)

      ended : (b : Bool) → carries_many qs ≡ b → AskJudged D m₀ m read (cells_of (cond b None (Some (padded limit.carried (marked t)))))
      ended true q = λ m'. shaped (forms.ask_form qs) w (eleven true q) tt
      ended false q = shaped (forms.ask_form qs) w (eleven false q) (qs, refl, asks so.stored (sym so.number))

      accepted : AskJudged D m₀ m read (finished (Ok t))
      accepted = ended (ltb limit.carried (length (marked t))) (sym many-carried)

    pub finished-judged : (s : Asked) → Holds text D m₀ qs s m → AskJudged D m₀ m read (finished s)
    finished-judged (Err r) so = λ m'. refused r m' so.number
    finished-judged (Ok t) so = accepted t so

-- THE LINE
pub ask-unopened : (text : List ℕ) (at : ℕ) → stage (drop at text) ≡ none → whole (ask_rest (drop at text)) ≡ none
unfolding ask_rest
ask-unopened text at h = rw h

module _ (text : List ℕ) (at : ℕ) {D : Declared} {b : Taken Framed} (first : StageEnd text D at b) where
  pub ask-unread : rest stage 3 (drop b.end text) ≡ none → whole (ask_rest (drop at text)) ≡ none
  unfolding ask_rest
  ask-unread h = rw (first.read, h)

  module _ {m u v : Model} {s f : Asked} {r : Taken Asked} (start : Holds text D m [] s m) (ad : Added text s m b f u) (others : StagesEnd text D b.end 3 f u r v) where
    first-held : Holds text D m (first.q ∷ []) f u
    first-held = ad.added D m [] first.q (omega arith) start first.holds

    pub ask-unended : (r.end ≡ length text → ⊥) → whole (ask_rest (drop at text)) ≡ none
    unfolding ask_rest
    ask-unended z = rw (first.read, others.read) (whole_part (forms.ask_form (first.q ∷ others.more)) text r.end (let y = others.ends in omega arith))

    pub ask-ended : {g : Result (List ℕ) Row} → Empty m → r.end ≡ length text → g ≡ finished r.kept → AskJudged D m v (ask_rest (drop at text)) g
    unfolding ask_rest
    ask-ended empty z e =
        let l = others.few in
        rw e (finished-judged text D m v (first.q ∷ others.more) empty (omega arith) (ask_rest (drop at text)) (rw (first.read, others.read) (whole-all (forms.ask_form (first.q ∷ others.more)) text r.end (omega arith)))
        r.kept (others.holds m (first.q ∷ []) (omega arith) first-held))

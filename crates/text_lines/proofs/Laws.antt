-- Laws of lines.
use mathlib.Core.Path.{◌≡◌, refl, sym, ap, subst, ◌∙◌}
use mathlib.Core.Logic.{⊎_elim}
use mathlib.Core.Bool.{true, false}
use mathlib.Core.List.{List, [], ◌∷◌, append-nil}
use mathlib.Core.Option.{none, some}
use Prim.Native.Nat.{ℕ, ◌+◌, ◌≤◌, ◌<◌}
use native.Mathlib.Omega.{arith}
use lib.Dec.{leb}
use lib.ListN.{length, drop}
use borrow.Author.Tests.{leb-false}
use Rattle.std.proofs.lemmas.Bool.{cases_Bool}
use Rattle.limits.specs.Limits as limit
use Rattle.semantics.specs.Models as meaning
use Rattle.semantics.specs.Models.{Program}
use Rattle.model.specs.Records.{line_of}
use Rattle.model.specs.declared.Action.{Action}
use Rattle.model.specs.declared.Model.{Model}
use Rattle.grammar.specs.Bytes.{bytes}
use Rattle.grammar.specs.Forms.{Form, state_form, rel_form, rule_form, new_form, next_form, ask_form}
use Rattle.grammar.specs.Shapes.{Read, after, line, state_rest, rel_rest, rule_rest, new_rest, next_rest}
use Rattle.grammar.specs.Rows.{row, many_clauses, fault}
use Rattle.grammar.specs.Declarations as grammar
use Rattle.grammar.specs.Models.{declare, clause}
use Rattle.grammar.proofs.Lower.{lower-none}
use Rattle.std.specs.Prelude.{Result, Ok, Err, IfErr}
use Rattle.rows.specs.declared.Row.{Row}
use Rattle.rows.proofs.Laws.{some-number}
use Rattle.text_faults.specs.Faults.{fault_in, unshaped, shaped}
use Rattle.text_names.specs.Names.{Valid, declared_of}
use Rattle.text_names.specs.declared.Declared.{Declared}
use Rattle.text_declarations.specs.Declares.{Limited, DeclarationEnd}
use Rattle.text_literals.specs.declared.Frame.{Frame}
use Rattle.text_clauses.specs.Clauses.{GoodClause, ClauseEnd, body_in}
use Rattle.text_clauses.specs.declared.Reading.{Reading}
use Rattle.text_record.specs.Stored as stored
use Rattle.text_record.specs.Stored.{with_clause}
use Rattle.text_record.proofs.Laws.{stored-room, stored as stored-law}
use Rattle.text_lines.specs.Lines.{GoodStep, Stepped, Aside, ClauseRead, LineEnd}
use Rattle.text_lines.proofs.Forms.{Only, state-only, rel-only}

-- ANSWERS
pub ok-err : {A B : Type 0} {a : A} {x : Row} → ◌≡◌ {A = Result A Row} (Ok a) (Err x) → B
ok-err {x = x} q = absurd (some-number x (sym (ap fault_in q)))

row-same : {A : Type 0} {x y : Row} → ◌≡◌ {A = Result A Row} (Err x) (Err y) → x ≡ y
row-same {A} {x} q = subst (λ (r : Result A Row). IfErr r (λ z. x ≡ z)) q refl

-- A FORM THAT ADDS A CLAUSE leaves the declarations, and there was room for it

row-four : (k : ℕ) → row 4 (many_clauses k) ≡ 0 → k < 64
row-four k e = ⊎_elim (λ (q : leb 64 k ≡ true). absurd (let g = rw q at e in omega arith)) (λ (q : leb 64 k ≡ false). leb-false 64 k q) (cases_Bool (leb 64 k))

clause-form : (D : grammar.Declared) (k n : ℕ) (l : meaning.Line) (f : Form) → fault D k f ≡ 0 → clause D n f ≡ (n, l) ∷ [] → (k < 64) × (declare D f ≡ D)
unfolding fault clause declare
clause-form D k n l (state_form w) e c = cc
clause-form D k n l (rel_form w a) e c = cc
clause-form D k n l (rule_form h b) e c = (row-four k (lower-none (row 4 (many_clauses k)) _ e).0, refl)
clause-form D k n l (new_form w b) e c = (row-four k (lower-none (row 4 (many_clauses k)) _ e).0, refl)
clause-form D k n l (next_form x p q b) e c = (row-four k (lower-none (row 4 (many_clauses k)) _ e).0, refl)
clause-form D k n l (ask_form qs) e c = cc

-- the clause of a good form is stored
module _ {text : List ℕ} {d : Declared} {m : Model} {P : Program} (n : ℕ) {form : Form} {r : Reading} (so : stored.Holds m P) (v : Valid text d) (li : Limited d)
    (c : GoodClause (declared_of text d) form r) (z : 0 ≡ fault (declared_of text d) m.clausecount form) where
  few : (m.clausecount < 64) × (declare (declared_of text d) form ≡ declared_of text d)
  few = clause-form (declared_of text d) m.clausecount n (line_of r.action (body_in r.frame)) form (sym z) (c.says n)

  clause-room : (m.clausecount < limit.clauses) × (m.literalcount + r.frame.size ≤ limit.literals) × (r.frame.size ≤ limit.body) × (r.frame.scope.count ≤ limit.variables)
  clause-room = (few.0, stored-room m P n r.action r.frame so few.0 c.size c.codes, c.size, c.count)

  clause-good : GoodStep text d P n d (with_clause m n r.action r.frame) form
  clause-good = record {
    valid = v;
    limited = li;
    declared = sym few.1;
    stored = rw (c.says n) (stored-law m P n r.action r.frame so few.0 c.size c.codes c.numbered);
  }

module _ {text : List ℕ} {d : Declared} {m : Model} {P : Program} (n : ℕ) {read : Read Form} (so : stored.Holds m P) (v : Valid text d) (li : Limited d) where
  clause-storable : {r : Reading} → ClauseEnd (declared_of text d) m.clausecount read (Ok r) → (m.clausecount < limit.clauses) × (m.literalcount + r.frame.size ≤ limit.literals) × (r.frame.size ≤ limit.body) × (r.frame.scope.count ≤ limit.variables)
  clause-storable (unshaped w q) = absurd (ok-err q)
  clause-storable (shaped form w q g) = clause-room n so v li g q

  clause-refused : (x : Row) → ClauseEnd (declared_of text d) m.clausecount read (Err x) → Stepped text d P n read (Err x) d m
  clause-refused x (unshaped w q) = unshaped w (ap Err (row-same q))
  clause-refused x (shaped form w q g) = shaped form w (q ∙ ap (λ (k : ℕ). fault (declared_of text d) k form) so.count) tt

  clause-accepted : {r : Reading} → ClauseEnd (declared_of text d) m.clausecount read (Ok r) → Stepped text d P n read (Ok tt) d (with_clause m n r.action r.frame)
  clause-accepted (unshaped w q) = absurd (ok-err q)
  clause-accepted (shaped form w q g) = shaped form w (q ∙ ap (λ (k : ℕ). fault (declared_of text d) k form) so.count) (clause-good n so v li g q)

-- A RECORD with one clause more, or none, keeps the rest
none-aside : {m : Model} → Aside m m
none-aside = record { relations = refl; names = refl; stages = refl; stagecount = refl; carried = refl; lines = refl }

clause-aside : {m : Model} (n : ℕ) (action : Action) (f : Frame) → Aside m (with_clause m n action f)
clause-aside n action f = record { relations = refl; names = refl; stages = refl; stagecount = refl; carried = refl; lines = refl }

-- A DECLARATION leaves the program
module _ {text : List ℕ} {d : Declared} {m : Model} {P : Program} {n : ℕ} {read : Read Form} (so : stored.Holds m P) (h : Only (λ f. clause (declared_of text d) n f ≡ []) read) where
  declaration-refused : (x : Row) → DeclarationEnd text d read (Err x) → Stepped text d P n read (Err x) d m
  declaration-refused x (unshaped w q) = unshaped w (ap Err (row-same q))
  declaration-refused x (shaped form w q g) = shaped form w (q (length P)) tt

  declaration-step : {r : Declared} → DeclarationEnd text d read (Ok r) → Stepped text d P n read (Ok tt) r m
  declaration-step (unshaped w q) = absurd (ok-err q)
  declaration-step (shaped form w q g) = shaped form w (q (length P)) (record { valid = g.valid; limited = g.limited; declared = g.declared; stored = rw (h form w, append-nil P) so })

-- what a `state` or `rel` line reads is no clause
module _ (D : grammar.Declared) (n : ℕ) where
  pub state-none : (s : List ℕ) → Only (λ f. clause D n f ≡ []) (state_rest s)
  unfolding clause
  state-none = state-only (λ f. clause D n f ≡ []) (λ w. refl)

  pub rel-none : (s : List ℕ) → Only (λ f. clause D n f ≡ []) (rel_rest s)
  unfolding clause
  rel-none = rel-only (λ f. clause D n f ≡ []) (λ w k. refl)

-- BY THE FIRST WORD
module _ (s : List ℕ) {t : List ℕ} where
  pub line-state : after (bytes "(state ") s ≡ some t → line s ≡ state_rest t
  unfolding line
  line-state h = rw h

  module _ (a : after (bytes "(state ") s ≡ none) where
    pub line-rel : after (bytes "(rel ") s ≡ some t → line s ≡ rel_rest t
    unfolding line
    line-rel h = rw (a, h)

    module _ (b : after (bytes "(rel ") s ≡ none) where
      pub line-rule : after (bytes "(rule ") s ≡ some t → line s ≡ rule_rest t
      unfolding line
      line-rule h = rw (a, b, h)

      module _ (c : after (bytes "(rule ") s ≡ none) where
        pub line-new : after (bytes "(new ") s ≡ some t → line s ≡ new_rest t
        unfolding line
        line-new h = rw (a, b, c, h)

        pub line-next : after (bytes "(new ") s ≡ none → after (bytes "(next ") s ≡ some t → line s ≡ next_rest t
        unfolding line
        line-next e h = rw (a, b, c, e, h)

pub line-none : (s : List ℕ) → after (bytes "(state ") s ≡ none → after (bytes "(rel ") s ≡ none → after (bytes "(rule ") s ≡ none → after (bytes "(new ") s ≡ none → after (bytes "(next ") s ≡ none
    → after (bytes "(ask ") s ≡ none → line s ≡ none
unfolding line
line-none s a b c d e f = rw (a, b, c, d, e, f)

-- THE LINE. One that declares
module _ {text : List ℕ} {at : ℕ} {d : Declared} {m : Model} {n : ℕ} (read : Read Form) (only : Only (λ f. clause (declared_of text d) n f ≡ []) read) (h : line (drop at text) ≡ read) where
  pub line-undeclared : (x : Row) → DeclarationEnd text d read (Err x) → LineEnd text at d m n (Err x) d m
  line-undeclared x e = record { steps = λ y P so. rw h (declaration-refused so only x e); aside = none-aside; unwritten = (refl, refl) }

  pub line-declared : {r : Declared} → DeclarationEnd text d read (Ok r) → LineEnd text at d m n (Ok tt) r m
  line-declared e = record { steps = λ y P so. rw h (declaration-step so only e); aside = none-aside; unwritten = tt }

-- one that has a clause
module _ {text : List ℕ} (at : ℕ) {d : Declared} {m : Model} (n : ℕ) (v : Valid text d) (li : Limited d) where
  pub line-refused : (x : Row) → ClauseRead text at d m.clausecount (Err x) → LineEnd text at d m n (Err x) d m
  line-refused x e = record { steps = λ y P so. clause-refused n so v li x (e (λ q. y (ap Err (row-same q)))); aside = none-aside; unwritten = (refl, refl) }

  pub line-stored : {r : Reading} → ClauseRead text at d m.clausecount (Ok r) → LineEnd text at d m n (Ok tt) d (with_clause m n r.action r.frame)
  line-stored {r} e = record { steps = λ y P so. clause-accepted n so v li (e ok-err); aside = clause-aside n r.action r.frame; unwritten = tt }

  pub line-storable : {r : Reading} {P : Program} → stored.Holds m P → ClauseRead text at d m.clausecount (Ok r) → (m.clausecount < limit.clauses) × (m.literalcount + r.frame.size ≤ limit.literals) × (r.frame.size ≤ limit.body) × (r.frame.scope.count ≤ limit.variables)
  line-storable so e = clause-storable n so v li (e ok-err)

-- GOING FROM LINE TO LINE: what the spec-level reader does with a line, and what was declared stays as more of the text is looked at.
use mathlib.Core.Path.{◌≡◌, refl, sym, ap, ◌∙◌}
use mathlib.Core.List.{List, [], ◌∷◌, ◌++◌, append-nil}
use mathlib.Core.Logic.{⊎_elim}
use mathlib.Core.Bool.{true, false}
use mathlib.Core.Option.{none, some}
use Prim.Native.Nat.{ℕ, suc, ◌≤◌}
use native.Mathlib.Omega.{arith}
use lib.Dec.{eqb}
use lib.ListN.{length, take}
use lib.Seq.{length-take-le}
use borrow.Author.Tests.{eqb-true, eq-eqb, ne_eqb}
use Rattle.std.proofs.lemmas.Bool.{cases_Bool}
use Rattle.semantics.specs.Models.{Program}
use Rattle.grammar.specs.Bytes.{bytes, every, allowed, Line, ended}
use Rattle.grammar.specs.Forms.{Literal, Form, state_form, rel_form, rule_form, new_form, next_form, ask_form}
use Rattle.grammar.specs.Shapes.{after, whole, line, form_of, state_rest, rel_rest, rule_rest, new_rest, next_rest, ask_rest}
use Rattle.grammar.specs.Declarations as grammar
use Rattle.grammar.specs.Rows.{fault}
use Rattle.grammar.specs.Models.{declare, clause, question_of}
use Rattle.grammar.specs.Texts.{Outcome, accepted, refused, bad, judge, Step, wrong, adds, asks, effect, step, finish, read_lines}
use Rattle.text_names.specs.Names.{name_at, begin, end, entry, declared_of, Valid}
use Rattle.text_names.specs.declared.Declared.{Declared}
use Rattle.text_names.proofs.Laws.{list_of-same, slice-prefix}
use Rattle.text_lines.proofs.Forms.{Only, only_none, only-either, state-only, rel-only, rule-only, new-only, next-only}

-- LONGER PARTS OF THE TEXT
module _ (text : List ℕ) (d : Declared) (a b : ℕ) (h : a ≤ b) (k : b ≤ length text) (v : Valid (take a text) d) where
  pub valid-longer : Valid (take b text) d
  valid-longer = record {
    count = v.count;
    names = v.names;
    within = λ i l. let w = v.within i l in omega (arith, length-take-le a text (omega arith), length-take-le b text k);
    coded = v.coded;
  }

  pub declared-longer : declared_of (take b text) d ≡ declared_of (take a text) d
  unfolding declared_of
  declared-longer = list_of-same d.count (entry (take b text) d) (entry (take a text) d) (λ i l.
      let n = name_at d i in
      let w : end n ≤ a = (let u = v.within i l in omega (arith, length-take-le a text (omega arith))) in
      rw (slice-prefix text (begin n) (end n) b (omega arith), slice-prefix text (begin n) (end n) a w))

-- ONE LINE of the spec-level reader
module _ (n : ℕ) (D : grammar.Declared) (P : Program) (ls : List Line) where
  -- what follows a step
  abbrev goes : Step → Outcome
  goes (wrong r) = refused r n
  goes (adds E R) = read_lines (suc n) E R ls
  goes (asks o) = finish n o ls

  reads-step : (l : Line) (t : Step) → step n D P (judge l) ≡ t → read_lines n D P (l ∷ ls) ≡ goes t
  unfolding read_lines
  reads-step l t e = same-goes (step n D P (judge l)) ∙ ap goes e
    where
      same-goes : (u : Step) → (elim u as (λ _. Outcome) [ wrong r ↦ refused r n | adds E R ↦ read_lines (suc n) E R ls | asks o ↦ finish n o ls ]) ≡ goes u
      same-goes (wrong r) = refl
      same-goes (adds E R) = refl
      same-goes (asks o) = refl

  -- row 2
  pub reads-bad : (l : Line) → judge l ≡ bad 2 → read_lines n D P (l ∷ ls) ≡ refused 2 n
  unfolding step
  reads-bad l h = reads-step l (wrong 2) (rw h)

  module _ (s : List ℕ) (ok : every allowed s ≡ true) where
    -- row 3
    pub reads-unshaped : form_of s ≡ none → read_lines n D P (ended s ∷ ls) ≡ refused 3 n
    unfolding step judge
    reads-unshaped h = reads-step (ended s) (wrong 3) (rw (ok, h))

    module _ (f : Form) (h : form_of s ≡ some f) where
      -- rows 4 to 9 and 11
      pub reads-faulty : (fault D (length P) f ≡ 0 → ⊥) → read_lines n D P (ended s ∷ ls) ≡ refused (fault D (length P) f) n
      unfolding step judge
      reads-faulty z = reads-step (ended s) (wrong (fault D (length P) f)) (rw (ok, h, ne_eqb (fault D (length P) f) 0 z))

      reads-fine : fault D (length P) f ≡ 0 → read_lines n D P (ended s ∷ ls) ≡ goes (effect n D P f)
      unfolding step judge
      reads-fine z = reads-step (ended s) (effect n D P f) (rw (ok, h, eq-eqb (fault D (length P) f) 0 z))

-- a line without fault that is no `ask` line adds to the declarations and the program
abbrev pub NoAsk : Form → Type 0
NoAsk (state_form w) = Unit {0}
NoAsk (rel_form w a) = Unit {0}
NoAsk (rule_form h b) = Unit {0}
NoAsk (new_form l b) = Unit {0}
NoAsk (next_form x p m b) = Unit {0}
NoAsk (ask_form qs) = ⊥

module _ (n : ℕ) (D : grammar.Declared) (P : Program) (ls : List Line) where
  adds-both : (f : Form) → NoAsk f → effect n D P f ≡ adds (declare D f) (P ++ clause D n f)
  unfolding effect declare clause
  adds-both (state_form w) a = rw (append-nil P)
  adds-both (rel_form w k) a = rw (append-nil P)
  adds-both (rule_form g b) a = refl
  adds-both (new_form l b) a = refl
  adds-both (next_form x p m b) a = refl
  adds-both (ask_form qs) a = absurd a

  module _ (s : List ℕ) (ok : every allowed s ≡ true) where
    pub reads_on : (f : Form) → NoAsk f → form_of s ≡ some f → fault D (length P) f ≡ 0 → read_lines n D P (ended s ∷ ls) ≡ read_lines (suc n) (declare D f) (P ++ clause D n f) ls
    reads_on f a h z = reads-fine n D P ls s ok f h z ∙ ap (goes n D P ls) (adds-both f a)

    pub reads-ask : (qs : List (List Literal)) → form_of s ≡ some (ask_form qs) → fault D (length P) (ask_form qs) ≡ 0 → read_lines n D P (ended s ∷ ls) ≡ finish n (accepted D P (question_of D qs)) ls
    unfolding effect
    reads-ask qs h z = reads-fine n D P ls s ok (ask_form qs) h z

-- LINES BY THEIR FIRST WORD. A line that does not begin with `(ask ` has no `ask` form
no-ask : (s : List ℕ) → after (bytes "(ask ") s ≡ none → Only NoAsk (line s)
unfolding line
no-ask s h =
    only-either NoAsk (after (bytes "(state ") s) state_rest _ (state-only NoAsk (λ w. tt))
    (only-either NoAsk (after (bytes "(rel ") s) rel_rest _ (rel-only NoAsk (λ w n. tt))
    (only-either NoAsk (after (bytes "(rule ") s) rule_rest _ (rule-only NoAsk (λ g b. tt))
    (only-either NoAsk (after (bytes "(new ") s) new_rest _ (new-only NoAsk (λ l b. tt))
    (only-either NoAsk (after (bytes "(next ") s) next_rest _ (next-only NoAsk (λ x p m b. tt)) (rw h (only_none NoAsk))))))

pub other-form : (s : List ℕ) (f : Form) → after (bytes "(ask ") s ≡ none → form_of s ≡ some f → NoAsk f
unfolding form_of
other-form s f h e = no-ask s h f e

-- one that begins with it begins with no other word
other_word : (a b c : ℕ) (v w s : List ℕ) {r : List ℕ} → (c ≡ b → ⊥) → after (a ∷ b ∷ v) s ≡ some r → after (a ∷ c ∷ w) s ≡ none
other_word a b c v w [] d e = refl
other_word a b c v w (x ∷ []) d e = ⊎_elim (λ (q : eqb a x ≡ true). rw q) (λ (q : eqb a x ≡ false). rw q) (cases_Bool (eqb a x))
other_word a b c v w (x ∷ y ∷ s) d e = ⊎_elim
    (λ (q : eqb a x ≡ true). rw q (⊎_elim
    (λ (p : eqb b y ≡ true). rw (ne_eqb c y (λ z. d (z ∙ sym (eqb-true b y p)))))
    (λ (p : eqb b y ≡ false). cc (rw (q, p) at e)) (cases_Bool (eqb b y))))
    (λ (q : eqb a x ≡ false). rw q) (cases_Bool (eqb a x))

pub ask-line : (s : List ℕ) {r : List ℕ} → after (bytes "(ask ") s ≡ some r → form_of s ≡ whole (ask_rest r)
unfolding form_of line
ask-line s h = rw (
  other_word 40 97 115 (bytes "sk ") (bytes "tate ") s (λ z. absurd (omega arith)) h,
  other_word 40 97 114 (bytes "sk ") (bytes "el ") s (λ z. absurd (omega arith)) h,
  other_word 40 97 114 (bytes "sk ") (bytes "ule ") s (λ z. absurd (omega arith)) h,
  other_word 40 97 110 (bytes "sk ") (bytes "ew ") s (λ z. absurd (omega arith)) h,
  other_word 40 97 110 (bytes "sk ") (bytes "ext ") s (λ z. absurd (omega arith)) h,
  h,
)

-- ACCEPTED TEXTS ARE SOUND, by an invariant over their lines.
use mathlib.Core.Path.{◌≡◌, refl, ap, subst}
use mathlib.Core.Logic.{◌⊎◌, inl, inr, ⊎_elim}
use mathlib.Core.Bool.{true, false, ◌&&◌, ◌||◌, false≢true}
use mathlib.Core.List.{List, [], ◌∷◌, ◌++◌}
use mathlib.Core.Option.{Option, none, some}
use Prim.Native.Nat.{ℕ, zero, suc, ◌+◌, ◌≤◌, ◌<◌}
use native.Mathlib.Nat.{lt_of_lt_of_le}
use native.Mathlib.Omega.{arith}
use lib.Dec.{eqb, leb, ltb}
use lib.Pow.{pow_mono}
use lib.ListN.{length, get_or, get_or-append}
use borrow.Author.Tests.{eqb-true, leb-true, ltb-false}
use Rattle.std.proofs.lemmas.Bool.{cases_Bool}
use Rattle.limits.specs.Limits as limit
use Rattle.semantics.specs.Models.{Literal, is, isnt, fact, Line, rule, new, next, other, Program, Question, Safe}
use Rattle.semantics.proofs.Tools.{or-false}
use Rattle.grammar.specs.Bytes as bytes
use Rattle.grammar.specs.Bytes.{every, allowed, ended, unended, lines, is_name}
use Rattle.grammar.specs.Forms.{Form, state_form, rel_form, rule_form, new_form, next_form, ask_form, proper_atom, proper_list, proper_body, proper}
use Rattle.grammar.specs.Shapes.{form_of}
use Rattle.grammar.specs.Declarations.{Declared, count, state_code, rel_code}
use Rattle.grammar.specs.Rows.{fault}
use Rattle.grammar.specs.Models.{declare, clause}
use Rattle.grammar.specs.Texts.{Outcome, accepted, refused, Judged, bad, good, shaped, judge, Step, wrong, adds, asks, effect, step, finish, read_lines, outcome}
use Rattle.grammar.proofs.Tests.{and_left, and_right}
use Rattle.grammar.proofs.Lines.{length-lines}
use Rattle.acceptance.specs.Sound.{Each, GoodDeclarations, GoodLiteral, GoodHead, GoodClause, body_of, line_at, GoodLines, GoodQuestion, Sound}
use Rattle.acceptance.proofs.Shapes.{read-proper}
use Rattle.acceptance.proofs.Words.{length-snoc}
use Rattle.acceptance.proofs.Declarations.{at_snoc, count-grows, good-state, good-rel}
use Rattle.acceptance.proofs.Clauses.{good-rule, good_new, good-next}
use Rattle.acceptance.proofs.Questions.{good-question}

-- EACH ELEMENT
pub each_weaken : {A : Type 0} (R S : A → Type 0) → ((x : A) → R x → S x) → (xs : List A) → Each R xs → Each S xs
each_weaken R S h [] e = tt
each_weaken R S h (x ∷ xs) e = (h x e.0, each_weaken R S h xs e.1)

pub each_snoc : {A : Type 0} (R : A → Type 0) (xs : List A) (x : A) → Each R xs → R x → Each R (xs ++ (x ∷ []))
each_snoc R [] x e h = (h, tt)
each_snoc R (y ∷ xs) x e h = (e.0, each_snoc R xs x e.1 h)

pub each_at : {A : Type 0} (R : A → Type 0) (xs : List A) (d : A) → Each R xs → (i : ℕ) → i < length xs → R (get_or xs i d)
each_at R [] d e i h = absurd (omega arith)
each_at R (x ∷ xs) d e zero h = e.0
each_at R (x ∷ xs) d e (suc i) h = each_at R xs d e.1 i (omega arith)

-- MORE DECLARATIONS: what is good stays so
module _ (D E : Declared) (grows : (k : ℕ) → count k D ≤ count k E) where
  literal-grows : (l : Literal) → GoodLiteral D l → GoodLiteral E l
  literal-grows (is a x) h = lt_of_lt_of_le h (grows 0)
  literal-grows (isnt a x) h = lt_of_lt_of_le h (grows 0)
  literal-grows (fact r xs) h = (h.0, h.1, lt_of_lt_of_le h.2 (grows (suc (length xs))))

  head-grows : (l : Line) → GoodHead D l → GoodHead E l
  head-grows (rule r xs b) h = ((h.0.0, h.0.1, lt_of_lt_of_le h.0.2 (grows (suc (length xs)))), h.1)
  head-grows (new s b) h = lt_of_lt_of_le h (pow_mono (grows 0))
  head-grows (next x plus minus b) h = (h.0, lt_of_lt_of_le h.1 (pow_mono (grows 0)), lt_of_lt_of_le h.2 (pow_mono (grows 0)))
  head-grows other h = h

  clause-grows : (n m : ℕ) → n ≤ m → (c : ℕ × Line) → GoodClause n D c → GoodClause m E c
  clause-grows n m l c h = record {
    first = h.first;
    last = let z = h.last in omega arith;
    head = head-grows c.1 h.head;
    body = record { short = h.body.short; literals = each_weaken (GoodLiteral D) (GoodLiteral E) literal-grows (body_of c.1) h.body.literals };
    variables = h.variables;
    safe = h.safe;
  }

-- ONE LINE MORE
module _ (n : ℕ) (D : Declared) (P : Program) (before : GoodLines n D P) where
  with-declaration : (E : Declared) → ((k : ℕ) → count k D ≤ count k E) → GoodDeclarations E → GoodLines (suc n) E P
  with-declaration E g h = record {
    declarations = h;
    clauses = before.clauses;
    clause = each_weaken (GoodClause n D) (GoodClause (suc n) E) (clause-grows D E g n (suc n) (omega arith)) P before.clause;
    rising = before.rising;
  }

  with-clause : (l : Line) → length P < 64 → GoodClause (suc n) D (n, l) → GoodLines (suc n) D (P ++ ((n, l) ∷ []))
  with-clause l room h = record {
    declarations = before.declarations;
    clauses = rw (length-snoc P (n, l)) room;
    clause = each_snoc (GoodClause (suc n) D) P (n, l)
        (each_weaken (GoodClause n D) (GoodClause (suc n) D) (clause-grows D D (λ k. omega arith) n (suc n) (omega arith)) P before.clause) h;
    rising = λ i j k g. at_snoc P (n, l) (0, other) (λ j c. (i : ℕ) → i < j → line_at (P ++ ((n, l) ∷ [])) i < c.0)
        (λ j g i k. rw (line_before i (omega arith)) (before.rising i j k g))
        (λ i k. rw (line_before i k) (each_at (GoodClause n D) P (0, other) before.clause i k).last) j g i k;
  }
    where
      line_before : (i : ℕ) → i < length P → line_at (P ++ ((n, l) ∷ [])) i ≡ line_at P i
      line_before i k = ap (λ (c : ℕ × Line). c.0) (get_or-append P ((n, l) ∷ []) (0, other) i k)

-- WHAT EACH PART OF THE READER GIVES. A line that is judged good keeps the limits of its shape
abbrev pub GoodJudged : Judged → Type 0
GoodJudged (bad r) = Unit {0}
GoodJudged (good f) = proper f ≡ true

pub judge-good : (l : bytes.Line) → GoodJudged (judge l)
unfolding judge
judge-good (unended s) = tt
judge-good (ended s) = ⊎_elim (λ (q : every allowed s ≡ true). rw q (go (form_of s) refl)) (λ (q : every allowed s ≡ false). rw q tt) (cases_Bool (every allowed s))
  where
    go : (o : Option Form) → form_of s ≡ o → GoodJudged (shaped o)
    go none e = tt
    go (some f) e = read-proper s f e

-- an accepted text has n lines
abbrev pub GoodOutcome : ℕ → Outcome → Type 0
GoodOutcome n (accepted D P Q) = GoodLines n D P × GoodQuestion D Q
GoodOutcome n (refused r l) = Unit {0}

-- line n
abbrev pub GoodStep : ℕ → Step → Type 0
GoodStep n (wrong r) = Unit {0}
GoodStep n (adds D P) = GoodLines (suc n) D P
GoodStep n (asks o) = GoodOutcome n o

module _ (n : ℕ) (D : Declared) (P : Program) (before : GoodLines n D P) (some : 1 ≤ n) where
  pub effect-good : (f : Form) → proper f ≡ true → fault D (length P) f ≡ 0 → GoodStep n (effect n D P f)
  unfolding effect declare clause
  effect-good (state_form w) p e =
      with-declaration n D P before (D ++ ((w, state_code D) ∷ [])) (λ k. count-grows D w (state_code D) k) (good-state D before.declarations w p (length P) e)
  effect-good (rel_form w k) p e =
      with-declaration n D P before (D ++ ((w, rel_code D k) ∷ [])) (λ j. count-grows D w (rel_code D k) j)
      (good-rel D before.declarations w k (and_left (is_name w) (leb k 2) p) (leb-true k 2 (and_right (is_name w) (leb k 2) p)) (length P) e)
  effect-good (rule_form h b) p e =
      let c = good-rule D before.declarations n (length P) some h b (and_right (proper_atom h) (proper_body b) p) e in
      with-clause n D P before _ c.0 c.1
  effect-good (new_form l b) p e =
      let c = good_new D before.declarations n (length P) some l b (and_right (proper_list l) (proper_body b) p) e in
      with-clause n D P before _ c.0 c.1
  effect-good (next_form x l m b) p e =
      let c = good-next D before.declarations n (length P) some x l m b (and_right (is_name x && proper_list l && proper_list m) (proper_body b) p) e in
      with-clause n D P before _ c.0 c.1
  effect-good (ask_form qs) p e = (before, good-question D before.declarations (length P) qs p e)

  pub step-good : (j : Judged) → GoodJudged j → GoodStep n (step n D P j)
  unfolding step
  step-good (bad r) p = tt
  step-good (good f) p = ⊎_elim
      (λ (q : eqb (fault D (length P) f) 0 ≡ true). rw q (effect-good f p (eqb-true (fault D (length P) f) 0 q)))
      (λ (q : eqb (fault D (length P) f) 0 ≡ false). rw q tt) (cases_Bool (eqb (fault D (length P) f) 0))

pub finish-good : (n m : ℕ) (o : Outcome) (ls : List bytes.Line) → GoodOutcome n o → n + length ls ≡ m → GoodOutcome m (finish n o ls)
unfolding finish
finish-good n m o [] h e = let z : n ≡ m = omega arith in subst (λ (k : ℕ). GoodOutcome k o) z h
finish-good n m o (l ∷ ls) h e = tt

-- THE INVARIANT: from line n on, with m lines in all
read-good : (m : ℕ) (ls : List bytes.Line) (n : ℕ) (D : Declared) (P : Program) → GoodLines n D P → 1 ≤ n → n + length ls ≡ suc m → GoodOutcome m (read_lines n D P ls)
unfolding read_lines
read-good m [] n D P h k e = tt
read-good m (l ∷ ls) n D P h k e = go (step n D P (judge l)) (step-good n D P h k (judge l) (judge-good l)) (λ E R g. read-good m ls (suc n) E R g (omega arith) (omega arith))
  where
    go : (s : Step) → GoodStep n s → ((E : Declared) (R : Program) → GoodLines (suc n) E R → GoodOutcome m (read_lines (suc n) E R ls))
        → GoodOutcome m (elim s [ wrong r ↦ refused r n | adds E R ↦ read_lines (suc n) E R ls | asks o ↦ finish n o ls ])
    go (wrong r) g rec = tt
    go (adds E R) g rec = rec E R g
    go (asks o) g rec = finish-good n m o ls g (omega arith)

-- before the first line
pub nothing-good : GoodLines 1 [] []
unfolding count
nothing-good = record {
  declarations = record {
    names = λ i h. absurd (omega arith);
    different = λ i j h k. absurd (omega arith);
    order = λ i h. absurd (omega arith);
    most = omega arith;
    states = omega arith;
    derived = omega arith;
    pairs = omega arith;
  };
  clauses = omega arith;
  clause = tt;
  rising = λ i j h k. absurd (omega arith);
}

-- THE SAFETY of a program
safe-program : (n : ℕ) (D : Declared) (P : Program) → Each (GoodClause n D) P → Safe P
safe-program n D [] h ℓ = tt
safe-program n D (c ∷ P) h ℓ = ⊎_elim (λ (q : eqb ℓ c.0 ≡ true). rw q h.0.safe) (λ (q : eqb ℓ c.0 ≡ false). rw q (safe-program n D P h.1 ℓ)) (cases_Bool (eqb ℓ c.0))

-- THE THEOREM
pub accepted-sound : (text : List ℕ) (D : Declared) (P : Program) (Q : Question) → outcome text ≡ accepted D P Q → Sound (length (lines text)) D P Q
unfolding outcome
accepted-sound text D P Q e = go (cases_Bool (eqb (length text) 0 || ltb limit.text (length text)))
  where
    sound : length text ≤ limit.text → read_lines 1 [] [] (lines text) ≡ accepted D P Q → Sound (length (lines text)) D P Q
    sound l q =
        let g = subst (GoodOutcome (length (lines text))) q (read-good (length (lines text)) (lines text) 1 [] [] nothing-good (omega arith) (omega arith)) in
        record { most = let z = length-lines text in omega arith; lines = g.0; safe = safe-program (length (lines text)) D P g.0.clause; question = g.1 }

    go : ((eqb (length text) 0 || ltb limit.text (length text)) ≡ true) ⊎ ((eqb (length text) 0 || ltb limit.text (length text)) ≡ false) → Sound (length (lines text)) D P Q
    go (inl q) = absurd (let z = rw q at e in false≢true cc)
    go (inr q) = sound (ltb-false limit.text (length text) (or-false (eqb (length text) 0) (ltb limit.text (length text)) q).1) (rw q at e)

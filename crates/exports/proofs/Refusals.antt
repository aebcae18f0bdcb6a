-- NUMBERS OF ANSWERS can be read: refusals have the numbers to 12, 14, and 15 from an analysis, and lines below 65,536.
use mathlib.Core.Path.{◌≡◌, refl}
use mathlib.Core.Logic.{◌⊎◌, inl, inr, ⊎_elim}
use mathlib.Core.Bool.{Bool, true, false, cond, not, ◌&&◌, ◌||◌}
use mathlib.Core.List.{List, [], ◌∷◌}
use mathlib.Core.Option.{Option, none, some}
use Prim.Native.Nat.{ℕ, suc, ◌+◌, ◌*◌, ◌/◌, ◌%◌, ◌≤◌, ◌<◌}
use native.Mathlib.Omega.{arith}
use lib.Dec.{eqb, ltb}
use lib.ListN.{length}
use borrow.Author.Tests.{ltb-false}
use Rattle.std.proofs.lemmas.Bool.{cases_Bool}
use Rattle.limits.specs.Limits as limit
use Rattle.semantics.specs.Models.{Program, Question}
use Rattle.grammar.specs.Bytes as bytes
use Rattle.grammar.specs.Bytes.{Word, ended, unended, every, allowed, lines}
use Rattle.grammar.specs.Forms.{Literal, plain, negated, Form, state_form, rel_form, rule_form, new_form, next_form, ask_form}
use Rattle.grammar.specs.Shapes.{form_of}
use Rattle.grammar.specs.Declarations.{is_state, arity_of, Declared, lookup}
use Rattle.grammar.specs.Rows.{row, many_states, many_relations, many_clauses, again, supported, few, repeats, carries_many, name_fault, list_fault, head_fault, plain_fault, negated_fault, literal_fault, body_fault, scope_fault, stages_fault, fault}
use Rattle.grammar.specs.Texts.{Outcome, accepted, refused, Judged, bad, good, shaped, judge, Step, wrong, adds, asks, effect, step, finish, read_lines, outcome}
use Rattle.semantics.proofs.Tools.{or-false}
use Rattle.grammar.proofs.Lower.{lower-bound}
use Rattle.grammar.proofs.Lines.{length-lines}
use Rattle.calls.specs.Calls.{early, short, called}
use Rattle.analyzer_verdict.specs.declared.Answer.{Answer}
use Rattle.analyzer_verdict.specs.declared.Answer.TheVariants.{Reached, Unreached, Refused}
use Rattle.analyzer_verdict.specs.declared.Analysis.{Analysis}
use Rattle.calls.specs.Crowding.{too_many}
use Rattle.analyzer_verdict.specs.Judging.{Answered}
use Rattle.analyzer.specs.Analyzing.{Leaves, Analyzes}
use Rattle.words.specs.Words.{code}

-- THE ROWS of a line
cond-most : (b : Bool) (x y : ℕ) → x ≤ 11 → y ≤ 11 → cond b x y ≤ 11
cond-most true x y h l = h
cond-most false x y h l = l

row-most : (n : ℕ) (b : Bool) → n ≤ 11 → row n b ≤ 11
row-most n b h = cond-most b n 0 h (omega arith)

name-most : (o : Option ℕ) → name_fault o ≤ 11
name-most none = omega arith
name-most (some c) = row-most 6 (not (is_state c)) (omega arith)

list-most : (D : Declared) (ws : List Word) → list_fault D ws ≤ 11
unfolding list_fault
list-most D [] = omega arith
list-most D (w ∷ ws) = lower-bound _ _ 11 (name-most (lookup w D)) (list-most D ws)

head-most : (o : Option ℕ) (n : ℕ) → head_fault o n ≤ 11
head-most none n = omega arith
head-most (some c) n = cond-most (is_state c) 6 (row 7 (not (eqb n (arity_of c)))) (omega arith) (row-most 7 (not (eqb n (arity_of c))) (omega arith))

literal-most : (D : Declared) (l : Literal) → literal_fault D l ≤ 11
literal-most D (plain a) = go (lookup a.name D)
  where
    go : (o : Option ℕ) → plain_fault o (length a.variables) ≤ 11
    go none = omega arith
    go (some c) = row-most 7 (not (eqb (length a.variables) (arity_of c))) (omega arith)
literal-most D (negated a) = go (lookup a.name D)
  where
    go : (o : Option ℕ) → negated_fault o (length a.variables) ≤ 11
    go none = omega arith
    go (some c) = cond-most (eqb (length a.variables) (arity_of c)) (row 8 (not (is_state c))) 7 (row-most 8 (not (is_state c)) (omega arith)) (omega arith)

body-most : (D : Declared) (b : List Literal) → body_fault D b ≤ 11
unfolding body_fault
body-most D [] = omega arith
body-most D (l ∷ b) = lower-bound _ _ 11 (literal-most D l) (body-most D b)

scope-most : (hs : List Word) (b : List Literal) → scope_fault hs b ≤ 11
scope-most hs b = row-most 9 (not (supported hs b && few hs b)) (omega arith)

stages-most : (D : Declared) (qs : List (List Literal)) → stages_fault D qs ≤ 11
unfolding stages_fault
stages-most D [] = omega arith
stages-most D (q ∷ qs) = lower-bound _ _ 11 (lower-bound _ _ 11 (body-most D q) (scope-most [] q)) (stages-most D qs)

fault-most : (D : Declared) (clauses : ℕ) (f : Form) → fault D clauses f ≤ 11
unfolding fault
fault-most D k (state_form w) = lower-bound _ _ 11 (row-most 4 (many_states D) (omega arith)) (row-most 5 (again (lookup w D)) (omega arith))
fault-most D k (rel_form w n) = lower-bound _ _ 11 (row-most 4 (many_relations D n) (omega arith)) (row-most 5 (again (lookup w D)) (omega arith))
fault-most D k (rule_form h b) =
    lower-bound _ _ 11 (row-most 4 (many_clauses k) (omega arith))
    (lower-bound _ _ 11 (head-most (lookup h.name D) (length h.variables))
    (lower-bound _ _ 11 (body-most D b) (lower-bound _ _ 11 (row-most 9 (repeats h.variables) (omega arith)) (scope-most h.variables b))))
fault-most D k (new_form l b) = lower-bound _ _ 11 (row-most 4 (many_clauses k) (omega arith)) (lower-bound _ _ 11 (list-most D l) (lower-bound _ _ 11 (body-most D b) (scope-most [] b)))
fault-most D k (next_form x p m b) =
    lower-bound _ _ 11 (row-most 4 (many_clauses k) (omega arith))
    (lower-bound _ _ 11 (list-most D p) (lower-bound _ _ 11 (list-most D m) (lower-bound _ _ 11 (body-most D b) (scope-most (x ∷ []) b))))
fault-most D k (ask_form qs) = lower-bound _ _ 11 (stages-most D qs) (row-most 11 (carries_many qs) (omega arith))

-- THE NUMBERS that a row has
abbrev pub Numbered : ℕ → Type 0
Numbered n = (n ≤ 12) ⊎ (n ≡ 14)

-- A REFUSAL in range: a row has its number, and its line is at most m
abbrev pub InRange : ℕ → Outcome → Type 0
InRange m (accepted D P Q) = Unit {0}
InRange m (refused n l) = Numbered n × (l ≤ m)

abbrev StepInRange : Step → Type 0
StepInRange (wrong r) = r ≤ 11
StepInRange (adds D P) = Unit {0}
StepInRange (asks o) = InRange 0 o

abbrev JudgedInRange : Judged → Type 0
JudgedInRange (bad r) = r ≤ 11
JudgedInRange (good f) = Unit {0}

judge-range : (l : bytes.Line) → JudgedInRange (judge l)
unfolding judge
judge-range (unended s) = omega arith
judge-range (ended s) = ⊎_elim (λ (q : every allowed s ≡ true). rw q (go (form_of s))) (λ (q : every allowed s ≡ false). rw q (omega arith)) (cases_Bool (every allowed s))
  where
    go : (o : Option Form) → JudgedInRange (shaped o)
    go none = omega arith
    go (some f) = tt

effect-range : (n : ℕ) (D : Declared) (P : Program) (f : Form) → StepInRange (effect n D P f)
unfolding effect
effect-range n D P (state_form w) = tt
effect-range n D P (rel_form w k) = tt
effect-range n D P (rule_form h b) = tt
effect-range n D P (new_form l b) = tt
effect-range n D P (next_form x p m b) = tt
effect-range n D P (ask_form qs) = tt

step_range : (n : ℕ) (D : Declared) (P : Program) (j : Judged) → JudgedInRange j → StepInRange (step n D P j)
unfolding step
step_range n D P (bad r) h = h
step_range n D P (good f) h = ⊎_elim (λ (q : eqb (fault D (length P) f) 0 ≡ true). rw q (effect-range n D P f))
    (λ (q : eqb (fault D (length P) f) 0 ≡ false). rw q (fault-most D (length P) f)) (cases_Bool (eqb (fault D (length P) f) 0))

wider : (m k : ℕ) → m ≤ k → (o : Outcome) → InRange m o → InRange k o
wider m k h (accepted D P Q) r = tt
wider m k h (refused n l) r = (r.0, omega (arith, r.1))

finish-range : (n m : ℕ) (o : Outcome) (ls : List bytes.Line) → InRange 0 o → n + length ls ≤ m → InRange m (finish n o ls)
unfolding finish
finish-range n m o [] r h = wider 0 m (omega arith) o r
finish-range n m o (l ∷ ls) r h = (inl (omega arith), omega arith)

read-range : (m : ℕ) (ls : List bytes.Line) (n : ℕ) (D : Declared) (P : Program) → n + length ls ≤ m → InRange m (read_lines n D P ls)
unfolding read_lines
read-range m [] n D P h = (inl (omega arith), omega arith)
read-range m (l ∷ ls) n D P h = go (step n D P (judge l)) (step_range n D P (judge l) (judge-range l)) (λ E R. read-range m ls (suc n) E R (omega arith))
  where
    go : (s : Step) → StepInRange s → ((E : Declared) (R : Program) → InRange m (read_lines (suc n) E R ls))
        → InRange m (elim s [ wrong r ↦ refused r n | adds E R ↦ read_lines (suc n) E R ls | asks o ↦ finish n o ls ])
    go (wrong r) g rec = (inl (omega arith), omega arith)
    go (adds E R) g rec = rec E R
    go (asks o) g rec = finish-range n m o ls g (omega arith)

outcome-range : (text : List ℕ) → InRange (limit.text + 1) (outcome text)
unfolding outcome
outcome-range text = go (cases_Bool wrong_size)
  where
    wrong_size : Bool
    wrong_size = eqb (length text) 0 || ltb limit.text (length text)

    go : (wrong_size ≡ true) ⊎ (wrong_size ≡ false) → InRange (limit.text + 1) (outcome text)
    go (inl q) = rw q (inl (omega arith), omega arith)
    go (inr q) = rw q (read-range (limit.text + 1) (lines text) 1 [] [] (omega (arith, length-lines text, ltb-false limit.text (length text) (or-false (eqb (length text) 0) (ltb limit.text (length text)) q).1)))

-- EVERY CALL
rows-range : (b short long : Bool) → Numbered (cond b 1 (cond short 12 (cond long 14 0)))
rows-range true short long = inl (omega arith)
rows-range false true long = inl (omega arith)
rows-range false false true = inr refl
rows-range false false false = inl (omega arith)

pub called-range : (text : List ℕ) (short long : Bool) → InRange (limit.text + 1) (called text short long)
unfolding called early
called-range text short long = ⊎_elim (λ (q : eqb first 0 ≡ true). rw q (outcome-range text)) (λ (q : eqb first 0 ≡ false). rw q (rows-range (eqb (length text) 0 || ltb limit.text (length text)) short long, omega arith)) (cases_Bool (eqb first 0))
  where
    first : ℕ
    first = cond (eqb (length text) 0 || ltb limit.text (length text)) 1 (cond short 12 (cond long 14 0))

-- THE ANALYSIS refuses with the number of a row, or with 15
abbrev pub Refuses : ℕ → Type 0
Refuses n = Numbered n ⊎ (n ≡ too_many)

abbrev pub AnswerInRange : ℕ → Answer → Type 0
AnswerInRange m (Reached n last) = Unit {0}
AnswerInRange m Unreached = Unit {0}
AnswerInRange m (Refused n l) = Refuses n × (l ≤ m)

answer-range : (m : ℕ) (P : Program) (Q : Question) (run run' : List ℕ) (a : Answer) → Answered P Q run run' a → AnswerInRange m a
answer-range m P Q run run' (Reached n last) h = tt
answer-range m P Q run run' Unreached h = tt
answer-range m P Q run run' (Refused n l) h = (inr h.1, omega (arith, h.2))

left-range : (m : ℕ) (o : Outcome) (work run : List ℕ) (a : Analysis) (work' run' : List ℕ) → InRange m o → Leaves o work run a work' run' → AnswerInRange m a.answer
left-range m (refused n l) work run a work' run' r h = rw h.0 (inl r.0, r.1)
left-range m (accepted D P Q) work run a work' run' r h = answer-range m P Q run run' a.answer h.verdict

pub analysis-range : (text work run : List ℕ) (a : Analysis) (work' run' : List ℕ) → Analyzes text work run a work' run' → AnswerInRange (limit.text + 1) a.answer
analysis-range text work run a work' run' =
    let small = short (length work) (length run) in
    left-range (limit.text + 1) (called text small false) work run a work' run' (called-range text small false)

-- KIND AND VALUE are read off an answer's number, and a refusal's number and line off its value
pub code_read : (kind value : ℕ) → value < 4294967296 → (code kind value / 4294967296 ≡ kind) × (code kind value % 4294967296 ≡ value)
code_read kind value h = (omega arith, omega arith)

pub refusal-read : (n l : ℕ) → Refuses n → l ≤ (limit.text + 1) → (n * 65536 + l < 4294967296) × ((n * 65536 + l) / 65536 ≡ n) × ((n * 65536 + l) % 65536 ≡ l)
refusal-read n l h k = let few : n ≤ too_many = ⊎_elim (λ q. ⊎_elim (λ r. omega arith) (λ r. omega arith) q) (λ q. omega arith) h in (omega arith, omega arith, omega arith)

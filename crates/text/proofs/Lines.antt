-- FROM LINE TO LINE.
use mathlib.Core.Path.{◌≡◌, refl, sym, ap, subst, ◌∙◌}
use mathlib.Core.Logic.{⊎_elim}
use mathlib.Core.Bool.{Bool, true, false, cond, ◌||◌}
use mathlib.Core.List.{List, [], ◌∷◌}
use mathlib.Core.Option.{none, some}
use Prim.Native.Nat.{ℕ, ◌+◌, ◌≤◌, ◌<◌}
use native.Mathlib.Numerals.{add-one}
use native.Mathlib.Omega.{arith}
use lib.Dec.{eqb, ltb}
use lib.ListN.{length, take, drop}
use lib.Seq.{slice}
use borrow.Author.Tests.{ltb-false}
use Rattle.limits.specs.Limits as limit
use Rattle.model.specs.Records.{program_of}
use Rattle.model.specs.declared.Model.{Model}
use Rattle.grammar.specs.Bytes.{bytes, Line, ended, unended, in_front, lines}
use Rattle.grammar.specs.Shapes.{after, line, whole, form_of}
use Rattle.grammar.specs.Texts.{refused, read_lines, outcome}
use Rattle.std.proofs.lemmas.Bool.{true≢false, cases_Bool}
use Rattle.std.specs.Prelude.{Result, Ok, Err, IfErr, MatchResult}
use Rattle.rows.specs.declared.Refusal.{Refusal}
use Rattle.rows.specs.Rows.{number_of}
use Rattle.rows.specs.declared.Row.{Row}
use Rattle.rows.proofs.Laws.{some-number}
use Rattle.calls.specs.Calls.{early, called}
use Rattle.calls.proofs.Laws.{called-lines}
use Rattle.text_names.specs.Names.{Valid, declared_of}
use Rattle.text_names.specs.declared.Declared.{Declared}
use Rattle.text_scan.specs.Found as scan
use Rattle.text_scan.proofs.Laws.{nothing}
use Rattle.text_faults.specs.Faults.{fault_in, unshaped, shaped}
use Rattle.grammar.specs.Forms.{Form}
use Rattle.grammar.specs.Rows.{fault}
use Rattle.text_lines.specs.Lines.{GoodStep, Stepped, Aside}
use Rattle.text_lines.proofs.Laws.{ok-err}
use Rattle.text_lines.proofs.Going.{valid-longer, declared-longer, reads-bad, reads-unshaped, reads-faulty, reads_on, other-form}
use Rattle.text_opening.specs.Openings.{blank}
use Rattle.text_opening.proofs.Laws.{blank-program, blank-holds}
use Rattle.text.specs.Reached.{Reached, onwards}

-- THE LINES of a text that is not empty
one_line : (b : ℕ) (ls : List Line) → (l : Line) × (ms : List Line) × (in_front b ls ≡ l ∷ ms)
one_line b [] = (_, _, refl)
one_line b (ended s ∷ ls) = (_, _, refl)
one_line b (unended s ∷ ls) = (_, _, refl)

pub some-lines : (s : List ℕ) → 0 < length s → (l : Line) × (ls : List Line) × (lines s ≡ l ∷ ls)
some-lines [] h = absurd (omega arith)
some-lines (b ∷ s) h = ⊎_elim (λ (q : eqb b 10 ≡ true). rw q (ended [], lines s, refl)) (λ (q : eqb b 10 ≡ false). rw q (one_line b (lines s))) (cases_Bool (eqb b 10))

-- BEFORE THE FIRST LINE
module _ (d : Declared) {m : Model} (z : d.count ≡ 0) (b : m ≡ blank) where
  pub reached-start : {text : List ℕ} → length d.names ≡ limit.declared → Reached text 0 1 d m
  reached-start q = record {
    place = omega arith;
    number = omega arith;
    small = omega arith;
    valid = record { count = omega arith; names = q; within = λ i h. absurd (omega arith); coded = λ i h. absurd (omega arith) };
    limited = record { total = rw z; states = rw z (omega arith); derived = rw z (omega arith) };
    holds = rw (b, blank-program) blank-holds;
    stagecount = rw b;
    stages = rw b;
  }

  pub onwards-start : (text : List ℕ) → read_lines 1 [] [] (lines text) ≡ onwards text 0 1 d m
  unfolding onwards declared_of
  onwards-start text = rw (z, b, blank-program)

-- THE ANSWER TO A LINE with the line's number
module _ (n : ℕ) {r : Result (Unit {0}) Refusal} where
  pub line-failed : (a : Result (Unit {0}) Row) {x : Refusal} → MatchResult a (λ _. r ≡ Ok tt) (λ row. r ≡ Err (record { row = row; line = n })) → r ≡ Err x
      → (row : Row) × (a ≡ Err row) × (x ≡ record { row = row; line = n })
  line-failed (Ok u) e q = cc
  line-failed (Err row) {x} e q = (row, refl, subst (λ (s : Result (Unit {0}) Refusal). IfErr s (λ z. x ≡ z)) (sym q ∙ e) refl)

  pub line-passed : (a : Result (Unit {0}) Row) → MatchResult a (λ _. r ≡ Ok tt) (λ row. r ≡ Err (record { row = row; line = n })) → r ≡ Ok tt → a ≡ Ok tt
  line-passed (Ok u) e q = refl
  line-passed (Err row) e q = cc

-- A LINE
module _ {text : List ℕ} {at n : ℕ} {d : Declared} {m : Model} (so : Reached text at n d m) where
  -- row 2
  pub onwards-bad : scan.BadLine text at → onwards text at n d m ≡ refused 2 n
  unfolding onwards
  onwards-bad w = rw w.2 (reads-bad n (declared_of (take at text) d) (program_of m) w.1 w.0 w.3)

  module _ {e : ℕ} (l : scan.LineEnd text at e) where
    pub valid-there : Valid (take e text) d
    valid-there = let z = l.ends in valid-longer text d at e l.begins (omega arith) so.valid

    declared-there : declared_of (take e text) d ≡ declared_of (take at text) d
    declared-there = let z = l.ends in declared-longer text d at e l.begins (omega arith) so.valid

    pub onwards-line : onwards text at n d m ≡ read_lines n (declared_of (take e text) d) (program_of m) (ended (slice at e text) ∷ lines (drop (e + 1) text))
    unfolding onwards
    onwards-line = rw (declared-there, l.read)

    -- a line that is no `ask` line
    pub line_refused : (x : Row) {d' : Declared} {m' : Model} → Stepped (take e text) d (program_of m) n (line (slice at e text)) (Err x) d' m' → onwards text at n d m ≡ refused (number_of x) n
    unfolding form_of
    line_refused x (unshaped w q) = onwards-line ∙ reads-unshaped n (declared_of (take e text) d) (program_of m) (lines (drop (e + 1) text)) (slice at e text) l.good w ∙ ap (λ (i : ℕ). refused i n) (sym (ap (fault_in {A = Unit {0}}) q))
    line_refused x (shaped form w q g) =
        onwards-line
        ∙ (reads-faulty n (declared_of (take e text) d) (program_of m) (lines (drop (e + 1) text)) (slice at e text) l.good form w (λ y. some-number x (q ∙ y))
        ∙ ap (λ (i : ℕ). refused i n) (sym q))

    module _ {d' : Declared} {m' : Model} (form : Form) (w : whole (line (slice at e text)) ≡ some form) (z : 0 ≡ fault (declared_of (take e text) d) (length (program_of m)) form) (g : GoodStep (take e text) d (program_of m) n d' m' form) where
      goes-on : after (bytes "(ask ") (slice at e text) ≡ none → onwards text at n d m ≡ onwards text (e + 1) (n + 1) d' m'
      unfolding onwards form_of
      goes-on a =
          let h = l.ends in
          onwards-line ∙ reads_on n (declared_of (take e text) d) (program_of m) (lines (drop (e + 1) text)) (slice at e text) l.good form (other-form (slice at e text) form a w) w (sym z)
          ∙ rw (g.stored.program, declared-longer text d' e (e + 1) (omega arith) (omega arith) g.valid, g.declared, add-one, add-one)

      goes : Aside m m' → Reached text (e + 1) (n + 1) d' m'
      goes a =
          let h = l.ends in
          record {
            place = omega arith;
            number = (let k = rw l.read at so.number in omega arith);
            small = (let k = so.small in let b = l.begins in omega arith);
            valid = valid-longer text d' e (e + 1) (omega arith) (omega arith) g.valid;
            limited = g.limited;
            holds = rw g.stored.program g.stored;
            stagecount = a.stagecount ∙ so.stagecount;
            stages = rw a.stages so.stages;
          }

    pub onwards-on : {d' : Declared} {m' : Model} → Stepped (take e text) d (program_of m) n (line (slice at e text)) (Ok tt) d' m' → after (bytes "(ask ") (slice at e text) ≡ none → onwards text at n d m ≡ onwards text (e + 1) (n + 1) d' m'
    onwards-on (unshaped w q) a = absurd (ok-err q)
    onwards-on (shaped form w z g) a = goes-on form w z g a

    pub reached-on : {d' : Declared} {m' : Model} → Stepped (take e text) d (program_of m) n (line (slice at e text)) (Ok tt) d' m' → Aside m m' → Reached text (e + 1) (n + 1) d' m'
    reached-on (unshaped w q) a = absurd (ok-err q)
    reached-on (shaped form w z g) a = goes form w z g a

-- THE END of the text: row 10
pub onwards-end : (text : List ℕ) (at n : ℕ) (d : Declared) (m : Model) → length text ≤ at → onwards text at n d m ≡ refused 10 n
unfolding onwards read_lines
onwards-end text at n d m h = rw (nothing text at h)

-- THE SIZE of the text: row 1 comes first
or_second : (a b : Bool) → a || b ≡ false → b ≡ false
or_second true b e = absurd (true≢false e)
or_second false b e = e

sized : (b short long : Bool) → ◌≡◌ {A = ℕ} (cond b 1 (cond short 12 (cond long 14 0))) 0 → b ≡ false
sized true short long e = absurd (omega arith)
sized false short long e = refl

module _ (text : List ℕ) (short long : Bool) (e : early (length text) short long ≡ 0) where
  right-size : (eqb (length text) 0 || ltb limit.text (length text)) ≡ false
  unfolding early
  right-size = sized (eqb (length text) 0 || ltb limit.text (length text)) short long e

  pub called-small : length text ≤ limit.text
  called-small = ltb-false limit.text (length text) (or_second (eqb (length text) 0) (ltb limit.text (length text)) right-size)

  pub called-read : called text short long ≡ read_lines 1 [] [] (lines text)
  unfolding outcome
  called-read = called-lines text short long e ∙ rw right-size refl

-- a call that lends nothing
pub called-plain : (text : List ℕ) → called text false false ≡ outcome text
unfolding called early outcome
called-plain text = go (eqb (length text) 0 || ltb limit.text (length text))
  where
    go : (b : Bool) → cond (eqb (cond b 1 0) 0) (cond b (refused 1 0) (read_lines 1 [] [] (lines text))) (refused (cond b 1 0) 0) ≡ cond b (refused 1 0) (read_lines 1 [] [] (lines text))
    go true = refl
    go false = refl

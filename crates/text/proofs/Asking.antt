-- THE `ask` LINE of a text.
use mathlib.Core.Path.{◌≡◌, refl, sym, ap, ◌∙◌, subst}
use mathlib.Core.List.{List, [], map}
use mathlib.Core.Option.{some}
use Prim.Native.Nat.{ℕ, ◌+◌, ◌≤◌, ◌<◌}
use native.Mathlib.Numerals.{add-one}
use native.Mathlib.Omega.{arith}
use lib.ListN.{length, take, drop, get_or-map, length-drop}
use lib.Seq.{slice, length-take-le}
use Rattle.model.specs.Records.{name_of, program_of}
use Rattle.model.specs.declared.Model.{Model}
use Rattle.grammar.specs.Bytes.{Word, lines}
use Rattle.grammar.specs.Shapes.{whole, form_of, ask_rest}
use Rattle.grammar.specs.Models.{question_of}
use Rattle.grammar.specs.Texts.{accepted, refused, finish}
use Rattle.std.specs.Prelude.{Ok, Err}
use Rattle.rows.specs.Rows.{number_of}
use Rattle.rows.specs.declared.Row.{Row}
use Rattle.rows.proofs.Laws.{some-number}
use Rattle.text_names.specs.Names.{blank, name_at, begin, end, Valid, entry, declared_of}
use Rattle.text_names.specs.declared.Declared.{Declared}
use Rattle.text_names.proofs.Laws.{get_or-list_of, slice-prefix}
use Rattle.text_ask.specs.Asks.{Asks, AskEnd}
use Rattle.text_faults.specs.Faults.{fault_in, unshaped, shaped}
use Rattle.text_lines.proofs.Laws.{ok-err}
use Rattle.grammar.specs.Forms.{Literal, ask_form}
use Rattle.grammar.specs.Rows.{fault}
use Rattle.text_ask.proofs.Represented.{represents}
use Rattle.text_lines.proofs.Going.{reads-unshaped, reads-faulty, reads-ask, ask-line}
use Rattle.text_scan.proofs.Laws.{nothing}
use Rattle.text_opening.specs.Openings.{place_of, fitted}
use Rattle.text_opening.proofs.Laws.{length_declared, before}
use Rattle.text.specs.Reading.{Names, Accepts}
use Rattle.text.specs.Reached.{Reached, onwards, AskLine}
use Rattle.text.proofs.Lines.{some-lines, valid-there, onwards-line}

-- THE NAMES of the record stand in the text
pub names_stand : (text : List ℕ) (d : Declared) (e : ℕ) (m : Model) → e ≤ length text → Valid (take e text) d → m.names ≡ map place_of d.names → Names text (declared_of (take e text) d) m
unfolding declared_of
names_stand text d e m h v p =
    let D = declared_of (take e text) d in
    let inside : (i : ℕ) → i < length D → end (name_at d i) ≤ e
    = λ i l. let w = v.within i (omega (arith, length_declared (take e text) d)) in omega (arith, length-take-le e text h) in
    let stands : (i : ℕ) → name_of m i ≡ place_of (name_at d i)
    = λ i. rw p (get_or-map place_of d.names i blank) in
    record {
      within = λ i l. let w = inside i l in rw (stands i) (omega arith);
      name = λ i l. rw (stands i) (
          sym (ap (λ (x : Word × ℕ). x.0) (get_or-list_of d.count (entry (take e text) d) i ([], 0) (omega (arith, length_declared (take e text) d)))
          ∙ slice-prefix text (begin (name_at d i)) (end (name_at d i)) e (inside i l)));
    }

module _ {text : List ℕ} {at ask n e : ℕ} {d : Declared} {m : Model} (so : Reached text at n d m) (k : AskLine text at ask e) where
  form : form_of (slice at e text) ≡ whole (ask_rest (slice ask e text))
  form = ask-line (slice at e text) k.word.read

  module _ {f r : Model} where
    pub ask-refused : (x : Row) → AskEnd (declared_of (take e text) d) f (ask_rest (slice ask e text)) (Err x) r → onwards text at n d m ≡ refused (number_of x) n
    ask-refused x (unshaped w q) =
        onwards-line so k.line ∙ reads-unshaped n (declared_of (take e text) d) (program_of m) (lines (drop (e + 1) text)) (slice at e text) k.line.good (form ∙ w)
        ∙ ap (λ (i : ℕ). refused i n) (sym (ap (fault_in {A = Unit {0}}) q))
    ask-refused x (shaped g w q t) =
        let P = program_of m in
        let z = sym (q (length P)) in
        onwards-line so k.line
        ∙ (reads-faulty n (declared_of (take e text) d) P (lines (drop (e + 1) text)) (slice at e text) k.line.good g (form ∙ w) (λ y. some-number x (sym z ∙ y))
        ∙ ap (λ (i : ℕ). refused i n) z)

    module _ (qs : List (List Literal)) (w : whole (ask_rest (slice ask e text)) ≡ some (ask_form qs)) (z : (clauses : ℕ) → 0 ≡ fault (declared_of (take e text) d) clauses (ask_form qs)) (a : Asks (declared_of (take e text) d) f qs r) where
      onwards-ask : onwards text at n d m ≡ finish n (accepted (declared_of (take e text) d) (program_of m) (question_of (declared_of (take e text) d) qs)) (lines (drop (e + 1) text))
      onwards-ask =
          onwards-line so k.line ∙ reads-ask n (declared_of (take e text) d) (program_of m) (lines (drop (e + 1) text)) (slice at e text) k.line.good qs (form ∙ w) (sym (z (length (program_of m))))

      -- row 10
      followed : e + 1 < length text → onwards text at n d m ≡ refused 10 (n + 1)
      unfolding finish
      followed h = let w = some-lines (drop (e + 1) text) (omega (arith, length-drop (e + 1) text)) in onwards-ask ∙ rw (w.2, add-one)

      last : length text ≤ e + 1 → f ≡ fitted m d n → Accepts (onwards text at n d m) text r
      unfolding finish
      last h y =
          let g = subst (λ (x : Model). Asks (declared_of (take e text) d) x qs r) y a in
          let v = valid-there so k.line in
          let t = k.line.ends in
          let gone : drop (e + 1) text ≡ [] = nothing text (e + 1) h in
          let count : n ≡ length (lines text) = (let c = rw (k.line.read, gone) at so.number in omega arith) in
          let w = represents (before d n so.holds v) g in
          record {
            declared = declared_of (take e text) d;
            says = rw (onwards-ask, gone, w.program, w.question) refl;
            represents = rw (sym count, w.program, w.question) w;
            names = names_stand text d e r (omega arith) v g.names;
          }

    pub ask-followed : AskEnd (declared_of (take e text) d) f (ask_rest (slice ask e text)) (Ok tt) r → e + 1 < length text → onwards text at n d m ≡ refused 10 (n + 1)
    ask-followed (unshaped w q) h = absurd (ok-err q)
    ask-followed (shaped g w z (qs, y, a)) h = followed qs (w ∙ ap some y) (λ clauses. z clauses ∙ ap (fault (declared_of (take e text) d) clauses) y) a h

    pub ask-last : AskEnd (declared_of (take e text) d) f (ask_rest (slice ask e text)) (Ok tt) r → length text ≤ e + 1 → f ≡ fitted m d n → Accepts (onwards text at n d m) text r
    ask-last (unshaped w q) h x = absurd (ok-err q)
    ask-last (shaped g w z (qs, y, a)) h x = last qs (w ∙ ap some y) (λ clauses. z clauses ∙ ap (fault (declared_of (take e text) d) clauses) y) a h x

-- THE TEXT IS ACCEPTED, and says the program and the question of crate asbestos.
use mathlib.Core.Path.{◌≡◌, refl, ap, ◌∙◌}
use mathlib.Core.Bool.{Bool, true, false, cond, ◌&&◌}
use mathlib.Core.List.{List, [], ◌∷◌, ◌++◌, map, append_assoc}
use Prim.Native.Nat.{ℕ, suc, ◌+◌, ◌≤◌, ◌<◌}
use native.Mathlib.Nat.{add-zero}
use native.Mathlib.Omega.{arith}
use lib.Dec.{eqb}
use lib.ListN.{length}
use borrow.Author.Tests.{eqb-true, ne_eqb, lt-leb, lt-ltb, le-ltb}
use Rattle.limits.specs.Limits as limit
use Rattle.semantics.specs.Labels.{union, set_of}
use Rattle.semantics.specs.Models.{is, isnt, Line, Program}
use Rattle.semantics.proofs.Tools.{below, below-use}
use Rattle.grammar.specs.Bytes.{bytes, alphanumeric, Word, is_name, lines}
use Rattle.grammar.specs.Forms.{plain, negated, Form, state_form, proper}
use Rattle.grammar.specs.Declarations.{Declared, lookup, count, extend, place, variables, supports, stands, all_variables}
use Rattle.grammar.specs.Rows.{lower, list_fault, body_fault, stages_fault, fault}
use Rattle.grammar.specs.Models.{declare, code_of, codes, clause, question_of}
use Rattle.grammar.specs.Texts.{accepted, adds, asks, effect, read_lines, outcome}
use Rattle.grammar.proofs.Tests.{and_left, and_right}
use Rattle.asbestos.specs.Messages.{levels, Process, most, Proper, AllProper, resulting_level}
use Rattle.asbestos.specs.Desk.{send_relation, receive_relation, mark_relation, labels, code, born, left, marking, raising, entry, each, entries, clauses, program, question}
use Rattle.asbestos.proofs.Codes.{proc, tried, tried-use, resulting_level-right}
use Rattle.asbestos.proofs.Sizes.{length-numbered, few-clauses}
use Rattle.asbestos_forms.specs.Forms.{names, label, declared, on, born_form, marking_form, raising_form, entry_forms, row_forms, table_forms, asked_form, clause_forms, printed, text}
use Rattle.asbestos_forms.proofs.Sizes.{text-long, text-short}
use Rattle.asbestos_forms.proofs.Printed.{printed-append, line-adds, line-asks, Says, AllSay, say-append, say-each, lines-add}

-- NAMES: each of the eleven is read as its relation
code-tried : below 11 (λ (c : ℕ). eqb (code_of declared (label c)) c) ≡ true
unfolding declared names label lookup
code-tried = refl

code-back : (c : ℕ) → c < 11 → code_of declared (label c) ≡ c
code-back c h = eqb-true _ _ (below-use 11 (λ (c : ℕ). eqb (code_of declared (label c)) c) code-tried c h)

left_back : (a c : ℕ) → a < levels → codes declared (map label (left a c)) ≡ left a c
left_back a c h = by (eqb c a)
  where
    by : (t : Bool) → codes declared (map label (cond t [] (send_relation a ∷ []))) ≡ cond t [] (send_relation a ∷ [])
    by true = refl
    by false = rw (code-back (send_relation a) (omega arith))

-- THE `state` LINES
abbrev declarable : Declared → List Word → Bool
declarable D [] = true
declarable D (w ∷ ws) = is_name w && eqb (fault D 0 (state_form w)) 0 && declarable (declare D (state_form w)) ws

abbrev declaring : Declared → List Word → Declared
declaring D [] = D
declaring D (w ∷ ws) = declaring (declare D (state_form w)) ws

lines-declare : (ws : List Word) (D : Declared) → declarable D ws ≡ true → (n : ℕ) (t : List ℕ) → read_lines n D [] (lines (printed (map state_form ws) ++ t)) ≡ read_lines (n + length ws) (declaring D ws) [] (lines t)
unfolding effect
lines-declare [] D e n t = rw (add-zero n)
lines-declare (w ∷ ws) D e n t =
    let E = declare D (state_form w) in
    let h = and_left (is_name w && eqb (fault D 0 (state_form w)) 0) (declarable E ws) e in
    ap (λ (s : List ℕ). read_lines n D [] (lines s)) (append_assoc (bytes "(state " ++ (w ++ bytes ")")) (bytes "\n" ++ printed (map state_form ws)) t)
    ∙ line-adds (state_form w) (and_left (is_name w) (eqb (fault D 0 (state_form w)) 0) h) n D [] (eqb-true (fault D 0 (state_form w)) 0 (and_right (is_name w) (eqb (fault D 0 (state_form w)) 0) h)) E [] refl (printed (map state_form ws) ++ t)
    ∙ lines-declare ws E (and_right (is_name w && eqb (fault D 0 (state_form w)) 0) (declarable E ws) e) (suc n) t
    ∙ rw (later n (length ws))
  where
    later : (n k : ℕ) → suc n + k ≡ n + suc k
    later n k = omega arith

names-declarable : declarable [] names ≡ true
unfolding names is_name alphanumeric fault lower declare lookup count
names-declarable = refl

names-declared : (declaring [] names ≡ declared) × (length names ≡ 11)
unfolding names declared declare count
names-declared = (refl, refl)

-- CLAUSES: a form that keeps the limits and is without fault
abbrev sound : Form → Bool
sound f = proper f && eqb (fault declared 0 f) 0

-- how many clauses are before it is no matter, if they are few
module _ (f : Form) (l : Line) (h : sound f ≡ true) (same : (c : ℕ) → c < limit.clauses → fault declared c f ≡ fault declared 0 f) where
  sound-says : ((n : ℕ) (P : Program) → effect n declared P f ≡ adds declared (P ++ ((n, l) ∷ []))) → Says declared f l
  sound-says does = record {
    shaped = and_left (proper f) (eqb (fault declared 0 f) 0) h;
    faultless = λ c few. same c few ∙ eqb-true (fault declared 0 f) 0 (and_right (proper f) (eqb (fault declared 0 f) 0) h);
    does = does;
  }

-- a kind
abbrev born-sound : ℕ → ℕ → ℕ → Bool → Bool
born-sound s r b m = sound (born_form (proc s r m)) && eqb (set_of (codes declared (map label (labels (proc s r m))))) (code (proc s r m))

born-tried : tried born-sound ≡ true
unfolding born_form code set_of union declared names label is_name alphanumeric fault lower lookup list_fault body_fault extend variables supports
born-tried = refl

born-says : (k : Process) → Proper k → Says declared (born_form k) (born k)
unfolding born_form effect clause fault
born-says k h = sound-says (born_form k) (born k) (and_left (sound (born_form k)) same_code right) (λ c few. rw (lt-leb limit.clauses c few)) (λ n P. rw (eqb-true (set_of (codes declared (map label (labels k)))) (code k) (and_right (sound (born_form k)) same_code right)))
  where
    same_code : Bool
    same_code = eqb (set_of (codes declared (map label (labels k)))) (code k)

    right : born-sound k.send k.receive 0 k.mark ≡ true
    right = tried-use born-sound born-tried k.send k.receive 0 h.0 h.1 (omega arith) k.mark

-- a table entry
abbrev entry-sound : ℕ → ℕ → Bool
entry-sound a b = sound (marking_form a b) && sound (raising_form a b)

entry-tried : below levels (λ (a : ℕ). below levels (λ (b : ℕ). entry-sound a b)) ≡ true
unfolding marking_form raising_form resulting_level declared names label is_name alphanumeric fault lower lookup list_fault body_fault extend variables supports
entry-tried = refl

module _ (a b : ℕ) (la : a < levels) (lb : b < levels) where
  entry-right : entry-sound a b ≡ true
  entry-right = below-use levels (λ (b : ℕ). entry-sound a b) (below-use levels (λ (a : ℕ). below levels (λ (b : ℕ). entry-sound a b)) entry-tried a la) b lb

  below-five : resulting_level a b < levels
  below-five = (resulting_level-right a b la lb).1

  marking-says : Says declared (marking_form a b) (marking a b)
  unfolding marking_form effect clause extend variables place fault
  marking-says = sound-says (marking_form a b) (marking a b) (and_left (sound (marking_form a b)) (sound (raising_form a b)) entry-right) (λ c few. rw (lt-leb limit.clauses c few))
      (λ n P. rw (left_back a (resulting_level a b) la, code-back mark_relation (omega arith), code-back (send_relation (resulting_level a b)) (omega (arith, below-five)), code-back (send_relation a) (omega arith), code-back (receive_relation b) (omega arith), code-back (send_relation b) (omega arith), lt-ltb (send_relation a) 32 (omega arith), lt-ltb (receive_relation b) 32 (omega arith), lt-ltb (send_relation b) 32 (omega arith)))

  raising-says : Says declared (raising_form a b) (raising a b)
  unfolding raising_form effect clause extend variables place fault
  raising-says = sound-says (raising_form a b) (raising a b) (and_right (sound (marking_form a b)) (sound (raising_form a b)) entry-right) (λ c few. rw (lt-leb limit.clauses c few))
      (λ n P. rw (code-back mark_relation (omega arith), code-back (send_relation (resulting_level a b)) (omega (arith, below-five)), code-back (send_relation a) (omega arith), code-back (receive_relation b) (omega arith), code-back (send_relation b) (omega arith), lt-ltb (send_relation a) 32 (omega arith), lt-ltb (receive_relation b) 32 (omega arith), lt-ltb (send_relation b) 32 (omega arith)))

  entry-says : AllSay declared (entry_forms a b) (entry a b)
  entry-says = (marking-says, more (eqb (resulting_level a b) a))
    where
      more : (t : Bool) → AllSay declared (cond t [] (raising_form a b ∷ [])) (cond t [] (raising a b ∷ []))
      more true = tt
      more false = (raising-says, tt)

kinds-say : (kinds : List Process) → AllProper kinds → AllSay declared (map born_form kinds) (map born kinds)
kinds-say [] h = tt
kinds-say (k ∷ ks) h = (born-says k h.0, kinds-say ks h.1)

clauses-say : (kinds : List Process) (port : ℕ) → AllProper kinds → port < levels → AllSay declared (clause_forms kinds port) (clauses kinds port)
clauses-say kinds port fit low = say-append declared (map born_form kinds) (map born kinds) (table_forms port) (entries port) (kinds-say kinds fit)
    (say-each declared levels (λ (a : ℕ). row_forms port a) (λ (a : ℕ). each (suc port) (λ (b : ℕ). entry a b))
    (λ a la. say-each declared (suc port) (λ (b : ℕ). entry_forms a b) (λ (b : ℕ). entry a b) (λ b lb. entry-says a b la (omega arith))))

-- THE QUESTION
asked-tried : below levels (λ (q : ℕ). sound (asked_form q)) ≡ true
unfolding asked_form declared names label is_name alphanumeric fault lower lookup body_fault stages_fault extend variables supports stands all_variables
asked-tried = refl

module _ (q : ℕ) (lq : q < levels) where
  asked-sound : sound (asked_form q) ≡ true
  asked-sound = below-use levels (λ (q : ℕ). sound (asked_form q)) asked-tried q lq

  asked-faultless : (c : ℕ) → fault declared c (asked_form q) ≡ 0
  unfolding asked_form fault
  asked-faultless c = eqb-true (fault declared 0 (asked_form q)) 0 (and_right (proper (asked_form q)) (eqb (fault declared 0 (asked_form q)) 0) asked-sound)

  asked-asks : (n : ℕ) (P : Program) → effect n declared P (asked_form q) ≡ asks (accepted declared P (question q))
  unfolding asked_form effect extend all_variables variables place
  asked-asks n P = by (eqb q 4)
    where
      by : (t : Bool) → asks (accepted declared P (question_of declared ((plain (on mark_relation "x") ∷ plain (on (receive_relation q) "x") ∷ cond t [] (negated (on (receive_relation (suc q)) "x") ∷ [])) ∷ []))) ≡ asks (accepted declared P ((is mark_relation 0 ∷ is (receive_relation q) 0 ∷ cond t [] (isnt (receive_relation (suc q)) 0 ∷ [])) ∷ []))
      by true = rw (code-back mark_relation (omega arith), code-back (receive_relation q) (omega arith), lt-ltb (receive_relation q) 32 (omega arith))
      by false = rw (code-back mark_relation (omega arith), code-back (receive_relation q) (omega arith), code-back (receive_relation (suc q)) (omega arith), lt-ltb (receive_relation q) 32 (omega arith))

-- THE TEXT is never refused, and says the program and the question
pub text-accepted : (kinds : List Process) (port level : ℕ) → AllProper kinds → length kinds ≤ most → port < levels → level < levels
    → outcome (text kinds port level) ≡ accepted declared (program kinds port) (question level)
unfolding outcome
text-accepted kinds port level fit few low asked = rw (ne_eqb (length (text kinds port level)) 0 (λ e. omega (arith, text-long kinds port level)), le-ltb limit.text (length (text kinds port level)) (omega (arith, text-short kinds port level fit few low asked))) walked
  where
    walked : read_lines 1 [] [] (lines (text kinds port level)) ≡ accepted declared (program kinds port) (question level)
    walked =
        ap (λ (s : List ℕ). read_lines 1 [] [] (lines s)) (printed-append (map state_form names) (clause_forms kinds port ++ (asked_form level ∷ [])) ∙ ap (λ (s : List ℕ). printed (map state_form names) ++ s) (printed-append (clause_forms kinds port) (asked_form level ∷ [])))
        ∙ lines-declare names [] names-declarable 1 (printed (clause_forms kinds port) ++ printed (asked_form level ∷ []))
        ∙ rw (names-declared.0, names-declared.1) (lines-add declared (clause_forms kinds port) (clauses kinds port) (clauses-say kinds port fit low) 12 [] (printed (asked_form level ∷ [])) (omega (arith, few-clauses kinds port low few, length-numbered 12 (clauses kinds port))))
        ∙ line-asks (asked_form level) (and_left (proper (asked_form level)) (eqb (fault declared 0 (asked_form level)) 0) (asked-sound level asked)) (12 + length (clauses kinds port)) declared (program kinds port) (asked-faultless level asked (length (program kinds port))) (accepted declared (program kinds port) (question level)) (asked-asks level asked _ _)

-- THE LISTING CAN BE HANDED IN as it is: it is read back as the verdict and the run that it shows.
use mathlib.Core.Path.{◌≡◌, refl, ap, ◌∙◌}
use mathlib.Core.Logic.{⊎_elim}
use mathlib.Core.Bool.{Bool, true, false}
use mathlib.Core.List.{List, [], ◌∷◌, ◌++◌, map, append_assoc, append-nil}
use mathlib.Core.Option.{some}
use Prim.Native.Nat.{ℕ, zero, suc, ◌+◌, ◌≤◌, ◌<◌}
use native.Mathlib.Nat.{add-zero}
use native.Mathlib.Omega.{arith}
use lib.ListN.{length, get_or, length-append}
use borrow.Author.Tests.{lt-ltb, le-ltb}
use Rattle.std.proofs.lemmas.Bool.{cases_Bool}
use Rattle.limits.specs.Limits as limit
use Rattle.semantics.specs.Labels.{has}
use Rattle.semantics.specs.Runs.{Place, step, meet}
use Rattle.model.specs.Places.{Numerable}
use Rattle.model.specs.declared.Model.{Model}
use Rattle.grammar.specs.Bytes.{allowed, alphanumeric, ended, lines, Word, is_name}
use Rattle.grammar.specs.Forms.{all}
use Rattle.grammar.proofs.Tests.{and_left, and_right, and_both}
use Rattle.listing_bytes.specs.Numerals.{decimal}
use Rattle.listing_lines.specs.Lines.{verdict_line, states_line, name_at, names_in, atomic_line, place_line, joined, listing_of}
use Rattle.handin_lines.specs.Lines.{verdict, place, said_by}
use Rattle.handin_lines.proofs.Printing.{front, states-back, atomic-back, step_back, meet-back, form-line, decimals-letters, names-letters}
use Rattle.handin.specs.Handins.{says-no, says-yes, onwards, follows, preface, read_lines, reading}
use Rattle.handin.proofs.Runs.{Numerables}

-- PLACES
place_front : Place → List ℕ
place_front (step ℓ o) = front "step" (decimal ℓ ∷ decimal o ∷ [])
place_front (meet i os) = front "meet" (decimal i ∷ map decimal os)

place-back : (p : Place) → Numerable p → said_by (place_front p) ≡ some (place p)
unfolding place_front
place-back (step ℓ o) h = step_back ℓ o h.0 h.1
place-back (meet i os) h = meet-back i os h.0 h.1 h.2

place-lines : (p : Place) (t : List ℕ) → lines (place_line p ++ t) ≡ ended (place_front p) ∷ lines t
unfolding place_line place_front allowed alphanumeric
place-lines (step ℓ o) t = form-line "step" (decimal ℓ ∷ decimal o ∷ []) t refl (decimals-letters (ℓ ∷ o ∷ []))
place-lines (meet i os) t = form-line "meet" (decimal i ∷ map decimal os) t refl (decimals-letters (i ∷ os))

-- the places after those of qs
run-back : (n : ℕ) (qs ps : List Place) → Numerables ps → length qs + length ps ≤ limit.run → onwards n qs (lines (joined (map place_line ps))) ≡ says-yes n (qs ++ ps)
unfolding onwards
run-back n qs [] h k = rw append-nil
run-back n qs (p ∷ ps) h k =
    let on = run-back n (qs ++ p ∷ []) ps h.1 (omega (arith, length-append qs (p ∷ []))) in
    rw (place-lines p (joined (map place_line ps)), place-back p h.0, onwards, lt-ltb (length qs) limit.run (omega arith)) (on ∙ rw (append_assoc qs (p ∷ []) ps))

-- THE FIRST LINE
verdict-back : (reached : Bool) (t : List ℕ) → read_lines (lines (verdict_line reached ++ t)) ≡ preface reached 2 (lines t)
unfolding verdict_line verdict read_lines
verdict-back true t = refl
verdict-back false t = refl

-- THE PREFACE
states-lines : (k : ℕ) (t : List ℕ) → lines (states_line k ++ t) ≡ ended (front "states" (decimal k ∷ [])) ∷ lines t
unfolding states_line allowed alphanumeric
states-lines k t = form-line "states" (decimal k ∷ []) t refl (decimals-letters (k ∷ []))

module _ (text : List ℕ) (m : Model) (named : (i : ℕ) → i < m.relations.count → is_name (name_at text m i) ≡ true) where
  all_append : (ws vs : List Word) → all is_name ws ≡ true → all is_name vs ≡ true → all is_name (ws ++ vs) ≡ true
  all_append [] vs e f = f
  all_append (w ∷ ws) vs e f = and_both (and_left (is_name w) (all is_name ws) e) (all_append ws vs (and_right (is_name w) (all is_name ws) e) f)

  names-named : (s i : ℕ) → i ≤ m.relations.count → all is_name (names_in text m s i) ≡ true
  names-named s zero h = refl
  names-named s (suc i) h = ⊎_elim
      (λ (q : has s (get_or m.relations.codes i 0) ≡ true). rw q (all_append (names_in text m s i) (name_at text m i ∷ []) (names-named s i (omega arith)) (and_both (named i h) refl)))
      (λ (q : has s (get_or m.relations.codes i 0) ≡ false). rw (q, append-nil) (names-named s i (omega arith)))
      (cases_Bool (has s (get_or m.relations.codes i 0)))

  abbrev names_of : ℕ → List Word
  names_of s = names_in text m s m.relations.count

  atomic-lines : (s : ℕ) (t : List ℕ) → lines (atomic_line text m s ++ t) ≡ ended (front "atomic" (names_of s)) ∷ lines t
  unfolding atomic_line allowed alphanumeric
  atomic-lines s t = form-line "atomic" (names_of s) t refl (names-letters (names_of s) (names-named s m.relations.count (omega arith)))

  states-passed : (reached : Bool) (n : ℕ) (states : List ℕ) (t : List ℕ)
      → preface reached n (lines (joined (map (atomic_line text m) states) ++ t)) ≡ preface reached (n + length states) (lines t)
  unfolding preface
  states-passed reached n [] t = rw (add-zero n)
  states-passed reached n (s ∷ states) t =
      let e : suc n + length states ≡ n + suc (length states) = omega arith in
      rw (
        append_assoc (atomic_line text m s) (joined (map (atomic_line text m) states)) t,
        atomic-lines s (joined (map (atomic_line text m) states) ++ t),
        atomic-back (names_of s) (names-named s m.relations.count (omega arith)),
        preface,
      ) (states-passed reached (suc n) states t ∙ rw e)

  whole : (reached : Bool) (states : List ℕ) (run : List Place)
      → listing_of text m reached states run ≡ verdict_line reached ++ (states_line (length states) ++ (joined (map (atomic_line text m) states) ++ joined (map place_line run)))
  unfolding listing_of
  whole reached states run =
      let a = joined (map (atomic_line text m) states) in
      let p = joined (map place_line run) in
      append_assoc (verdict_line reached ++ states_line (length states)) a p ∙ append_assoc (verdict_line reached) (states_line (length states)) (a ++ p)

  -- up to the run
  opened : (reached : Bool) (states : List ℕ) (run : List Place) → length (listing_of text m reached states run) ≤ limit.handin
      → reading (listing_of text m reached states run) ≡ preface reached (3 + length states) (lines (joined (map place_line run)))
  unfolding reading preface
  opened reached states run h =
      let k = length states in
      let a = joined (map (atomic_line text m) states) in
      let p = joined (map place_line run) in
      rw (le-ltb limit.handin (length (listing_of text m reached states run)) h) (
      ap (λ (s : List ℕ). read_lines (lines s)) (whole reached states run)
      ∙ verdict-back reached (states_line k ++ (a ++ p))
      ∙ rw (states-lines k (a ++ p), states-back k, preface) (states-passed reached 3 states p)
      )

  -- THE LAW
  pub read_back : (states : List ℕ) (run : List Place) → Numerables run → length run ≤ limit.run → length (listing_of text m true states run) ≤ limit.handin
      → reading (listing_of text m true states run) ≡ says-yes (3 + length states) run
  unfolding preface follows
  read_back states run h k l = opened true states run l ∙ played run h k
    where
      played : (run : List Place) → Numerables run → length run ≤ limit.run → preface true (3 + length states) (lines (joined (map place_line run))) ≡ says-yes (3 + length states) run
      played [] h k = run-back (3 + length states) [] [] h (omega arith)
      played (p ∷ ps) h k =
          let t = joined (map place_line ps) in
          rw (place-lines p t, place-back p h.0, preface) (rw (place-lines p t) at (run-back (3 + length states) [] (p ∷ ps) h (omega arith)))

  pub read-back-no : (states : List ℕ) → length (listing_of text m false states []) ≤ limit.handin → reading (listing_of text m false states []) ≡ says-no
  unfolding preface follows
  read-back-no states l = opened false states [] l

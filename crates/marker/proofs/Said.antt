-- WHAT A HAND-IN SAYS, by the answer to it; and of a yes, on which line its run begins at the latest, and that the numbers of its places stand for them.
use mathlib.Core.Path.{◌≡◌, refl, sym, ap, ap₂}
use mathlib.Core.Logic.{⊎_elim}
use mathlib.Core.Bool.{Bool, true, false, cond, false≢true}
use mathlib.Core.List.{List, [], ◌∷◌, ◌++◌, map}
use mathlib.Core.Option.{Option, none, some}
use Prim.Native.Nat.{ℕ, suc, ◌+◌, ◌≤◌}
use native.Mathlib.Omega.{arith}
use lib.Dec.{eqb, ltb}
use lib.ListN.{length}
use borrow.Author.Tests.{ltb-false}
use Rattle.std.proofs.lemmas.Bool.{cases_Bool}
use Rattle.limits.specs.Limits as limit
use Rattle.semantics.specs.Runs.{Place}
use Rattle.grammar.specs.Bytes.{Line, ended, unended, in_front, lines}
use Rattle.model.specs.Places.{number_of}
use Rattle.model.proofs.Places.{place-of-number}
use Rattle.replay_session.specs.Replays.{Decodes}
use Rattle.handin_lines.specs.Lines as line
use Rattle.handin_lines.specs.Lines.{nothing, place, said_by, verdict}
use Rattle.std.specs.Prelude.{Some, None, Ok, Err}
use Rattle.handin.specs.declared.Run.{Run}
use Rattle.handin.specs.declared.Unreadable.{Unreadable}
use Rattle.handin.specs.Handins.{Handin, says-no, says-yes, unreadable, content, onwards, follows, preface, read_lines, reading}
use Rattle.handin.specs.Answers.{told}
use Rattle.handin.proofs.Runs.{Numerables}

-- BY THE ANSWER
pub told-yes : (h : Handin) (r : Run) → told h ≡ Ok (Some r) → (ps : List Place) × (h ≡ says-yes r.first ps) × (r.places ≡ length ps)
told-yes says-no r e = absurd (false≢true cc)
told-yes (says-yes n ps) r e =
    let q : ◌≡◌ {A = Run} (record { first = n; places = length ps }) r = cc in
    (ps, ap (λ (s : Run). says-yes s.first ps) q, sym (ap (λ (s : Run). s.places) q))
told-yes (unreadable n) r e = absurd (false≢true cc)

pub told-no : (h : Handin) → told h ≡ Ok None → h ≡ says-no
told-no says-no e = refl
told-no (says-yes n ps) e = absurd (false≢true cc)
told-no (unreadable n) e = absurd (false≢true cc)

pub told-unreadable : (h : Handin) (u : Unreadable) → told h ≡ Err u → h ≡ unreadable u.line
told-unreadable says-no u e = absurd (false≢true cc)
told-unreadable (says-yes n ps) u e = absurd (false≢true cc)
told-unreadable (unreadable n) u e = let q : ◌≡◌ {A = Unreadable} (record { line = n }) u = cc in ap (λ (s : Unreadable). unreadable s.line) q

no-yes : {A : Type 0} (n first : ℕ) (ps : List Place) → unreadable n ≡ says-yes first ps → A
no-yes n first ps e = absurd (false≢true cc)

-- LINES are at most as many as bytes
in-front-count : (b : ℕ) (ls : List Line) → length (in_front b ls) ≤ suc (length ls)
in-front-count b [] = omega arith
in-front-count b (ended s ∷ ls) = omega arith
in-front-count b (unended s ∷ ls) = omega arith

few-lines : (s : List ℕ) → length (lines s) ≤ length s
few-lines [] = omega arith
few-lines (b ∷ s) = ⊎_elim (λ (q : eqb b 10 ≡ true). rw q (omega (arith, few-lines s))) (λ (q : eqb b 10 ≡ false). rw q (omega (arith, few-lines s, in-front-count b (lines s)))) (cases_Bool (eqb b 10))

-- A YES: its run begins on line n + k at the latest
module _ (first : ℕ) (ps : List Place) where
  one_place : (n : ℕ) (qs : List Place) (ls : List Line) (o : Option line.Said)
      → ((p : Place) → onwards n (qs ++ p ∷ []) ls ≡ says-yes first ps → first ≡ n)
      → elim o [
        | none ↦ unreadable (n + length qs)
        | some nothing ↦ unreadable (n + length qs)
        | some (place p) ↦ cond (ltb (length qs) limit.run) (onwards n (qs ++ p ∷ []) ls) (unreadable (n + length qs))
      ] ≡ says-yes first ps
      → first ≡ n
  one_place n qs ls none go e = no-yes (n + length qs) first ps e
  one_place n qs ls (some nothing) go e = no-yes (n + length qs) first ps e
  one_place n qs ls (some (place p)) go e =
      ⊎_elim (λ (t : ltb (length qs) limit.run ≡ true). go p (rw t at e))
      (λ (t : ltb (length qs) limit.run ≡ false). no-yes (n + length qs) first ps (rw t at e)) (cases_Bool (ltb (length qs) limit.run))

  run-first : (n : ℕ) (qs : List Place) (ls : List Line) → onwards n qs ls ≡ says-yes first ps → first ≡ n
  unfolding onwards
  run-first n qs [] e = cc
  run-first n qs (l ∷ ls) e = one_place n qs ls (said_by (content l)) (λ p. run-first n (qs ++ p ∷ []) ls) e

  follows-first : (reached : Bool) (n : ℕ) (ls : List Line) → follows reached n ls ≡ says-yes first ps → first ≡ n
  unfolding follows
  follows-first true n ls e = run-first n [] ls e
  follows-first false n [] e = absurd (false≢true cc)
  follows-first false n (l ∷ ls) e = no-yes n first ps e

  one_line : (reached : Bool) (n : ℕ) (l : Line) (ls : List Line) (o : Option line.Said) → (preface reached (suc n) ls ≡ says-yes first ps → first ≤ suc n + length ls)
      → elim o [ none ↦ follows reached n (l ∷ ls) | some nothing ↦ preface reached (suc n) ls | some (place p) ↦ follows reached n (l ∷ ls) ] ≡ says-yes first ps → first ≤ n + suc (length ls)
  one_line reached n l ls none go e = omega (arith, follows-first reached n (l ∷ ls) e)
  one_line reached n l ls (some nothing) go e = omega (arith, go e)
  one_line reached n l ls (some (place p)) go e = omega (arith, follows-first reached n (l ∷ ls) e)

  preface-first : (reached : Bool) (n : ℕ) (ls : List Line) → preface reached n ls ≡ says-yes first ps → first ≤ n + length ls
  unfolding preface
  preface-first reached n [] e = omega (arith, follows-first reached n [] e)
  preface-first reached n (l ∷ ls) e = one_line reached n l ls (said_by (content l)) (preface-first reached (suc n) ls) e

  verdict-first : (ls : List Line) (o : Option Bool) → elim o [ none ↦ unreadable 1 | some reached ↦ preface reached 2 ls ] ≡ says-yes first ps → first ≤ 2 + length ls
  verdict-first ls none e = no-yes 1 first ps e
  verdict-first ls (some reached) e = preface-first reached 2 ls e

  lines-first : (ls : List Line) → read_lines ls ≡ says-yes first ps → first ≤ 2 + length ls
  unfolding read_lines
  lines-first [] e = no-yes 1 first ps e
  lines-first (l ∷ ls) e = omega (arith, verdict-first ls (verdict (content l)) e)

  pub first_small : (handin : List ℕ) → reading handin ≡ says-yes first ps → first ≤ 2 + limit.handin
  unfolding reading
  first_small handin e =
      ⊎_elim (λ (q : ltb limit.handin (length handin) ≡ true). no-yes 0 first ps (rw q at e))
      (λ (q : ltb limit.handin (length handin) ≡ false). omega (arith, lines-first (lines handin) (rw q at e), few-lines handin, ltb-false limit.handin (length handin) q))
      (cases_Bool (ltb limit.handin (length handin)))

-- THE NUMBERS of places that have one stand for them
pub decodes : (ps : List Place) → Numerables ps → Decodes (map number_of ps) ps
decodes [] h = refl
decodes (p ∷ ps) h = ap₂ {C = List (Option Place)} (λ (x : Option Place) (l : List (Option Place)). x ∷ l) (place-of-number p h.0) (decodes ps h.1)

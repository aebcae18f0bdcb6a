-- Every place of a run that is read has a number, and there are at most 9,344.
use mathlib.Core.Path.{◌≡◌, refl, subst}
use mathlib.Core.Bool.{Bool, true, false}
use mathlib.Core.Logic.{⊎_elim}
use mathlib.Core.List.{List, [], ◌∷◌, ◌++◌}
use mathlib.Core.Option.{Option, none, some}
use Prim.Native.Nat.{ℕ, suc, ◌≤◌}
use native.Mathlib.Omega.{arith}
use lib.Dec.{ltb}
use lib.ListN.{length, length-append}
use borrow.Author.Tests.{ltb-true}
use Rattle.std.proofs.lemmas.Bool.{cases_Bool}
use Rattle.limits.specs.Limits as limit
use Rattle.semantics.specs.Runs.{Place}
use Rattle.model.specs.Places.{Numerable}
use Rattle.grammar.specs.Bytes.{Line, lines}
use Rattle.handin_lines.specs.Lines.{Said, verdict, nothing, place, said_by}
use Rattle.handin_lines.proofs.Numbers.{numerable}
use Rattle.handin.specs.Handins.{Handin, says-no, says-yes, unreadable, content, onwards, follows, preface, read_lines, reading}

-- each place has a number
abbrev pub Numerables : List Place → Type 0
Numerables [] = Unit {0}
Numerables (p ∷ ps) = Numerable p × Numerables ps

-- A RUN THAT CAN BE WRITTEN into the table
abbrev pub Writable : List Place → Type 0
Writable ps = (length ps ≤ limit.run) × Numerables ps

numerables-more : (ps : List Place) (p : Place) → Numerables ps → Numerable p → Numerables (ps ++ p ∷ [])
numerables-more [] p h k = (k, tt)
numerables-more (q ∷ ps) p h k = (h.0, numerables-more ps p h.1 k)

-- of a hand-in that says yes
abbrev Good : Handin → Type 0
Good says-no = Unit {0}
Good (says-yes first ps) = Writable ps
Good (unreadable n) = Unit {0}

onwards-good : (first : ℕ) (ps : List Place) (ls : List Line) → Writable ps → Good (onwards first ps ls)
unfolding onwards
onwards-good first ps [] h = h
onwards-good first ps (l ∷ ls) h = go (said_by (content l)) refl (λ qs k. onwards-good first qs ls k)
  where
    go : (o : Option Said) → said_by (content l) ≡ o → ((qs : List Place) → Writable qs → Good (onwards first qs ls)) → Good (onwards first ps (l ∷ ls))
    go none e on = rw (e, onwards) tt
    go (some nothing) e on = rw (e, onwards) tt
    go (some (place p)) e on = ⊎_elim
        (λ (q : ltb (length ps) limit.run ≡ true). rw (e, onwards, q) (on (ps ++ p ∷ []) (omega (arith, ltb-true (length ps) limit.run q, length-append ps (p ∷ [])), numerables-more ps p h.1 (numerable (content l) p e))))
        (λ (q : ltb (length ps) limit.run ≡ false). rw (e, onwards, q) tt) (cases_Bool (ltb (length ps) limit.run))

follows-good : (reached : Bool) (n : ℕ) (ls : List Line) → Good (follows reached n ls)
unfolding follows
follows-good true n ls = onwards-good n [] ls (omega arith, tt)
follows-good false n [] = tt
follows-good false n (l ∷ ls) = tt

preface-good : (reached : Bool) (n : ℕ) (ls : List Line) → Good (preface reached n ls)
unfolding preface
preface-good reached n [] = follows-good reached n []
preface-good reached n (l ∷ ls) = go (said_by (content l)) refl (preface-good reached (suc n) ls)
  where
    go : (o : Option Said) → said_by (content l) ≡ o → Good (preface reached (suc n) ls) → Good (preface reached n (l ∷ ls))
    go none e on = rw (e, preface) (follows-good reached n (l ∷ ls))
    go (some nothing) e on = rw (e, preface) on
    go (some (place p)) e on = rw (e, preface) (follows-good reached n (l ∷ ls))

lines-good : (ls : List Line) → Good (read_lines ls)
unfolding read_lines
lines-good [] = tt
lines-good (l ∷ ls) = go (verdict (content l)) refl
  where
    go : (o : Option Bool) → verdict (content l) ≡ o → Good (read_lines (l ∷ ls))
    go none e = rw (e, read_lines) tt
    go (some reached) e = rw (e, read_lines) (preface-good reached 2 ls)

-- THE LAW
pub run-writable : (handin : List ℕ) (first : ℕ) (ps : List Place) → reading handin ≡ says-yes first ps → Writable ps
unfolding reading
run-writable handin first ps e = subst Good e (⊎_elim
    (λ (q : ltb limit.handin (length handin) ≡ true). rw q tt)
    (λ (q : ltb limit.handin (length handin) ≡ false). rw q (lines-good (lines handin))) (cases_Bool (ltb limit.handin (length handin))))

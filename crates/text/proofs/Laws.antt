-- WHAT THE RECORD OF AN ACCEPTED TEXT SAYS, and of a call over it.
use mathlib.Core.Path.{◌≡◌, sym, ◌∙◌}
use mathlib.Core.Logic.{⊎_elim}
use mathlib.Core.Bool.{Bool, true, false, false≢true}
use mathlib.Core.List.{List}
use Prim.Native.Nat.{ℕ}
use lib.Dec.{eqb}
use lib.ListN.{length}
use borrow.Author.Tests.{eqb-true, eqb-false}
use Rattle.std.proofs.lemmas.Bool.{cases_Bool}
use Rattle.model.specs.Records.{program_of, question_of}
use Rattle.model.specs.WellFormed.{WellFormed}
use Rattle.model.specs.declared.Model.{Model}
use Rattle.grammar.specs.Texts.{Outcome, accepted, refused, outcome}
use Rattle.acceptance.proofs.WellFormed.{accepted-well-formed}
use Rattle.calls.specs.Calls.{early, called}
use Rattle.calls.proofs.Laws.{called-early, called-lines, sizes}
use Rattle.text.specs.Reading.{Accepts}

-- an accepted text is not refused
unlike : {o : Outcome} {n l : ℕ} {text : List ℕ} {m : Model} → Accepts o text m → o ≡ refused n l → ⊥
unlike a e = let f = a.says in false≢true cc

module _ (text : List ℕ) (m : Model) where
  pub read-well-formed : Accepts (outcome text) text m → WellFormed m
  read-well-formed a = accepted-well-formed text a.declared (program_of m) (question_of m) m a.says a.represents

  -- A CALL over an accepted text
  module _ (short long : Bool) (a : Accepts (called text short long) text m) where
    -- no row comes before the lines
    none-early : early (length text) short long ≡ 0
    none-early = ⊎_elim
        (λ (q : eqb (early (length text) short long) 0 ≡ true). eqb-true (early (length text) short long) 0 q)
        (λ (q : eqb (early (length text) short long) 0 ≡ false). absurd (unlike a (called-early text short long (eqb-false (early (length text) short long) 0 q))))
        (cases_Bool (eqb (early (length text) short long) 0))

    pub not-short : short ≡ false
    not-short = (sizes (length text) short long none-early).0

    pub not-long : long ≡ false
    not-long = (sizes (length text) short long none-early).1

    pub lines-say : outcome text ≡ accepted a.declared (program_of m) (question_of m)
    lines-say = sym (called-lines text short long none-early) ∙ a.says

    pub called-well-formed : WellFormed m
    called-well-formed = accepted-well-formed text a.declared (program_of m) (question_of m) m lines-say a.represents

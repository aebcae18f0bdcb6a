-- THE ANSWER TO A CALL, by what the reader and the list say.
use mathlib.Core.Path.{◌≡◌, ap, ◌∙◌}
use mathlib.Core.Bool.{true, false}
use mathlib.Core.List.{List}
use Prim.Native.Nat.{ℕ, ◌≤◌}
use lib.Dec.{ltb}
use lib.ListN.{length}
use borrow.Author.Tests.{ltb-false}
use Rattle.limits.specs.Limits as limit
use Rattle.model.specs.declared.Model.{Model}
use Rattle.model.specs.Records.{program_of, question_of}
use Rattle.model.specs.WellFormed.{WellFormed}
use Rattle.grammar.specs.Texts.{accepted, refused}
use Rattle.calls.specs.Calls.{called}
use Rattle.text.specs.Reading.{Accepts}
use Rattle.text.proofs.Laws.{not-short, called-well-formed}
use Rattle.striking.specs.Striking.{faulty}
use Rattle.strike_calls.specs.Calls.{with_list, asked}

module _ (text list work : List ℕ) where
  -- a refusal of the text is the answer
  pub asked-refused : {n l : ℕ} → called text (ltb (length work) limit.work) false ≡ refused n l → asked text list work ≡ refused n l
  asked-refused e = ap (with_list list) e

  -- the record of an accepted text
  module _ (m : Model) (a : Accepts (called text (ltb (length work) limit.work) false) text m) where
    pub asked-room : limit.work ≤ length work
    asked-room = ltb-false (length work) limit.work (not-short text m (ltb (length work) limit.work) false a)

    pub asked-model : WellFormed m
    asked-model = called-well-formed text m (ltb (length work) limit.work) false a

    -- a faulty list is refused,
    pub asked-faulty : faulty (program_of m) list ≡ true → asked text list work ≡ refused 19 0
    asked-faulty f = ap (with_list list) a.says ∙ rw f

    -- and any other is taken
    pub asked-taken : faulty (program_of m) list ≡ false → asked text list work ≡ accepted a.declared (program_of m) (question_of m)
    asked-taken f = ap (with_list list) a.says ∙ rw f

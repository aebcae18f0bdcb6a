-- What a clause's line is, what a list names, and the form of the question by its record.
use mathlib.Core.Path.{◌≡◌, refl, sym, ap, ◌∙◌}
use mathlib.Core.Bool.{Bool, true, not, ◌||◌}
use Rattle.std.specs.List.{list_any}
use mathlib.Core.List.{List, [], ◌∷◌, map}
use Prim.Native.Nat.{ℕ, ◌<◌}
use native.Mathlib.Omega.{arith}
use borrow.Author.Tests.{le-ltb, lt-ltb}
use lib.ListN.{length, get_or}
use Rattle.semantics.specs.Models.{Body, Program, line, Question, names}
use Rattle.model.specs.declared.Model.{Model}
use Rattle.model.specs.Records.{number_in, stage_of, question_of, stage_at, up_from}
use Rattle.model.specs.WellFormed.{WellFormed}
use Rattle.model.proofs.Accepted.{stages, stage-here, stage-names, stage-count}
use Rattle.game_lists.specs.Lists.{most, is_next, strange, faulty, Form, OneVariable}

-- THE LIST, line by line
pub list_any-strange : (P : Program) (ls : List ℕ) → list_any (λ (ℓ : ℕ). not (is_next (line P ℓ))) ls ≡ strange P ls
list_any-strange P [] = refl
list_any-strange P (ℓ ∷ ls) = ap (λ (b : Bool). not (is_next (line P ℓ)) || b) (list_any-strange P ls)

pub faulty-long : (P : Program) (ls : List ℕ) → most < length ls → true ≡ faulty P ls
unfolding faulty
faulty-long P ls l = rw (lt-ltb most (length ls) l) refl

pub faulty-short : (P : Program) (ls : List ℕ) (b : Bool) → (most < length ls → ⊥) → b ≡ strange P ls → b ≡ faulty P ls
unfolding faulty
faulty-short P ls b l e = rw (le-ltb most (length ls) (omega (arith, l))) e

-- THE QUESTION
one_only : (Q : Question) → length Q ≡ 1 → Q ≡ get_or Q 0 [] ∷ []
one_only [] e = absurd (omega (arith, e))
one_only (b ∷ []) e = refl
one_only (b ∷ c ∷ Q) e = absurd (omega (arith, e))

-- one stage with one variable, in the record and in the question
module _ (m : Model) (wf : WellFormed m) where
  only-stage : m.stagecount ≡ 1 → question_of m ≡ stage_of m.literals (stage_at m 0) ∷ []
  only-stage one = one_only (question_of m) (stages m wf ∙ one) ∙ ap (λ (b : Body). b ∷ []) (stage-here m wf 0 (omega (arith, one)))

  pub form_of : OneVariable m → Form (question_of m) (stage_of m.literals (stage_at m 0)) (number_in (stage_at m 0) 0)
  form_of (one, e) = (only-stage one, stage-names m wf 0 (omega (arith, one)) ∙ ap (λ (n : ℕ). map (number_in (stage_at m 0)) (up_from 0 n)) e)

  pub of-form : (b : Body) (x : ℕ) → Form (question_of m) b x → OneVariable m
  of-form b x f =
      let one : m.stagecount ≡ 1 = sym (stages m wf) ∙ ap length f.0 in
      (one, sym (stage-count m wf 0 (omega (arith, one))) ∙ ap (λ (Q : Question). length (names (get_or Q 0 []))) (sym (only-stage one) ∙ f.0) ∙ ap length f.1)

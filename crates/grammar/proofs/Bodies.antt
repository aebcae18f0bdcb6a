-- Laws of bodies: one literal more, and variables that are numbered once.
use mathlib.Core.Path.{◌≡◌, refl, sym}
use mathlib.Core.Bool.{true}
use mathlib.Core.List.{List, [], ◌∷◌, ◌++◌, append_assoc, append-nil}
use Rattle.grammar.specs.Bytes.{Word}
use Rattle.grammar.specs.Forms.{Literal, plain, negated}
use Rattle.grammar.specs.Declarations.{Declared, member, extend, variables, variables_of, supports, supports_of}
use Rattle.grammar.specs.Rows.{lower, literal_fault, body_fault}
use Rattle.grammar.specs.Models.{numbers, literal_of, body_of}
use Rattle.grammar.proofs.Lower.{lower-second, lower-assoc}
use Rattle.grammar.proofs.Words.{member-left, member_right, member-cons, same_refl, place-extend}

pub variables-more : (ls : List Literal) (l : Literal) → variables (ls ++ (l ∷ [])) ≡ variables ls ++ variables_of l
unfolding variables
variables-more [] l = append-nil (variables_of l)
variables-more (k ∷ ls) l = rw (variables-more ls l) (sym (append_assoc (variables_of k) (variables ls) (variables_of l)))

pub supports-more : (ls : List Literal) (l : Literal) → supports (ls ++ (l ∷ [])) ≡ supports ls ++ supports_of l
unfolding supports
supports-more [] l = append-nil (supports_of l)
supports-more (k ∷ ls) l = rw (supports-more ls l) (sym (append_assoc (supports_of k) (supports ls) (supports_of l)))

pub fault-more : (D : Declared) (ls : List Literal) (l : Literal) → body_fault D (ls ++ (l ∷ [])) ≡ lower (body_fault D ls) (literal_fault D l)
unfolding body_fault lower
fault-more D [] l = lower-second (literal_fault D l) 0 refl
fault-more D (k ∷ ls) l = rw (fault-more D ls l) (sym (lower-assoc (literal_fault D k) (body_fault D ls) (literal_fault D l)))

-- VARIABLES KEEP THEIR NUMBERS
module _ (D : Declared) (vs ws : List Word) where
  -- each of the variables is numbered
  abbrev pub Numbered : List Word → Type 0
  Numbered xs = (x : Word) → member x xs ≡ true → member x vs ≡ true

  pub numbers-stable : (xs : List Word) → Numbered xs → numbers D (extend vs ws) xs ≡ numbers D vs xs
  numbers-stable [] h = refl
  numbers-stable (x ∷ xs) h = rw (place-extend x vs ws (h x (rw (same_refl x))), numbers-stable xs (λ y q. h y (member-cons y x xs q)))

  literal-stable : (l : Literal) → Numbered (variables_of l) → literal_of D (extend vs ws) l ≡ literal_of D vs l
  literal-stable (plain a) h = rw (numbers-stable a.variables h)
  literal-stable (negated a) h = rw (numbers-stable a.variables h)

  pub body-stable : (ls : List Literal) → Numbered (variables ls) → body_of D (extend vs ws) ls ≡ body_of D vs ls
  unfolding variables
  body-stable [] h = refl
  body-stable (l ∷ ls) h =
      rw (literal-stable l (λ x q. h x (member-left x (variables_of l) (variables ls) q)), body-stable ls (λ x q. h x (member_right x (variables_of l) (variables ls) q)))

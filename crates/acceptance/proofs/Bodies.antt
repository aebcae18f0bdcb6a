-- LISTS AND BODIES without fault: their relations are declared, and their variables are the numbers of the words.
use mathlib.Core.Path.{◌≡◌, refl, sym, ◌∙◌, subst}
use mathlib.Core.Logic.{⊎_elim}
use mathlib.Core.Bool.{Bool, true, false, cond, not}
use mathlib.Core.List.{List, [], ◌∷◌, map, map-append}
use mathlib.Core.Option.{Option, none, some}
use Prim.Native.Nat.{ℕ, ◌^◌, ◌<◌}
use native.Mathlib.Nat.{one-le-pow}
use native.Mathlib.Omega.{arith}
use lib.Bits.{or_lt}
use lib.Pow.{pow-lt}
use lib.Dec.{eqb}
use lib.ListN.{length, get_or, length-map}
use borrow.Author.Tests.{eqb-true, not-false}
use Rattle.std.proofs.lemmas.Bool.{cases_Bool}
use Rattle.semantics.specs.Labels.{union, set_of}
use Rattle.semantics.specs.Models as meaning
use Rattle.semantics.specs.Models.{vars}
use Rattle.grammar.specs.Bytes.{Word}
use Rattle.grammar.specs.Forms.{Literal, plain, negated}
use Rattle.grammar.specs.Declarations as words
use Rattle.grammar.specs.Declarations.{is_state, arity_of, Declared, lookup, place, variables_of, supports_of}
use Rattle.grammar.specs.Rows.{row, name_fault, list_fault, head_fault, plain_fault, negated_fault, literal_fault, body_fault}
use Rattle.grammar.specs.Models.{code_of, codes, literal_of, body_of}
use Rattle.grammar.proofs.Lower.{lower-none}
use Rattle.acceptance.specs.Sound.{Each, GoodDeclarations, DeclaredRelation, DeclaredSet, GoodLiteral}
use Rattle.acceptance.proofs.Declarations.{row-none, found-state, found-derived}

-- A NAME without fault is found, and is of the kind that is wanted there
abbrev pub Found : Option ℕ → (ℕ → Type 0) → Type 0
Found o R = (c : ℕ) × (o ≡ some c) × R c

pub right : (n : ℕ) (b : Bool) → 0 < n → row n (not b) ≡ 0 → b ≡ true
right n b p e = not-false b (row-none n (not b) p e)

name-right : (o : Option ℕ) → name_fault o ≡ 0 → Found o (λ c. is_state c ≡ true)
name-right none e = absurd (omega arith)
name-right (some c) e = (c, refl, right 6 (is_state c) (omega arith) e)

head-right : (o : Option ℕ) (n : ℕ) → head_fault o n ≡ 0 → Found o (λ c. (is_state c ≡ false) × (n ≡ arity_of c))
head-right none n e = absurd (omega arith)
head-right (some c) n e = ⊎_elim
    (λ (q : is_state c ≡ true). absurd (let z = rw q at e in omega arith))
    (λ (q : is_state c ≡ false). (
      c,
      refl,
      (
        q,
        eqb-true n (arity_of c) (right 7 (eqb n (arity_of c)) (omega arith)
            (subst (λ (t : Bool). cond t 6 (row 7 (not (eqb n (arity_of c)))) ≡ 0) q e)),
      ),
    )) (cases_Bool (is_state c))

pub plain-right : (o : Option ℕ) (n : ℕ) → plain_fault o n ≡ 0 → Found o (λ c. n ≡ arity_of c)
plain-right none n e = absurd (omega arith)
plain-right (some c) n e = (c, refl, eqb-true n (arity_of c) (right 7 (eqb n (arity_of c)) (omega arith) e))

pub negated-right : (o : Option ℕ) (n : ℕ) → negated_fault o n ≡ 0 → Found o (λ c. (is_state c ≡ true) × (n ≡ arity_of c))
negated-right none n e = absurd (omega arith)
negated-right (some c) n e = ⊎_elim
    (λ (q : eqb n (arity_of c) ≡ true). (c, refl, (right 8 (is_state c) (omega arith) (rw q at e), eqb-true n (arity_of c) q)))
    (λ (q : eqb n (arity_of c) ≡ false). absurd (let z = rw q at e in omega arith)) (cases_Bool (eqb n (arity_of c)))

single : (xs : List ℕ) → length xs ≡ 1 → get_or xs 0 0 ∷ [] ≡ xs
single [] e = absurd (omega arith)
single (x ∷ []) e = refl
single (x ∷ y ∷ xs) e = absurd (omega arith)

module _ (D : Declared) (good : GoodDeclarations D) where
  -- A LIST
  pub list_set : (l : List Word) → list_fault D l ≡ 0 → DeclaredSet D (set_of (codes D l))
  unfolding list_fault set_of union
  list_set [] e = one-le-pow (words.count 0 D) 2 (omega arith)
  list_set (w ∷ ws) e =
      let f = lower-none (name_fault (lookup w D)) (list_fault D ws) e in
      let n = name-right (lookup w D) f.0 in
      rw n.1 (or_lt (words.count 0 D) (2 ^ n.0) (set_of (codes D ws)) (pow-lt (found-state D good w n.0 n.1 n.2)) (list_set ws f.1))

  -- A RULE'S HEAD
  pub good-head : (w : Word) (n : ℕ) → head_fault (lookup w D) n ≡ 0 → DeclaredRelation D (code_of D w) n
  good-head w n e = let r = head-right (lookup w D) n e in go r.0 r.1 r.2.0 r.2.1
    where
      go : (c : ℕ) → lookup w D ≡ some c → is_state c ≡ false → n ≡ arity_of c → DeclaredRelation D (code_of D w) n
      go c f q a = rw (a, f) (found-derived D good w c f q)

-- A LITERAL with the numbers that vs gives to its variables
module _ (D : Declared) (vs : List Word) where
  abbrev Right : Literal → meaning.Literal → Type 0
  Right l m =
      (GoodDeclarations D → GoodLiteral D m)
      × (meaning.variables m ≡ map (place vs) (variables_of l))
      × (meaning.supports m ≡ map (place vs) (supports_of l))

  literal-right : (l : Literal) → literal_fault D l ≡ 0 → Right l (literal_of D vs l)
  literal-right (plain a) e =
      let f = plain-right (lookup a.name D) (length a.variables) e in
      let n = map (place vs) a.variables in
      let len = length-map a.variables (place vs) in
      rw f.1 (⊎_elim
      (λ (q : is_state f.0 ≡ true).
      let one : length n ≡ 1 = len ∙ f.2 ∙ rw q in
      rw q ((λ good. found-state D good a.name f.0 f.1 q), single n one, single n one))
      (λ (q : is_state f.0 ≡ false). rw q ((λ good. subst (DeclaredRelation D f.0) (sym (len ∙ f.2)) (found-derived D good a.name f.0 f.1 q)), refl, refl))
      (cases_Bool (is_state f.0)))
  literal-right (negated a) e =
      let f = negated-right (lookup a.name D) (length a.variables) e in
      let n = map (place vs) a.variables in
      let one : length n ≡ 1 = length-map a.variables (place vs) ∙ f.2.1 ∙ rw f.2.0 in
      rw f.1 ((λ good. found-state D good a.name f.0 f.1 f.2.0), single n one, refl)

  -- A BODY
  pub good-literals : GoodDeclarations D → (b : List Literal) → body_fault D b ≡ 0 → Each (GoodLiteral D) (body_of D vs b)
  unfolding body_fault
  good-literals good [] e = tt
  good-literals good (l ∷ b) e =
      let f = lower-none (literal_fault D l) (body_fault D b) e in
      ((literal-right l f.0).0 good, good-literals good b f.1)

  pub vars-body : (b : List Literal) → body_fault D b ≡ 0 → vars (body_of D vs b) ≡ map (place vs) (words.variables b)
  unfolding body_fault words.variables
  vars-body [] e = refl
  vars-body (l ∷ b) e =
      let f = lower-none (literal_fault D l) (body_fault D b) e in
      rw ((literal-right l f.0).1, vars-body b f.1, map-append (place vs) (variables_of l) (words.variables b))

  pub supported-body : (b : List Literal) → body_fault D b ≡ 0 → meaning.supported (body_of D vs b) ≡ map (place vs) (words.supports b)
  unfolding body_fault words.supports
  supported-body [] e = refl
  supported-body (l ∷ b) e =
      let f = lower-none (literal_fault D l) (body_fault D b) e in
      rw ((literal-right l f.0).2, supported-body b f.1, map-append (place vs) (supports_of l) (words.supports b))

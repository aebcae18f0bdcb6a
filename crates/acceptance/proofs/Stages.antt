-- A STAGE whose variables are numbered within it, and those numbers in the `ask` line: what a record of the stage has to hold.
use mathlib.Core.Path.{◌≡◌, refl, sym, ap, ◌∙◌}
use mathlib.Core.Logic.{⊎_elim}
use mathlib.Core.Bool.{true, false}
use mathlib.Core.Option.{some}
use mathlib.Core.List.{List, [], ◌∷◌, map}
use Prim.Native.Nat.{ℕ, zero, suc, ◌<◌}
use native.Mathlib.Omega.{arith}
use lib.ListN.{length, take, get_or}
use lib.Seq.{get_or-take}
use Rattle.std.proofs.lemmas.Bool.{cases_Bool}
use Rattle.semantics.specs.Models.{names}
use Rattle.model.specs.Records.{rename, renamed}
use Rattle.grammar.specs.Bytes.{Word}
use Rattle.grammar.specs.Forms.{Atom, Literal, plain, negated}
use Rattle.grammar.specs.Declarations.{is_state, arity_of, Declared, lookup, member, extend, place, variables_of, variables}
use Rattle.grammar.specs.Rows.{literal_fault, body_fault}
use Rattle.grammar.specs.Models.{code_of, literal_of, body_of}
use Rattle.grammar.proofs.Words.{member-left, member_right, place-below}
use Rattle.grammar.proofs.Lower.{lower-none}
use Rattle.acceptance.proofs.Words.{member-here, extend-news, place_at}
use Rattle.acceptance.proofs.Bodies.{Found, plain-right, negated-right, vars-body}
use Rattle.acceptance.proofs.Questions.{Within, within-rest, firsts-numbers}

get_or-map-in : (f : Word → ℕ) (ws : List Word) (i : ℕ) → i < length ws → get_or (map f ws) i 0 ≡ f (get_or ws i [])
get_or-map-in f [] i h = absurd (omega arith)
get_or-map-in f (w ∷ ws) zero h = refl
get_or-map-in f (w ∷ ws) (suc i) h = get_or-map-in f ws i (omega arith)

-- THE NAMES of a stage are the numbers of its words, in order of first appearance
module _ (vs : List Word) where
  pub names-numbers : (D : Declared) (q : List Literal) → body_fault D q ≡ 0 → Within vs (variables q) → names (body_of D vs q) ≡ map (place vs) (extend [] (variables q))
  names-numbers D q e k = rw (vars-body D vs q e, extend-news [] (variables q)) (firsts-numbers vs [] (variables q) [] k (λ w m. refl))

-- a state relation takes one variable
state-arity : (D : Declared) (a : Atom) → literal_fault D (plain a) ≡ 0 → is_state (code_of D a.name) ≡ true → length a.variables ≡ 1
state-arity D a e q = go f.0 f.1 f.2 q
  where
    f : Found (lookup a.name D) (λ c. length a.variables ≡ arity_of c)
    f = plain-right (lookup a.name D) (length a.variables) e

    go : (c : ℕ) → lookup a.name D ≡ some c → length a.variables ≡ arity_of c → is_state (code_of D a.name) ≡ true → length a.variables ≡ 1
    go c o n q = n ∙ rw (rw o at q)

negated-arity : (D : Declared) (a : Atom) → literal_fault D (negated a) ≡ 0 → length a.variables ≡ 1
negated-arity D a e = let f = negated-right (lookup a.name D) (length a.variables) e in f.2.1 ∙ rw f.2.0

-- THE STAGE itself, its variables numbered within it and each then given the number at its place in ns
module _ (D : Declared) (vs own : List Word) (ns : List ℕ) (numbers : take (length own) ns ≡ map (place vs) own) where
  renumbered : (w : Word) → member w own ≡ true → get_or ns (place own w) 0 ≡ place vs w
  renumbered w m =
      let b = place-below w own m in
      sym (get_or-take (length own) ns (place own w) 0 b)
      ∙ ap (λ (l : List ℕ). get_or l (place own w) 0) numbers
      ∙ get_or-map-in (place vs) own (place own w) b
      ∙ ap (place vs) (place_at own w m)

  numbers-renamed : (ws : List Word) → Within own ws → map (λ x. get_or ns x 0) (map (place own) ws) ≡ map (place vs) ws
  numbers-renamed [] k = refl
  numbers-renamed (w ∷ ws) k = rw (renumbered w (k w (member-here w ws)), numbers-renamed ws (within-rest own w ws k))

  first-renamed : (ws : List Word) → length ws ≡ 1 → Within own ws → get_or ns (get_or (map (place own) ws) 0 0) 0 ≡ get_or (map (place vs) ws) 0 0
  first-renamed [] e k = absurd (omega arith)
  first-renamed (w ∷ ws) e k = renumbered w (k w (member-here w ws))

  -- a literal and a body
  literal-renamed : (l : Literal) → literal_fault D l ≡ 0 → Within own (variables_of l) → rename (λ x. get_or ns x 0) (literal_of D own l) ≡ literal_of D vs l
  literal-renamed (plain a) e k = ⊎_elim
      (λ (q : is_state (code_of D a.name) ≡ true). rw (q, first-renamed a.variables (state-arity D a e q) k))
      (λ (q : is_state (code_of D a.name) ≡ false). rw (q, numbers-renamed a.variables k))
      (cases_Bool (is_state (code_of D a.name)))
  literal-renamed (negated a) e k = rw (first-renamed a.variables (negated-arity D a e) k)

  pub body-renamed : (b : List Literal) → body_fault D b ≡ 0 → Within own (variables b) → renamed (λ x. get_or ns x 0) (body_of D own b) ≡ body_of D vs b
  unfolding body_fault variables
  body-renamed [] e k = refl
  body-renamed (l ∷ b) e k =
      let f = lower-none (literal_fault D l) (body_fault D b) e in
      rw (
        literal-renamed l f.0 (λ w m. k w (member-left w (variables_of l) (variables b) m)),
        body-renamed b f.1 (λ w m. k w (member_right w (variables_of l) (variables b) m)),
      )

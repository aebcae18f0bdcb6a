-- THE VARIABLES of a body without fault are safe, few, and numbered by first appearance.
use mathlib.Core.Path.{◌≡◌, sym, ap, ◌∙◌, subst}
use mathlib.Core.Logic.{⊎_elim}
use mathlib.Core.Bool.{true, ◌&&◌, false≢true}
use mathlib.Core.List.{List, [], ◌∷◌, ◌++◌, map, map-append}
use Prim.Native.Nat.{ℕ, ◌≤◌}
use native.Mathlib.Omega.{arith}
use lib.Dec.{eqb}
use lib.ListN.{length}
use borrow.Author.Tests.{eqb-true, eq-eqb, leb-true, le-ltb}
use Rattle.std.proofs.lemmas.Bool.{or_cases}
use Rattle.semantics.specs.Models.{elem, vars, firsts, Supported}
use Rattle.semantics.proofs.Tools.{or_right, elem-left, elem-right}
use Rattle.model.specs.Records.{up_from}
use Rattle.model.specs.WellFormed.{Numbered}
use Rattle.model.proofs.Numbering.{length-up_from}
use Rattle.grammar.specs.Bytes.{Word, same}
use Rattle.grammar.specs.Forms.{Literal, all}
use Rattle.grammar.specs.Declarations.{Declared, member, extend, place, variables, supports}
use Rattle.grammar.specs.Rows.{body_fault, supported, few, scope_fault}
use Rattle.grammar.specs.Models.{body_of}
use Rattle.grammar.proofs.Words.{same-eq}
use Rattle.grammar.proofs.Tests.{and_left, and_right}
use Rattle.acceptance.specs.Sound.{InOrder}
use Rattle.acceptance.proofs.Words.{member-here, news, extend-news, numbers-in-order, few-mapped}
use Rattle.acceptance.proofs.Bodies.{right, vars-body, supported-body}

-- THE NUMBERS of words
pub elem-mapped : (f : Word → ℕ) (x : ℕ) (ws : List Word) → elem x (map f ws) ≡ true → (w : Word) × (member w ws ≡ true) × (x ≡ f w)
elem-mapped f x [] e = absurd (false≢true e)
elem-mapped f x (w ∷ ws) e = ⊎_elim
    (λ q. (w, member-here w ws, eqb-true x (f w) q))
    (λ q. let r = elem-mapped f x ws q in (r.0, or_right (same r.0 w) (member r.0 ws) r.1, r.2))
    (or_cases (eqb x (f w)) (elem x (map f ws)) e)

pub mapped-elem : (f : Word → ℕ) (w : Word) (ws : List Word) → member w ws ≡ true → elem (f w) (map f ws) ≡ true
mapped-elem f w [] e = absurd (false≢true e)
mapped-elem f w (v ∷ ws) e = ⊎_elim
    (λ q. rw (eq-eqb (f w) (f v) (ap f (same-eq w v q))))
    (λ q. or_right (eqb (f w) (f v)) (elem (f w) (map f ws)) (mapped-elem f w ws q))
    (or_cases (same w v) (member w ws) e)

all-members : (S ws : List Word) → all (λ x. member x S) ws ≡ true → (w : Word) → member w ws ≡ true → member w S ≡ true
all-members S [] h w e = absurd (false≢true e)
all-members S (v ∷ ws) h w e = ⊎_elim
    (λ q. subst (λ (u : Word). member u S ≡ true) (sym (same-eq w v q)) (and_left (member v S) (all (λ x. member x S) ws) h))
    (λ q. all-members S ws (and_right (member v S) (all (λ x. member x S) ws) h) w q)
    (or_cases (same w v) (member w ws) e)

-- words are numbered from 0 by first appearance
pub in_order : (ws : List Word) → Numbered (map (place (extend [] ws)) ws) (length (extend [] ws))
in_order ws = numbers-in-order [] ws [] (λ i. sym (le-ltb i 0 (omega arith))) ∙ ap (λ (l : List Word). up_from 0 (length l)) (sym (extend-news [] ws))

pub few-in-order : (n : ℕ) (ws : List Word) → length (news [] ws) ≤ n → InOrder n (map (place (extend [] ws)) ws)
few-in-order n ws h =
    let e = in_order ws in
    let l = ap length e ∙ length-up_from 0 (length (extend [] ws)) in
    record { numbered = e ∙ ap (up_from 0) (sym l); few = rw (l, extend-news [] ws) h }

-- the variables of a head and a body, numbered by those of the line
pub numbered-by-line : (D : Declared) (hs : List Word) (b : List Literal) → body_fault D b ≡ 0
    → let vs = extend [] (hs ++ variables b) in Numbered (map (place vs) hs ++ vars (body_of D vs b)) (length vs)
numbered-by-line D hs b e = let vs = extend [] (hs ++ variables b) in rw (vars-body D vs b e, ← map-append (place vs) hs (variables b)) (in_order (hs ++ variables b))

-- A BODY with the variables hs in its head
module _ (D : Declared) (hs : List Word) (b : List Literal) (faultless : body_fault D b ≡ 0) (scoped : scope_fault hs b ≡ 0) where
  tests : (supported hs b && few hs b) ≡ true
  tests = right 9 (supported hs b && few hs b) (omega arith) scoped

  pub at-most-three : length (news [] (hs ++ variables b)) ≤ 3
  at-most-three = rw (extend-news [] (hs ++ variables b)) at (leb-true (length (extend [] (hs ++ variables b))) 3 (and_right (supported hs b) (few hs b) tests))

  -- whatever list the variables are numbered by
  module _ (vs : List Word) where
    safe : Supported (map (place vs) (hs ++ variables b)) (body_of D vs b)
    safe x e =
        let w = elem-mapped (place vs) x (hs ++ variables b) e in
        rw (supported-body D vs b faultless, w.2)
        (mapped-elem (place vs) w.0 (supports b) (all-members (supports b) (hs ++ variables b) (and_left (supported hs b) (few hs b) tests) w.0 w.1))

    pub safe-head : Supported (map (place vs) hs) (body_of D vs b)
    safe-head x e = safe x (rw (map-append (place vs) hs (variables b)) (elem-left x (map (place vs) hs) (map (place vs) (variables b)) e))

    pub safe-body : Supported (vars (body_of D vs b)) (body_of D vs b)
    safe-body x e = safe x (rw (map-append (place vs) hs (variables b)) (elem-right x (map (place vs) hs) (map (place vs) (variables b)) (rw (vars-body D vs b faultless) at e)))

    pub few-numbers : length (firsts [] (map (place vs) hs ++ vars (body_of D vs b))) ≤ 3
    few-numbers = rw (vars-body D vs b faultless, ← map-append (place vs) hs (variables b))
        (let z = few-mapped (place vs) [] (hs ++ variables b) [] (λ x e. absurd (false≢true e)) in let h = at-most-three in omega arith)

  -- where they are numbered by those of the line
  pub numbered : InOrder 3 (map (place (extend [] (hs ++ variables b))) hs ++ vars (body_of D (extend [] (hs ++ variables b)) b))
  numbered =
      let vs = extend [] (hs ++ variables b) in
      rw (vars-body D vs b faultless, ← map-append (place vs) hs (variables b)) (few-in-order 3 (hs ++ variables b) at-most-three)

-- The words of the stages, each once for each stage: their numbers, and those that are carried.
use mathlib.Core.Path.{◌≡◌, refl, sym, ap, ◌∙◌, subst}
use mathlib.Core.Logic.{⊎_elim}
use mathlib.Core.Bool.{Bool, true, false, cond, ◌&&◌, ◌||◌, or_assoc, or-false, false≢true}
use mathlib.Core.List.{List, [], ◌∷◌, ◌++◌, map}
use Prim.Native.Nat.{ℕ, suc, ◌+◌, ◌≤◌}
use native.Mathlib.Omega.{arith}
use lib.Dec.{leb}
use lib.ListN.{length}
use borrow.Author.Tests.{le-leb}
use Rattle.std.proofs.lemmas.Bool.{cases_Bool, or_cases}
use Rattle.semantics.specs.Models.{elem, only}
use Rattle.semantics.proofs.Tools.{or_right}
use Rattle.grammar.specs.Bytes.{Word, same}
use Rattle.grammar.specs.Forms.{Literal}
use Rattle.grammar.specs.Declarations.{member, extend, place, variables, stands, all_variables}
use Rattle.grammar.specs.Rows.{carried}
use Rattle.grammar.specs.Words.{Distinct}
use Rattle.grammar.proofs.Words.{same-eq, member-append, place-below, extend-append, distinct-extend}
use Rattle.acceptance.proofs.Words.{news, extend-news}
use Rattle.acceptance.proofs.Scopes.{elem-mapped}
use Rattle.acceptance.proofs.Questions.{ask_words, number-member, places-rise, only-carried}
use Rattle.text_carried.specs.Asking.{own, each, repeated, marked, Holds}
use Rattle.limits.specs.Limits as limit
use Rattle.text_scope.specs.declared.Scope.{Scope}
use Rattle.text_carried.proofs.Laws.{repeated-append, repeated-within, counted}
use Rattle.text_carried.proofs.Collecting.{mark, marked-below}

-- MEMBERS of a list with first appearances
pub member-extend : (x : Word) (vs xs : List Word) → member x (extend vs xs) ≡ (member x vs || member x xs)
unfolding extend
member-extend x vs [] = sym (or-false (member x vs))
member-extend x vs (y ∷ ys) = ⊎_elim
    (λ (q : member y vs ≡ true). rw q (member-extend x vs ys ∙ ⊎_elim
    (λ (p : same x y ≡ true). let m : member x vs ≡ true = subst (λ (z : Word). member z vs ≡ true) (sym (same-eq x y p)) q in rw m)
    (λ (p : same x y ≡ false). rw p) (cases_Bool (same x y))))
    (λ (q : member y vs ≡ false). rw q (member-extend x (vs ++ (y ∷ [])) ys ∙ rw (member-append x vs (y ∷ []), or-false (same x y)) (or_assoc (member x vs) (same x y) (member x ys))))
    (cases_Bool (member y vs))

-- first appearances are enough
extend-once : (vs seen xs : List Word) → ((x : Word) → member x seen ≡ true → member x vs ≡ true) → extend vs (news seen xs) ≡ extend vs xs
unfolding extend
extend-once vs seen [] h = refl
extend-once vs seen (x ∷ xs) h = ⊎_elim
    (λ (q : member x seen ≡ true). rw (q, h x q) (extend-once vs seen xs h))
    (λ (q : member x seen ≡ false). rw q (extend-once (cond (member x vs) vs (vs ++ (x ∷ []))) (seen ++ (x ∷ [])) xs (λ y e. more y e)))
    (cases_Bool (member x seen))
  where
    more : (y : Word) → member y (seen ++ (x ∷ [])) ≡ true → member y (cond (member x vs) vs (vs ++ (x ∷ []))) ≡ true
    more y e = member-extend y vs (x ∷ []) ∙ both y (rw (member-append y seen (x ∷ [])) at e)
      where
        both : (y : Word) → (member y seen || member y (x ∷ [])) ≡ true → (member y vs || member y (x ∷ [])) ≡ true
        both y g = ⊎_elim (λ (p : member y seen ≡ true). rw (h y p)) (λ (p : member y (x ∷ []) ≡ true). or_right (member y vs) (member y (x ∷ [])) p) (or_cases (member y seen) (member y (x ∷ [])) g)

pub own-extend : (vs : List Word) (q : List Literal) → extend vs (own q) ≡ extend vs (variables q)
own-extend vs q = rw (extend-news [] (variables q)) (extend-once vs [] (variables q) (λ x e. absurd (false≢true e)))

-- the words of the `ask` line
pub each-words : (vs : List Word) (qs : List (List Literal)) → extend vs (each qs) ≡ extend vs (all_variables qs)
unfolding all_variables
each-words vs [] = refl
each-words vs (q ∷ qs) = extend-append vs (own q) (each qs) ∙ rw (own-extend vs q) (each-words (extend vs (variables q)) qs) ∙ sym (extend-append vs (variables q) (all_variables qs))

-- WORDS THAT STAND AGAIN
again-own : (x : Word) (seen ys : List Word) → Distinct ys → member x (repeated seen ys) ≡ (member x seen && member x ys)
again-own x seen [] d = ⊎_elim (λ (q : member x seen ≡ true). rw q) (λ (q : member x seen ≡ false). rw q) (cases_Bool (member x seen))
again-own x seen (y ∷ ys) d = ⊎_elim
    (λ (p : same x y ≡ true). let z = same-eq x y p in let n : member x ys ≡ false = (rw z d.0) in ⊎_elim
    (λ (q : member y seen ≡ true). rw (q, p, subst (λ (w : Word). member w seen ≡ true) (sym z) q))
    (λ (q : member y seen ≡ false). let m : member x seen ≡ false = (rw z q) in rw (q, p, m, again-own x (seen ++ (y ∷ [])) ys d.1, n) (none_of (member x (seen ++ (y ∷ [])))))
    (cases_Bool (member y seen)))
    (λ (p : same x y ≡ false). ⊎_elim
    (λ (q : member y seen ≡ true). rw (q, p, again-own x seen ys d.1))
    (λ (q : member y seen ≡ false). rw (q, p, again-own x (seen ++ (y ∷ [])) ys d.1, member-append x seen (y ∷ []), p, or-false (member x seen)))
    (cases_Bool (member y seen)))
    (cases_Bool (same x y))
  where
    none_of : (b : Bool) → (b && false) ≡ false
    none_of true = refl
    none_of false = refl

abbrev one : Bool → ℕ
one b = cond b 1 0

pub again-stands : (x : Word) (seen : List Word) (qs : List (List Literal)) → member x (repeated seen (each qs)) ≡ leb 2 (one (member x seen) + stands x qs)
unfolding stands
again-stands x seen [] = ⊎_elim (λ (q : member x seen ≡ true). rw q) (λ (q : member x seen ≡ false). rw q) (cases_Bool (member x seen))
again-stands x seen (q ∷ qs) =
    let o : member x (own q) ≡ member x (variables q) = member-extend x [] (variables q) in
    rw (
      repeated-append seen (own q) (each qs),
      member-append x (repeated seen (own q)) (repeated (extend seen (own q)) (each qs)),
      again-own x seen (own q) (distinct-extend [] (variables q) tt),
      again-stands x (extend seen (own q)) qs,
      member-extend x seen (own q),
      o,
    )
    (cases (member x seen) (member x (variables q)) (stands x qs))
  where
    cases : (a b : Bool) (n : ℕ) → ((a && b) || leb 2 (one (a || b) + n)) ≡ leb 2 (one a + cond b (suc n) n)
    cases true true n = sym (le-leb 2 (1 + suc n) (omega arith))
    cases true false n = refl
    cases false true n = let z : 1 + n ≡ 0 + suc n = omega arith in ap (leb 2) z
    cases false false n = refl

-- THE CARRIED VARIABLES are the marked ones
module _ {text : List ℕ} {t : Scope limit.asked} (qs : List (List Literal)) (so : Holds text t (each qs)) where
  abbrev vs : List Word
  vs = ask_words qs

  abbrev twice : List Word
  twice = repeated [] (each qs)

  marks : (i : ℕ) → mark t i ≡ elem i (map (place vs) twice)
  marks i = so.again i ∙ ap (λ (l : List Word). elem i (map (place l) twice)) (each-words [] qs)

  inside : (w : Word) → member w twice ≡ true → member w vs ≡ true
  inside w m = subst (λ (l : List Word). member w l ≡ true) (each-words [] qs) (repeated-within w [] (each qs) m)

  told : (w : Word) → member w vs ≡ true → mark t (place vs w) ≡ leb 2 (stands w qs)
  told w m = marks (place vs w) ∙ number-member vs w twice m inside ∙ again-stands w [] qs ∙ (let z : 0 + stands w qs ≡ stands w qs = omega arith in ap (leb 2) z)

  beyond : (i : ℕ) → length vs ≤ i → mark t i ≡ false
  beyond i l = ⊎_elim
      (λ (q : elem i (map (place vs) twice) ≡ true). absurd (let w = elem-mapped (place vs) i twice q in let b = place-below w.0 vs (inside w.0 w.1) in omega (arith, w.2)))
      (λ (q : elem i (map (place vs) twice) ≡ false). marks i ∙ q)
      (cases_Bool (elem i (map (place vs) twice)))

  pub marked-carried : marked t ≡ map (place vs) (carried qs vs)
  marked-carried =
      marked-below t (length vs) (omega (arith, so.valid.count, ap length (each-words [] qs), counted so)) beyond
      ∙ ap (only (mark t)) (sym (places-rise (all_variables qs)))
      ∙ only-carried vs (mark t) qs told vs (λ w m. m)

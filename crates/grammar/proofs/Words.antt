-- Laws of lists of words: members, places and first appearances.
use mathlib.Core.Path.{◌≡◌, refl, sym, ap, ◌∙◌, subst}
use mathlib.Core.Logic.{⊎_elim}
use mathlib.Core.Bool.{Bool, true, false, cond, ◌&&◌, ◌||◌, or_assoc, or-false, and_assoc, and-true}
use mathlib.Core.List.{List, [], ◌∷◌, ◌++◌, map}
use Prim.Native.Nat.{suc, ◌+◌, ◌≤◌, ◌<◌}
use native.Mathlib.Nat.{zero-add, add-zero, suc-add}
use native.Mathlib.Omega.{arith}
use lib.Dec.{eqb}
use lib.ListN.{length, set, length-append}
use borrow.Author.Tests.{eqb-true}
use Rattle.std.proofs.lemmas.Bool.{cases_Bool}
use Rattle.grammar.specs.Bytes.{Word, same}
use Rattle.grammar.specs.Forms.{all}
use Rattle.grammar.specs.Declarations.{member, extend, place}
use Rattle.grammar.specs.Words.{Distinct, all_marked}
use Rattle.grammar.proofs.Tests.{clash, and_left, and_right, eqb_same}

pub same_refl : (w : Word) → same w w ≡ true
same_refl [] = refl
same_refl (b ∷ w) = rw (eqb_same b) (same_refl w)

pub same-eq : (a b : Word) → same a b ≡ true → a ≡ b
same-eq [] [] e = refl
same-eq [] (c ∷ b) e = clash e refl
same-eq (d ∷ a) [] e = clash e refl
same-eq (d ∷ a) (c ∷ b) e =
    let p = eqb-true d c (and_left (eqb d c) (same a b) e) in
    let q = same-eq a b (and_right (eqb d c) (same a b) e) in cc

pub same-sym : (a b : Word) → same a b ≡ false → same b a ≡ false
same-sym a b e = ⊎_elim (λ (q : same b a ≡ true). clash (subst (λ (x : Word). same a x ≡ true) (sym (same-eq b a q)) (same_refl a)) e) (λ q. q) (cases_Bool (same b a))

-- MEMBERS
pub member-append : (x : Word) (a b : List Word) → member x (a ++ b) ≡ (member x a || member x b)
member-append x [] b = refl
member-append x (y ∷ a) b = rw (member-append x a b) (sym (or_assoc (same x y) (member x a) (member x b)))

pub member-last : (x : Word) (a : List Word) → member x (a ++ (x ∷ [])) ≡ true
member-last x [] = rw (same_refl x)
member-last x (y ∷ a) = rw (member-last x a) (⊎_elim (λ (q : same x y ≡ true). rw q) (λ (q : same x y ≡ false). rw q) (cases_Bool (same x y)))

pub member-left : (x : Word) (a b : List Word) → member x a ≡ true → member x (a ++ b) ≡ true
member-left x a b e = member-append x a b ∙ rw e

pub member_right : (x : Word) (a b : List Word) → member x b ≡ true → member x (a ++ b) ≡ true
member_right x a b e = member-append x a b ∙ rw e (⊎_elim (λ (q : member x a ≡ true). rw q) (λ (q : member x a ≡ false). rw q) (cases_Bool (member x a)))

pub member-cons : (x y : Word) (a : List Word) → member x a ≡ true → member x (y ∷ a) ≡ true
member-cons x y a e = rw e (⊎_elim (λ (q : same x y ≡ true). rw q) (λ (q : same x y ≡ false). rw q) (cases_Bool (same x y)))

-- PLACES
pub place-hit : (x : Word) (a b : List Word) → member x a ≡ true → place (a ++ b) x ≡ place a x
unfolding place
place-hit x [] b e = clash e refl
place-hit x (y ∷ a) b e = ⊎_elim (λ (q : same x y ≡ true). rw q) (λ (q : same x y ≡ false). rw q (ap suc (place-hit x a b (rw q at e)))) (cases_Bool (same x y))

pub place-miss : (x : Word) (a b : List Word) → member x a ≡ false → place (a ++ b) x ≡ length a + place b x
unfolding place
place-miss x [] b e = rw zero-add
place-miss x (y ∷ a) b e = ⊎_elim (λ (q : same x y ≡ true). clash refl (rw q at e)) (λ (q : same x y ≡ false). rw (q, suc-add) (ap suc (place-miss x a b (rw q at e)))) (cases_Bool (same x y))

pub place_none : (x : Word) (a : List Word) → member x a ≡ false → place a x ≡ length a
unfolding place
place_none x [] e = refl
place_none x (y ∷ a) e = ⊎_elim (λ (q : same x y ≡ true). clash refl (rw q at e)) (λ (q : same x y ≡ false). rw q (ap suc (place_none x a (rw q at e)))) (cases_Bool (same x y))

pub place-below : (x : Word) (a : List Word) → member x a ≡ true → place a x < length a
unfolding place
place-below x [] e = clash e refl
place-below x (y ∷ a) e = ⊎_elim (λ (q : same x y ≡ true). rw q (omega arith)) (λ (q : same x y ≡ false). rw q (let h = place-below x a (rw q at e) in omega arith)) (cases_Bool (same x y))

-- FIRST APPEARANCES
pub extend-append : (vs a b : List Word) → extend vs (a ++ b) ≡ extend (extend vs a) b
unfolding extend
extend-append vs [] b = refl
extend-append vs (x ∷ a) b = extend-append (cond (member x vs) vs (vs ++ (x ∷ []))) a b

-- one more
abbrev one : List Word → Word → List Word
one vs x = cond (member x vs) vs (vs ++ (x ∷ []))

one-old : (x y : Word) (vs : List Word) → member y vs ≡ true → member y (one vs x) ≡ true
one-old x y vs e = ⊎_elim (λ (q : member x vs ≡ true). rw q e) (λ (q : member x vs ≡ false). rw q (member-left y vs (x ∷ []) e)) (cases_Bool (member x vs))

one-new : (x : Word) (vs : List Word) → member x (one vs x) ≡ true
one-new x vs = ⊎_elim (λ (q : member x vs ≡ true). rw (q, q)) (λ (q : member x vs ≡ false). rw q (member-last x vs)) (cases_Bool (member x vs))

pub extend-old : (y : Word) (vs xs : List Word) → member y vs ≡ true → member y (extend vs xs) ≡ true
unfolding extend
extend-old y vs [] e = e
extend-old y vs (x ∷ xs) e = extend-old y (one vs x) xs (one-old x y vs e)

pub extend-new : (y : Word) (vs xs : List Word) → member y xs ≡ true → member y (extend vs xs) ≡ true
unfolding extend
extend-new y vs [] e = clash e refl
extend-new y vs (x ∷ xs) e = ⊎_elim
    (λ (q : same y x ≡ true). extend-old y (one vs x) xs (subst (λ (z : Word). member z (one vs x) ≡ true) (sym (same-eq y x q)) (one-new x vs)))
    (λ (q : same y x ≡ false). extend-new y (one vs x) xs (rw q at e)) (cases_Bool (same y x))

pub place-extend : (y : Word) (vs xs : List Word) → member y vs ≡ true → place (extend vs xs) y ≡ place vs y
unfolding extend
place-extend y vs [] e = refl
place-extend y vs (x ∷ xs) e = place-extend y (one vs x) xs (one-old x y vs e)
    ∙ ⊎_elim (λ (q : member x vs ≡ true). rw q) (λ (q : member x vs ≡ false). rw q (place-hit y vs (x ∷ []) e)) (cases_Bool (member x vs))

pub extend-longer : (vs xs : List Word) → length vs ≤ length (extend vs xs)
unfolding extend
extend-longer vs [] = omega arith
extend-longer vs (x ∷ xs) =
    let h = extend-longer (one vs x) xs in
    let k : length vs ≤ length (one vs x) = ⊎_elim (λ (q : member x vs ≡ true). rw q (omega arith)) (λ (q : member x vs ≡ false). rw q (omega (arith, length-append vs (x ∷ [])))) (cases_Bool (member x vs)) in
    omega arith

-- DIFFERENT WORDS
or-none : (a b : Bool) → (a || b) ≡ false → (a ≡ false) × (b ≡ false)
or-none true b e = clash refl e
or-none false b e = (refl, e)

pub distinct_more : (vs : List Word) (x : Word) → Distinct vs → member x vs ≡ false → Distinct (vs ++ (x ∷ []))
distinct_more [] x d e = (refl, tt)
distinct_more (v ∷ vs) x d e =
    let p = or-none (same x v) (member x vs) e in
    (member-append v vs (x ∷ []) ∙ rw (d.0, same-sym x v p.0), distinct_more vs x d.1 p.1)

pub distinct-extend : (vs xs : List Word) → Distinct vs → Distinct (extend vs xs)
unfolding extend
distinct-extend vs [] d = d
distinct-extend vs (x ∷ xs) d = distinct-extend (one vs x) xs (⊎_elim (λ (q : member x vs ≡ true). rw q d) (λ (q : member x vs ≡ false). rw q (distinct_more vs x d q)) (cases_Bool (member x vs)))

-- MARKS: which of the words vs are among S
abbrev pub marks : List Word → List Word → List Bool
marks S vs = map (λ v. member v S) vs

pub marks-new : (S vs : List Word) (x : Word) → member x vs ≡ false → marks (S ++ (x ∷ [])) vs ≡ marks S vs
marks-new S [] x e = refl
marks-new S (v ∷ vs) x e =
    let p = or-none (same x v) (member x vs) e in
    rw (member-append v S (x ∷ []), same-sym x v p.0, or-false (member v S), marks-new S vs x p.1)

pub marks-old : (S vs : List Word) (x : Word) → Distinct vs → member x vs ≡ true → marks (S ++ (x ∷ [])) vs ≡ set (marks S vs) (place vs x) true
unfolding place
marks-old S [] x d e = clash e refl
marks-old S (v ∷ vs) x d e = ⊎_elim
    (λ (q : same x v ≡ true). let z = same-eq x v q in rw (q, marks-new S vs x (rw z d.0)) (ap (λ (m : Bool). m ∷ marks S vs) (subst (λ (y : Word). member y (S ++ (x ∷ [])) ≡ true) z (member-last x S))))
    (λ (q : same x v ≡ false). rw (q, member-append v S (x ∷ []), same-sym x v q, or-false (member v S)) (ap (λ (ms : List Bool). member v S ∷ ms) (marks-old S vs x d.1 (rw q at e)))) (cases_Bool (same x v))

pub marks-append : (S a b : List Word) → marks S (a ++ b) ≡ marks S a ++ marks S b
marks-append S [] b = refl
marks-append S (v ∷ a) b = ap (λ (ms : List Bool). member v S ∷ ms) (marks-append S a b)

-- WHAT HOLDS OF ALL: each word is among S
abbrev pub among : List Word → List Word → Bool
among S xs = all (λ x. member x S) xs

pub among-append : (S a b : List Word) → among S (a ++ b) ≡ (among S a && among S b)
among-append S [] b = refl
among-append S (x ∷ a) b = rw (among-append S a b) (sym (and_assoc (member x S) (among S a) (among S b)))

among-use : (S vs : List Word) (x : Word) → among S vs ≡ true → member x vs ≡ true → member x S ≡ true
among-use S [] x e h = clash h refl
among-use S (v ∷ vs) x e h = ⊎_elim
    (λ (q : same x v ≡ true). subst (λ (y : Word). member y S ≡ true) (sym (same-eq x v q)) (and_left (member v S) (among S vs) e))
    (λ (q : same x v ≡ false). among-use S vs x (and_right (member v S) (among S vs) e) (rw q at h)) (cases_Bool (same x v))

pub among-extend : (S vs xs : List Word) → among S (extend vs xs) ≡ (among S vs && among S xs)
unfolding extend
among-extend S vs [] = sym (and-true (among S vs))
among-extend S vs (x ∷ xs) = among-extend S (one vs x) xs ∙ ⊎_elim
    (λ (q : member x vs ≡ true). rw q (⊎_elim (λ (p : among S vs ≡ true). rw (p, among-use S vs x p q)) (λ (p : among S vs ≡ false). rw p) (cases_Bool (among S vs))))
    (λ (q : member x vs ≡ false). rw (q, among-append S vs (x ∷ []), and-true (member x S)) (and_assoc (among S vs) (member x S) (among S xs)))
    (cases_Bool (member x vs))

pub marks-all : (S vs : List Word) → all_marked (marks S vs) ≡ among S vs
marks-all S [] = refl
marks-all S (v ∷ vs) = rw (marks-all S vs)

pub place-own : (x : Word) (vs : List Word) → place (extend vs (x ∷ [])) x ≡ place vs x
unfolding extend place
place-own x vs = ⊎_elim (λ (q : member x vs ≡ true). rw q)
    (λ (q : member x vs ≡ false). rw q (place-miss x vs (x ∷ []) q ∙ rw (same_refl x, add-zero) (sym (place_none x vs q)))) (cases_Bool (member x vs))

pub extend-own : (x : Word) (vs : List Word) → member x (extend vs (x ∷ [])) ≡ true
extend-own x vs = extend-new x vs (x ∷ []) (rw (same_refl x))

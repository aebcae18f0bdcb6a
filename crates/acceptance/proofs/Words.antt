-- VARIABLES AS WORDS, and their numbers by first appearance.
use mathlib.Core.Path.{◌≡◌, refl, sym, ap, ◌∙◌, subst}
use mathlib.Core.Logic.{◌⊎◌, inl, inr, ⊎_elim}
use mathlib.Core.Bool.{true, false, cond, false≢true}
use mathlib.Core.List.{List, [], ◌∷◌, ◌++◌, map, append_assoc, append-nil}
use Prim.Native.Nat.{ℕ, zero, suc, ◌+◌, ◌≤◌, ◌<◌}
use native.Mathlib.Numerals.{add-one}
use native.Mathlib.Omega.{arith}
use lib.Dec.{eqb, ltb}
use lib.ListN.{length, get_or, length-append}
use borrow.Author.Tests.{eqb-true, eq-eqb, ne_eqb, lt-ltb, le-ltb, ltb-true, ltb-false}
use Rattle.std.proofs.lemmas.Bool.{cases_Bool, or_cases}
use Rattle.semantics.specs.Models.{elem, firsts, Distinct}
use Rattle.semantics.proofs.Tools.{same?, or_right, or-false, elem-here}
use Rattle.model.specs.Records.{up_from}
use Rattle.grammar.specs.Bytes.{Word, same}
use Rattle.grammar.specs.Declarations.{member, extend, place}
use Rattle.grammar.specs.Rows.{repeats}
use Rattle.grammar.proofs.Words.{same_refl, same-eq, member-append, member-left, member_right, place-below, place-extend}
use Rattle.grammar.proofs.Tests.{clash}

-- MEMBERS
pub member-here : (x : Word) (ys : List Word) → member x (x ∷ ys) ≡ true
member-here x ys = rw (same_refl x)

pub member-cases : (x : Word) (ys zs : List Word) → member x (ys ++ zs) ≡ true → (member x ys ≡ true) ⊎ (member x zs ≡ true)
member-cases x ys zs e = or_cases (member x ys) (member x zs) (rw (member-append x ys zs) at e)

-- THE NEW ONES of a list, in order of first appearance
abbrev pub news : List Word → List Word → List Word
news seen [] = []
news seen (x ∷ xs) = cond (member x seen) (news seen xs) (x ∷ news (seen ++ (x ∷ [])) xs)

pub extend-news : (seen xs : List Word) → extend seen xs ≡ seen ++ news seen xs
unfolding extend
extend-news seen [] = sym (append-nil seen)
extend-news seen (x ∷ xs) = ⊎_elim
    (λ (q : member x seen ≡ true). rw q (extend-news seen xs))
    (λ (q : member x seen ≡ false). rw q (extend-news (seen ++ (x ∷ [])) xs ∙ append_assoc seen (x ∷ []) (news (seen ++ (x ∷ [])) xs)))
    (cases_Bool (member x seen))

extend-seen : (seen xs : List Word) (x : Word) → member x seen ≡ true → extend seen (x ∷ xs) ≡ extend seen xs
unfolding extend
extend-seen seen xs x e = rw e

extend-fresh : (seen xs : List Word) (x : Word) → member x seen ≡ false → extend seen (x ∷ xs) ≡ extend (seen ++ (x ∷ [])) xs
unfolding extend
extend-fresh seen xs x e = rw e

pub length-snoc : {A : Type 0} (xs : List A) (x : A) → length (xs ++ (x ∷ [])) ≡ suc (length xs)
length-snoc xs x = length-append xs (x ∷ []) ∙ add-one (length xs)

-- PLACES
pub place_at : (ys : List Word) (x : Word) → member x ys ≡ true → get_or ys (place ys x) [] ≡ x
unfolding place
place_at [] x e = absurd (false≢true e)
place_at (y ∷ ys) x e = ⊎_elim
    (λ (q : same x y ≡ true). rw q (sym (same-eq x y q)))
    (λ (q : same x y ≡ false). rw q (place_at ys x (rw q at e))) (cases_Bool (same x y))

pub place-fresh : (ys zs : List Word) (x : Word) → member x ys ≡ false → place (ys ++ (x ∷ zs)) x ≡ length ys
unfolding place
place-fresh [] zs x e = rw (same_refl x)
place-fresh (y ∷ ys) zs x e = let h = or-false (same x y) (member x ys) e in rw h.0 (ap suc (place-fresh ys zs x h.1))

-- different members have different places
pub place-injective : (vs : List Word) (x y : Word) → member x vs ≡ true → member y vs ≡ true → place vs x ≡ place vs y → x ≡ y
place-injective vs x y h k e = sym (place_at vs x h) ∙ ap (λ (i : ℕ). get_or vs i []) e ∙ place_at vs y k

-- THE NUMBERS of a list of variables are 0, 1 .. by first appearance
place-seen : (seen xs : List Word) (x : Word) → member x seen ≡ true → place (extend seen xs) x < length seen
place-seen seen xs x e = rw (place-extend x seen xs e) (place-below x seen e)

place-next : (seen xs : List Word) (x : Word) → member x seen ≡ false → place (extend (seen ++ (x ∷ [])) xs) x ≡ length seen
place-next seen xs x e = rw (extend-news (seen ++ (x ∷ [])) xs, append_assoc seen (x ∷ []) (news (seen ++ (x ∷ [])) xs)) (place-fresh seen (news (seen ++ (x ∷ [])) xs) x e)

pub first-place : (x : Word) (ws : List Word) → place (extend [] (x ∷ ws)) x ≡ 0
first-place x ws = rw (extend-fresh [] ws x refl) (place-next [] ws x refl)

one_more : (S : List ℕ) (n : ℕ) → ((i : ℕ) → elem i S ≡ ltb i n) → (i : ℕ) → elem i (n ∷ S) ≡ ltb i (suc n)
one_more S n h i = ⊎_elim
    (λ e. rw (eq-eqb i n e, lt-ltb i (suc n) (omega arith)))
    (λ e. rw (ne_eqb i n e, h i) (below e (cases_Bool (ltb i n)))) (same? i n)
  where
    below : (i ≡ n → ⊥) → (ltb i n ≡ true) ⊎ (ltb i n ≡ false) → ltb i n ≡ ltb i (suc n)
    below e (inl p) = let z = ltb-true i n p in rw (p, lt-ltb i (suc n) (omega arith))
    below e (inr p) = let z = ltb-false i n p in rw (p, le-ltb i (suc n) (omega arith))

pub numbers-in-order : (seen xs : List Word) (S : List ℕ) → ((i : ℕ) → elem i S ≡ ltb i (length seen))
    → firsts S (map (place (extend seen xs)) xs) ≡ up_from (length seen) (length (news seen xs))
unfolding firsts extend
numbers-in-order seen [] S h = refl
numbers-in-order seen (x ∷ xs) S h = ⊎_elim
    (λ (q : member x seen ≡ true). subst (λ (E : List Word). firsts S (map (place E) (x ∷ xs)) ≡ up_from (length seen) (length (news seen (x ∷ xs)))) (sym (extend-seen seen xs x q))
    (rw (q, h (place (extend seen xs) x), lt-ltb (place (extend seen xs) x) (length seen) (place-seen seen xs x q)) (numbers-in-order seen xs S h)))
    (λ (q : member x seen ≡ false). subst (λ (E : List Word). firsts S (map (place E) (x ∷ xs)) ≡ up_from (length seen) (length (news seen (x ∷ xs)))) (sym (extend-fresh seen xs x q))
    (rw (q, place-next seen xs x q, h (length seen), le-ltb (length seen) (length seen) (omega arith))
    (ap {B = List ℕ} (λ (l : List ℕ). length seen ∷ l) (rw (length-snoc seen x) at
    (numbers-in-order (seen ++ (x ∷ [])) xs (length seen ∷ S) (λ i. rw (length-snoc seen x) (one_more S (length seen) h i)))))))
    (cases_Bool (member x seen))

-- a rule's head with no variable repeated has the first numbers
pub head-numbers : (seen hs xs : List Word) → ((x : Word) → member x hs ≡ true → member x seen ≡ false) → repeats hs ≡ false
    → map (place (extend seen (hs ++ xs))) hs ≡ up_from (length seen) (length hs)
head-numbers seen [] xs h r = refl
head-numbers seen (x ∷ hs) xs h r =
    let new = h x (member-here x hs) in
    let once = or-false (member x hs) (repeats hs) r in
    subst (λ (E : List Word). map (place E) (x ∷ hs) ≡ up_from (length seen) (suc (length hs))) (sym (extend-fresh seen (hs ++ xs) x new))
    (rw (place-next seen (hs ++ xs) x new)
    (ap {B = List ℕ} (λ (l : List ℕ). length seen ∷ l) (rw (length-snoc seen x) at (head-numbers (seen ++ (x ∷ [])) hs xs (apart once.0) once.1))))
  where
    apart : member x hs ≡ false → (y : Word) → member y hs ≡ true → member y (seen ++ (x ∷ [])) ≡ false
    apart o y e = ⊎_elim
        (λ (q : member y (seen ++ (x ∷ [])) ≡ true). ⊎_elim
        (λ p. clash p (h y (or_right (same y x) (member y hs) e)))
        (λ p. ⊎_elim (λ z. clash (subst (λ (w : Word). member w hs ≡ true) (same-eq y x z) e) o) (λ z. absurd (false≢true z)) (or_cases (same y x) false p))
        (member-cases y seen (x ∷ []) q))
        (λ (q : member y (seen ++ (x ∷ [])) ≡ false). q) (cases_Bool (member y (seen ++ (x ∷ []))))

-- NUMBERS THAT RISE by one
pub elem-up_from : (x k n : ℕ) → elem x (up_from k n) ≡ true → (k ≤ x) × (x < k + n)
elem-up_from x k zero e = absurd (false≢true e)
elem-up_from x k (suc n) e = ⊎_elim
    (λ q. let p = eqb-true x k q in (omega arith, omega arith))
    (λ q. let w = elem-up_from x (suc k) n q in (omega arith, omega arith))
    (or_cases (eqb x k) (elem x (up_from (suc k) n)) e)

pub up_from-distinct : (k n : ℕ) → Distinct (up_from k n)
up_from-distinct k zero = tt
up_from-distinct k (suc n) = (⊎_elim (λ (q : elem k (up_from (suc k) n) ≡ true). absurd (let w = elem-up_from k (suc k) n q in omega arith)) (λ q. q) (cases_Bool (elem k (up_from (suc k) n))), up_from-distinct (suc k) n)

-- HOW MANY. A mapped list has no more different elements
pub few-mapped : (f : Word → ℕ) (seen xs : List Word) (S : List ℕ) → ((x : Word) → member x seen ≡ true → elem (f x) S ≡ true)
    → length (firsts S (map f xs)) ≤ length (news seen xs)
unfolding firsts
few-mapped f seen [] S h = omega arith
few-mapped f seen (x ∷ xs) S h = ⊎_elim
    (λ (q : member x seen ≡ true). rw (q, h x q) (few-mapped f seen xs S h))
    (λ (q : member x seen ≡ false). rw q (⊎_elim
    (λ (p : elem (f x) S ≡ true). rw p (let z = few-mapped f (seen ++ (x ∷ [])) xs S (with_it S h p) in omega arith))
    (λ (p : elem (f x) S ≡ false). rw p (let z = few-mapped f (seen ++ (x ∷ [])) xs (f x ∷ S) (with_it (f x ∷ S) (λ y e. or_right (eqb (f y) (f x)) (elem (f y) S) (h y e)) (elem-here (f x) S)) in omega arith))
    (cases_Bool (elem (f x) S))))
    (cases_Bool (member x seen))
  where
    with_it : (T : List ℕ) → ((y : Word) → member y seen ≡ true → elem (f y) T ≡ true) → elem (f x) T ≡ true → (y : Word) → member y (seen ++ (x ∷ [])) ≡ true → elem (f y) T ≡ true
    with_it T k p y e = ⊎_elim (λ q. k y q)
        (λ q. ⊎_elim (λ z. subst (λ (w : Word). elem (f w) T ≡ true) (sym (same-eq y x z)) p) (λ z. absurd (false≢true z)) (or_cases (same y x) false q))
        (member-cases y seen (x ∷ []) e)

-- the more are seen, the fewer are new
pub news-fewer : (seen more xs : List Word) → ((x : Word) → member x seen ≡ true → member x more ≡ true) → length (news more xs) ≤ length (news seen xs)
news-fewer seen more [] h = omega arith
news-fewer seen more (x ∷ xs) h = ⊎_elim
    (λ (q : member x seen ≡ true). rw (q, h x q) (news-fewer seen more xs h))
    (λ (q : member x seen ≡ false). rw q (⊎_elim
    (λ (p : member x more ≡ true). rw p (let z = news-fewer (seen ++ (x ∷ [])) more xs (λ y e. ⊎_elim (λ w. h y w) (λ w. one y w p) (member-cases y seen (x ∷ []) e)) in omega arith))
    (λ (p : member x more ≡ false). rw p (let z = news-fewer (seen ++ (x ∷ [])) (more ++ (x ∷ [])) xs (λ y e. ⊎_elim (λ w. member-left y more (x ∷ []) (h y w)) (λ w. member_right y more (x ∷ []) w) (member-cases y seen (x ∷ []) e)) in omega arith))
    (cases_Bool (member x more))))
    (cases_Bool (member x seen))
  where
    one : (y : Word) → member y (x ∷ []) ≡ true → member x more ≡ true → member y more ≡ true
    one y e p = ⊎_elim (λ z. subst (λ (w : Word). member w more ≡ true) (sym (same-eq y x z)) p) (λ z. absurd (false≢true z)) (or_cases (same y x) false e)

pub news-append : (seen xs ys : List Word) → news seen (xs ++ ys) ≡ news seen xs ++ news (seen ++ news seen xs) ys
news-append seen [] ys = rw (append-nil seen)
news-append seen (x ∷ xs) ys = ⊎_elim
    (λ (q : member x seen ≡ true). rw q (news-append seen xs ys))
    (λ (q : member x seen ≡ false). rw q (ap {B = List Word} (λ (l : List Word). x ∷ l)
    (news-append (seen ++ (x ∷ [])) xs ys ∙ rw (append_assoc seen (x ∷ []) (news (seen ++ (x ∷ [])) xs)))))
    (cases_Bool (member x seen))

-- two lists have no more different words than both
pub news-both : (xs ys : List Word) → length (news [] (xs ++ ys)) ≤ length (news [] xs) + length (news [] ys)
news-both xs ys = rw (news-append [] xs ys, length-append (news [] xs) (news (news [] xs) ys))
    (let z = news-fewer [] (news [] xs) ys (λ x e. absurd (false≢true e)) in omega arith)

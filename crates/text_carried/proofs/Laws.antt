-- Laws of the table of the `ask` line's variables.
use mathlib.Core.Path.{◌≡◌, refl, sym, ap, ◌∙◌, subst}
use mathlib.Core.Logic.{⊎_elim}
use mathlib.Core.Bool.{true, false, cond, ◌||◌, or_assoc, or-true, or-false, false≢true}
use mathlib.Core.List.{List, [], ◌∷◌, ◌++◌, map, map-append, append-nil}
use Prim.Native.Nat.{ℕ, ◌≤◌, ◌<◌}
use native.Mathlib.Omega.{arith}
use lib.Dec.{eqb}
use lib.ListN.{length}
use lib.Seq.{slice}
use borrow.Author.Tests.{eqb-true, eqb-false}
use Rattle.std.proofs.lemmas.Bool.{cases_Bool}
use Rattle.limits.specs.Limits as limit
use Rattle.semantics.specs.Models.{elem}
use Rattle.grammar.specs.Bytes.{Word, same}
use Rattle.grammar.specs.Declarations.{member, extend, place}
use Rattle.grammar.proofs.Words.{same-eq, place_none, place-below, extend-append, extend-old}
use Rattle.grammar.proofs.Bodies.{numbers-stable}
use Rattle.acceptance.proofs.Scopes.{elem-mapped}
use Rattle.text_names.proofs.Laws.{length-list_of}
use Rattle.text_scope.proofs.Laws.{mark-same, mark-other, known-marking, valid-marking, mark-added, mark-kept, valid-added, known-added}
use Rattle.text_scope.specs.Scopes as scopes
use Rattle.text_scope.specs.declared.Scope.{Scope}
use Rattle.text_carried.specs.Asking.{repeated, Holds, Met}

-- WORDS THAT STAND AGAIN
pub repeated-append : (seen xs ys : List Word) → repeated seen (xs ++ ys) ≡ repeated seen xs ++ repeated (extend seen xs) ys
unfolding extend
repeated-append seen [] ys = refl
repeated-append seen (x ∷ xs) ys = ⊎_elim
    (λ (q : member x seen ≡ true). rw q (ap {B = List Word} (λ (l : List Word). x ∷ l) (repeated-append seen xs ys)))
    (λ (q : member x seen ≡ false). rw q (repeated-append (seen ++ (x ∷ [])) xs ys))
    (cases_Bool (member x seen))

pub repeated-within : (x : Word) (seen ws : List Word) → member x (repeated seen ws) ≡ true → member x (extend seen ws) ≡ true
unfolding extend
repeated-within x seen [] e = absurd (false≢true e)
repeated-within x seen (w ∷ ws) e = ⊎_elim
    (λ (q : member w seen ≡ true). rw q (⊎_elim
    (λ (p : same x w ≡ true). extend-old x seen ws (subst (λ (y : Word). member y seen ≡ true) (sym (same-eq x w p)) q))
    (λ (p : same x w ≡ false). repeated-within x seen ws (rw (q, p) at e))
    (cases_Bool (same x w))))
    (λ (q : member w seen ≡ false). rw q (repeated-within x (seen ++ (w ∷ [])) ws (rw q at e)))
    (cases_Bool (member w seen))

elem-last : (x : ℕ) (xs : List ℕ) (y : ℕ) → elem x (xs ++ (y ∷ [])) ≡ (elem x xs || eqb x y)
elem-last x [] y = or-false (eqb x y)
elem-last x (z ∷ xs) y = rw (elem-last x xs y) (sym (or_assoc (eqb x z) (elem x xs) (eqb x y)))

-- ONE WORD MORE
module _ {text : List ℕ} {t : Scope limit.asked} {ws : List Word} (so : Holds text t ws) where
  abbrev vs : List Word
  vs = extend [] ws

  pub counted : length vs ≡ t.count
  unfolding scopes.known_of
  counted = rw (← so.known) (length-list_of t.count (scopes.variable text t))

  -- no number behind those of the table is told
  beyond : (i : ℕ) → t.count ≤ i → elem i (map (place vs) (repeated [] ws)) ≡ false
  beyond i l = ⊎_elim
      (λ (q : elem i (map (place vs) (repeated [] ws)) ≡ true). absurd (let w = elem-mapped (place vs) i (repeated [] ws) q in let b = place-below w.0 vs (repeated-within w.0 [] ws w.1) in omega (arith, w.2, counted)))
      (λ (q : elem i (map (place vs) (repeated [] ws)) ≡ false). q)
      (cases_Bool (elem i (map (place vs) (repeated [] ws))))

  module _ (w : Word) where
    words_more : extend [] (ws ++ (w ∷ [])) ≡ extend vs (w ∷ [])
    words_more = extend-append [] ws (w ∷ [])

    repeated-more : repeated [] (ws ++ (w ∷ [])) ≡ repeated [] ws ++ cond (member w vs) (w ∷ []) []
    repeated-more = repeated-append [] ws (w ∷ [])

    -- what stood again before keeps its numbers
    numbers-kept : map (place (extend [] (ws ++ (w ∷ [])))) (repeated [] ws) ≡ map (place vs) (repeated [] ws)
    numbers-kept = rw words_more (numbers-stable [] vs (w ∷ []) (repeated [] ws) (λ x q. repeated-within x [] ws q))

    -- it is known
    module _ {i : ℕ} (k : scopes.Known vs w i) (l : i < length t.variables) where
      words-old : extend [] (ws ++ (w ∷ [])) ≡ vs
      unfolding extend
      words-old = words_more ∙ rw k.known

      again-old : (j : ℕ) → scopes.mark (scopes.marking t i) j ≡ elem j (map (place (extend [] (ws ++ (w ∷ [])))) (repeated [] (ws ++ (w ∷ []))))
      again-old j = rw (repeated-more, k.known, map-append (place (extend [] (ws ++ (w ∷ [])))) (repeated [] ws) (w ∷ []), numbers-kept, words-old, ← k.number, elem-last j (map (place vs) (repeated [] ws)) i) (⊎_elim
          (λ (q : eqb j i ≡ true). subst (λ (n : ℕ). scopes.mark (scopes.marking t i) n ≡ true) (sym (eqb-true j i q)) (mark-same t i l) ∙ rw q (sym (or-true (elem j (map (place vs) (repeated [] ws))))))
          (λ (q : eqb j i ≡ false). mark-other t i j (eqb-false j i q) ∙ so.again j ∙ rw q (sym (or-false (elem j (map (place vs) (repeated [] ws))))))
          (cases_Bool (eqb j i)))

      met-old : Holds text (scopes.marking t i) (ws ++ (w ∷ []))
      met-old = record {
        valid = valid-marking t i l so.valid;
        known = known-marking t i l text ∙ so.known ∙ sym words-old;
        again = again-old;
      }

    -- it is new
    module _ (m : member w vs ≡ false) where
      words-new : extend [] (ws ++ (w ∷ [])) ≡ vs ++ (w ∷ [])
      unfolding extend
      words-new = words_more ∙ rw m

      repeated-new : repeated [] (ws ++ (w ∷ [])) ≡ repeated [] ws
      repeated-new = repeated-more ∙ rw m (append-nil (repeated [] ws))

      again-new : (a e : ℕ) → t.count < limit.asked → (j : ℕ) → scopes.mark (scopes.added t a e false) j ≡ elem j (map (place (extend [] (ws ++ (w ∷ [])))) (repeated [] (ws ++ (w ∷ []))))
      again-new a e room j = rw (repeated-new, numbers-kept) (⊎_elim
          (λ (q : eqb j t.count ≡ true). let z = eqb-true j t.count q in subst (λ (n : ℕ). scopes.mark (scopes.added t a e false) n ≡ false) (sym z) (mark-added t a e false so.valid room) ∙ sym (beyond j (omega arith)))
          (λ (q : eqb j t.count ≡ false). mark-kept t a e false so.valid room j (eqb-false j t.count q) ∙ so.again j)
          (cases_Bool (eqb j t.count)))

  met-new : {a e : ℕ} → member (slice a e text) vs ≡ false → t.count < limit.asked → a ≤ e → e ≤ length text → Holds text (scopes.added t a e false) (ws ++ (slice a e text ∷ []))
  met-new {a} {e} m room h k = record {
    valid = valid-added t a e false so.valid room h k;
    known = known-added t a e false so.valid room ∙ ap (λ (us : List Word). us ++ (slice a e text ∷ [])) so.known ∙ sym (words-new (slice a e text) m);
    again = again-new (slice a e text) m a e room;
  }

-- THE CONTRACT of `meet`
module _ (text : List ℕ) (t : Scope limit.asked) (a e : ℕ) (v : scopes.Valid text t) where
  long : length (scopes.known_of text t) ≡ t.count
  unfolding scopes.known_of
  long = length-list_of t.count (scopes.variable text t)

  module _ {i : ℕ} (k : scopes.Known (scopes.known_of text t) (slice a e text) i) where
    pub met-below : i < t.count
    met-below = omega (arith, k.number, place-below (slice a e text) (scopes.known_of text t) k.known, long)

    pub met-known : Met text t a e (scopes.marking t i) i
    met-known = record {
      few = omega arith;
      small = omega (arith, met-below);
      number = k.number;
      holds = λ ws so. met-old so (slice a e text) (subst (λ (us : List Word). scopes.Known us (slice a e text) i) so.known k) (omega (arith, met-below, v.count, v.variables));
    }

  pub met-fresh : member (slice a e text) (scopes.known_of text t) ≡ false → t.count < limit.asked → a ≤ e → e ≤ length text → Met text t a e (scopes.added t a e false) t.count
  met-fresh m room h k = record {
    few = omega arith;
    small = omega arith;
    number = sym (place_none (slice a e text) (scopes.known_of text t) m ∙ long);
    holds = λ ws so. met-new so (subst (λ (us : List Word). member (slice a e text) us ≡ false) so.known m) room h k;
  }

-- The closure of a matrix, slot by slot.
use mathlib.Core.Path.{◌≡◌, subst}
use mathlib.Core.Logic.{◌⊎◌, inl, inr, ⊎_elim, ◌≢◌}
use mathlib.Core.Bool.{true}
use mathlib.Core.List.{List, [], ◌∷◌, ◌++◌}
use Prim.Native.Nat.{ℕ, zero, suc, ◌≤◌, ◌<◌}
use native.Mathlib.Omega.{arith}
use native.Mathlib.Nat.{not-suc-le-zero}
use Rattle.limits.specs.Limits as limit
use Rattle.semantics.proofs.Tools.{same?}
use Rattle.facts_bits.specs.Width as width
use Rattle.facts_bits.specs.Bits.{in_row}
use Rattle.search_ways.specs.Moves.{Marks, With}
use Rattle.search_ways.specs.Steps.{Between}
use Rattle.search_ways.specs.Chains.{Inside, Links, Linked, Through}
use Rattle.search_ways.proofs.Marking.{marks-so}

-- BY WAY OF THE SLOTS BELOW k
module _ (w : List ℕ) where
  abbrev pub Via : ℕ → ℕ → ℕ → Type 0
  Via zero e t = in_row w e t ≡ true
  Via (suc k) e t = Via k e t ⊎ (Via k e k × Via k k t)

  via-first : (k e t : ℕ) → in_row w e t ≡ true → Via k e t
  via-first zero e t h = h
  via-first (suc k) e t h = inl (via-first k e t h)

  -- what is linked by way of u, below k, is linked so
  via-through : (k u e t : ℕ) → u < k → Via k e u → Via k u t → Via k e t
  via-through zero u e t l a b = absurd (not-suc-le-zero l)
  via-through (suc k) u e t l a b = ⊎_elim
      (λ (q : u ≡ k). inr (to e (subst (λ (v : ℕ). Via (suc k) e v) q a), from t (subst (λ (v : ℕ). Via (suc k) v t) q b)))
      (λ (q : u ≢ k). ⊎_elim
      (λ x. ⊎_elim (λ y. inl (via-through k u e t (omega arith) x y)) (λ y. inr (via-through k u e k (omega arith) x y.0, y.1)) b)
      (λ x. ⊎_elim (λ y. inr (x.0, via-through k u k t (omega arith) x.1 y)) (λ y. inr (x.0, y.1)) b)
      a)
      (same? u k)
    where
      to : (e : ℕ) → Via (suc k) e k → Via k e k
      to e (inl x) = x
      to e (inr x) = x.0

      from : (t : ℕ) → Via (suc k) k t → Via k k t
      from t (inl x) = x
      from t (inr x) = x.1

  module _ (n : ℕ) (few : n ≤ limit.listed) (inside : Inside n w) where
    via-inside : (k e t : ℕ) → k ≤ n → t < width.slots → Via k e t → (e < n) × (t < n)
    via-inside zero e t h l v = inside e t l v
    via-inside (suc k) e t h l v = ⊎_elim
        (λ x. via-inside k e t (omega arith) l x)
        (λ x. ((via-inside k e k (omega arith) (omega arith) x.0).0, (via-inside k k t (omega arith) l x.1).1))
        v

    -- one slot more
    pub via-more : (k : ℕ) → k < n → (w₁ w₂ : List ℕ) → Marks w₁ (Via k) → Marks w₂ (With w₁ (λ e t. (e < n) × Through w₁ k e t)) → Marks w₂ (Via (suc k))
    via-more k h w₁ w₂ a b = marks-so w₂ (With w₁ (λ e t. (e < n) × Through w₁ k e t)) (Via (suc k))
        (λ e t l.
        let p = a.bits e t l in
        let q = a.bits e k (omega arith) in
        let r = a.bits k t l in (
          λ x. ⊎_elim (λ y. inl (p.0 y)) (λ y. inr (q.0 y.1.0, r.0 y.1.1)) x,
          λ x. ⊎_elim (λ y. inl (p.1 y)) (λ y. inr ((via-inside k e k (omega arith) (omega arith) y.0).0, (q.1 y.0, r.1 y.1))) x,
        ))
        b

  -- BY WAY OF ALL SLOTS: a chain
  links-append : (n e k t : ℕ) (us vs : List ℕ) → k < n → Links w n e us k → Links w n k vs t → Links w n e (us ++ (k ∷ vs)) t
  links-append n e k t [] vs h a b = (h, a, b)
  links-append n e k t (u ∷ us) vs h a b = (a.0, a.1, links-append n u k t us vs h a.2 b)

  via_linked : (n k e t : ℕ) → k ≤ n → Via k e t → Linked w n e t
  via_linked n zero e t h v = ([], v)
  via_linked n (suc k) e t h v = ⊎_elim
      (λ x. via_linked n k e t (omega arith) x)
      (λ x. let a = via_linked n k e k (omega arith) x.0 in let b = via_linked n k k t (omega arith) x.1 in (a.0 ++ (k ∷ b.0), links-append n e k t a.0 b.0 h a.1 b.1))
      v

  linked-via : (n e t : ℕ) (us : List ℕ) → Links w n e us t → Via n e t
  linked-via n e t [] h = via-first n e t h
  linked-via n e t (u ∷ us) h = via-through n u e t h.0 (via-first n e u h.1) (linked-via n u t us h.2)

  pub via-all : (n : ℕ) → n ≤ limit.listed → Inside n w → (w' : List ℕ) → Marks w' (Via n) → Marks w' (Between n (Linked w n))
  via-all n few inside w' h = marks-so w' (Via n) (Between n (Linked w n))
      (λ e t l. (
        λ v. let b = via-inside n few inside n e t (omega arith) l v in (b.0, b.1, via_linked n n e t (omega arith) v),
        λ q. linked-via n e t q.2.0 q.2.1,
      ))
      h

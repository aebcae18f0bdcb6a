-- THE CONTRACT LEAVES NO FREEDOM but the row of lines shown: the answer and the work area are settled.
use mathlib.Core.Path.{◌≡◌, refl, sym, ap, ◌∙◌}
use mathlib.Core.Logic.{⊎_elim}
use mathlib.Core.List.{List}
use Prim.Native.Nat.{ℕ}
use native.Mathlib.Omega.{arith}
use Rattle.semantics.specs.Models.{Program}
use Rattle.calls.specs.Crowding.{Crowded}
use Rattle.std.specs.Prelude.{Option, Some, None, Result, Ok, Err}
use Rattle.rows.specs.Rows.{number_of}
use Rattle.rows.specs.declared.Refusal.{Refusal}
use Rattle.rows.proofs.Laws.{same-refusal}
use Rattle.shortest_answer.specs.Answering.{Both, Shown, Refusing, Answered, Finds}

module _ (P : Program) (s t : ℕ) where
  -- a refusal is none of the answers
  not-refused : (n : ℕ) → Refusing P s t n → (Crowded P → ⊥) → Both P s t → ⊥
  not-refused n r few both = ⊎_elim (λ q. few q.1) (λ q. q.2 both) r

  one_number : (n k : ℕ) → Refusing P s t n → Refusing P s t k → n ≡ k
  one_number n k q r = ⊎_elim
      (λ x. ⊎_elim (λ y. x.0 ∙ sym y.0) (λ y. absurd (y.1 x.1)) r)
      (λ x. ⊎_elim (λ y. absurd (x.1 y.1)) (λ y. x.0 ∙ sym y.0) r)
      q

  -- two shortest ways have as many steps
  one-count : (run r r' : List ℕ) (n k : ℕ) → Shown P s t run r n → Shown P s t run r' k → n ≡ k
  one-count run r r' n k x y =
      let h = x.shortest.row in
      let a = x.shortest.so h x.shortest.helpers in
      let b = y.shortest.so h x.shortest.helpers in
      omega (arith, x.count, y.count, a.1 y.lines b.0, b.1 x.lines a.0)

  answered : (run : List ℕ) (a b : Result (Option ℕ) Refusal) (r r' : List ℕ) → Answered P s t run r a → Answered P s t run r' b → a ≡ b
  answered run (Ok (Some n)) (Ok (Some k)) r r' x y = ap (λ (i : ℕ). Ok (Some i)) (one-count run r r' n k x.2 y.2)
  answered run (Ok (Some n)) (Ok None) r r' x y = let h = x.2.shortest in absurd (y.2.so h.row h.helpers x.2.lines (h.so h.row h.helpers).0)
  answered run (Ok (Some n)) (Err z) r r' x y = absurd (not-refused (number_of z.row) y.0 x.0 x.1)
  answered run (Ok None) (Ok (Some n)) r r' x y = let h = y.2.shortest in absurd (x.2.so h.row h.helpers y.2.lines (h.so h.row h.helpers).0)
  answered run (Ok None) (Ok None) r r' x y = refl
  answered run (Ok None) (Err z) r r' x y = absurd (not-refused (number_of z.row) y.0 x.0 x.1)
  answered run (Err z) (Ok (Some k)) r r' x y = absurd (not-refused (number_of z.row) x.0 y.0 y.1)
  answered run (Err z) (Ok None) r r' x y = absurd (not-refused (number_of z.row) x.0 y.0 y.1)
  answered run (Err z) (Err w) r r' x y = ap Err (same-refusal z w (one_number (number_of z.row) (number_of w.row) x.0 y.0) (x.1 ∙ sym y.1))

  pub settled : (work run : List ℕ) (a b : Result (Option ℕ) Refusal) (w w' r r' : List ℕ) → Finds P s t work run a w r → Finds P s t work run b w' r' → (a ≡ b) × (w ≡ w')
  settled work run a b w w' r r' x y = (answered run a b r r' x.answer y.answer, x.area ∙ sym y.area)

-- THE RECORD OF LINES while it is filled.
use mathlib.Core.Path.{◌≡◌, sym, ap₂, ◌∙◌}
use mathlib.Core.Bool.{true, false}
use mathlib.Core.List.{List, [], ◌∷◌, ◌++◌, append_assoc}
use Prim.Native.Nat.{ℕ, suc, ◌+◌, ◌-◌, ◌≤◌, ◌<◌}
use native.Mathlib.Omega.{arith}
use native.Mathlib.Numerals.{add-one}
use lib.ListN.{length, drop, get_or, set, replicate, length-append, length-drop}
use lib.Seq.{drop-cons, take-append_seam}
use Rattle.semantics.proofs.Tools.{set-append-add}
use Rattle.semantics.specs.Labels.{has}
use Rattle.striking.specs.Striking.{most}
use Rattle.striking.specs.Numbers.{numbered}
use Rattle.strike_list.specs.declared.Lines.{Lines}
use Rattle.strike_list.specs.Lists.{padded, shown, listed}

-- n lines are in the row, and zeros behind them
pub record Holds (row : List ℕ) (n : ℕ) (C : List ℕ) : Type 0 where
  pub same : row ≡ padded C
  pub count : n ≡ length C

-- one line more
pub holds_more : (row : List ℕ) (n : ℕ) (C : List ℕ) (x : ℕ) → Holds row n C → n < most → Holds (set row n x) (n + 1) (C ++ x ∷ [])
holds_more row n C x h l = record {
  same = ap₂ {C = List ℕ} (λ (r : List ℕ) (k : ℕ). set r k x) h.same place ∙ rw room (set-append-add C (0 ∷ replicate (most - suc (length C)) 0) 0 x ∙ rw (length-append, add-one) (sym (append_assoc C (x ∷ []) (replicate (most - suc (length C)) 0))));
  count = omega (arith, h.count, length-append C (x ∷ []));
}
  where
    place : n ≡ length C + 0
    place = omega (arith, h.count)

    room : most - length C ≡ suc (most - suc (length C))
    room = omega (arith, h.count)

pub holds-shown : (row : List ℕ) (n : ℕ) (C : List ℕ) → Holds row n C → ◌≡◌ {A = Lines} (record { lines = row; count = n }) (shown C)
holds-shown row n C h = ap₂ {C = Lines} (λ (r : List ℕ) (k : ℕ). record { lines = r; count = k }) h.same h.count

-- the record has the lines of its list, and room for them
pub listed-shown : (C : List ℕ) → listed (shown C) ≡ C
listed-shown C = take-append_seam C (replicate (most - length C) 0)

pub shown-fits : (r : Lines) (C : List ℕ) → r ≡ shown C → r.count ≤ length r.lines
shown-fits r C e = rw e (omega (arith, length-append C (replicate (most - length C) 0)))

-- THE LINES OF A CHOICE, after the first i lines: those that it strikes, and before them in the choice nothing is left out
pub record Chosen (xs : List ℕ) (number : ℕ) (row : List ℕ) (n i : ℕ) : Type 0 where
  pub lines : List ℕ
  pub holds : Holds row n lines
  pub few : n ≤ i
  pub rest : lines ++ numbered (drop i xs) number ≡ numbered xs number

module _ (xs : List ℕ) (number : ℕ) where
  module _ (row : List ℕ) (n i bit : ℕ) (c : Chosen xs number row n i) (l : i < length xs) (e : suc (bit + i) ≡ length xs) where
    behind : length (drop (suc i) xs) ≡ bit
    behind = omega (arith, length-drop (suc i) xs)

    pub chosen-struck : (x : ℕ) → get_or xs i 0 ≡ x → length xs ≤ most → has number bit ≡ true → Chosen xs number (set row n x) (n + 1) (i + 1)
    chosen-struck x q k h = record {
      lines = c.lines ++ x ∷ [];
      holds = holds_more row n c.lines x c.holds (omega (arith, c.few));
      few = omega (arith, c.few);
      rest = rw (add-one, append_assoc c.lines (x ∷ []) (numbered (drop (suc i) xs) number)) (sym taken ∙ c.rest);
    }
      where
        taken : c.lines ++ numbered (drop i xs) number ≡ c.lines ++ (x ∷ numbered (drop (suc i) xs) number)
        taken = rw (drop-cons xs i 0 l, behind, h, q)

    pub chosen-kept : has number bit ≡ false → Chosen xs number row n (i + 1)
    chosen-kept h = record {
      lines = c.lines;
      holds = c.holds;
      few = omega (arith, c.few);
      rest = rw add-one (sym left ∙ c.rest);
    }
      where
        left : c.lines ++ numbered (drop i xs) number ≡ c.lines ++ numbered (drop (suc i) xs) number
        left = rw (drop-cons xs i 0 l, behind, h)

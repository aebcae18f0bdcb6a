-- THE ANSWER BY THE TABLE: the smallest choice of a table that decides every choice is the cure.
use mathlib.Core.Path.{◌≡◌, refl, ap, ◌∙◌, subst}
use mathlib.Core.Logic.{inl, inr, ⊎_elim}
use mathlib.Core.Bool.{Bool, true, false}
use mathlib.Core.List.{List, [], ◌∷◌}
use mathlib.Core.Option.{none, some}
use Prim.Native.Nat.{ℕ, suc, ◌^◌, ◌≤◌, ◌<◌}
use native.Mathlib.Omega.{arith}
use lib.ListN.{length, get_or}
use Rattle.std.proofs.lemmas.Bool.{cases_Bool}
use Rattle.std.specs.Prelude.{Option, Some, None, Ok, Err, unwrap_or}
use Rattle.rows.specs.declared.Refusal.{Refusal}
use Rattle.semantics.specs.Labels.{has}
use Rattle.semantics.specs.Models.{Program, Question}
use Rattle.semantics.specs.Questions.{Reached, Verdict}
use Rattle.grammar.specs.Texts.{Outcome, accepted, refused}
use Rattle.striking.specs.Striking.{strike, most, Cured, rising}
use Rattle.striking.specs.Numbers.{numbered}
use Rattle.striking.proofs.Numbers.{Sooner, cure-by, no-cure-by}
use Rattle.strike_list.specs.declared.Lines.{Lines}
use Rattle.strike_list.specs.Lists.{shown, listed}
use Rattle.strike_list.proofs.Records.{listed-shown}
use Rattle.strike_table.specs.declared.Table.{Table}
use Rattle.strike_table.specs.Tables.{Filled}
use Rattle.strike_table.proofs.Laws.{total-most}
use Rattle.strike_calls.specs.Choices as strike
use Rattle.strike_calls.specs.Choices.{Decided}
use Rattle.strike_calls.specs.declared.Choices.{Choices}
use Rattle.cure.specs.Curing.{Advises, Leaves}
use Rattle.cure.specs.Soonest.{size_at, Least, Soonest}

-- what a size says of a choice
size-large : (xs : List ℕ) (said : List (Option Bool)) (k : ℕ) → unwrap_or (get_or said k None) false ≡ true → size_at xs said k ≡ suc most
size-large xs said k e = rw e

size-own : (xs : List ℕ) (said : List (Option Bool)) (k : ℕ) → unwrap_or (get_or said k None) false ≡ false → size_at xs said k ≡ length (numbered xs k)
size-own xs said k e = rw e

-- a choice strikes at most all lines
numbered-few : (ys : List ℕ) (k : ℕ) → length (numbered ys k) ≤ length ys
numbered-few [] k = omega arith
numbered-few (y ∷ ys) k = ⊎_elim (λ (q : has k (length ys) ≡ true). rw q (omega (arith, numbered-few ys k))) (λ (q : has k (length ys) ≡ false). rw q (omega (arith, numbered-few ys k))) (cases_Bool (has k (length ys)))

module _ (P : Program) (Q : Question) (L : List ℕ) (t : Table) (few : length (rising L) ≤ most) (d : Filled P Q (rising L) t) where
  abbrev xs : List ℕ
  xs = rising L

  -- a choice whose size is its own is unreached, and one with a larger size is reached
  is-reached : (k : ℕ) → k < 2 ^ length xs → unwrap_or (get_or t.said k None) false ≡ true → Reached (strike P (numbered xs k)) Q
  is-reached k l e = subst (λ (b : Bool). Verdict (strike P (numbered xs k)) Q b) e (d.verdict k l)

  is-unreached : (k : ℕ) → k < 2 ^ length xs → unwrap_or (get_or t.said k None) false ≡ false → Reached (strike P (numbered xs k)) Q → ⊥
  is-unreached k l e = subst (λ (b : Bool). Verdict (strike P (numbered xs k)) Q b) e (d.verdict k l)

  none-cures : ((k : ℕ) → k < t.total → most < size_at xs t.said k) → Cured P Q L none
  none-cures large = no-cure-by L P Q (λ k l. ⊎_elim (is-reached k l)
      (λ (q : unwrap_or (get_or t.said k None) false ≡ false). absurd (omega (arith, large k (omega (arith, d.total, l)), size-own xs t.said k q, numbered-few xs k, few)))
      (cases_Bool (unwrap_or (get_or t.said k None) false)))

  module _ (n : ℕ) (s : Least (size_at xs t.said) t.total n) where
    own : unwrap_or (get_or t.said n None) false ≡ false
    own = ⊎_elim (λ (q : unwrap_or (get_or t.said n None) false ≡ true). absurd (omega (arith, s.small, size-large xs t.said n q))) (λ q. q) (cases_Bool (unwrap_or (get_or t.said n None) false))

    sooner : (k : ℕ) → k < 2 ^ length xs → Sooner L k n → Reached (strike P (numbered xs k)) Q
    sooner k h w = ⊎_elim (is-reached k h)
        (λ (q : unwrap_or (get_or t.said k None) false ≡ false). absurd (⊎_elim
        (λ (a : length (numbered xs k) < length (numbered xs n)). omega (arith, a, s.least k (omega (arith, d.total, h)), size-own xs t.said k q, size-own xs t.said n own))
        (λ (a : (length (numbered xs k) ≡ length (numbered xs n)) × (n < k)). omega (arith, a.0, s.highest k (omega (arith, d.total, h)) a.1, size-own xs t.said k q, size-own xs t.said n own)) w))
        (cases_Bool (unwrap_or (get_or t.said k None) false))

    some-cures : Cured P Q L (some (numbered xs n))
    some-cures = let l = s.within in cure-by L P Q n (omega (arith, d.total)) (is-unreached n (omega (arith, d.total)) own) sooner

-- THE ANSWER of a table over the lines of a list
module _ (P : Program) (Q : Question) (L : List ℕ) (c : Choices) (d : Decided P Q L c) where
  lines : listed c.lines ≡ rising L
  lines = ap listed d.lines ∙ listed-shown (rising L)

  pub advises-none : Soonest (size_at (listed c.lines) c.table.said) c.table.total None → Advises P Q L None
  advises-none s = (none, none-cures P Q L c.table d.few d.filled (subst (λ (ys : List ℕ). Soonest (size_at ys c.table.said) c.table.total None) lines s), refl, tt)

  pub advises-some : (n : ℕ) → Soonest (size_at (listed c.lines) c.table.said) c.table.total (Some n) → (k : Lines) → k ≡ shown (numbered (listed c.lines) n) → Advises P Q L (Some k)
  advises-some n s k q = (
    some (numbered (rising L) n),
    some-cures P Q L c.table d.few d.filled n (subst (λ (ys : List ℕ). Soonest (size_at ys c.table.said) c.table.total (Some n)) lines s),
    ap Some (q ∙ ap (λ (ys : List ℕ). shown (numbered ys n)) lines),
    (let few = d.few in omega (arith, numbered-few (rising L) n)),
  )

-- THE CALL, by what is decided of the choices
module _ (L work work' : List ℕ) where
  pub choice-sizes : (o : Outcome) (c : Choices) → strike.Leaves o L work (Ok c) work' → (c.lines.count ≤ most) × (c.table.total ≤ 1024)
  choice-sizes (refused n l) c h = absurd h.0
  choice-sizes (accepted D P Q) c h =
      let few = h.0.few in
      (omega (arith, ap (λ (k : Lines). k.count) h.0.lines), total-most (length (rising L)) c.table.total few h.0.filled.total)

  pub tells : (o : Outcome) (c : Choices) (r : Option Lines) → strike.Leaves o L work (Ok c) work' → ((P : Program) (Q : Question) (L : List ℕ) → Decided P Q L c → Advises P Q L r) → Leaves o L work (Ok r) work'
  tells (refused n l) c r h f = absurd h.0
  tells (accepted D P Q) c r h f = (inr (h.0.filled.few, f P Q L h.0), h.1)

  pub refuses : (o : Outcome) (x : Refusal) → strike.Leaves o L work (Err x) work' → Leaves o L work (Err x) work'
  refuses (refused n l) x h = h
  refuses (accepted D P Q) x h = (inl (h.0.0, (h.0.1, h.0.2)), h.1)

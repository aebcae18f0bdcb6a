-- THE COUNT BY THE TABLE: what a table that decides every choice says of them is counted.
use mathlib.Core.Path.{◌≡◌, sym, ap, ◌∙◌, subst}
use mathlib.Core.Logic.{inl, inr, ⊎_elim}
use mathlib.Core.Bool.{Bool, true, false}
use mathlib.Core.List.{List, map}
use Prim.Native.Nat.{ℕ, zero, suc, ◌+◌, ◌-◌, ◌*◌, ◌/◌, ◌%◌, ◌^◌, ◌≤◌, ◌<◌}
use native.Mathlib.Nat.{mod-lt, div-add-mod'}
use native.Mathlib.Numerals.{add-one}
use native.Mathlib.Omega.{arith}
use lib.ListN.{length, get_or, take}
use Rattle.std.proofs.lemmas.Bool.{cases_Bool}
use Rattle.std.proofs.lemmas.List.{length-take}
use Rattle.std.proofs.lemmas.List.Sums.{count_by-le-length, count_by_more_no, count_by_more_yes}
use lib.Pow.{pow_pos}
use Rattle.std.specs.Prelude.{Option, None, Ok, Err, unwrap_or}
use Rattle.rows.specs.declared.Refusal.{Refusal}
use Rattle.semantics.specs.Models.{Program, Question, Distinct}
use Rattle.semantics.specs.Questions.{Verdict}
use Rattle.grammar.specs.Texts.{Outcome, accepted, refused}
use Rattle.striking.specs.Striking.{strike, rising, choices, Counts, nothing, reached, unreached, Tally}
use Rattle.striking.specs.Numbers.{numbered, falling}
use Rattle.striking.proofs.Choices.{rising-length}
use Rattle.striking.proofs.Numbers.{choices-numbered}
use Rattle.strike_table.specs.declared.Table.{Table}
use Rattle.strike_table.specs.Tables.{Filled}
use Rattle.strike_table.proofs.Laws.{total-most}
use Rattle.strike_calls.specs.Choices as strike
use Rattle.strike_calls.specs.Choices.{Decided}
use Rattle.strike_calls.specs.declared.Choices.{Choices}
use Rattle.tally.specs.declared.Count.{Count}
use Rattle.tally.specs.Ones.{ones}
use Rattle.tally.specs.Tallying.{Tallied, Leaves}

-- at most all
pub ones-most : (said : List (Option Bool)) (n : ℕ) → ones said n ≤ n
ones-most said n = omega (arith, count_by-le-length (λ v. unwrap_or v false) (take n said), length-take n said)

-- one more
ones-more : (said : List (Option Bool)) (i : ℕ) → i < length said → unwrap_or (get_or said i None) false ≡ true → ones said (suc i) ≡ suc (ones said i)
ones-more said i l e = subst (λ (k : ℕ). ones said k ≡ suc (ones said i)) (add-one i) (count_by_more_yes (λ v. unwrap_or v false) said i None l e ∙ add-one (ones said i))

ones-other : (said : List (Option Bool)) (i : ℕ) → i < length said → unwrap_or (get_or said i None) false ≡ false → ones said (suc i) ≡ ones said i
ones-other said i l e = subst (λ (k : ℕ). ones said k ≡ ones said i) (add-one i) (count_by_more_no (λ v. unwrap_or v false) said i None l e)

-- THE TALLY
module _ (P : Program) (Q : Question) (L : List ℕ) (t : Table) (long : t.total ≤ length t.said) (once : Distinct L) (d : Filled P Q (rising L) t) where
  counted : (i : ℕ) → i ≤ 2 ^ length (rising L) → Counts P Q (map (numbered (rising L)) (falling i)) (ones t.said i) (i - ones t.said i)
  counted zero l = nothing
  counted (suc i) l =
      let v = d.verdict i l in
      let c = counted i (omega arith) in
      let m = ones-most t.said i in
      let w : i < length t.said = omega (arith, l, d.total, long) in
      ⊎_elim
      (λ (q : unwrap_or (get_or t.said i None) false ≡ true). rw (ones-more t.said i w q) (subst (λ (u : ℕ). Counts P Q (map (numbered (rising L)) (falling (suc i))) (suc (ones t.said i)) u) (omega (arith, m)) (reached (subst (Verdict (strike P (numbered (rising L) i)) Q) q v) c)))
      (λ (q : unwrap_or (get_or t.said i None) false ≡ false). rw (ones-other t.said i w q) (subst (λ (u : ℕ). Counts P Q (map (numbered (rising L)) (falling (suc i))) (ones t.said i) u) (omega (arith, m)) (unreached (subst (Verdict (strike P (numbered (rising L) i)) Q) q v) c)))
      (cases_Bool (unwrap_or (get_or t.said i None) false))

  all : Counts P Q (choices L) (ones t.said t.total) (t.total - ones t.said t.total)
  all = rw (choices-numbered L, d.total) (counted (2 ^ length (rising L)) (omega arith))

  ways : t.total ≡ 2 ^ length L
  ways = d.total ∙ ap (λ (n : ℕ). 2 ^ n) (rising-length L once)

  pub tallied : (r : ℕ) → r ≡ ones t.said t.total → Tally P Q L r (t.total - r) (100 * r / t.total) (100 * r % t.total)
  tallied r e = record {
    counts = rw e all;
    hundredths = subst (λ (k : ℕ). 100 * r ≡ 100 * r / t.total * k + 100 * r % t.total) ways (sym (div-add-mod' (100 * r) t.total));
    below = subst (λ (k : ℕ). 100 * r % t.total < k) ways (mod-lt (100 * r) (subst (λ (k : ℕ). 0 < k) (sym ways) (pow_pos (length L))));
  }

-- THE CALL, by what is decided of the choices
module _ (L work work' : List ℕ) where
  pub total-sizes : (o : Outcome) (c : Choices) → strike.Leaves o L work (Ok c) work' → (c.table.total ≤ 1024) × (0 < c.table.total)
  total-sizes (refused n l) c h = absurd h.0
  total-sizes (accepted D P Q) c h =
      let n = length (rising L) in
      let t = h.0.filled.total in
      (total-most n c.table.total h.0.few t, omega (arith, t, pow_pos n))

  pub tells : (o : Outcome) (c : Choices) (r : Count) → strike.Leaves o L work (Ok c) work' → ((P : Program) (Q : Question) (L : List ℕ) → Decided P Q L c → Tallied P Q L r) → Leaves o L work (Ok r) work'
  tells (refused n l) c r h f = absurd h.0
  tells (accepted D P Q) c r h f = (inr (h.0.filled.few, f P Q L h.0), h.1)

  pub refuses : (o : Outcome) (x : Refusal) → strike.Leaves o L work (Err x) work' → Leaves o L work (Err x) work'
  refuses (refused n l) x h = h
  refuses (accepted D P Q) x h = (inl (h.0.0, (h.0.1, h.0.2)), h.1)

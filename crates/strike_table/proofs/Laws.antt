-- How the table grows: what a decided choice settles is right, and what was decided stays decided.
use mathlib.Core.Path.{◌≡◌, refl, sym, ap, ◌∙◌, subst}
use mathlib.Core.Logic.{⊎_elim, ◌≢◌}
use mathlib.Core.Bool.{Bool, true, false, cond, and-eq-true_iff}
use mathlib.Core.List.{List, [], ◌∷◌, ◌++◌}
use Rattle.std.proofs.lemmas.Bool.{cases_Bool}
use Rattle.std.specs.Prelude.{Option, None, Some, is_some, unwrap_or}
use Prim.Native.Nat.{ℕ, zero, suc, ◌+◌, ◌*◌, ◌%◌, ◌^◌, ◌≤◌, ◌<◌}
use native.Mathlib.Nat.{mod-le, two-pow-succ}
use native.Mathlib.Omega.{arith}
use lib.Bits.{bit_and, bit_or, and_self, or_lt}
use lib.Pow.{pow_mono, pow_pos}
use lib.ListN.{length, set, take, replicate, length-set, length-replicate, get_or-append}
use lib.Seq.{get_or-set_same, get_or-set_other, length-take-le}
use borrow.Author.Tests.{eqb-true, eq-eqb}
use Rattle.limits.specs.Limits as limit
use Rattle.semantics.specs.Labels.{has}
use Rattle.semantics.specs.Models.{Program, Question}
use Rattle.semantics.specs.Steps.{MoreThan}
use Rattle.semantics.specs.Questions.{Verdict}
use Rattle.semantics.proofs.Tools.{same?}
use Rattle.semantics.proofs.Sets.{has-and, has-beyond}
use Rattle.model.specs.declared.Model.{Model}
use Rattle.model.specs.Records.{program_of, question_of}
use Rattle.model.specs.WellFormed.{WellFormed}
use Rattle.facts_heads.specs.Heads.{room}
use Rattle.striking.specs.Striking.{strike, most}
use Rattle.striking.specs.Numbers.{numbered}
use Rattle.striking.proofs.Striking.{strike-none, still-reached, still-unreached, reachable-whole}
use Rattle.striking.proofs.Numbers.{numbered_more}
use Rattle.strike_model.specs.Models.{Strikes}
use Rattle.strike_list.specs.declared.Lines.{Lines}
use Rattle.strike_list.specs.Lists.{listed}
use Rattle.strike_table.specs.declared.Table.{Table}
use Rattle.strike_table.specs.Tables.{Told, said_of, settled, Marked, Right, Onward, Settles, Decides, Complete, Ready, Filled}

-- a number whose bits another has all
and-within : (a b : ℕ) → bit_and a b ≡ a → (x : ℕ) → has a x ≡ true → has b x ≡ true
and-within a b e x h = ((and-eq-true_iff (has a x) (has b x)).0 (sym (has-and a b x) ∙ ap (λ (n : ℕ). has n x) e ∙ h)).1

and-within-right : (a b : ℕ) → bit_and a b ≡ b → (x : ℕ) → has b x ≡ true → has a x ≡ true
and-within-right a b e x h = ((and-eq-true_iff (has a x) (has b x)).0 (sym (has-and a b x) ∙ ap (λ (n : ℕ). has n x) e ∙ h)).0

-- a choice settles itself,
settles-itself : (n : ℕ) (b : Bool) → settled n b n ≡ true
unfolding settled
settles-itself n true = eq-eqb (bit_and n n) n (and_self n)
settles-itself n false = eq-eqb (bit_and n n) n (and_self n)

module _ (P : Program) (Q : Question) (xs : List ℕ) where
  -- and others rightly
  settles-right : (n k : ℕ) (b : Bool) → Verdict (strike P (numbered xs n)) Q b → settled n b k ≡ true → Verdict (strike P (numbered xs k)) Q b
  unfolding settled
  settles-right n k true v e = still-reached P Q (numbered xs k) (numbered xs n) (numbered_more xs k n (and-within k n (eqb-true (bit_and k n) k e))) v
  settles-right n k false v e = still-unreached P Q (numbered xs n) (numbered xs k) (numbered_more xs n k (and-within-right k n (eqb-true (bit_and k n) n e))) v

  told-some : (b : Bool) → ◌≢◌ {A = Option Bool} (Some b) None
  told-some b e = cc

  module _ (said said' : List (Option Bool)) (n : ℕ) (b : Bool) (mk : Marked n b said said') where
    pub marked-decides : n < length said → Right P Q xs said → Verdict (strike P (numbered xs n)) Q b → Decides P Q xs n b said said'
    marked-decides l r v = record {
      onward = record {
        long = mk.long;
        right = λ k h. let w : k < length said = omega (arith, h, mk.long) in rw (mk.each k w) (⊎_elim
            (λ (q : settled n b k ≡ true). rw q (settles-right n k b v q))
            (λ (q : settled n b k ≡ false). rw q (r k w)) (cases_Bool (settled n b k)));
        keeps = λ k h d. rw (mk.each k h) (⊎_elim
            (λ (q : settled n b k ≡ true). rw q (told-some b))
            (λ (q : settled n b k ≡ false). rw q d) (cases_Bool (settled n b k)));
      };
      told = rw (mk.each n l, settles-itself n b) refl;
    }

  -- nothing done
  pub onward-same : (said : List (Option Bool)) → Right P Q xs said → Onward P Q xs said said
  onward-same said r = record { long = refl; right = r; keeps = λ k h d. d }

  -- one after the other
  pub onward_then : (a b c : List (Option Bool)) → Onward P Q xs a b → Onward P Q xs b c → Onward P Q xs a c
  onward_then a b c s t = record { long = t.long ∙ s.long; right = t.right; keeps = λ k h d. t.keeps k (omega (arith, h, s.long)) (s.keeps k h d) }

  -- a choice that is decided stays so
  pub decides_then : (n : ℕ) (v : Bool) (a b c : List (Option Bool)) → n < length a → Decides P Q xs n v a b → Onward P Q xs b c → Settles P Q xs n a c
  decides_then n v a b c l d t = record { onward = onward_then a b c d.onward t; decided = t.keeps n (omega (arith, l, d.onward.long)) (rw d.told (told-some v)) }

-- what is decided says something
pub decided-some : (v : Option Bool) → is_some v ≡ true → v ≢ None
decided-some None e q = cc
decided-some (Some b) e q = cc

-- one decided more
pub decided-next : (P : Program) (Q : Question) (xs : List ℕ) (n : ℕ) (said said' : List (Option Bool)) → n < length said → Settles P Q xs n said said' → ((k : ℕ) → k < n → said_of said k ≢ None) → (k : ℕ) → k < n + 1 → said_of said' k ≢ None
decided-next P Q xs n said said' b d h k l = ⊎_elim (λ (q : k ≡ n). rw q d.decided) (λ (q : k ≢ n). d.onward.keeps k (omega (arith, l, b)) (h k (omega (arith, l, q)))) (same? k n)

-- and all is ready for the next
pub ready_on : (m : Model) (l : Lines) (said said' : List (Option Bool)) (facts facts' : List ℕ) → Ready m l said facts → Onward (program_of m) (question_of m) (listed l) said said' → length facts' ≡ length facts → Ready m l said' facts'
ready_on m l said said' facts facts' r o e = record { formed = r.formed; sparse = r.sparse; few = r.few; all = o.long ∙ r.all; right = o.right; space = omega (arith, r.space) }

-- at the end each choice has its verdict
told-verdict : (P : Program) (Q : Question) (v : Option Bool) → Told P Q v → v ≢ None → Verdict P Q (unwrap_or v false)
told-verdict P Q None t n = absurd (n refl)
told-verdict P Q (Some b) t n = t

-- THE MARKING, after the first i choices
pub record Marking (n : ℕ) (b : Bool) (i : ℕ) (said said' : List (Option Bool)) : Type 0 where
  pub long : length said' ≡ length said
  pub done : (k : ℕ) → k < i → said_of said' k ≡ cond (settled n b k) (Some b) (said_of said k)
  pub ahead : (k : ℕ) → i < suc k → said_of said' k ≡ said_of said k

pub marking-start : (n : ℕ) (b : Bool) (said : List (Option Bool)) → Marking n b 0 said said
marking-start n b said = record { long = refl; done = λ k l. absurd (omega (arith, l)); ahead = λ k l. refl }

module _ (n : ℕ) (b : Bool) (i : ℕ) (said said' : List (Option Bool)) (h : Marking n b i said said') where
  pub marking-more : settled n b i ≡ true → i < length said → Marking n b (i + 1) said (set said' i (Some b))
  marking-more e l = record {
    long = length-set said' i (Some b) ∙ h.long;
    done = λ k m. ⊎_elim
        (λ (q : k ≡ i). rw (q, get_or-set_same said' i (Some b) None (omega (arith, h.long)), e))
        (λ (q : k ≢ i). get_or-set_other said' i k (Some b) None q ∙ h.done k (omega arith))
        (same? k i);
    ahead = λ k m. get_or-set_other said' i k (Some b) None (λ z. omega (arith, m, z)) ∙ h.ahead k (omega (arith, m));
  }

  pub marking-other : settled n b i ≡ false → Marking n b (i + 1) said said'
  marking-other e = record {
    long = h.long;
    done = λ k m. ⊎_elim
        (λ (q : k ≡ i). rw (q, e) (h.ahead i (omega arith)))
        (λ (q : k ≢ i). h.done k (omega arith))
        (same? k i);
    ahead = λ k m. h.ahead k (omega (arith, m));
  }

  pub marking-end : i ≡ length said → Marked n b said said'
  marking-end e = record { long = h.long; each = λ k l. h.done k (omega (arith, e, l)) }

-- NOT TOO MANY STATES with lines struck, where there are not with none
still-sparse : (P : Program) (n : ℕ) (C : List ℕ) → (MoreThan n P → ⊥) → MoreThan n (strike P C) → ⊥
still-sparse P n C s h = s (h.0, h.1, h.2, λ t e. let w = h.3 t e in (w.0, reachable-whole P t C w.1))

-- THE VERDICT of a choice is that of the model without its lines
module _ (m r : Model) (lines : List ℕ) (s : Strikes m lines r) where
  pub struck-sparse : (MoreThan limit.atomic (program_of m) → ⊥) → MoreThan limit.atomic (program_of r) → ⊥
  struck-sparse sparse h = still-sparse (program_of m) limit.atomic lines sparse (subst (MoreThan limit.atomic) s.program h)

-- with nothing struck it is that of the model itself
none-struck : (xs : List ℕ) → numbered xs 0 ≡ []
none-struck [] = refl
none-struck (x ∷ xs) = rw (has-beyond 0 (length xs) 0 (omega arith) (omega arith)) (none-struck xs)

pub whole-verdict : (P : Program) (Q : Question) (xs : List ℕ) (b : Bool) → Verdict P Q b → Verdict (strike P (numbered xs 0)) Q b
whole-verdict P Q xs b v = rw (none-struck xs, strike-none P) v

-- HOW MANY CHOICES there are at most, and that one line more gives one of them
pub total-most : (count total : ℕ) → count ≤ most → total ≡ 2 ^ count → total ≤ 1024
total-most count total l e = rw e (pow_mono {i = count} {j = most} l)

pub next-below : (count i top total : ℕ) → total ≡ 2 ^ count → top < total → i < count → bit_or top (1 * 2 ^ i % 4294967296) < total
next-below count i top total e h l = subst (λ (z : ℕ). bit_or top (1 * 2 ^ i % 4294967296) < z) (sym e)
    (or_lt count top (1 * 2 ^ i % 4294967296) (omega (arith, e)) (omega (arith, mod-le (1 * 2 ^ i) 4294967296, two-pow-succ i, pow_pos i, pow_mono {i = suc i} {j = count} l)))

-- at first nothing is said
none-said : (n r k : ℕ) → ◌≡◌ {A = Option Bool} (said_of (take n (replicate r None)) k) None
none-said zero r k = refl
none-said (suc n) zero k = refl
none-said (suc n) (suc r) zero = refl
none-said (suc n) (suc r) (suc k) = none-said n r k

-- the table before
abbrev pub blank : List (Option Bool)
blank = replicate 1024 None

none-decided : (P : Program) (Q : Question) (xs : List ℕ) (n : ℕ) → Right P Q xs (take n blank)
none-decided P Q xs n k l = rw (none-said n 1024 k) tt

-- then what nothing struck settles
pub begun : (m : Model) (l : Lines) (said : List (Option Bool)) (facts : List ℕ) (b : Bool) → WellFormed m → (MoreThan limit.atomic (program_of m) → ⊥) → l.count ≤ most
    → Marked 0 b (take (2 ^ l.count) blank) said → Verdict (program_of m) (question_of m) b → room ≤ length facts → Ready m l said facts
begun m l said facts b f n w k v r =
    let few : 2 ^ l.count ≤ 1024 = total-most l.count (2 ^ l.count) w refl in
    let all : length (take (2 ^ l.count) blank) ≡ 2 ^ l.count = length-take-le (2 ^ l.count) blank (omega (arith, few, length-replicate {A = Option Bool} 1024 None)) in
    record {
      formed = f;
      sparse = n;
      few = w;
      all = k.long ∙ all;
      right = (marked-decides (program_of m) (question_of m) (listed l) (take (2 ^ l.count) blank) said 0 b k (omega (arith, all, pow_pos l.count)) (none-decided (program_of m) (question_of m) (listed l) (2 ^ l.count)) (whole-verdict (program_of m) (question_of m) (listed l) b v)).onward.right;
      space = r;
    }

-- the lines of a record are as many as it counts
pub listed-count : (l : Lines) → length l.lines ≡ most → l.count ≤ most → length (listed l) ≡ l.count
listed-count l e w = length-take-le l.count l.lines (omega (arith, e))

-- THE TABLE in the end: every choice decided
pub filled : (P : Program) (Q : Question) (xs : List ℕ) (t : Table) (said rest : List (Option Bool)) → (MoreThan limit.atomic P → ⊥) → t.total ≡ 2 ^ length xs → t.said ≡ said ++ rest → length said ≡ 2 ^ length xs → Complete P Q xs said → Filled P Q xs t
filled P Q xs t said rest n e s w d = record {
  few = n;
  total = e;
  verdict = λ k l. let h : k < length said = omega (arith, w, l) in rw (s, get_or-append said rest None k h) (told-verdict (strike P (numbered xs k)) Q (said_of said k) (d.right k h) (d.all k h));
}

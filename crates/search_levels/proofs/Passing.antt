-- A stage with the two variables in their places, and what becomes of a row of pairs.
use mathlib.Core.Path.{◌≡◌, refl, sym, ap, ◌∙◌, subst}
use mathlib.Core.Logic.{◌↔◌, ◌≢◌}
use mathlib.Core.Bool.{Bool, true, false, cond, ◌&&◌, and-eq-true_iff}
use mathlib.Core.List.{List}
use Prim.Native.Nat.{ℕ, ◌*◌, ◌≤◌, ◌<◌}
use native.Mathlib.Omega.{arith}
use borrow.Author.Tests.{ne_eqb}
use lib.Dec.{eqb}
use lib.ListN.{length, replicate}
use Rattle.limits.specs.Limits as limit
use Rattle.semantics.specs.Facts.{Database}
use Rattle.semantics.proofs.Tools.{clash}
use Rattle.facts_bits.specs.Width as width
use Rattle.facts_bits.specs.Bits.{bit_at, Both}
use Rattle.facts_bits.proofs.Laws.{full-bits}
use Rattle.facts_candidates.specs.declared.Choice.{Choice}
use Rattle.facts_candidates.specs.Choices.{element_of}
use Rattle.std.specs.Prelude.{Some, None, is_some}
use Rattle.facts_find.specs.Bodies.{Fixed}
use Rattle.facts_holds.proofs.Laws.{fixed_more}
use Rattle.search_levels.specs.declared.Walker.{Walker}
use Rattle.search_levels.specs.declared.Meeting.{Meeting}
use Rattle.search_levels.specs.Levels.{pair_at, Seated}
use Rattle.search_levels.specs.Passing.{stands, place, Has, Picked, Onward, Led, Met, alone, Hopeful, Ready}
use Rattle.search_levels.proofs.Rows.{has-so, has-nothing}

-- THE CHOICES with slot e for a variable where it stands in the stage
abbrev Seats : Choice → Walker → ℕ → Choice → Type 0
Seats c a e r = (x : ℕ) → x < limit.variables → element_of r x ≡ cond (stands a && eqb x (place a)) (Some e) (element_of c x)

fixed-seated : (c r : Choice) (a : Walker) (v e : ℕ) → v ≤ limit.variables → (stands a ≡ true → place a < v) → (stands a ≡ true → element_of c (place a) ≡ None) → Seats c a e r
    → (σ : ℕ → ℕ) → Fixed v r σ ↔ (Fixed v c σ × Seated (stands a) σ (place a) e)
fixed-seated c r a v e few = go (stands a)
  where
    go : (s : Bool) → (s ≡ true → place a < v) → (s ≡ true → element_of c (place a) ≡ None) → ((x : ℕ) → x < limit.variables → element_of r x ≡ cond (s && eqb x (place a)) (Some e) (element_of c x))
        → (σ : ℕ → ℕ) → Fixed v r σ ↔ (Fixed v c σ × Seated s σ (place a) e)
    go true inside free law σ = fixed_more c r v (place a) e few (inside refl) (free refl) law σ
    go false inside free law σ = (
      (λ f. ((λ y g i n. f y g i (law y (omega arith) ∙ n)), tt)),
      λ f y g i n. f.0 y g i (sym (law y (omega arith)) ∙ n),
    )

pub fixed-both : (c one both : Choice) (a b : Walker) (v e f : ℕ) → v ≤ limit.variables
    → (stands a ≡ true → place a < v) → (stands b ≡ true → place b < v) → (stands a ≡ true → stands b ≡ true → place a ≢ place b)
    → ((x : ℕ) → element_of c x ≡ None) → Seats c a e one → Seats one b f both
    → (σ : ℕ → ℕ) → Fixed v both σ ↔ (Seated (stands a) σ (place a) e × Seated (stands b) σ (place b) f)
fixed-both c one both a b v e f few first second apart free p q σ =
    let x = fixed-seated c one a v e few first (λ s. free (place a)) p σ in
    let y = fixed-seated one both b v f few second other q σ in (
      (λ z. let k = y.0 z in ((x.0 k.0).1, k.1)),
      λ z. y.1 (x.1 ((λ i g j n. clash (ap is_some n) (ap is_some (free i))), z.0), z.1),
    )
  where
    go : (s : Bool) → (s ≡ true → place a ≢ place b) → cond (s && eqb (place b) (place a)) (Some e) (element_of c (place b)) ≡ None
    go true n = rw (ne_eqb (place b) (place a) (λ z. n refl (sym z))) (free (place b))
    go false n = free (place b)

    other : stands b ≡ true → element_of one (place b) ≡ None
    other s = p (place b) (let z = second s in omega arith) ∙ go (stands a) (λ t. apart t s)

module _ (w slots body : List ℕ) (t : Meeting) (ready : Ready w slots body t) (S : Database) (many : length S ≡ length slots) where
  -- where a variable stands in the stage its slot is one of the n
  pub first_below : stands t.first ≡ true → (e f : ℕ) → Met S w body t e f → e < length slots
  first_below s e f h = subst (λ (u : ℕ). u < length slots) (rw s at h.2) (subst (λ (k : ℕ). h.0 (place t.first) < k) many (h.1.0 (place t.first) (ready.asked.body.body.every (place t.first) (ready.first s))))

  pub second_below : stands t.second ≡ true → (e f : ℕ) → Met S w body t e f → f < length slots
  second_below s e f h = subst (λ (u : ℕ). u < length slots) (rw s at h.3) (subst (λ (k : ℕ). h.0 (place t.second) < k) many (h.1.0 (place t.second) (ready.asked.body.body.every (place t.second) (ready.second s))))

module _ (S w body : List ℕ) (t : Meeting) (row : List ℕ) (f : ℕ) where
  abbrev Kept : ℕ → Type 0
  Kept e = (bit_at row e ≡ true) × Met S w body t e f

  -- A ROW WHERE THE FIRST VARIABLE DOES NOT STAND in the stage: it is empty, or it stays, or nothing is left
  any-first : stands t.first ≡ false → (d e : ℕ) → Met S w body t d f → Met S w body t e f
  any-first s d e h = (h.0, h.1, rw s tt, h.3, h.4)

  pub met-none : stands t.first ≡ false → (Met S w body t 0 f → ⊥) → Has (replicate width.bytes 0) Kept
  met-none s h = has-nothing Kept (λ e l q. h (any-first s e 0 q.1))

module _ (S w body ways : List ℕ) (t : Meeting) (A : ℕ → ℕ → Bool) (f : ℕ) where
  abbrev Paired : ℕ → Type 0
  Paired e = Led ways t A e f × Met S w body t e f

  -- a pair with which the stage holds is one of hopeful slots
  hoped : (e : ℕ) → Paired e → Hopeful S w body ways t A e
  hoped e q = (
    (q.0.0, q.0.1, (q.0.2.0, q.0.2.1, q.0.2.2), q.0.3),
    (q.1.0, q.1.1, q.1.2, tt, q.1.4),
  )

  -- ROW f OF THE NEXT LEVEL has hopeful slots,
  module _ (led able row : List ℕ) (l : Has led (λ e. Led ways t A e f)) (h : Has able (Hopeful S w body ways t A)) (both : Both led able row) where
    row-bits : (e : ℕ) → e < limit.listed → (bit_at row e ≡ true) ↔ (Led ways t A e f × Hopeful S w body ways t A e)
    row-bits e g = let p = l.bits e g in let q = h.bits e g in let z = and-eq-true_iff (bit_at led e) (bit_at able e) in (
      (λ b. let y = z.0 (sym (both.bits e (omega arith)) ∙ b) in (p.0 y.0, q.0 y.1)),
      λ b. both.bits e (omega arith) ∙ z.1 (p.1 b.0, q.1 b.1),
    )

    unseated : stands t.second ≡ false → (e : ℕ) → Met S w body (alone t) e 0 → Met S w body t e f
    unseated s e h = (h.0, h.1, h.2, rw s tt, h.4)

    -- all of them where the second variable does not stand in the stage,
    pub paired-all : stands t.second ≡ false → Has row Paired
    paired-all s = record {
      bits = λ e g. let z = row-bits e g in (
        (λ q. let y = z.0 q in (y.0, unseated s e y.1.1)),
        λ q. z.1 (q.0, hoped e q),
      );
    }

    -- and else those with which it holds
    pub paired-met : (r : List ℕ) → Has r (λ e. (bit_at row e ≡ true) × Met S w body t e f) → Has r Paired
    paired-met r = has-so r (λ e. (bit_at row e ≡ true) × Met S w body t e f) Paired (λ e g. let z = row-bits e g in (
      (λ q. ((z.0 q.0).0, q.1)),
      λ q. (z.1 (q.0, hoped e q), q.1),
    ))

  -- and none where the stage does not hold
  pub paired_none : ((e : ℕ) → Met S w body t e f → ⊥) → Has (replicate width.bytes 0) Paired
  paired_none h = has-nothing Paired (λ e l q. h e q.1)

-- THE SAME PAIRS on the level before lead to the same pairs
onward-so : (ways : List ℕ) (s c : Bool) (A B : ℕ → Type 0) → ((u : ℕ) → u < limit.listed → A u → B u) → (e : ℕ) → Onward ways s c A e → Onward ways s c B e
onward-so ways s c A B f e q = (q.0, q.1, f q.0 q.1 q.2, q.3)

module _ (ways : List ℕ) (t : Meeting) (A B : ℕ → ℕ → Bool) (same : (u v : ℕ) → u < limit.listed → v < limit.listed → A u v ≡ B u v) where
  pub led-so : (e f : ℕ) → Led ways t A e f → Led ways t B e f
  led-so e f = onward-so ways (stands t.first) t.first.chosen (λ u. Onward ways (stands t.second) t.second.chosen (λ v. A u v ≡ true) f) (λ u. Onward ways (stands t.second) t.second.chosen (λ v. B u v ≡ true) f)
      (λ u l. onward-so ways (stands t.second) t.second.chosen (λ v. A u v ≡ true) (λ v. B u v ≡ true) (λ v g q. sym (same u v l g) ∙ q) f) e

-- WHERE THE FIRST OBJECT GOES from the slots D of a row
pub onward-has : (ways : List ℕ) (s c : Bool) (row : List ℕ) (D : ℕ → Type 0) → Has row D → (r : List ℕ) → Has r (Onward ways s c (λ u. bit_at row u ≡ true)) → Has r (Onward ways s c D)
onward-has ways s c row D h r = has-so r (Onward ways s c (λ u. bit_at row u ≡ true)) (Onward ways s c D) (λ e l. (
  onward-so ways s c (λ u. bit_at row u ≡ true) D (λ u g. (h.bits u g).0) e,
  onward-so ways s c D (λ u. bit_at row u ≡ true) (λ u g. (h.bits u g).1) e,
))

-- the hopeful slots, from all the rows of a level at once
pub hopeful-has : (S w body ways : List ℕ) (t : Meeting) (rows : List ℕ) (k : ℕ) (any : List ℕ) → Has any (Picked rows (limit.listed * k) (replicate width.bytes 255))
    → (row : List ℕ) → Has row (Onward ways (stands t.first) t.first.chosen (λ u. bit_at any u ≡ true)) → (r : List ℕ) → Has r (λ e. (bit_at row e ≡ true) × Met S w body (alone t) e 0)
    → Has r (Hopeful S w body ways t (pair_at rows k))
hopeful-has S w body ways t rows k any h row g r = has-so r (λ e. (bit_at row e ≡ true) × Met S w body (alone t) e 0) (Hopeful S w body ways t (pair_at rows k)) (λ e l. let p = led.bits e l in (
  (λ q. (p.0 q.0, q.1)),
  λ q. (p.1 q.0, q.1),
))
  where
    led : Has row (Onward ways (stands t.first) t.first.chosen (λ u. (v : ℕ) × (v < limit.listed) × (pair_at rows k u v ≡ true)))
    led = onward-has ways (stands t.first) t.first.chosen any (λ u. (v : ℕ) × (v < limit.listed) × (pair_at rows k u v ≡ true))
        (has-so any (Picked rows (limit.listed * k) (replicate width.bytes 255)) (λ u. (v : ℕ) × (v < limit.listed) × (pair_at rows k u v ≡ true)) (λ e l. ((λ q. (q.0, q.1, q.3)), λ q. (q.0, q.1, full-bits q.0 (omega (arith, q.1)), q.2)))
        h) row g

-- A run has one answer. It is kept exactly if its places are a kept run, and broken at exactly the first place that is not allowed.
use mathlib.Core.Bool.{false≢true}
use mathlib.Core.Path.{◌≡◌, refl, sym, ap, ap₂, ◌∙◌, subst}
use mathlib.Core.Logic.{inl, inr, ◌↔◌, ◌≢◌}
use mathlib.Core.List.{List, [], ◌∷◌}
use mathlib.Core.Option.{Option, some, some-injective}
use Prim.Native.Nat.{ℕ, zero, suc, ◌+◌, ◌≤◌}
use native.Mathlib.Omega.{arith}
use lib.ListN.{length, take, drop}
use Rattle.semantics.specs.Models.{Program, Question}
use Rattle.semantics.specs.Runs as runs
use Rattle.semantics.specs.Runs.{Session, start, after, Plays}
use Rattle.semantics.specs.Building.{Leads}
use Rattle.model.specs.Places.{place_of}
use Rattle.replay_session.specs.declared.Answer.{Answer}
use Rattle.replay_session.specs.declared.Answer.TheVariants.{Kept, Broken}
use Rattle.replay_session.specs.Replays.{Allows, Replays, Decodes}

decodes-cons : (n : ℕ) (ns : List ℕ) (p : runs.Place) (ps : List runs.Place) → place_of n ≡ some p → Decodes ns ps → Decodes (n ∷ ns) (p ∷ ps)
decodes-cons n ns p ps e d = ap₂ {C = List (Option runs.Place)} (λ (x : Option runs.Place) (l : List (Option runs.Place)). x ∷ l) e d

module _ (P : Program) (Q : Question) where
  -- THE ANSWER IS UNIQUE
  pub unique : (s : Session) (ns : List ℕ) (i : ℕ) (a b : Answer) → Replays P Q s ns i a → Replays P Q s ns i b → a ≡ b
  unique s [] i Kept Kept g h = refl
  unique s [] i Kept (Broken j) g h = absurd (h.0 g)
  unique s [] i (Broken j) Kept g h = absurd (g.0 h)
  unique s [] i (Broken j) (Broken k) g h = ap Broken (g.1 ∙ sym h.1)
  unique s (n ∷ ns) i a b (inl (p, e, l, g)) (inl (q, d, k, h)) =
      let pq : p ≡ q = some-injective p q (sym e ∙ d) in
      unique (after P Q s q) ns (suc i) a b (subst (λ (x : runs.Place). Replays P Q (after P Q s x) ns (suc i) a) pq g) h
  unique s (n ∷ ns) i a b (inl (p, e, l, g)) (inr (never, h)) = absurd (never (p, e, l))
  unique s (n ∷ ns) i a b (inr (never, g)) (inl (q, d, k, h)) = absurd (never (q, d, k))
  unique s (n ∷ ns) i a b (inr (never, g)) (inr (nor, h)) = g ∙ sym h

  -- KEPT exactly if the numbers are those of places that play to the end
  kept-plays : (s : Session) (ns : List ℕ) (i : ℕ) → Replays P Q s ns i Kept → (ps : List runs.Place) × Decodes ns ps × Plays P Q s ps
  kept-plays s [] i h = ([], refl, h)
  kept-plays s (n ∷ ns) i (inl (p, e, l, g)) = let r = kept-plays (after P Q s p) ns (suc i) g in (p ∷ r.0, decodes-cons n ns p r.0 e r.1, (l, r.2))
  kept-plays s (n ∷ ns) i (inr (never, e)) = absurd (false≢true cc)

  plays-kept : (s : Session) (ns : List ℕ) (i : ℕ) (ps : List runs.Place) → Decodes ns ps → Plays P Q s ps → Replays P Q s ns i Kept
  plays-kept s [] i [] d h = h
  plays-kept s [] i (p ∷ ps) d h = absurd (false≢true cc)
  plays-kept s (n ∷ ns) i [] d h = absurd (false≢true cc)
  plays-kept s (n ∷ ns) i (p ∷ ps) d h = inl (p, (cc), h.0, plays-kept (after P Q s p) ns (suc i) ps (cc) h.1)

  pub kept : (s : Session) (ns : List ℕ) (i : ℕ) → Replays P Q s ns i Kept ↔ ((ps : List runs.Place) × Decodes ns ps × Plays P Q s ps)
  kept s ns i = (kept-plays s ns i, λ r. plays-kept s ns i r.0 r.1 r.2)

  -- the next place is not allowed, or there is none though a stage is left
  abbrev pub Stuck : Session → List ℕ → Type 0
  Stuck s [] = s.met ≢ length Q
  Stuck s (n ∷ ns) = Allows P Q s n → ⊥

  -- the first k places are allowed, and the run is stuck behind them
  abbrev pub Breaks : Session → List ℕ → ℕ → Type 0
  Breaks s ns k = (k ≤ length ns) × ((ps : List runs.Place) × (t : Session) × Decodes (take k ns) ps × Leads P Q s ps t × Stuck t (drop k ns))

  -- BROKEN at exactly the first place that is not allowed, or at its length
  broken-breaks : (s : Session) (ns : List ℕ) (i j : ℕ) → Replays P Q s ns i (Broken j) → (k : ℕ) × (j ≡ i + k) × Breaks s ns k
  broken-breaks s [] i j h = (0, omega (arith, h.1), (omega arith, ([], s, refl, refl, h.0)))
  broken-breaks s (n ∷ ns) i j (inl (p, e, l, g)) =
      let r = broken-breaks (after P Q s p) ns (suc i) j g in
      let b = r.2 in
      (suc r.0, omega (arith, r.1), (omega (arith, b.0), (p ∷ b.1.0, b.1.1, decodes-cons n (take r.0 ns) p b.1.0 e b.1.2, (l, b.1.3), b.1.4)))
  broken-breaks s (n ∷ ns) i j (inr (never, e)) = let q : j ≡ i = cc in (0, omega arith, (omega arith, ([], s, refl, refl, never)))

  breaks-broken : (s : Session) (ns : List ℕ) (i j k : ℕ) → j ≡ i + k → Breaks s ns k → Replays P Q s ns i (Broken j)
  breaks-broken s [] i j zero e (l, ([], t, d, h, stuck)) = ((λ q. stuck (ap (λ (x : Session). x.met) (sym h) ∙ q)), omega arith)
  breaks-broken s [] i j zero e (l, (p ∷ ps, t, d, h, stuck)) = absurd (false≢true cc)
  breaks-broken s [] i j (suc k) e b = absurd (let l = b.0 in omega arith)
  breaks-broken s (n ∷ ns) i j zero e (l, ([], t, d, h, stuck)) = inr ((λ q. stuck (rw (← h) q)), ap Broken (omega arith))
  breaks-broken s (n ∷ ns) i j zero e (l, (p ∷ ps, t, d, h, stuck)) = absurd (false≢true cc)
  breaks-broken s (n ∷ ns) i j (suc k) e (l, ([], t, d, h, stuck)) = absurd (false≢true cc)
  breaks-broken s (n ∷ ns) i j (suc k) e (l, (p ∷ ps, t, d, h, stuck)) =
      inl (p, (cc), h.0, breaks-broken (after P Q s p) ns (suc i) j k (omega arith) (omega arith, (ps, t, (cc), h.1, stuck)))

  pub broken : (s : Session) (ns : List ℕ) (i k : ℕ) → Replays P Q s ns i (Broken (i + k)) ↔ Breaks s ns k
  broken s ns i k = ((λ h. let r = broken-breaks s ns i (i + k) h in subst (Breaks s ns) (omega (arith, r.1)) r.2), breaks-broken s ns i (i + k) k refl)

  -- THE WHOLE RUN, from the empty database: kept exactly if its numbers are those of a kept run
  pub kept_run : (ns : List ℕ) → Replays P Q (start []) ns 0 Kept ↔ ((ps : List runs.Place) × Decodes ns ps × runs.Kept P Q ps)
  kept_run ns = kept (start []) ns 0

-- FROM THE REPLAY TO THE RUN: what is answered to the numbers of places is said of the places. FROM THE VERDICT TO THE MARK.
use mathlib.Core.Bool.{false≢true}
use mathlib.Core.Path.{◌≡◌, refl, subst}
use mathlib.Core.Logic.{inl, inr}
use mathlib.Core.List.{List, [], ◌∷◌}
use Prim.Native.Nat.{ℕ, suc, ◌+◌, ◌≤◌}
use native.Mathlib.Omega.{arith}
use lib.ListN.{length, replicate, length-replicate}
use Rattle.limits.specs.Limits as limit
use Rattle.semantics.specs.Models.{Program, Question}
use Rattle.semantics.specs.Runs.{Place, Session, after, Plays}
use Rattle.calls.specs.Wiping.{wiped}
use Rattle.calls.proofs.Wiped.{wiped-over}
use Rattle.replay_session.specs.declared.Answer.TheVariants.{Kept, Broken}
use Rattle.replay_session.specs.Replays.{Replays, Decodes}
use Rattle.replay_session.proofs.Answers.{broken}
use Rattle.marker_worth.specs.Worth.{BreaksAt}

module _ (P : Program) (Q : Question) where
  -- KEPT
  pub plays : (s : Session) (ns : List ℕ) (ps : List Place) (i : ℕ) → Decodes ns ps → Replays P Q s ns i Kept → Plays P Q s ps
  plays s [] [] i d h = h
  plays s [] (p ∷ ps) i d h = absurd (false≢true cc)
  plays s (n ∷ ns) [] i d h = absurd (false≢true cc)
  plays s (n ∷ ns) (p ∷ ps) i d (inl (q, e, l, g)) =
      let same : q ≡ p = cc in
      subst (λ (x : Place). Plays P Q s (x ∷ ps)) same (l, plays (after P Q s q) ns ps (suc i) (cc) g)
  plays s (n ∷ ns) (p ∷ ps) i d (inr (never, e)) = absurd (false≢true cc)

  -- BROKEN
  pub breaks : (s : Session) (ns : List ℕ) (ps : List Place) (i j : ℕ) → Decodes ns ps → Replays P Q s ns i (Broken j) → (k : ℕ) × (j ≡ i + k) × BreaksAt P Q s ps k
  breaks s [] [] i j d h = (0, omega (arith, h.1), (omega arith, (s, refl, h.0)))
  breaks s [] (p ∷ ps) i j d h = absurd (false≢true cc)
  breaks s (n ∷ ns) [] i j d h = absurd (false≢true cc)
  breaks s (n ∷ ns) (p ∷ ps) i j d (inl (q, e, l, g)) =
      let same : q ≡ p = cc in
      let r = breaks (after P Q s q) ns ps (suc i) j (cc) g in
      let b = r.2 in
      subst (λ (x : Place). (k : ℕ) × (j ≡ i + k) × BreaksAt P Q s (x ∷ ps) k) same (suc r.0, omega (arith, r.1), (omega (arith, b.0), (b.1.0, (l, b.1.1), b.1.2)))
  breaks s (n ∷ ns) (p ∷ ps) i j d (inr (never, e)) = let q : j ≡ i = cc in (0, omega arith, (omega arith, (s, refl, λ a. never (p, (cc), a))))

  -- at a place of the run, or at its end
  pub within : (s : Session) (ns : List ℕ) (j : ℕ) → Replays P Q s ns 0 (Broken j) → j ≤ length ns
  within s ns j h = ((broken P Q s ns 0 j).0 (subst (λ (k : ℕ). Replays P Q s ns 0 (Broken k)) (omega arith) h)).0
  -- A NO
  -- A YES whose run breaks

-- the work area wiped twice
pub wiped-twice : (w : List ℕ) → wiped (wiped w) ≡ wiped w
unfolding wiped
wiped-twice w = wiped-over w (replicate limit.work 0) (length-replicate {A = ℕ} limit.work 0)

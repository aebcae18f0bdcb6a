-- A listing is no longer than a hand-in may be.
use mathlib.Core.Path.{◌≡◌}
use mathlib.Core.Bool.{Bool}
use mathlib.Core.List.{List, [], ◌∷◌, ◌++◌, map}
use Prim.Native.Nat.{ℕ, ◌*◌, ◌≤◌}
use native.Mathlib.Omega.{arith}
use lib.ListN.{length, length-append}
use mir.Syntax.{w32}
use mir.Val.{Fits}
use Rattle.limits.specs.Limits as limit
use Rattle.semantics.specs.Runs.{Place, step, meet}
use Rattle.model.specs.declared.Model.{Model}
use Rattle.model.specs.Places.{number_of, Numerable}
use Rattle.model.specs.WellFormed.{GoodRelations}
use Rattle.model.proofs.Places.{place-of-number}
use Rattle.listing_lines.specs.Lines.{verdict_line, states_line, atomic_line, place_line, joined, listing_of, Named, longest}
use Rattle.listing_lines.proofs.Items.{Words, names-room}
use Rattle.listing.proofs.Lengths.{verdict-short, states-short, place_short}
use Rattle.handin.proofs.Runs.{Numerables, Writable}

-- PLACES
number_fits : (p : Place) → Numerable p → Fits w32 (number_of p)
number_fits (step ℓ o) (h, k) = record { fits = omega arith }
number_fits (meet i []) (h, l, k) = record { fits = omega arith }
number_fits (meet i (a ∷ [])) (h, l, (ka, k)) = record { fits = omega arith }
number_fits (meet i (a ∷ b ∷ [])) (h, l, (ka, (kb, k))) = record { fits = omega arith }
number_fits (meet i (a ∷ b ∷ c ∷ [])) (h, l, (ka, (kb, (kc, k)))) = record { fits = omega arith }
number_fits (meet i (a ∷ b ∷ c ∷ d ∷ os)) (h, l, k) = absurd (omega arith)

line-short : (p : Place) → Numerable p → length (place_line p) ≤ 24
line-short p h = rw (place-of-number p h) at (place_short (number_of p) (number_fits p h))

run_short : (run : List Place) → Numerables run → length (joined (map place_line run)) ≤ length run * 24
run_short [] h = omega arith
run_short (p ∷ run) h = omega (arith, length-append (place_line p) (joined (map place_line run)), line-short p h.0, run_short run h.1)

module _ (text : List ℕ) (m : Model) (good : GoodRelations m) (named : Named text m) (codes : length m.relations.codes ≡ limit.declared) where
  -- STATES
  atomic-short : (s : ℕ) → Fits w32 s → length (atomic_line text m s) ≤ longest
  unfolding atomic_line
  atomic-short s h = simp length-append (omega (arith, names-room text m s h good named codes))

  states-lines-short : (states : List ℕ) → Words states → length (joined (map (atomic_line text m) states)) ≤ length states * longest
  states-lines-short [] h = omega arith
  states-lines-short (s ∷ states) h =
      omega (arith, length-append (atomic_line text m s) (joined (map (atomic_line text m) states)), atomic-short s h.0, states-lines-short states h.1)

  -- THE LISTING of at most 128 states and a run that can be written
  pub listing-short : (reached : Bool) (states : List ℕ) (run : List Place) → Words states → length states ≤ limit.listed → Writable run → length (listing_of text m reached states run) ≤ limit.handin
  unfolding listing_of
  listing-short reached states run h k w =
      let v = verdict_line reached in
      let n = states_line (length states) in
      let a = joined (map (atomic_line text m) states) in
      let p = joined (map place_line run) in
      omega (
        arith,
        length-append (v ++ n ++ a) p,
        length-append (v ++ n) a,
        length-append v n,
        verdict-short reached,
        states-short (length states) (record { fits = omega arith }),
        states-lines-short states h,
        run_short run w.1,
        w.0,
      )

-- THE LISTING OF A VERDICT in a lent slice.
use Rattle.std.specs.Prelude.{◌≡◌, Bool, List, map, ℕ, ◌≤◌, length}
use Rattle.std.proofs.Math.Option.{some}
use Rattle.limits.specs.Limits as limit
use Rattle.semantics.specs.Runs.{Place}
use Rattle.model.specs.declared.Model.{Model}
use Rattle.model.specs.Places.{place_of}
use Rattle.model.specs.WellFormed.{GoodRelations}
use Rattle.listing_bytes.specs.Writing.{WritesLine}
use Rattle.listing_lines.specs.Lines.{atomic_line, line_for, joined, listing_of, Named}

-- the lines of atomic states
abbrev pub state_lines : List ℕ → Model → List ℕ → List ℕ
state_lines text m states = joined (map (atomic_line text m) states)

-- the lines of the places that the numbers stand for
abbrev pub run_lines : List ℕ → List ℕ
run_lines ns = joined (map (λ n. line_for (place_of n)) ns)

-- bytes that have room for every listing, 128 states and 9,344 places: a listing can be handed in
abbrev pub size : ℕ
size = limit.handin

-- WHAT CAN BE LISTED: at most 128 states, and at most 9,344 places
pub record Listable (text : List ℕ) (m : Model) (states run : List ℕ) : Type 0 where
  pub relations : GoodRelations m
  pub names : Named text m
  pub few : length states ≤ limit.listed
  pub short : length run ≤ limit.run

-- THE LISTING IS WRITTEN to the front of d: that of the verdict, of the states, and of the run that the numbers stand for
abbrev pub WritesListing : List ℕ → List ℕ → Model → Bool → List ℕ → List ℕ → ℕ → List ℕ → Type 0
WritesListing d text m reached states run r e = (places : List Place) → map place_of run ≡ map some places → WritesLine d (listing_of text m reached states places) r e

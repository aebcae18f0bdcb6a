-- THE STATES IN THE LISTING'S ORDER: "each one by rising number". The empty state, number 0, "comes first".
use Rattle.std.specs.Prelude.{◌≡◌, ◌↔◌, true, List, ℕ, ◌-◌, ◌≤◌, ◌<◌, length, take, drop, slice_index, replicate}
use Rattle.limits.specs.Limits as limit
use Rattle.semantics.specs.Models.{elem}
use Rattle.search_states.specs.declared.Listing.{Listing}
use Rattle.search_states.specs.declared.States.{States}
use Rattle.search_states.specs.States.{Known}

-- the first n numbers of the row rise, so that none is there twice
abbrev pub Rising : List ℕ → ℕ → Type 0
Rising row n = (i j : ℕ) → i < j → j < n → slice_index row i < slice_index row j

-- the listing has exactly the states found, by rising number, and their number; the numbers behind them are zero
pub record Lists (s : States) (l : Listing) : Type 0 where
  pub long : length l.states ≡ limit.listed
  pub count : l.count ≤ limit.listed
  pub rising : Rising l.states l.count
  pub same : (t : ℕ) → elem t (take l.count l.states) ≡ true ↔ Known s t
  pub rest : drop l.count l.states ≡ replicate (limit.listed - l.count) 0

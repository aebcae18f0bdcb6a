-- THE FOUND STATES THAT MEET A QUESTION of one stage with one variable. S is the row of found states, and a slot is a place in it.
use Rattle.std.specs.Prelude.{◌≡◌, ◌↔◌, true, List, ℕ, ◌<◌, length}
use Rattle.limits.specs.Limits as limit
use Rattle.semantics.specs.Models.{Body, Program}
use Rattle.semantics.specs.Facts.{Database, Meets}
use Rattle.semantics.specs.Tables.{Shows}
use Rattle.facts_bits.specs.Width as width
use Rattle.facts_bits.specs.Bits.{bit_at}
use Rattle.facts_table.specs.Table.{table_of}

-- the body shows over S, with slot e for variable 0
abbrev pub ShowsWith : Database → List ℕ → Body → ℕ → Type 0
ShowsWith S w b e = (σ : ℕ → ℕ) × (σ 0 ≡ e) × Shows S (table_of w) σ b

-- the stage b holds over S, with slot e for its variable x
abbrev pub MetAt : Program → Database → Body → ℕ → ℕ → Type 0
MetAt P S b x e = (σ : ℕ → ℕ) × (σ x ≡ e) × Meets P S σ b

-- r has exactly the slots with which it holds
pub record Meeting (P : Program) (S : Database) (b : Body) (x : ℕ) (r : List ℕ) : Type 0 where
  pub long : length r ≡ width.bytes
  pub bits : (e : ℕ) → e < limit.listed → (bit_at r e ≡ true) ↔ MetAt P S b x e

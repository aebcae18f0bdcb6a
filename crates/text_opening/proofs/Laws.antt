-- What the blank record holds, and the record with the declared names.
use mathlib.Core.Path.{◌≡◌, refl, sym, ◌∙◌}
use mathlib.Core.List.{List, [], ◌∷◌, map, map-append}
use Prim.Native.Nat.{ℕ, zero, suc, ◌≤◌}
use native.Mathlib.Omega.{arith}
use denote.Param.Members.{Mut, Called}
use lib.ListN.{length, take, get_or, get_or-map, length-map}
use lib.Seq.{take-suc, ext_get_or}
use Rattle.std.specs.Array.{IsFromFnResult}
use Rattle.limits.specs.Limits as limit
use Rattle.semantics.specs.Models.{Program}
use Rattle.semantics.proofs.Made.{made-each}
use Rattle.model.specs.Records.{program_of}
use Rattle.model.specs.declared.Model.{Model}
use Rattle.acceptance.specs.Represents.{codes_of}
use Rattle.text_names.specs.Rows.{list_of}
use Rattle.text_names.specs.Names.{blank as no_name, name_at, entry, declared_of, Valid}
use Rattle.text_names.specs.declared.Name.{Name}
use Rattle.text_names.specs.declared.Declared.{Declared}
use Rattle.text_names.proofs.Laws.{length-list_of}
use Rattle.text_record.specs.Stored as stored
use Rattle.text_ask.proofs.Represented.{Before}
use Rattle.text_opening.specs.Openings.{blank, fitted}

-- the blank record holds no clause
pub blank-program : program_of blank ≡ []
unfolding program_of
blank-program = refl

pub blank-holds : stored.Holds blank []
blank-holds = record {
  program = blank-program;
  count = refl;
  few = omega arith;
  room = omega arith;
  clause = λ i h. absurd (omega arith);
  clauses = refl;
  literals = refl;
}

-- THE DECLARED NAMES in the record
pub length_declared : (text : List ℕ) (d : Declared) → length (declared_of text d) ≡ d.count
unfolding declared_of
length_declared text d = length-list_of d.count (entry text d)

pub declared-codes : (text : List ℕ) (d : Declared) → Valid text d → codes_of (declared_of text d) ≡ take d.count (map (λ x. x.code) d.names)
unfolding declared_of
declared-codes text d v = go d.count (let c = v.count in omega (arith, v.names))
  where
    code-at : (n : ℕ) → get_or (map (λ (x : Name). x.code) d.names) n 0 ≡ (name_at d n).code
    code-at n = get_or-map (λ (x : Name). x.code) d.names n no_name

    go : (n : ℕ) → n ≤ length d.names → codes_of (list_of n (entry text d)) ≡ take n (map (λ (x : Name). x.code) d.names)
    go zero h = refl
    go (suc n) h = map-append (λ e. e.1) (list_of n (entry text d)) (entry text d n ∷ []) ∙ rw (go n (omega arith), take-suc (map (λ (x : Name). x.code) d.names) n 0 (rw length-map (omega arith)), code-at n)

-- a row made of the declared names by a closure that answers f of each
pub made-row : {X F : Type 0} (d : Declared) (f : Name → X) (g : Mut F (ℕ × Unit {0}) X) (c : F) → ((i : ℕ) (r : X) (q : F) → Called g c (i, tt) r q → (r ≡ f (name_at d i)) × (q ≡ c)) → (row : List X) → IsFromFnResult g c row limit.declared → length d.names ≡ limit.declared → row ≡ map f d.names
made-row d f g c h row y l = ext_get_or (f no_name) row (map f d.names) (y.long ∙ sym (length-map d.names f ∙ l))
    (λ j z. made-each g (λ i r. r ≡ f (name_at d i)) c h row limit.declared y j (f no_name) (omega (arith, y.long)) ∙ sym (get_or-map f d.names j no_name))

-- AT THE `ask` LINE, in a text of n lines
module _ {m : Model} {P : Program} (d : Declared) (n : ℕ) (so : stored.Holds m P) where
  pub fitted-program : program_of (fitted m d n) ≡ P
  unfolding program_of
  fitted-program = so.program

  pub before : {text : List ℕ} → Valid text d → Before n (declared_of text d) P (fitted m d n)
  before {text} v = record {
    declared = sym (length_declared text d);
    relations = sym (declared-codes text d v);
    clauses = so.count;
    program = fitted-program;
    clause = λ i h. let c = so.clause i h in record { within = c.within; numbered = c.numbered };
    lines = refl;
    codes = length-map d.names (λ (x : Name). x.code) ∙ v.names;
    row = so.clauses;
  }

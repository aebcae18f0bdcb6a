-- Laws of lists.
use mathlib.Core.Path.{◌≡◌, refl, sym, ap, ◌∙◌}
use Rattle.std.proofs.lemmas.Nat.{one_shl}
use Rattle.std.proofs.lemmas.Bool.{cases_Bool}
use Rattle.std.specs.Prelude.{Option, Some, None, Result, Ok, Err, MatchOption}
use mathlib.Core.Logic.{⊎_elim}
use mathlib.Core.Bool.{true, false, ◌||◌, or_assoc}
use mathlib.Core.List as seq
use mathlib.Core.List.{[], ◌∷◌, ◌++◌, map}
use mathlib.Core.Option.{none, some}
use Prim.Native.Nat.{ℕ, ◌-◌, ◌*◌, ◌%◌, ◌^◌, ◌<◌}
use native.Mathlib.Omega.{arith}
use lib.Dec.{eqb}
use lib.Bits.{bit_or, or_zero_r}
use lib.ListN.{take, drop}
use lib.Seq.{slice}
use borrow.Author.Tests.{ltb-true}
use Rattle.limits.specs.Limits as limit
use Rattle.semantics.specs.Labels.{union, set_of}
use Rattle.semantics.specs.Models.{elem}
use Rattle.semantics.proofs.Sets.{has-union, has-ext, has-set_of}
use Rattle.grammar.specs.Bytes.{bytes, Word}
use Rattle.grammar.specs.Shapes.{after, name, bracket, list}
use Rattle.grammar.specs.Declarations.{is_state, Declared, lookup}
use Rattle.grammar.specs.Rows.{lower, name_fault, list_fault}
use Rattle.grammar.specs.Models.{code_of, codes}
use Rattle.grammar.proofs.Lower.{lower-second, lower-assoc}
use Rattle.rows.specs.declared.Row.{Row}
use Rattle.text_scan.specs.Found.{BytesEnd, NameEnd}
use Rattle.text_scan.proofs.Laws.{slice-part}
use Rattle.text_names.specs.Names.{found}
use Rattle.text_faults.specs.Faults.{fault_in, Both, Coded}
use Rattle.text_lists.specs.Lists.{Chosen, Holds, NameAdded, Keeps, ListEnd}
use Rattle.text_names.specs.declared.Declared as names
use Rattle.text_names.specs.Names.{declared_of, Valid}
use Rattle.text_rows.specs.declared.Taken.{Taken}
use Rattle.text_rows.specs.Rows.{ItemEnd, BracketEnd}

-- ONE NAME MORE
fault-more : (D : Declared) (ws : seq.List Word) (w : Word) → list_fault D (ws ++ (w ∷ [])) ≡ lower (list_fault D ws) (name_fault (lookup w D))
unfolding list_fault lower
fault-more D [] w = lower-second (name_fault (lookup w D)) 0 refl
fault-more D (v ∷ ws) w = rw (fault-more D ws w) (sym (lower-assoc (name_fault (lookup v D)) (list_fault D ws) (name_fault (lookup w D))))

elem-append : (x : ℕ) (a b : seq.List ℕ) → elem x (a ++ b) ≡ (elem x a || elem x b)
elem-append x [] b = refl
elem-append x (y ∷ a) b = rw (elem-append x a b) (sym (or_assoc (eqb x y) (elem x a) (elem x b)))

one_set : (c : ℕ) → set_of (c ∷ []) ≡ 2 ^ c
unfolding set_of union
one_set c = or_zero_r (2 ^ c)

set_more : (l : seq.List ℕ) (c : ℕ) → set_of (l ++ (c ∷ [])) ≡ union (set_of l) (2 ^ c)
set_more l c = has-ext (set_of (l ++ (c ∷ []))) (union (set_of l) (2 ^ c)) (λ a.
    has-set_of (l ++ (c ∷ [])) a ∙ elem-append a l (c ∷ []) ∙ sym (has-union (set_of l) (2 ^ c) a ∙ rw (has-set_of l a, ← one_set c, has-set_of (c ∷ []) a)))

map_more : {A B : Type 0} (f : A → B) (a : seq.List A) (x : A) → map f (a ++ (x ∷ [])) ≡ map f a ++ (f x ∷ [])
map_more f [] x = refl
map_more f (y ∷ a) x = ap (λ (l : seq.List _). f y ∷ l) (map_more f a x)

module _ (D : Declared) (w : Word) {s : Chosen} {o : Option ℕ} {code : Chosen} {r : Result (ℕ × ℕ) Row}
    (f : lookup w D ≡ found o) (k : Coded (name_fault (found o)) o code) (t : Both s code r) where
  -- the row of the names with the one more
  number-more : {ws : seq.List Word} → Holds D ws s → fault_in r ≡ list_fault D (ws ++ (w ∷ []))
  number-more {ws} so = t.number ∙ rw (so.number, k.row, ← f) (sym (fault-more D ws w))

  pub name-faulty : (x : Row) → r ≡ Err x → NameAdded D s w (Err x)
  name-faulty x q = record { added = λ ws so. record { number = ap fault_in (sym q) ∙ number-more so; set = tt } }

  module _ (set c : ℕ) (q : r ≡ Ok (set, c)) where
    parts : (s ≡ Ok set) × (code ≡ Ok c)
    parts = rw q at t.values

    coded : o ≡ Some c
    coded = rw (parts.1) at k.value

    small : c < 32
    small = ⊎_elim (λ (y : is_state c ≡ true). ltb-true c 32 y) (λ (y : is_state c ≡ false). absurd (let z = rw (parts.1, coded, y) at k.row in omega arith)) (cases_Bool (is_state c))

    pub name-added : NameAdded D s w (Ok (bit_or set ((1 * 2 ^ c) % 4294967296)))
    unfolding union
    name-added =
        let g : lookup w D ≡ some c = (rw coded at f) in
        record {
          added = λ ws so.
              let z : set ≡ set_of (codes D ws) = (rw (parts.0) at so.set) in
              record {
                number = ap fault_in (sym q) ∙ number-more so;
                set = ap (bit_or set) (one_shl c 32 small) ∙ rw (z, map_more (code_of D) ws w, set_more (codes D ws) (code_of D w), g);
              };
        }

-- A NAME OF A LIST
pub listed : {text : seq.List ℕ} {d : names.Declared} {at e : ℕ} {s r : Chosen} → NameEnd text at e → NameAdded (declared_of text d) s (take (e - at) (drop at text)) r → ItemEnd name (Keeps text d) text at s (record { kept = r; end = e })
listed {text} {at = at} {e} n ad = record {
  value = slice at e text;
  begins = n.begins;
  ends = n.ends;
  found = n.read;
  holds = λ c ws so. (so.0, rw (slice-part text at e (omega (arith, n.begins))) (ad.added ws so.1));
}

-- LISTS
pub empty-list : (D : Declared) → Holds D [] (Ok 0)
unfolding list_fault set_of
empty-list D = record { number = refl; set = refl }

module _ (text : seq.List ℕ) (at : ℕ) where
  pub list-empty : {D : Declared} {e : ℕ} → BytesEnd text at (bytes "()") e → ListEnd text D at (record { kept = Ok 0; end = e })
  unfolding list
  list-empty {D} p = record { ws = []; begins = omega (arith, p.begins); ends = p.ends; read = rw p.read; holds = empty-list D }

  pub list-read : {d : names.Declared} (r : Option (Taken Chosen)) → after (bytes "()") (drop at text) ≡ none → Valid text d
      → MatchOption r (bracket name (limit.list - 1) (drop at text) ≡ none) (BracketEnd name (Keeps text d) text at (limit.list - 1) (Ok 0)) → MatchOption r (list (drop at text) ≡ none) (ListEnd text (declared_of text d) at)
  unfolding list
  list-read None p valid v = rw (p, v)
  list-read {d} (Some r) p valid v = record {
    ws = v.items;
    begins = v.begins;
    ends = v.ends;
    read = rw (p, v.found);
    holds = (v.holds tt [] (valid, empty-list (declared_of text d))).1;
  }

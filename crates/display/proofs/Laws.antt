-- Laws of what is shown.
use mathlib.Core.Path.{◌≡◌, refl, sym, ap, ◌∙◌, subst}
use mathlib.Core.List.{List, [], ◌∷◌, ◌++◌}
use mathlib.Core.Option.{Option, none, some}
use Prim.Native.Nat.{ℕ, zero, suc, ◌-◌, ◌≤◌, ◌<◌}
use native.Mathlib.Omega.{arith}
use lib.ListN.{length, drop, get_or, length-append, length-drop}
use lib.Seq.{slice, get_or-take, take_at}
use Rattle.model.specs.declared.Model.{Model}
use Rattle.model.specs.Records.{name_of}
use Rattle.grammar.specs.Bytes.{Word}
use Rattle.grammar.specs.Forms.{Literal, print_literal}
use Rattle.grammar.specs.Shapes.{◌>>=◌, literal}
use Rattle.grammar.specs.Declarations.{Declared, extend, variables}
use Rattle.grammar.specs.Texts.{outcome}
use Rattle.acceptance.specs.Represents.{codes_of}
use Rattle.text_scan.proofs.Laws.{slice-part}
use Rattle.text.specs.Reading.{Accepts}
use Rattle.display_shapes.specs.Rows.{pick, Stands, Picked, Shown}
use Rattle.display_shapes.proofs.Rows.{pick-in, pick_out}
use Rattle.display_shapes.specs.declared.Span.{Span}
use Rattle.display_parts.specs.Parts as parts
use Rattle.display_parts.specs.Placed.{Gives}
use Rattle.display_parts.specs.declared.Part.{Part}
use Rattle.display_variables.specs.Order.{before, Within}
use Rattle.std.specs.Prelude as std
use Rattle.std.specs.Prelude.{Some, None}
use Rattle.display.specs.Shown.{relation_at, FindsRelation}
use Rattle.display.specs.declared.Declaration.{Declaration}
use Rattle.display.proofs.Printed.{literal-printed}

-- the code of a declared relation
code_in : (D : Declared) (i : ℕ) → i < length D → get_or (codes_of D) i 0 ≡ (get_or D i ([], 0)).1
code_in [] i h = absurd (omega arith)
code_in (d ∷ D) zero h = refl
code_in (d ∷ D) (suc i) h = code_in D i (omega arith)

-- DECLARED RELATIONS of an accepted text, whose record is m
module _ (text : List ℕ) (m : Model) (a : Accepts (outcome text) text m) (i : ℕ) where
  pub no-relation : m.relations.count ≤ i → FindsRelation text (relation_at (outcome text) i) None
  no-relation l =
      let D = a.declared in
      let r = a.represents in
      rw (a.says, pick_out D i (let c = r.declared in omega arith)) tt

  pub declared-relation : i < m.relations.count → (d : Declaration) → d.from ≡ (name_of m i).start → d.size ≡ (name_of m i).len → d.code ≡ get_or m.relations.codes i 0
      → FindsRelation text (relation_at (outcome text) i) (Some d)
  declared-relation l d f z c =
      let D = a.declared in
      let r = a.represents in
      let names = a.names in
      let k : i < length D = (let c = r.declared in omega arith) in
      let code : get_or m.relations.codes i 0 ≡ (get_or D i ([], 0)).1 = sym (get_or-take m.relations.count m.relations.codes i 0 l) ∙ (ap (λ (cs : List ℕ). get_or cs i 0) r.relations ∙ code_in D i k) in
      rw (a.says, pick-in D i ([], 0) k) (rw (f, z) (names.within i k), rw (f, z) (names.name i k), c ∙ code)

-- LITERALS
slice_of : (text : List ℕ) (a e : ℕ) (w : List ℕ) → a ≤ e → e ≤ length text → drop a text ≡ w ++ drop e text → slice a e text ≡ w
slice_of text a e w h k z =
    let n : length w ≡ e - a = (let q = ap length z in omega (arith, q, length-drop a text, length-drop e text, length-append w (drop e text))) in
    slice-part text a e h ∙ rw z (take_at w (drop e text) (e - a) n)

literal-shown : (line : List ℕ) (o : Option Literal) (r : std.Option Span) → Stands literal line o r → Shown line (o >>= λ l. some (print_literal l)) r
literal-shown line none None h = h
literal-shown line none (Some r) h = h
literal-shown line (some l) None h = h
literal-shown line (some l) (Some r) (a, b, c) = (a, b, slice_of line r.from r.to (print_literal l) (omega arith) b (literal-printed (drop r.from line) c))

-- the part that is given
module _ (line : List ℕ) (o : Option parts.Part) (p : Part) (g : Gives line o (Some p)) where
  pub literal-found : (k : ℕ) (r : std.Option Span) → Picked literal line p.body k r → Shown line (o >>= λ q. pick q.1 k >>= λ l. some (print_literal l)) r
  literal-found k r h = go o g
    where
      go : (q : Option parts.Part) → Gives line q (Some p) → Shown line (q >>= λ q. pick q.1 k >>= λ l. some (print_literal l)) r
      go none w = absurd w
      go (some q) w = literal-shown line (pick q.1 k) r (h q.1 w.row)

  pub part-within : Within line p
  part-within = go o g
    where
      go : (q : Option parts.Part) → Gives line q (Some p) → Within line p
      go none h = absurd h
      go (some q) h = record { head = h.head; from = h.from; end = h.end }

  pub variable-found : (j : ℕ) (r : std.Option Span) → Shown line (pick (extend [] (before line p p.end)) j) r → Shown line (o >>= λ q. pick (extend [] (q.0 ++ variables q.1)) j) r
  unfolding before
  variable-found j r h = go o g
    where
      go : (q : Option parts.Part) → Gives line q (Some p) → Shown line (q >>= λ q. pick (extend [] (q.0 ++ variables q.1)) j) r
      go none w = absurd w
      go (some q) w = subst (λ (ws : List Word). Shown line (pick (extend [] ws) j) r) w.words h

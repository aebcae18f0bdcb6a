-- What the readers of declarations find.
use Rattle.std.specs.Prelude.{◌≡◌, List, ℕ, ◌+◌, ◌*◌, ◌-◌, ◌≤◌, ◌<◌, length, drop, Result}
use Rattle.std.proofs.Math.Option.{some}
use Rattle.std.proofs.Math.Seq.{slice}
use Rattle.limits.specs.Limits as limit
use Rattle.grammar.specs.Bytes.{Word}
use Rattle.grammar.specs.Forms as forms
use Rattle.grammar.specs.Shapes.{Read, arity, state_rest, rel_rest, whole}
use Rattle.grammar.specs.Declarations as grammar
use Rattle.grammar.specs.Declarations.{lookup}
use Rattle.grammar.specs.Rows.{lower, row, again, many_states, many_relations, fault}
use Rattle.grammar.specs.Models.{declare}
use Rattle.rows.specs.declared.Row.{Row}
use Rattle.text_faults.specs.Faults.{Judged}
use Rattle.text_names.specs.Names.{Valid, declared_of, tally, added}
use Rattle.text_names.specs.declared.Name.{Name}
use Rattle.text_names.specs.declared.Declared.{Declared}

-- the declarations keep the limits of row 4: each is of one of the four classes, "up to 24" states, "at most 16" derived relations
pub record Limited (d : Declared) : Type 0 where
  pub total : d.count ≡ tally 0 d.names d.count + tally 1 d.names d.count + tally 2 d.names d.count + tally 3 d.names d.count
  pub states : tally 0 d.names d.count ≤ limit.states
  pub derived : tally 1 d.names d.count + tally 2 d.names d.count + tally 3 d.names d.count ≤ limit.rels

unfoldable pub state_number : grammar.Declared → Word → ℕ
state_number D w = lower (row 4 (many_states D)) (row 5 (again (lookup w D)))

unfoldable pub rel_number : grammar.Declared → Word → ℕ → ℕ
rel_number D w n = lower (row 4 (many_relations D n)) (row 5 (again (lookup w D)))

-- the name from a to e with the next code of its class
abbrev pub next_name : Declared → ℕ → ℕ → ℕ → Name
next_name d a e k = record { code = 32 * k + tally k d.names d.count; start = a; len = e - a }

abbrev pub Entered : Declared → ℕ → ℕ → ℕ → Declared → Type 0
Entered d a e k r = r ≡ added d (next_name d a e k)

-- what is good of the names r with those of a form
pub record GoodDeclaration (text : List ℕ) (d : Declared) (form : forms.Form) (r : Declared) : Type 0 where
  pub valid : Valid text r
  pub limited : Limited r
  pub declared : declared_of text r ≡ declare (declared_of text d) form

-- the declaration that is read, after the declarations d
abbrev pub DeclarationEnd : List ℕ → Declared → Read forms.Form → Result Declared Row → Type 0
DeclarationEnd text d read r = Judged read (λ form n. (clauses : ℕ) → n ≡ fault (declared_of text d) clauses form) (GoodDeclaration text d) r

-- the arity that is next
pub record ArityAt (text : List ℕ) (at r : ℕ) : Type 0 where
  pub small : r ≤ 2
  pub within : at < length text
  pub read : arity (drop at text) ≡ some (r, drop (at + 1) text)

-- the `state` line that is next, whose name ends at e
pub record StateAt (text : List ℕ) (at e : ℕ) : Type 0 where
  pub begins : at < e
  pub ends : e < length text
  pub read : whole (state_rest (drop at text)) ≡ some (forms.state_form (slice at e text))

-- the `rel` line that is next, whose name ends at e, with the arity n
pub record RelAt (text : List ℕ) (at e n : ℕ) : Type 0 where
  pub begins : at < e
  pub ends : e < length text
  pub small : n ≤ 2
  pub read : whole (rel_rest (drop at text)) ≡ some (forms.rel_form (slice at e text) n)

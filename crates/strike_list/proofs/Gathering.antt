-- THE LISTED LINES OF A MODEL, gathered clause by clause.
use mathlib.Core.Path.{◌≡◌, refl, ap, ◌∙◌}
use mathlib.Core.Bool.{true, false, ◌&&◌}
use mathlib.Core.List.{List, [], ◌∷◌, ◌++◌, map, append-nil, map-append}
use Prim.Native.Nat.{ℕ, ◌+◌, ◌≤◌, ◌<◌}
use native.Mathlib.Omega.{arith}
use native.Mathlib.Numerals.{add-one}
use lib.ListN.{length, take, get_or, set, length-append, length-map, get_or-map}
use lib.Seq.{get_or-take, length-take-le, take-suc}
use Rattle.semantics.specs.Models.{elem, Body, Line, Program}
use Rattle.semantics.proofs.Tools.{distinct-length}
use Rattle.model.specs.declared.Action.{Action}
use Rattle.model.specs.declared.Action.TheVariants.{Rule, New, Next}
use Rattle.model.specs.declared.Clause.{Clause}
use Rattle.model.specs.declared.Model.{Model}
use Rattle.model.specs.Records.{line_of, clause_body, clause_line, program_of}
use Rattle.model.specs.WellFormed.{WellFormed}
use Rattle.striking.specs.Striking.{strikable, most, Rising}
use Rattle.strike_list.specs.Lists.{free, named}
use Rattle.strike_list.proofs.Orders.{rising-distinct, places-rise}
use Rattle.strike_list.proofs.Named.{numbers, named-append, named-rising, named-listed}
use Rattle.strike_list.proofs.Records.{Holds, holds_more}

-- a clause's line may be struck by its action
free-line : (a : Action) (b : Body) → strikable (line_of a b) ≡ free a
free-line (Rule r n) b = refl
free-line (New s) b = refl
free-line (Next plus minus) b = refl

-- the first k clauses
abbrev clause_of : Model → Clause → ℕ × Line
clause_of m c = (c.line, clause_line m.literals c)

abbrev pub begun : Model → ℕ → Program
begun m k = map (clause_of m) (take k m.clauses)

begun_all : (m : Model) → begun m m.clausecount ≡ program_of m
unfolding program_of
begun_all m = refl

module _ (m : Model) (good : WellFormed m) where
  abbrev d : Clause
  d = record { action = Rule 0 0; line = 0; first = 0; count = 0; variables = 0 }

  -- their lines rise
  pub begun-rising : (k : ℕ) → k ≤ m.clausecount → Rising (numbers (begun m k))
  begun-rising k l = places-rise (numbers (begun m k)) (λ i j h g.
      let s : length (numbers (begun m k)) ≡ k = length-map (begun m k) (λ (c : ℕ × Line). c.0) ∙ length-map (take k m.clauses) (clause_of m) ∙ length-take-le k m.clauses (omega (arith, good.clauses, good.row)) in
      rw (at i (omega (arith, s)), at j (omega (arith, s))) (good.rising i j h (omega (arith, s))))
    where
      at : (i : ℕ) → i < k → get_or (numbers (begun m k)) i 0 ≡ (get_or m.clauses i d).line
      at i h = get_or-map (λ (c : ℕ × Line). c.0) (begun m k) i (clause_of m d) ∙ ap (λ (c : ℕ × Line). c.0) (get_or-map (clause_of m) (take k m.clauses) i d) ∙ ap (λ (c : Clause). c.line) (get_or-take k m.clauses i d h)

  pub model-rising : Rising (numbers (program_of m))
  model-rising = rw (← begun_all m) (begun-rising m.clausecount (omega arith))

  counted : length (take m.clausecount m.clauses) ≡ m.clausecount
  counted = length-take-le m.clausecount m.clauses (omega (arith, good.clauses, good.row))

  pub begun-end : (i : ℕ) → length (take m.clausecount m.clauses) ≤ i → i ≤ length (take m.clausecount m.clauses) → begun m i ≡ program_of m
  begun-end i h k = let e : i ≡ m.clausecount = omega (arith, counted) in rw e (begun_all m)

  module _ (L row : List ℕ) (n i : ℕ) (l : i < length (take m.clausecount m.clauses)) (h : Holds row n (named (begun m i) L)) where
    inside : i < m.clausecount
    inside = omega (arith, counted)

    abbrev c : Clause
    c = get_or (take m.clausecount m.clauses) i d

    -- one clause more
    next : named (begun m (i + 1)) L ≡ named (begun m i) L ++ named (clause_of m c ∷ []) L
    next =
        rw (get_or-take m.clausecount m.clauses i d inside, add-one, take-suc m.clauses i d (omega (arith, inside, good.clauses, good.row)), map-append)
        (named-append (begun m i) (clause_of m (get_or m.clauses i d) ∷ []) L)

    pub gathered-less : (free c.action && elem c.line L) ≡ false → Holds row n (named (begun m (i + 1)) L)
    gathered-less e = rw next (rw (free-line c.action (clause_body m.literals c), e, append-nil) h)

    module _ (e : (free c.action && elem c.line L) ≡ true) (few : length L ≤ most) where
      longer : named (begun m (i + 1)) L ≡ named (begun m i) L ++ c.line ∷ []
      longer = next ∙ rw (free-line c.action (clause_body m.literals c), e)

      -- the row has room for its line, since the lines that it has are distinct ones of the list
      pub gathered-room : n < most
      gathered-room =
          let r = begun-rising (i + 1) (omega (arith, inside)) in
          omega (arith, h.count, few, ap length longer, length-append (named (begun m i) L) (c.line ∷ []), distinct-length (named (begun m (i + 1)) L) L (rising-distinct (named (begun m (i + 1)) L) (named-rising (begun m (i + 1)) L r)) (named-listed (begun m (i + 1)) L r))

      pub gathered-more : Holds (set row n c.line) (n + 1) (named (begun m (i + 1)) L)
      gathered-more = rw longer (holds_more row n (named (begun m i) L) c.line h gathered-room)

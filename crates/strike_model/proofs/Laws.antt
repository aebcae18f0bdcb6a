-- The clauses that are kept, and the record that has them.
use mathlib.Core.Path.{◌≡◌, refl, sym, ap, ◌∙◌, subst}
use mathlib.Core.Logic.{⊎_elim}
use mathlib.Core.Bool.{true, false, cond}
use mathlib.Core.List.{List, [], ◌∷◌, ◌++◌, map, append-nil}
use Prim.Native.Nat.{ℕ, zero, suc, ◌+◌, ◌≤◌, ◌<◌}
use native.Mathlib.Omega.{arith}
use native.Mathlib.Nat.{not-suc-le-zero}
use native.Mathlib.Numerals.{add-one}
use lib.ListN.{length, take, drop, get_or, set, length-set}
use lib.Seq.{get_or-take, get_or-drop, length-take-le, take-suc, take-suc-set, drop-drop, drop-set-lt}
use lib.Dec.{eqb}
use Rattle.std.proofs.lemmas.Bool.{cases_Bool}
use Rattle.std.specs.List.{list_any}
use Rattle.std.proofs.lemmas.Bool.Decides.{nat_tests}
use Rattle.limits.specs.Limits as limit
use Rattle.semantics.specs.Models.{elem, Line, Safe, SafeQuestion}
use Rattle.model.specs.declared.Action.{Action}
use Rattle.model.specs.declared.Action.TheVariants.{Rule, New, Next}
use Rattle.model.specs.declared.Clause.{Clause}
use Rattle.model.specs.declared.Stage.{Stage}
use Rattle.model.specs.declared.Model.{Model}
use Rattle.model.specs.Records.{clause_line, program_of, question_of, clause_at, stage_at}
use Rattle.model.specs.WellFormed.{declared_in, GoodRelations, GoodPart, GoodAction, GoodClause, GoodStage, WellFormed}
use Rattle.striking.specs.Striking.{strike}
use Rattle.striking.proofs.Striking.{strike-safe}
use Rattle.strike_model.specs.Models.{Strikes}

-- a list's `contains` answers whether the number is among its own
pub list_any-elem : (x : ℕ) (xs : List ℕ) → list_any (λ y. eqb y x) xs ≡ elem x xs
list_any-elem x [] = refl
list_any-elem x (y ∷ ys) = let e : eqb y x ≡ eqb x y = grind (arith, nat_tests) in rw (e, list_any-elem x ys)

-- THE CLAUSES of the lines that are not listed
abbrev pub without : List ℕ → List Clause → List Clause
without L [] = []
without L (c ∷ cs) = cond (elem c.line L) (without L cs) (c ∷ without L cs)

pub without-append : (L : List ℕ) (cs ds : List Clause) → without L (cs ++ ds) ≡ without L cs ++ without L ds
without-append L [] ds = refl
without-append L (c ∷ cs) ds = ⊎_elim
    (λ (q : elem c.line L ≡ true). rw q (without-append L cs ds))
    (λ (q : elem c.line L ≡ false). rw q (ap {B = List Clause} (λ (r : List Clause). c ∷ r) (without-append L cs ds)))
    (cases_Bool (elem c.line L))

-- they are the program with these lines struck
without-program : (row L : List ℕ) (cs : List Clause) → map (λ (c : Clause). (c.line, clause_line row c)) (without L cs) ≡ strike (map (λ (c : Clause). (c.line, clause_line row c)) cs) L
without-program row L [] = refl
without-program row L (c ∷ cs) = ⊎_elim
    (λ (q : elem c.line L ≡ true). rw q (without-program row L cs))
    (λ (q : elem c.line L ≡ false). rw q (ap (λ (r : List (ℕ × Line)). (c.line, clause_line row c) ∷ r) (without-program row L cs)))
    (cases_Bool (elem c.line L))

module _ (L : List ℕ) (d : Clause) where
  abbrev From : List Clause → List Clause → ℕ → Type 0
  From ds cs i = (j : ℕ) × (j < length cs) × (get_or ds i d ≡ get_or cs j d)

  from_cons : (c : Clause) (ds cs : List Clause) → ((i : ℕ) → i < length ds → From ds cs i) → (i : ℕ) → i < suc (length ds) → From (c ∷ ds) (c ∷ cs) i
  from_cons c ds cs h zero l = (0, omega arith, refl)
  from_cons c ds cs h (suc i) l = let w = h i (omega arith) in (suc w.0, omega (arith, w.1), w.2)

  -- each of them is a clause that was there,
  without_from : (cs : List Clause) (i : ℕ) → i < length (without L cs) → From (without L cs) cs i
  without_from [] i l = absurd (not-suc-le-zero l)
  without_from (c ∷ cs) i l = ⊎_elim
      (λ (q : elem c.line L ≡ true). let w = without_from cs i (rw q at l) in rw q (suc w.0, omega (arith, w.1), w.2))
      (λ (q : elem c.line L ≡ false). rw q (from_cons c (without L cs) cs (without_from cs) i (rw q at l)))
      (cases_Bool (elem c.line L))

  abbrev Rise : List Clause → Type 0
  Rise cs = (i j : ℕ) → i < j → j < length cs → (get_or cs i d).line < (get_or cs j d).line

  rise-cons : (c : Clause) (ds cs : List Clause) → Rise (c ∷ cs) → ((i : ℕ) → i < length ds → From ds cs i) → Rise ds → Rise (c ∷ ds)
  rise-cons c ds cs h f r i zero l k = absurd (not-suc-le-zero l)
  rise-cons c ds cs h f r zero (suc j) l k = let w = f j (omega arith) in rw w.2 (h 0 (suc w.0) (omega arith) (omega (arith, w.1)))
  rise-cons c ds cs h f r (suc i) (suc j) l k = r i j (omega arith) (omega arith)

  -- and their lines rise still
  without-rise : (cs : List Clause) → Rise cs → Rise (without L cs)
  without-rise [] h = h
  without-rise (c ∷ cs) h =
      let r = without-rise cs (λ i j l k. h (suc i) (suc j) (omega arith) (omega arith)) in
      ⊎_elim (λ (q : elem c.line L ≡ true). rw q r) (λ (q : elem c.line L ≡ false). rw q (rise-cons c (without L cs) cs h (without_from cs) r)) (cases_Bool (elem c.line L))

-- the record with other clauses
abbrev pub cut : Model → List Clause → ℕ → Model
cut m cs n = record {
  relations = m.relations;
  names = m.names;
  clauses = cs;
  clausecount = n;
  literals = m.literals;
  literalcount = m.literalcount;
  stages = m.stages;
  stagecount = m.stagecount;
  carried = m.carried;
  lines = m.lines;
}

module _ (m : Model) (cs : List Clause) (n : ℕ) where
  cut-relations : GoodRelations m → GoodRelations (cut m cs n)
  unfolding declared_in
  cut-relations g = record { count = g.count; states = g.states; derived = g.derived; pairs = g.pairs; order = g.order }

  cut-action : (a : Action) → GoodAction m a → GoodAction (cut m cs n) a
  unfolding declared_in
  cut-action (Rule r k) g = g
  cut-action (New s) g = g
  cut-action (Next plus minus) g = g

  cut-part : (first count k : ℕ) → GoodPart m first count k → GoodPart (cut m cs n) first count k
  unfolding declared_in
  cut-part first count k g = record { within = g.within; short = g.short; few = g.few; relations = g.relations }

  cut-clause : (c : Clause) → GoodClause m c → GoodClause (cut m cs n) c
  cut-clause c g = record { part = cut-part c.first c.count c.variables g.part; numbered = g.numbered; action = cut-action c.action g.action; first = g.first; last = g.last }

  cut-stage : (s : Stage) → GoodStage m s → GoodStage (cut m cs n) s
  cut-stage s g = record { part = cut-part s.first s.count s.variables g.part; some = g.some; numbered = g.numbered; different = g.different; small = g.small }

  cut-question : question_of (cut m cs n) ≡ question_of m
  unfolding question_of
  cut-question = refl

  -- THE RECORD that has the kept clauses first
  module _ (L : List ℕ) (good : WellFormed m) (long : length cs ≡ limit.clauses) (first : take n cs ≡ without L (take m.clausecount m.clauses)) (few : n ≤ m.clausecount) where
    cut-program : program_of (cut m cs n) ≡ strike (program_of m) L
    unfolding program_of
    cut-program = rw first (without-program m.literals L (take m.clausecount m.clauses))

    abbrev d : Clause
    d = record { action = Rule 0 0; line = 0; first = 0; count = 0; variables = 0 }

    fits : n ≤ length cs
    fits = omega (arith, good.clauses)

    whole : m.clausecount ≤ length m.clauses
    whole = omega (arith, good.clauses, good.row)

    -- how many there are
    many : length (without L (take m.clausecount m.clauses)) ≡ n
    many = ap length (sym first) ∙ length-take-le n cs fits

    -- the clause at a place of the record is that of the list,
    own : (i : ℕ) → i < n → clause_at (cut m cs n) i ≡ get_or (without L (take m.clausecount m.clauses)) i d
    own i l = sym (get_or-take n cs i d l) ∙ ap (λ (l : List Clause). get_or l i d) first

    -- each is a clause of the model,
    kept : (i : ℕ) → i < n → (j : ℕ) × (j < m.clausecount) × (clause_at (cut m cs n) i ≡ clause_at m j)
    kept i l =
        let w = without_from L d (take m.clausecount m.clauses) i (omega (arith, many)) in
        let h : w.0 < m.clausecount = omega (arith, w.1, length-take-le m.clausecount m.clauses whole) in
        (w.0, h, own i l ∙ w.2 ∙ get_or-take m.clausecount m.clauses w.0 d h)

    -- in the order of their lines
    before : Rise L d (take m.clausecount m.clauses)
    before i j l k =
        let g : j < m.clausecount = omega (arith, length-take-le m.clausecount m.clauses whole) in
        rw (get_or-take m.clausecount m.clauses i d (omega arith), get_or-take m.clausecount m.clauses j d g) (good.rising i j l g)

    rises : (i j : ℕ) → i < j → j < n → (clause_at (cut m cs n) i).line < (clause_at (cut m cs n) j).line
    rises i j l k = rw (own i (omega arith), own j k) (without-rise L d (take m.clausecount m.clauses) before i j l (omega (arith, many)))

    cut-formed : WellFormed (cut m cs n)
    cut-formed = record {
      relations = cut-relations good.relations;
      clauses = omega (arith, good.clauses);
      clause = λ i l. let w = kept i l in subst (GoodClause (cut m cs n)) (sym w.2) (cut-clause (clause_at m w.0) (good.clause w.0 w.1));
      rising = rises;
      safe = subst Safe (sym cut-program) (strike-safe (program_of m) L good.safe);
      one = good.one;
      stages = good.stages;
      stage = λ i l. cut-stage (stage_at m i) (good.stage i l);
      safely = subst SafeQuestion (sym cut-question) good.safely;
      carries = rw cut-question good.carries;
      carried = rw cut-question good.carried;
      lines = good.lines;
      literalcount = good.literalcount;
      codes = good.codes;
      row = long;
      literals = good.literals;
      asked = good.asked;
      numbers = good.numbers;
    }

    pub strikes : Strikes m L (cut m cs n)
    strikes = record { program = cut-program; question = cut-question; formed = cut-formed }

-- AFTER THE FIRST i CLAUSES the kept ones stand first, and those ahead are as they were
pub record Moved (L : List ℕ) (m₀ m : Model) (kept i : ℕ) : Type 0 where
  pub rest : m ≡ cut m₀ m.clauses m₀.clausecount
  pub long : length m.clauses ≡ limit.clauses
  pub few : kept ≤ i
  pub first : take kept m.clauses ≡ without L (take i m₀.clauses)
  pub ahead : drop i m.clauses ≡ drop i m₀.clauses

module _ (L : List ℕ) (m₀ m : Model) (kept i : ℕ) (h : Moved L m₀ m kept i) where
  module _ (d : Clause) (l : i < length m₀.clauses) (same : length m₀.clauses ≡ limit.clauses) where
    -- the next clause is the model's
    next-is : get_or m.clauses i d ≡ get_or m₀.clauses i d
    next-is = sym (ahead-at m.clauses) ∙ ap (λ (r : List Clause). get_or r 0 d) h.ahead ∙ ahead-at m₀.clauses
      where
        ahead-at : (r : List Clause) → get_or (drop i r) 0 d ≡ get_or r i d
        ahead-at r = get_or-drop i r 0 d ∙ ap (λ (k : ℕ). get_or r k d) (let e : i + 0 ≡ i = omega arith in e)

    -- one more
    more : without L (take (i + 1) m₀.clauses) ≡ without L (take i m₀.clauses) ++ without L (get_or m.clauses i d ∷ [])
    more = rw (add-one, take-suc m₀.clauses i d l, ← next-is) (without-append L (take i m₀.clauses) (get_or m.clauses i d ∷ []))

    past : drop (i + 1) m.clauses ≡ drop (i + 1) m₀.clauses
    past = sym (drop-drop 1 i m.clauses) ∙ ap (drop 1) h.ahead ∙ drop-drop 1 i m₀.clauses

    pub moved-struck : elem (get_or m.clauses i d).line L ≡ true → Moved L m₀ m kept (i + 1)
    moved-struck e = record {
      rest = h.rest;
      long = h.long;
      few = omega (arith, h.few);
      first = h.first ∙ sym (more ∙ rw e (append-nil (without L (take i m₀.clauses))));
      ahead = past;
    }

    pub moved-kept : elem (get_or m.clauses i d).line L ≡ false → Moved L m₀ (cut m (set m.clauses kept (get_or m.clauses i d)) m.clausecount) (kept + 1) (i + 1)
    moved-kept e = record {
      rest = ap (λ (z : Model). cut z (set m.clauses kept (get_or m.clauses i d)) z.clausecount) h.rest;
      long = length-set m.clauses kept (get_or m.clauses i d) ∙ h.long;
      few = omega (arith, h.few);
      first = rw (add-one kept, take-suc-set m.clauses kept (get_or m.clauses i d) (omega (arith, h.few, h.long))) (rw h.first (sym (more ∙ rw e)));
      ahead = drop-set-lt (i + 1) m.clauses kept (get_or m.clauses i d) (omega (arith, h.few)) ∙ past;
    }

  pub moved-end : WellFormed m₀ → i ≡ m₀.clausecount → Strikes m₀ L (cut m m.clauses kept)
  moved-end good e = subst (Strikes m₀ L) (sym (ap (λ (z : Model). cut z m.clauses kept) h.rest))
      (strikes m₀ m.clauses kept L good h.long (h.first ∙ ap (λ (k : ℕ). without L (take k m₀.clauses)) e) (omega (arith, h.few)))

-- THE RECORD of a sound model is well-formed.
use mathlib.Core.Path.{◌≡◌, refl, sym, ap, ◌∙◌, subst}
use mathlib.Core.Logic.{⊎_elim, ◌≢◌}
use mathlib.Core.Bool.{true, false}
use mathlib.Core.List.{List, [], ◌∷◌, ◌++◌, map}
use Prim.Native.Nat.{ℕ, zero, suc, ◌+◌, ◌≤◌, ◌<◌}
use native.Mathlib.Omega.{arith}
use lib.Dec.{eqb, ltb}
use lib.ListN.{length, take, drop, get_or, length-map, length-drop, get_or-map}
use lib.Seq.{get_or-take, get_or-drop, take-take, length-take-le}
use borrow.Author.Tests.{ltb-true, ltb-false, ne_eqb}
use Rattle.std.proofs.lemmas.Bool.{cases_Bool}
use Rattle.semantics.specs.Models as models
use Rattle.semantics.specs.Models.{elem, is, isnt, fact, Body, Line, Program, Question, other, vars, firsts, names, Distinct}
use Rattle.semantics.proofs.Tools.{same?, or_right, elem-here, clash, firsts-among}
use Rattle.model.specs.declared.Action.{Action}
use Rattle.model.specs.declared.Action.TheVariants.{Rule, New, Next}
use Rattle.model.specs.declared.Clause.{Clause}
use Rattle.model.specs.declared.Model.{Model}
use Rattle.model.specs.declared.Literal as encoded
use Rattle.model.specs.Literals.{meaning, relation_of, decoded, literal_of}
use Rattle.model.specs.Records as records
use Rattle.model.specs.Records.{line_of, body_at, clause_body, clause_line, stage_body, rename, renamed, number_in, stage_of, program_of, clause_at, stage_at}
use Rattle.model.specs.WellFormed as well
use Rattle.model.specs.WellFormed.{class_of, index_of, in_class, declared_in, Numbered, GoodPart, GoodRelations, GoodAction, WellFormed}
use Rattle.model.proofs.Encoding.{decoded-is, decoded-isnot, decoded-nullary, decoded-single, decoded-pair}
use Rattle.model.proofs.Lines.{stage_at_lem}
use Rattle.model.proofs.Numbering.{length-up_from}
use Rattle.grammar.specs.Bytes.{Word, lines}
use Rattle.grammar.specs.Declarations.{Declared, class, count}
use Rattle.grammar.specs.Texts.{accepted, outcome}
use Rattle.acceptance.specs.Sound.{Each, code_at, DeclaredState, DeclaredRelation, GoodLiteral, GoodBody, GoodHead, head_of, body_of, Sound}
use Rattle.acceptance.specs.Sound as sound
use Rattle.acceptance.specs.Represents.{codes_of, Represents}
use Rattle.acceptance.proofs.Acceptance.{each_at, accepted-sound}

-- AN ELEMENT of a mapped part of a list
get_or-mapped : {A B : Type 0} (f : A → B) (xs : List A) (n i : ℕ) (d : A) (e : B) → i < n → n ≤ length xs → get_or (map f (take n xs)) i e ≡ f (get_or xs i d)
get_or-mapped f [] n i d e h k = absurd (omega arith)
get_or-mapped f (x ∷ xs) zero i d e h k = absurd (omega arith)
get_or-mapped f (x ∷ xs) (suc n) zero d e h k = refl
get_or-mapped f (x ∷ xs) (suc n) (suc i) d e h k = get_or-mapped f xs n i d e (omega arith) (omega arith)

-- THE RELATIONS
in-class : (k : ℕ) (D : Declared) → in_class k (codes_of D) ≡ count k D
unfolding count
in-class k [] = refl
in-class k (d ∷ D) = rw (in-class k D)

take-codes : (i : ℕ) (D : Declared) → take i (codes_of D) ≡ codes_of (take i D)
take-codes zero D = refl
take-codes (suc i) [] = refl
take-codes (suc i) (d ∷ D) = ap {B = List ℕ} (λ (l : List ℕ). d.1 ∷ l) (take-codes i D)

-- a declared relation is known by its class and index
module _ (D : Declared) where
  abbrev Known : ℕ → Type 0
  Known r = (class_of r < 4) × (index_of r < count (class_of r) D)

  known-state : (a : ℕ) → a < 32 → DeclaredState D a → Known a
  known-state a h k = let z : class_of a ≡ 0 = omega arith in rw z (omega arith, omega arith)

  known-derived : (r n : ℕ) → DeclaredRelation D r n → Known r
  known-derived r n (h, e, k) = rw e (omega arith, k)

  -- the relation of a literal of the row
  known-literal : (code : ℕ) → GoodLiteral D (literal_of code) → Known (relation_of code)
  unfolding literal_of
  known-literal code h = ⊎_elim
      (λ (q : ltb (relation_of code) 32 ≡ true).
      let l = ltb-true (relation_of code) 32 q in
      ⊎_elim
      (λ (p : ltb code 16777216 ≡ true). known-state (relation_of code) l (as_read (decoded-is code l (ltb-true code 16777216 p))))
      (λ (p : ltb code 16777216 ≡ false). known-state (relation_of code) l (as_read (decoded-isnot code l (ltb-false code 16777216 p))))
      (cases_Bool (ltb code 16777216)))
      (λ (q : ltb (relation_of code) 32 ≡ false).
      let g = ltb-false (relation_of code) 32 q in
      ⊎_elim
      (λ (p : ltb (relation_of code) 64 ≡ true). known-derived (relation_of code) 0 (as_read (decoded-nullary code g (ltb-true (relation_of code) 64 p))))
      (λ (p : ltb (relation_of code) 64 ≡ false).
      let k = ltb-false (relation_of code) 64 p in
      ⊎_elim
      (λ (o : ltb (relation_of code) 96 ≡ true). known-derived (relation_of code) 1 (as_read (decoded-single code k (ltb-true (relation_of code) 96 o))))
      (λ (o : ltb (relation_of code) 96 ≡ false). known-derived (relation_of code) 2 (as_read (decoded-pair code (ltb-false (relation_of code) 96 o))))
      (cases_Bool (ltb (relation_of code) 96)))
      (cases_Bool (ltb (relation_of code) 64)))
      (cases_Bool (ltb (relation_of code) 32))
    where
      as_read : {l : encoded.Literal} → decoded code ≡ l → GoodLiteral D (meaning l)
      as_read e = subst (λ (l : encoded.Literal). GoodLiteral D (meaning l)) e h

-- A DISTINCT LIST
elem_at : (xs : List ℕ) (i : ℕ) → i < length xs → elem (get_or xs i 0) xs ≡ true
elem_at [] i h = absurd (omega arith)
elem_at (x ∷ xs) zero h = elem-here x xs
elem_at (x ∷ xs) (suc i) h = or_right (eqb (get_or xs i 0) x) (elem (get_or xs i 0) xs) (elem_at xs i (omega arith))

distinct-at : (xs : List ℕ) → Distinct xs → (i j : ℕ) → i < length xs → j < length xs → get_or xs i 0 ≡ get_or xs j 0 → i ≡ j
distinct-at [] d i j h k e = absurd (omega arith)
distinct-at (x ∷ xs) d zero zero h k e = refl
distinct-at (x ∷ xs) d zero (suc j) h k e = clash (subst (λ (y : ℕ). elem y xs ≡ true) (sym e) (elem_at xs j (omega arith))) d.0
distinct-at (x ∷ xs) d (suc i) zero h k e = clash (subst (λ (y : ℕ). elem y xs ≡ true) e (elem_at xs i (omega arith))) d.0
distinct-at (x ∷ xs) d (suc i) (suc j) h k e = ap suc (distinct-at xs d.1 i j (omega arith) (omega arith) e)

firsts-unseen : (x : ℕ) (seen xs : List ℕ) → elem x seen ≡ true → elem x (firsts seen xs) ≡ false
unfolding firsts
firsts-unseen x seen [] h = refl
firsts-unseen x seen (y ∷ xs) h = ⊎_elim
    (λ (q : elem y seen ≡ true). rw q (firsts-unseen x seen xs h))
    (λ (q : elem y seen ≡ false). rw q (⊎_elim
    (λ (e : x ≡ y). clash (subst (λ (z : ℕ). elem z seen ≡ true) e h) q)
    (λ (e : x ≢ y). rw (ne_eqb x y e) (firsts-unseen x (y ∷ seen) xs (or_right (eqb x y) (elem x seen) h)))
    (same? x y)))
    (cases_Bool (elem y seen))

firsts-distinct : (seen xs : List ℕ) → Distinct (firsts seen xs)
unfolding firsts
firsts-distinct seen [] = tt
firsts-distinct seen (x ∷ xs) = ⊎_elim
    (λ (q : elem x seen ≡ true). rw q (firsts-distinct seen xs))
    (λ (q : elem x seen ≡ false). rw q (firsts-unseen x (x ∷ seen) xs (elem-here x seen), firsts-distinct (x ∷ seen) xs))
    (cases_Bool (elem x seen))

-- A CLAUSE of a record with its line
abbrev pub clause_of : List ℕ → Clause → ℕ × Line
clause_of row c = (c.line, clause_line row c)

head-line : (a : Action) (b : Body) → head_of (line_of a b) ≡ records.head_of a
head-line (Rule r n) b = refl
head-line (New s) b = refl
head-line (Next plus minus) b = refl

body-line : (a : Action) (b : Body) → body_of (line_of a b) ≡ b
body-line (Rule r n) b = refl
body-line (New s) b = refl
body-line (Next plus minus) b = refl

-- a renamed literal is of the same relation
literals-renamed : (D : Declared) (f : ℕ → ℕ) (b : Body) → Each (GoodLiteral D) (renamed f b) → Each (GoodLiteral D) b
literals-renamed D f [] h = tt
literals-renamed D f (l ∷ b) h = (one l h.0, literals-renamed D f b h.1)
  where
    one : (l : models.Literal) → GoodLiteral D (rename f l) → GoodLiteral D l
    one (is a x) h = h
    one (isnt a x) h = h
    one (fact r xs) h = rw (length-map xs f) at h

module _ (n : ℕ) (D : Declared) (P : Program) (Q : Question) (m : Model) (s : Sound n D P Q) (r : Represents n D P Q m) where
  -- THE RELATIONS
  pub declared-in : (k : ℕ) → declared_in m k ≡ count k D
  unfolding declared_in
  declared-in k = rw r.relations (in-class k D)

  code-at : (i : ℕ) → i < m.relations.count → get_or m.relations.codes i 0 ≡ code_at D i
  code-at i h =
      sym (get_or-take m.relations.count m.relations.codes i 0 h)
      ∙ ap (λ (l : List ℕ). get_or l i 0) r.relations
      ∙ get_or-map (λ (d : Word × ℕ). d.1) D i ([], 0)

  codes-before : (i : ℕ) → i < m.relations.count → take i m.relations.codes ≡ codes_of (take i D)
  codes-before i h = sym (take-take i m.relations.count m.relations.codes (omega arith)) ∙ ap (take i) r.relations ∙ take-codes i D

  good-relations : GoodRelations m
  good-relations =
      let g = s.lines.declarations in
      record {
        count = rw r.declared g.most;
        states = rw (declared-in 0) g.states;
        derived = rw (declared-in 1, declared-in 2, declared-in 3) g.derived;
        pairs = rw (declared-in 3) g.pairs;
        order = λ i h. rw (code-at i h, codes-before i h, in-class (class (code_at D i)) (take i D)) (g.order i (rw r.declared at h));
      }

  known : (x : ℕ) → Known D x → well.Declared m x
  known x k = (k.0, rw (declared-in (class_of x)) k.1)

  -- A PART of the literal row
  module _ (first size : ℕ) (within : first + size ≤ m.literalcount) where
    room : size ≤ length (drop first m.literals)
    room = let a = r.literalcount in let b = r.literals in rw (length-drop first m.literals) (omega arith)

    length-body : length (body_at m.literals first size) ≡ size
    length-body = length-map (take size (drop first m.literals)) literal_of ∙ length-take-le size (drop first m.literals) room

    good-part : (v : ℕ) → v ≤ 3 → GoodBody D (body_at m.literals first size) → GoodPart m first size v
    good-part v few b = record {
      within = within;
      short = rw length-body at b.short;
      few = few;
      relations = λ k h. known (relation_of (get_or m.literals (first + k) 0)) (known-literal D (get_or m.literals (first + k) 0)
          (subst (GoodLiteral D) (get_or-mapped literal_of (drop first m.literals) size k 0 (is 0 0) h room ∙ ap literal_of (get_or-drop first m.literals k 0))
          (each_at (GoodLiteral D) (body_at m.literals first size) (is 0 0) b.literals k (rw length-body h))));
    }

  -- CLAUSES
  clause-at : (i : ℕ) → i < m.clausecount → get_or P i (0, other) ≡ clause_of m.literals (clause_at m i)
  unfolding program_of
  clause-at i h =
      ap (λ (l : Program). get_or l i (0, other)) (sym r.program)
      ∙ get_or-mapped (clause_of m.literals) m.clauses m.clausecount i _ (0, other) h (let a = r.clauses in let b = r.row in let c = s.lines.clauses in omega arith)

  is-good : (i : ℕ) → i < m.clausecount → sound.GoodClause n D (clause_of m.literals (clause_at m i))
  is-good i h = subst (sound.GoodClause n D) (clause-at i h) (each_at (sound.GoodClause n D) P (0, other) s.lines.clause i (rw r.clauses at h))

  good-action : (a : Action) (b : Body) → GoodHead D (line_of a b) → GoodAction m a
  good-action (Rule x k) b h = let d = rw (length-up_from 0 k) at h.0 in (known x (known-derived D x k d), d.1)
  good-action (New t) b h = rw (declared-in 0) h
  good-action (Next plus minus) b h = rw (declared-in 0) (h.1, h.2)

  numbered-count : (xs : List ℕ) (v : ℕ) → Numbered xs v → length (firsts [] xs) ≡ v
  numbered-count xs v e = ap length e ∙ length-up_from 0 v

  good-clause : (i : ℕ) → i < m.clausecount → well.GoodClause m (clause_at m i)
  good-clause i h =
      let c = clause_at m i in
      let g = is-good i h in
      let held = r.clause i h in
      let b = clause_body m.literals c in
      let few = rw (head-line c.action b, body-line c.action b, numbered-count (records.head_of c.action ++ vars b) c.variables held.numbered) at g.variables.few in
      record {
        part = good-part c.first c.count held.within c.variables few (rw (body-line c.action b) at g.body);
        numbered = held.numbered;
        action = good-action c.action b g.head;
        first = g.first;
        last = rw r.lines g.last;
      }

  rising : (i j : ℕ) → i < j → j < m.clausecount → (clause_at m i).line < (clause_at m j).line
  rising i j h k =
      let a = ap (λ (c : ℕ × Line). c.0) (clause-at i (omega arith)) in
      let b = ap (λ (c : ℕ × Line). c.0) (clause-at j k) in
      let l = s.lines.rising i j h (rw r.clauses at k) in
      omega arith

  -- STAGES
  stage-of : (i : ℕ) → i < m.stagecount → get_or Q i [] ≡ stage_of m.literals (stage_at m i)
  stage-of i h = ap (λ (l : Question). get_or l i []) (sym r.question) ∙ stage_at_lem m (let a = r.stages in let b = r.asked in let c = s.question.stages in omega arith) i h

  stage-is-good : (i : ℕ) → i < m.stagecount → sound.GoodStage D (stage_of m.literals (stage_at m i))
  stage-is-good i h = subst (sound.GoodStage D) (stage-of i h) (each_at (sound.GoodStage D) Q [] s.question.stage i (rw r.stages at h))

  good-stage : (i : ℕ) → i < m.stagecount → well.GoodStage m (stage_at m i)
  good-stage i h =
      let t = stage_at m i in
      let g = stage-is-good i h in
      let held = r.stage i h in
      let b = stage_body m.literals t in
      let len = length-map b (rename (number_in t)) in
      let size = length-body t.first t.count held.within in
      let all = names (stage_of m.literals t) in
      let count : length all ≡ t.variables = ap length (sym held.numbers) ∙ length-take-le t.variables t.numbers (let a = held.room in let b = held.few in omega arith) in
      let at : (x : ℕ) → x < t.variables → number_in t x ≡ get_or all x 0 = λ x l. sym (get_or-take t.variables t.numbers x 0 l) ∙ ap (λ (l : List ℕ). get_or l x 0) held.numbers in
      record {
        part = good-part t.first t.count held.within t.variables held.few
            (record { short = rw len at g.body.short; literals = literals-renamed D (number_in t) b g.body.literals });
        some = rw (len, size) at g.some;
        numbered = held.numbered;
        different = λ x y k l e. distinct-at all (firsts-distinct [] (vars (stage_of m.literals t))) x y (rw count k) (rw count l) (sym (at x k) ∙ e ∙ at y l);
        small = λ x l. rw (at x l) (g.small (get_or all x 0) (firsts-among (get_or all x 0) [] (vars (stage_of m.literals t)) (elem_at all x (rw count l))));
      }

  -- THE THEOREM
  pub well-formed : WellFormed m
  well-formed = record {
    relations = good-relations;
    clauses = rw r.clauses s.lines.clauses;
    clause = good-clause;
    rising = rising;
    safe = rw r.program s.safe;
    one = rw r.stages s.question.one;
    stages = rw r.stages s.question.stages;
    stage = good-stage;
    safely = rw r.question s.question.safe;
    carries = rw r.question s.question.carries;
    carried = rw r.question r.carried;
    lines = rw r.lines s.most;
    literalcount = r.literalcount;
    codes = r.codes;
    row = r.row;
    literals = r.literals;
    asked = r.asked;
    numbers = λ i h. (r.stage i h).room;
  }

-- the record of an accepted text
pub accepted-well-formed : (text : List ℕ) (D : Declared) (P : Program) (Q : Question) (m : Model) → outcome text ≡ accepted D P Q → Represents (length (lines text)) D P Q m → WellFormed m
accepted-well-formed text D P Q m e r = well-formed (length (lines text)) D P Q m (accepted-sound text D P Q e) r

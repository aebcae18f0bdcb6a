-- A RECORD THAT GROWS keeps what it says: one clause more, one stage more, and the rest as before.
use mathlib.Core.Path.{◌≡◌, refl, sym, ap, ◌∙◌}
use mathlib.Core.List.{List, [], ◌∷◌, ◌++◌, map, map-append}
use Prim.Native.Nat.{ℕ, zero, suc, ◌+◌, ◌≤◌, ◌<◌}
use native.Mathlib.Omega.{arith}
use lib.ListN.{length, take, drop, get_or}
use lib.Seq.{take-suc, take-take, get_or-take}
use Rattle.std.proofs.lemmas.List.{drop-take}
use Rattle.semantics.specs.Models.{Body, Program, Question}
use Rattle.model.specs.declared.Model.{Model}
use Rattle.model.specs.Literals.{literal_of}
use Rattle.model.specs.Records.{body_at, line_of, stage_of, renamed, number_in, program_of, question_of, clause_at, stage_at}
use Rattle.acceptance.proofs.WellFormed.{clause_of}
use Rattle.acceptance.specs.Represents.{HoldsClause, HoldsStage}
use Rattle.acceptance.specs.Growing.{Keeps}

body_kept : (k first size : ℕ) (row row' : List ℕ) → take k row' ≡ take k row → first + size ≤ k → body_at row' first size ≡ body_at row first size
body_kept k first size row row' e h = ap (map literal_of) (
    sym (drop-take first size row')
    ∙ ap (drop first) (sym (take-take (first + size) k row' h) ∙ ap (take (first + size)) e ∙ take-take (first + size) k row h)
    ∙ drop-take first size row)

-- an element before place k
get_d_kept : {A : Type 0} (k : ℕ) (xs ys : List A) (i : ℕ) (d : A) → i < k → take k xs ≡ take k ys → get_or xs i d ≡ get_or ys i d
get_d_kept {A} k xs ys i d h e = sym (get_or-take k xs i d h) ∙ ap (λ (l : List A). get_or l i d) e ∙ get_or-take k ys i d h

-- each element before place k is mapped alike
map_same : {A B : Type 0} (f g : A → B) (k : ℕ) (xs : List A) (d : A) → ((i : ℕ) → i < k → f (get_or xs i d) ≡ g (get_or xs i d)) → map f (take k xs) ≡ map g (take k xs)
map_same f g zero xs d h = refl
map_same f g (suc k) [] d h = refl
map_same {B = B} f g (suc k) (x ∷ xs) d h = rw (h 0 (omega arith)) (ap {B = List B} (λ (l : List B). g x ∷ l) (map_same f g k xs d (λ i l. h (suc i) (omega arith))))

map-one-more : {A B : Type 0} (f : A → B) (k : ℕ) (xs : List A) (d : A) → k < length xs → map f (take (suc k) xs) ≡ map f (take k xs) ++ (f (get_or xs k d) ∷ [])
map-one-more f k xs d h = rw (take-suc xs k d h, map-append f (take k xs) (get_or xs k d ∷ []))

module _ (m m' : Model) (keeps : Keeps m m') where
  part-kept : (first size : ℕ) → first + size ≤ m.literalcount → body_at m'.literals first size ≡ body_at m.literals first size
  part-kept first size h = body_kept m.literalcount first size m.literals m'.literals keeps.literals h

  -- CLAUSES
  module _ (held : (i : ℕ) → i < m.clausecount → HoldsClause m (clause_at m i)) where
    clause-kept : (i : ℕ) → i < m.clausecount → clause_at m' i ≡ clause_at m i
    clause-kept i h = get_d_kept m.clausecount m'.clauses m.clauses i _ h keeps.clauses

    pub held-clause : (i : ℕ) → i < m.clausecount → HoldsClause m' (clause_at m' i)
    held-clause i h =
        let c = clause_at m i in
        let w = (held i h).within in
        let l = keeps.literalcount in
        rw (clause-kept i h) (record { within = omega arith; numbered = rw (part-kept c.first c.count w) (held i h).numbered })

    said-kept : map (clause_of m'.literals) (take m.clausecount m.clauses) ≡ map (clause_of m.literals) (take m.clausecount m.clauses)
    said-kept = map_same (clause_of m'.literals) (clause_of m.literals) m.clausecount m.clauses _
        (λ i h. let c = clause_at m i in ap (λ (b : Body). (c.line, line_of c.action b)) (part-kept c.first c.count (held i h).within))

    pub program-kept : m'.clausecount ≡ m.clausecount → program_of m' ≡ program_of m
    unfolding program_of
    program-kept e = rw (e, keeps.clauses) said-kept

    -- one clause more
    pub program-more : m'.clausecount ≡ suc m.clausecount → m.clausecount < length m'.clauses
        → program_of m' ≡ program_of m ++ (clause_of m'.literals (clause_at m' m.clausecount) ∷ [])
    unfolding program_of
    program-more e h =
        rw e (map-one-more (clause_of m'.literals) m.clausecount m'.clauses _ h
        ∙ ap (λ (l : Program). l ++ (clause_of m'.literals (clause_at m' m.clausecount) ∷ [])) (ap (map (clause_of m'.literals)) keeps.clauses ∙ said-kept))

  -- STAGES
  module _ (held : (i : ℕ) → i < m.stagecount → HoldsStage m (stage_at m i)) where
    stage-kept : (i : ℕ) → i < m.stagecount → stage_at m' i ≡ stage_at m i
    stage-kept i h = get_d_kept m.stagecount m'.stages m.stages i _ h keeps.stages

    pub held_stage : (i : ℕ) → i < m.stagecount → HoldsStage m' (stage_at m' i)
    held_stage i h =
        let t = stage_at m i in
        let g = held i h in
        let w = g.within in
        let l = keeps.literalcount in
        let p = part-kept t.first t.count w in
        rw (stage-kept i h) (record { within = omega arith; few = g.few; numbered = rw p g.numbered; numbers = rw p g.numbers; room = g.room })

    asks-kept : map (stage_of m'.literals) (take m.stagecount m.stages) ≡ map (stage_of m.literals) (take m.stagecount m.stages)
    asks-kept = map_same (stage_of m'.literals) (stage_of m.literals) m.stagecount m.stages _
        (λ i h. let t = stage_at m i in ap (renamed (number_in t)) (part-kept t.first t.count (held i h).within))

    -- one stage more
    pub question-more : m'.stagecount ≡ suc m.stagecount → m.stagecount < length m'.stages
        → question_of m' ≡ question_of m ++ (stage_of m'.literals (stage_at m' m.stagecount) ∷ [])
    unfolding question_of
    question-more e h =
        rw e (map-one-more (stage_of m'.literals) m.stagecount m'.stages _ h
        ∙ ap (λ (l : Question). l ++ (stage_of m'.literals (stage_at m' m.stagecount) ∷ [])) (ap (map (stage_of m'.literals)) keeps.stages ∙ asks-kept))

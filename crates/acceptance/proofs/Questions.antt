-- THE QUESTION of an `ask` line without fault is good.
use mathlib.Core.Path.{◌≡◌, refl, sym, ap, ◌∙◌, subst}
use mathlib.Core.Logic.{⊎_elim}
use mathlib.Core.Bool.{Bool, true, false, ◌&&◌, ◌||◌, false≢true}
use mathlib.Core.List.{List, [], ◌∷◌, ◌++◌, map, map-append}
use Prim.Native.Nat.{ℕ, zero, suc, ◌*◌, ◌≤◌}
use native.Mathlib.Omega.{arith}
use lib.Dec.{eqb, leb, ltb}
use lib.ListN.{length, length-map}
use borrow.Author.Tests.{eq-eqb, ne_eqb, leb-true, ltb-true, ltb-false}
use Rattle.std.proofs.lemmas.Bool.{cases_Bool}
use Rattle.limits.specs.Limits as limit
use Rattle.semantics.specs.Models as meaning
use Rattle.semantics.specs.Models.{elem, shared, firsts, standing, only, carriers, SafeQuestion}
use Rattle.semantics.proofs.Tools.{or_right}
use Rattle.model.specs.Records.{up_from}
use Rattle.grammar.specs.Bytes.{Word, same}
use Rattle.grammar.specs.Forms.{Literal, ask_form, all, proper_body, proper_stage, proper}
use Rattle.grammar.specs.Declarations as words
use Rattle.grammar.specs.Declarations.{Declared, member, extend, place, variables, all_variables}
use Rattle.grammar.specs.Rows.{row, lower, body_fault, scope_fault, stages_fault, carried, carries_many, fault}
use Rattle.grammar.specs.Models.{body_of, question_of}
use Rattle.grammar.proofs.Words.{same_refl, same-eq, member-append, member-left, member_right, place-below, extend-new}
use Rattle.grammar.proofs.Lower.{lower-none}
use Rattle.grammar.proofs.Tests.{clash, and_left, and_right}
use Rattle.acceptance.specs.Sound.{Each, GoodDeclarations, GoodStage, GoodQuestion}
use Rattle.acceptance.proofs.Words.{member-here, news, extend-news, news-both, place-injective}
use Rattle.acceptance.proofs.Declarations.{row-none}
use Rattle.acceptance.proofs.Bodies.{vars-body}
use Rattle.acceptance.proofs.Scopes.{elem-mapped, in_order, few-in-order, at-most-three, safe-body, few-numbers}
use Rattle.acceptance.proofs.Clauses.{good-body}

-- numbers are equal where the words are
module _ (vs : List Word) where
  abbrev pub Within : List Word → Type 0
  Within ws = (w : Word) → member w ws ≡ true → member w vs ≡ true

  pub within-rest : (w : Word) (ws : List Word) → Within (w ∷ ws) → Within ws
  within-rest w ws k u e = k u (or_right (same u w) (member u ws) e)

  number_same : (w v : Word) → member w vs ≡ true → member v vs ≡ true → eqb (place vs w) (place vs v) ≡ same w v
  number_same w v h k = ⊎_elim
      (λ (q : same w v ≡ true). rw q (eq-eqb (place vs w) (place vs v) (ap (place vs) (same-eq w v q))))
      (λ (q : same w v ≡ false). rw q (ne_eqb (place vs w) (place vs v) (λ z. clash (subst (λ (u : Word). same w u ≡ true) (place-injective vs w v h k z) (same_refl w)) q)))
      (cases_Bool (same w v))

  pub number-member : (w : Word) (ws : List Word) → member w vs ≡ true → Within ws → elem (place vs w) (map (place vs) ws) ≡ member w ws
  number-member w [] h k = refl
  number-member w (v ∷ ws) h k = rw (number_same w v h (k v (member-here v ws)), number-member w ws h (within-rest v ws k))

-- the variables of the `ask` line, each once
abbrev pub ask_words : List (List Literal) → List Word
ask_words qs = extend [] (all_variables qs)

within-asked : (qs : List (List Literal)) → Within (ask_words qs) (all_variables qs)
within-asked qs w e = extend-new w [] (all_variables qs) e

-- words in order of first appearance are numbers in that order
swap : (a b : Bool) → (a || b) ≡ (b || (a || false))
swap true true = refl
swap true false = refl
swap false true = refl
swap false false = refl

module _ (vs : List Word) where
  pub firsts-numbers : (seen ws : List Word) (S : List ℕ) → Within vs ws → ((w : Word) → member w vs ≡ true → elem (place vs w) S ≡ member w seen)
      → firsts S (map (place vs) ws) ≡ map (place vs) (news seen ws)
  unfolding firsts
  firsts-numbers seen [] S k h = refl
  firsts-numbers seen (w ∷ ws) S k h =
      let m = k w (member-here w ws) in
      let rest = within-rest vs w ws k in
      rw (h w m) (⊎_elim
      (λ (q : member w seen ≡ true). rw q (firsts-numbers seen ws S rest h))
      (λ (q : member w seen ≡ false). rw q (ap {B = List ℕ} (λ (l : List ℕ). place vs w ∷ l) (firsts-numbers (seen ++ (w ∷ [])) ws (place vs w ∷ S) rest
      (λ u e. rw (number_same vs u w e m, h u e, member-append u seen (w ∷ [])) (swap (same u w) (member u seen))))))
      (cases_Bool (member w seen)))

-- the words of a line have the numbers 0, 1 .. in order
pub places-rise : (ws : List Word) → map (place (extend [] ws)) (extend [] ws) ≡ up_from 0 (length (extend [] ws))
places-rise ws = ap (map (place (extend [] ws))) (extend-news [] ws) ∙ sym (firsts-numbers (extend [] ws) [] ws [] (λ w e. extend-new w [] ws e) (λ w m. refl)) ∙ in_order ws

-- what a test leaves of the numbers of words, where it tells the carried words
pub only-carried : (vs : List Word) (f : ℕ → Bool) (qs : List (List Literal)) → ((w : Word) → member w vs ≡ true → f (place vs w) ≡ leb 2 (words.stands w qs))
    → (ws : List Word) → Within vs ws → only f (map (place vs) ws) ≡ map (place vs) (carried qs ws)
only-carried vs f qs h [] k = refl
only-carried vs f qs h (w ∷ ws) k = ⊎_elim
    (λ (e : leb 2 (words.stands w qs) ≡ true). rw (h w (k w (member-here w ws)), e, only-carried vs f qs h ws (within-rest vs w ws k)))
    (λ (e : leb 2 (words.stands w qs) ≡ false). rw (h w (k w (member-here w ws)), e) (only-carried vs f qs h ws (within-rest vs w ws k)))
    (cases_Bool (leb 2 (words.stands w qs)))

stage-right : (D : Declared) (q : List Literal) (qs : List (List Literal)) → stages_fault D (q ∷ qs) ≡ 0 → (body_fault D q ≡ 0) × (scope_fault [] q ≡ 0) × (stages_fault D qs ≡ 0)
unfolding stages_fault
stage-right D q qs e =
    let f = lower-none (lower (body_fault D q) (scope_fault [] q)) (stages_fault D qs) e in
    let g = lower-none (body_fault D q) (scope_fault [] q) f.0 in
    (g.0, g.1, f.1)

-- THE STAGES, their variables numbered by vs
module _ (D : Declared) where
  -- different variables of all stages
  few-all : (qs : List (List Literal)) → stages_fault D qs ≡ 0 → length (news [] (all_variables qs)) ≤ 3 * length qs
  unfolding stages_fault all_variables
  few-all [] e = omega arith
  few-all (q ∷ qs) e =
      let f = stage-right D q qs e in
      let a = at-most-three D [] q f.0 f.1 in
      let b = few-all qs f.2 in
      let c = news-both (variables q) (all_variables qs) in
      omega arith

  module _ (vs : List Word) where
    vars-all : (qs : List (List Literal)) → stages_fault D qs ≡ 0 → standing (map (body_of D vs) qs) ≡ map (place vs) (all_variables qs)
    unfolding stages_fault all_variables
    vars-all [] e = refl
    vars-all (q ∷ qs) e =
        let f = stage-right D q qs e in
        rw (vars-body D vs q f.0, vars-all qs f.2, map-append (place vs) (variables q) (all_variables qs))

    safe-all : (qs : List (List Literal)) → stages_fault D qs ≡ 0 → SafeQuestion (map (body_of D vs) qs)
    unfolding stages_fault
    safe-all [] e i x h = absurd (false≢true h)
    safe-all (q ∷ qs) e zero x h = let f = stage-right D q qs e in safe-body D [] q f.0 f.1 vs x h
    safe-all (q ∷ qs) e (suc i) x h = safe-all qs (stage-right D q qs e).2 i x h

    -- a variable stands in as many stages as its word
    stands-all : (qs : List (List Literal)) → stages_fault D qs ≡ 0 → Within vs (all_variables qs) → (w : Word) → member w vs ≡ true
        → meaning.stands (place vs w) (map (body_of D vs) qs) ≡ words.stands w qs
    unfolding stages_fault all_variables words.stands
    stands-all [] e k w h = refl
    stands-all (q ∷ qs) e k w h =
        let f = stage-right D q qs e in
        rw (
          vars-body D vs q f.0,
          number-member vs w (variables q) h (λ v m. k v (member-left v (variables q) (all_variables qs) m)),
          stands-all qs f.2 (λ v m. k v (member_right v (variables q) (all_variables qs) m)) w h,
        )

    good-stages : GoodDeclarations D → (qs : List (List Literal)) → all proper_stage qs ≡ true → stages_fault D qs ≡ 0 → Within vs (all_variables qs) → length vs ≤ 12
        → Each (GoodStage D) (map (body_of D vs) qs)
    unfolding stages_fault all_variables
    good-stages good [] p e k l = tt
    good-stages good (q ∷ qs) p e k l =
        let f = stage-right D q qs e in
        let s = and_left (proper_stage q) (all proper_stage qs) p in (
          record {
            some = rw (length-map q _) (ltb-true 0 (length q) (and_right (proper_body q) (ltb 0 (length q)) s));
            body = good-body D good vs q (and_left (proper_body q) (ltb 0 (length q)) s) f.0;
            few = few-numbers D [] q f.0 f.1 vs;
            small = λ x h.
                let w = elem-mapped (place vs) x (variables q) (rw (vars-body D vs q f.0) at h) in
                let b = place-below w.0 vs (k w.0 (member-left w.0 (variables q) (all_variables qs) w.1)) in
                rw w.2 (omega arith);
          },
          good-stages good qs (and_right (proper_stage q) (all proper_stage qs) p) f.2 (λ v m. k v (member_right v (variables q) (all_variables qs) m)) l,
        )

  -- THE `ask` LINE
  module _ (qs : List (List Literal)) (faultless : stages_fault D qs ≡ 0) where
    few-asked : length qs ≤ 4 → length (news [] (all_variables qs)) ≤ 12
    few-asked h = let z = few-all qs faultless in omega arith

    -- the carried variables have the numbers of the carried words
    pub carriers-words : carriers (question_of D qs) ≡ map (place (ask_words qs)) (carried qs (ask_words qs))
    unfolding shared
    carriers-words =
        let vs = ask_words qs in
        let inside = within-asked qs in
        rw (vars-all vs qs faultless, firsts-numbers vs [] (all_variables qs) [] inside (λ w m. refl), ← extend-news [] (all_variables qs))
        (only-carried vs (shared (question_of D qs)) qs (λ w m. rw (stands-all vs qs faultless inside w m)) vs (λ w m. m))

  pub good-question : GoodDeclarations D → (clauses : ℕ) (qs : List (List Literal)) → proper (ask_form qs) ≡ true → fault D clauses (ask_form qs) ≡ 0 → GoodQuestion D (question_of D qs)
  unfolding fault
  good-question good clauses qs p e =
      let vs = ask_words qs in
      let f = lower-none (stages_fault D qs) (row 11 (carries_many qs)) e in
      let g = and_left (all proper_stage qs && ltb 0 (length qs)) (leb (length qs) 4) p in
      let four = leb-true (length qs) 4 (and_right (all proper_stage qs && ltb 0 (length qs)) (leb (length qs) 4) p) in
      let len = length-map qs (body_of D vs) in
      let few = few-asked qs f.0 four in
      let stages = good-stages vs good qs (and_left (all proper_stage qs) (ltb 0 (length qs)) g) f.0 (within-asked qs) (rw (extend-news [] (all_variables qs)) few) in
      record {
        one = rw len (ltb-true 0 (length qs) (and_right (all proper_stage qs) (ltb 0 (length qs)) g));
        stages = rw len four;
        stage = stages;
        variables = rw (vars-all vs qs f.0) (few-in-order 12 (all_variables qs) few);
        safe = safe-all vs qs f.0;
        carries = rw (carriers-words qs f.0, length-map (carried qs vs) (place vs)) (ltb-false limit.carried (length (carried qs vs)) (row-none 11 (carries_many qs) (omega arith) f.1));
      }

-- The variables of a stage, entered one after the other.
use mathlib.Core.Path.{◌≡◌, ◌∙◌}
use mathlib.Core.List.{List, [], ◌∷◌, ◌++◌, map, map-append, append_assoc}
use Prim.Native.Nat.{ℕ, ◌+◌, ◌≤◌, ◌<◌}
use native.Mathlib.Numerals.{add-one}
use native.Mathlib.Omega.{arith}
use lib.ListN.{length, take, set, length-set}
use lib.Seq.{take-suc-set}
use Rattle.grammar.specs.Bytes.{Word}
use Rattle.grammar.specs.Declarations.{extend, place}
use Rattle.grammar.proofs.Words.{member_right, extend-append, extend-new, place-own}
use Rattle.grammar.proofs.Bodies.{numbers-stable}
use Rattle.text_names.specs.Rows.{list_of}
use Rattle.text_names.proofs.Laws.{length-list_of}
use Rattle.text_scope.specs.Scopes as scopes
use Rattle.text_scope.specs.declared.Scope.{Scope}
use Rattle.text_carried.specs.Asking.{Holds, Met, Numbers}
use Rattle.limits.specs.Limits as limit

-- the first j variables of the scope s are entered in the table t
pub record NumberedSo (text : List ℕ) (t : Scope limit.asked) (s : Scope limit.variables) (u : Scope limit.asked) (ns : List ℕ) (j : ℕ) : Type 0 where
  pub few : u.count ≤ t.count + j
  pub holds : (ws : List Word) → Holds text t ws → Holds text u (ws ++ list_of j (scopes.variable text s))
  pub numbers : (ws : List Word) → Holds text t ws → take j ns ≡ map (place (extend [] (ws ++ list_of j (scopes.variable text s)))) (list_of j (scopes.variable text s))
  pub room : length ns ≡ 3

module _ {text : List ℕ} {t : Scope limit.asked} {s : Scope limit.variables} {u : Scope limit.asked} {numbers : List ℕ} {j : ℕ} (so : NumberedSo text t s u numbers j) where
  pub numbered_more : {u' : Scope limit.asked} {n : ℕ} → scopes.Valid text s → j < s.count → Met text u (scopes.variable_at s j).start (scopes.variable_at s j).end u' n → NumberedSo text t s u' (set numbers j n) (j + 1)
  numbered_more {n = n} v h m = record {
    few = let d = so.few in let y = m.few in omega arith;
    holds = λ ws o. rw (add-one, ← append_assoc) (m.holds (ws ++ list_of j f) (so.holds ws o));
    numbers = λ ws o. rw add-one (take-suc-set numbers j n (let g = v.count in let y = so.room in omega arith) ∙ go ws o);
    room = length-set numbers j n ∙ so.room;
  }
    where
      f : ℕ → Word
      f = scopes.variable text s

      go : (ws : List Word) → Holds text t ws → take j numbers ++ (n ∷ []) ≡ map (place (extend [] (ws ++ (list_of j f ++ (f j ∷ []))))) (list_of j f ++ (f j ∷ []))
      go ws o =
          let vs = extend [] (ws ++ list_of j f) in
          let w : extend [] (ws ++ (list_of j f ++ (f j ∷ []))) ≡ extend vs (f j ∷ []) = (rw (← append_assoc) (extend-append [] (ws ++ list_of j f) (f j ∷ []))) in
          rw (
            w,
            map-append (place (extend vs (f j ∷ []))) (list_of j f) (f j ∷ []),
            numbers-stable [] vs (f j ∷ []) (list_of j f) (λ x m. extend-new x [] (ws ++ list_of j f) (member_right x ws (list_of j f) m)),
            so.numbers ws o,
            place-own (f j) vs,
            m.number,
            (so.holds ws o).known,
          )

  pub numbered-all : j ≡ s.count → Numbers text t (scopes.known_of text s) u numbers
  unfolding scopes.known_of
  numbered-all e = record {
    few = rw (length-list_of s.count (scopes.variable text s)) (rw e at so.few);
    holds = λ ws o. rw (← e) (so.holds ws o);
    numbers = λ ws o. rw (length-list_of s.count (scopes.variable text s)) (rw e at (so.numbers ws o));
    room = so.room;
  }

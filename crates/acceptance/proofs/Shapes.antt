-- WHAT IS READ KEEPS THE LIMITS of a shape.
use mathlib.Core.Path.{◌≡◌, refl, subst}
use mathlib.Core.Logic.{⊎_elim}
use mathlib.Core.Bool.{Bool, true, false}
use mathlib.Core.List.{List, [], ◌∷◌}
use mathlib.Core.Option.{Option, none, some}
use Prim.Native.String.{String}
use Prim.Native.Nat.{ℕ, zero, suc, ◌-◌, ◌≤◌}
use native.Mathlib.Omega.{arith}
use lib.Dec.{leb}
use lib.ListN.{length}
use borrow.Author.Tests.{leb-true, le-leb, lt-ltb}
use Rattle.std.proofs.lemmas.Bool.{cases_Bool}
use Rattle.limits.specs.Limits as limit
use Rattle.grammar.specs.Bytes.{bytes, Word, is_name}
use Rattle.grammar.specs.Forms.{Atom, Literal, Form, all, proper_atom, proper_literal, proper_list, proper_body, proper_stage, proper}
use Rattle.grammar.specs.Shapes.{Read, ◌>>=◌, after, word, name, whether, rest, bracket, atom, literal, list, body, stage, arity, state_rest, rel_rest, rule_rest, new_rest, next_rest, ask_rest, line, whole, form_of}
use Rattle.grammar.proofs.Tests.{and_both}

-- what is read, if anything, is so
abbrev pub Gives : {A : Type 0} → (A → Type 0) → Option A → Type 0
Gives R none = Unit {0}
Gives R (some x) = R x

-- the item that is read passes a test
abbrev pub Reads : {A : Type 0} → (A → Bool) → Read A → Type 0
Reads ok r = Gives (λ x. ok x.0 ≡ true) r

module _ {A B : Type 0} (Q : A → Type 0) (R : B → Type 0) where
  and_then : (o : Option A) (f : A → Option B) → Gives Q o → ((x : A) → Q x → Gives R (f x)) → Gives R (o >>= f)
  and_then none f h k = tt
  and_then (some x) f h k = k x h

  which : (o : Option A) (f : A → Option B) (e : Option B) → Gives Q o → ((x : A) → Q x → Gives R (f x)) → Gives R e → Gives R (whether o f e)
  which none f e h k z = z
  which (some x) f e h k z = k x h

weaken : {A : Type 0} (Q R : A → Type 0) (o : Option A) → Gives Q o → ((x : A) → Q x → R x) → Gives R o
weaken Q R none h k = tt
weaken Q R (some x) h k = k x h

name-reads : (s : List ℕ) → Reads is_name (name s)
unfolding name
name-reads s = ⊎_elim (λ (e : is_name (word s) ≡ true). rw e e) (λ (e : is_name (word s) ≡ false). rw e tt) (cases_Bool (is_name (word s)))

-- the bytes left are anything
abbrev Any : {A : Type 0} → A → Type 0
Any x = Unit {0}

any : {A : Type 0} (o : Option A) → Gives Any o
any none = tt
any (some x) = tt

module _ {A : Type 0} (ok : A → Bool) (item : List ℕ → Read A) (reads : (s : List ℕ) → Reads ok (item s)) where
  abbrev Items : ℕ → List A × List ℕ → Type 0
  Items n r = (all ok r.0 ≡ true) × (length r.0 ≤ n)

  rest-reads : (n : ℕ) (s : List ℕ) → Gives (Items n) (rest item n s)
  unfolding rest
  rest-reads zero s = and_then Any (Items zero) (after (bytes ")") s) _ (any (after (bytes ")") s)) (λ t _. (refl, omega arith))
  rest-reads (suc n) s = which Any (Items (suc n)) (after (bytes ")") s) _ _ (any (after (bytes ")") s)) (λ t _. (refl, omega arith))
      (and_then Any (Items (suc n)) (after (bytes " ") s) _ (any (after (bytes " ") s)) (λ t _.
      and_then (λ x. ok x.0 ≡ true) (Items (suc n)) (item t) _ (reads t) (λ x e.
      and_then (Items n) (Items (suc n)) (rest item n x.1) _ (rest-reads n x.1) (λ r h.
      (and_both e h.0, omega arith)))))

  bracket-reads : (n : ℕ) (s : List ℕ) → Gives (λ r. Items (suc n) r × (1 ≤ length r.0)) (bracket item n s)
  unfolding bracket
  bracket-reads n s =
      let R : List A × List ℕ → Type 0 = λ r. Items (suc n) r × (1 ≤ length r.0) in
      and_then Any R (after (bytes "(") s) _ (any (after (bytes "(") s)) (λ t _.
      and_then (λ x. ok x.0 ≡ true) R (item t) _ (reads t) (λ x e.
      and_then (Items n) R (rest item n x.1) _ (rest-reads n x.1) (λ r h.
      ((and_both e h.0, omega arith), omega arith))))

atom-reads : (s : List ℕ) → Reads proper_atom (atom s)
unfolding atom
atom-reads s =
    let R : Atom × List ℕ → Type 0 = λ r. proper_atom r.0 ≡ true in
    and_then Any R (after (bytes "(") s) _ (any (after (bytes "(") s)) (λ t _.
    and_then (λ r. is_name r.0 ≡ true) R (name t) _ (name-reads t) (λ r e.
    and_then (Items is_name name name-reads (length s)) R (rest name (length s) r.1) _ (rest-reads is_name name name-reads (length s) r.1) (λ v h.
    and_both e h.0)))

literal-reads : (s : List ℕ) → Reads proper_literal (literal s)
unfolding literal
literal-reads s =
    let R : Literal × List ℕ → Type 0 = λ r. proper_literal r.0 ≡ true in
    which Any R (after (bytes "(not ") s) _ _ (any (after (bytes "(not ") s))
    (λ t _. and_then (λ r. proper_atom r.0 ≡ true) R (atom t) _ (atom-reads t) (λ a e.
    and_then Any R (after (bytes ")") a.1) _ (any (after (bytes ")") a.1)) (λ v _. e)))
    (and_then (λ r. proper_atom r.0 ≡ true) R (atom s) _ (atom-reads s) (λ a e. e))

list-reads : (s : List ℕ) → Reads proper_list (list s)
unfolding list
list-reads s =
    let R : List Word × List ℕ → Type 0 = λ r. proper_list r.0 ≡ true in
    which Any R (after (bytes "()") s) _ _ (any (after (bytes "()") s)) (λ t _. refl)
    (weaken (λ r. Items is_name name name-reads limit.list r × (1 ≤ length r.0)) R (bracket name (limit.list - 1) s) (bracket-reads is_name name name-reads (limit.list - 1) s)
    (λ r h. and_both h.0.0 (le-leb (length r.0) limit.list h.0.1)))

body_reads : (s : List ℕ) → Reads proper_body (body s)
unfolding body
body_reads s = weaken (Items proper_literal literal literal-reads 8) (λ r. proper_body r.0 ≡ true) (rest literal 8 s) (rest-reads proper_literal literal literal-reads 8 s)
    (λ r h. and_both h.0 (le-leb (length r.0) 8 h.1))

stage-reads : (s : List ℕ) → Reads proper_stage (stage s)
unfolding stage
stage-reads s = weaken (λ r. Items proper_literal literal literal-reads 8 r × (1 ≤ length r.0)) (λ r. proper_stage r.0 ≡ true) (bracket literal 7 s)
    (bracket-reads proper_literal literal literal-reads 7 s)
    (λ r h. and_both (and_both h.0.0 (le-leb (length r.0) 8 h.0.1)) (lt-ltb 0 (length r.0) h.1))

arity-reads : (s : List ℕ) → Reads (λ n. leb n 2) (arity s)
arity-reads [] = tt
arity-reads (b ∷ s) = ⊎_elim
    (λ (p : leb 48 b ≡ true). rw p (⊎_elim
    (λ (q : leb b 50 ≡ true). rw q (let z = leb-true b 50 q in le-leb (b - 48) 2 (omega arith)))
    (λ (q : leb b 50 ≡ false). rw q tt) (cases_Bool (leb b 50))))
    (λ (p : leb 48 b ≡ false). rw p tt) (cases_Bool (leb 48 b))

-- THE FORMS
abbrev Proper : Form × List ℕ → Type 0
Proper r = proper r.0 ≡ true

state-reads : (s : List ℕ) → Gives Proper (state_rest s)
unfolding state_rest
state-reads s =
    and_then (λ r. is_name r.0 ≡ true) Proper (name s) _ (name-reads s) (λ r e.
    and_then Any Proper (after (bytes ")") r.1) _ (any (after (bytes ")") r.1)) (λ u _. e))

rel-reads : (s : List ℕ) → Gives Proper (rel_rest s)
unfolding rel_rest
rel-reads s =
    and_then (λ r. is_name r.0 ≡ true) Proper (name s) _ (name-reads s) (λ r e.
    and_then Any Proper (after (bytes " ") r.1) _ (any (after (bytes " ") r.1)) (λ u _.
    and_then (λ r. leb r.0 2 ≡ true) Proper (arity u) _ (arity-reads u) (λ v h.
    and_then Any Proper (after (bytes ")") v.1) _ (any (after (bytes ")") v.1)) (λ z _. and_both e h))))

rule-reads : (s : List ℕ) → Gives Proper (rule_rest s)
unfolding rule_rest
rule-reads s =
    and_then (λ r. proper_atom r.0 ≡ true) Proper (atom s) _ (atom-reads s) (λ r e.
    and_then (λ r. proper_body r.0 ≡ true) Proper (body r.1) _ (body_reads r.1) (λ b h. and_both e h))

new-reads : (s : List ℕ) → Gives Proper (new_rest s)
unfolding new_rest
new-reads s =
    and_then (λ r. proper_list r.0 ≡ true) Proper (list s) _ (list-reads s) (λ r e.
    and_then (λ r. proper_body r.0 ≡ true) Proper (body r.1) _ (body_reads r.1) (λ b h. and_both e h))

next-reads : (s : List ℕ) → Gives Proper (next_rest s)
unfolding next_rest
next-reads s =
    and_then (λ r. is_name r.0 ≡ true) Proper (name s) _ (name-reads s) (λ x e.
    and_then Any Proper (after (bytes " ") x.1) _ (any (after (bytes " ") x.1)) (λ u _.
    and_then (λ r. proper_list r.0 ≡ true) Proper (list u) _ (list-reads u) (λ p f.
    and_then Any Proper (after (bytes " ") p.1) _ (any (after (bytes " ") p.1)) (λ z _.
    and_then (λ r. proper_list r.0 ≡ true) Proper (list z) _ (list-reads z) (λ m g.
    and_then (λ r. proper_body r.0 ≡ true) Proper (body m.1) _ (body_reads m.1) (λ b h. and_both (and_both (and_both e f) g) h))))))

ask-reads : (s : List ℕ) → Gives Proper (ask_rest s)
unfolding ask_rest
ask-reads s =
    and_then (λ r. proper_stage r.0 ≡ true) Proper (stage s) _ (stage-reads s) (λ q e.
    and_then (Items proper_stage stage stage-reads 3) Proper (rest stage 3 q.1) _ (rest-reads proper_stage stage stage-reads 3 q.1) (λ qs h.
    and_both (and_both (and_both e h.0) (lt-ltb 0 (suc (length qs.0)) (omega arith))) (le-leb (suc (length qs.0)) 4 (omega arith))))

line_reads : (s : List ℕ) → Gives Proper (line s)
unfolding line
line_reads s =
    by "(state " state_rest _ state-reads (by "(rel " rel_rest _ rel-reads (by "(rule " rule_rest _ rule-reads (by "(new " new_rest _ new-reads (by "(next " next_rest _ next-reads
    (and_then Any Proper (after (bytes "(ask ") s) ask_rest (any (after (bytes "(ask ") s)) (λ t _. ask-reads t))))))
  where
    by : (w : String) (f : List ℕ → Read Form) (e : Read Form) → ((t : List ℕ) → Gives Proper (f t)) → Gives Proper e → Gives Proper (whether (after (bytes w) s) f e)
    by w f e h k = which Any Proper (after (bytes w) s) f e (any (after (bytes w) s)) (λ t _. h t) k

-- A FORM that is read keeps the limits
pub read-proper : (s : List ℕ) (f : Form) → form_of s ≡ some f → proper f ≡ true
unfolding form_of
read-proper s f e = subst (Gives (λ f. proper f ≡ true)) e (go (line s) (line_reads s))
  where
    go : (r : Read Form) → Gives Proper r → Gives (λ f. proper f ≡ true) (whole r)
    go none h = tt
    go (some (f, [])) h = h
    go (some (f, b ∷ s)) h = tt

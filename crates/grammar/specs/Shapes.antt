-- SHAPES: reading a line as a form (row 3). Each reader takes what it reads from the front of a list of bytes, and gives that and the bytes left.
use Rattle.std.specs.Prelude.{if◌then◌else◌, List, [], ◌∷◌, ℕ, zero, suc, ◌-◌, ◌==◌, nat_le, length}
use Rattle.std.proofs.Math.Option.{Option, none, some}
use Rattle.limits.specs.Limits as limit
use Rattle.grammar.specs.Bytes.{bytes, alphanumeric, Word, is_name}
use Rattle.grammar.specs.Forms.{Atom, Literal, plain, negated, Form, state_form, rel_form, rule_form, new_form, next_form, ask_form}

abbrev pub Read : Type 0 → Type 0
Read A = Option (A × List ℕ)

infixl 10 ◌>>=◌
-- first the one, then the other
abbrev pub ◌>>=◌ : {A B : Type 0} → Option A → (A → Option B) → Option B
◌>>=◌ none f = none
◌>>=◌ (some x) f = f x

-- what follows the given bytes
abbrev pub after : List ℕ → List ℕ → Option (List ℕ)
after [] s = some s
after (b ∷ w) [] = none
after (b ∷ w) (c ∷ s) = if b == c then after w s else none

-- the letters and digits at the front, and what follows them
abbrev pub word : List ℕ → Word
word [] = []
word (b ∷ s) = if alphanumeric b then b ∷ word s else []

abbrev pub after_word : List ℕ → List ℕ
after_word [] = []
after_word (b ∷ s) = if alphanumeric b then after_word s else b ∷ s

-- a name or variable
unfoldable pub name : List ℕ → Read Word
name s = if is_name (word s) then some (word s, after_word s) else none

-- a choice by whether there is something
abbrev pub whether : {A B : Type 0} → Option A → (A → B) → B → B
whether none f b = b
whether (some x) f b = f x

-- at most n items, each after one space, up to the closing bracket
unfoldable pub rest : {A : Type 0} → (List ℕ → Read A) → ℕ → List ℕ → Read (List A)
rest item zero s = do
  t ← after (bytes ")") s
  some ([], t)
rest item (suc n) s = whether (after (bytes ")") s) (λ t. some ([], t)) do
  t ← after (bytes " ") s
  (x, u) ← item t
  (xs, v) ← rest item n u
  some (x ∷ xs, v)

-- a bracket of 1 to n + 1 items
unfoldable pub bracket : {A : Type 0} → (List ℕ → Read A) → ℕ → List ℕ → Read (List A)
bracket item n s = do
  t ← after (bytes "(") s
  (x, u) ← item t
  (xs, v) ← rest item n u
  some (x ∷ xs, v)

-- `(R x ..)`, of any number of variables: there are fewer than bytes
unfoldable pub atom : List ℕ → Read Atom
atom s = do
  t ← after (bytes "(") s
  (r, u) ← name t
  (xs, v) ← rest name (length s) u
  some (record { name = r; variables = xs }, v)

-- a LITERAL "is `(R x ..)` or `(not (A x))`"
unfoldable pub literal : List ℕ → Read Literal
literal s = whether (after (bytes "(not ") s)
    (λ t. do
      (a, u) ← atom t
      v ← after (bytes ")") u
      some (negated a, v))
    do
      (a, t) ← atom s
      some (plain a, t)

-- a LIST has, by document 02, R-6, "up to 24 names"
unfoldable pub list : List ℕ → Read (List Word)
list s = whether (after (bytes "()") s) (λ t. some ([], t)) (bracket name (limit.list - 1) s)

-- "a BODY 0 to 8 literals", up to the end of its line's bracket
unfoldable pub body : List ℕ → Read (List Literal)
body s = rest literal limit.body s

-- a STAGE "of 1 to 8 literals"
unfoldable pub stage : List ℕ → Read (List Literal)
stage s = bracket literal (limit.body - 1) s

-- "`n` being 0, 1 or 2"
abbrev pub arity : List ℕ → Read ℕ
arity [] = none
arity (b ∷ s) = if nat_le 48 b then (if nat_le b 50 then some (b - 48, s) else none) else none

-- `(state A)`, after its first word
unfoldable pub state_rest : List ℕ → Read Form
state_rest s = do
  (w, t) ← name s
  u ← after (bytes ")") t
  some (state_form w, u)

-- `(rel R n)`
unfoldable pub rel_rest : List ℕ → Read Form
rel_rest s = do
  (w, t) ← name s
  u ← after (bytes " ") t
  (n, v) ← arity u
  z ← after (bytes ")") v
  some (rel_form w n, z)

-- `(rule (R x y) L ..)`
unfoldable pub rule_rest : List ℕ → Read Form
rule_rest s = do
  (h, t) ← atom s
  (b, u) ← body t
  some (rule_form h b, u)

-- `(new (A ..) L ..)`
unfoldable pub new_rest : List ℕ → Read Form
new_rest s = do
  (l, t) ← list s
  (b, u) ← body t
  some (new_form l b, u)

-- `(next x (A ..) (A ..) L ..)`
unfoldable pub next_rest : List ℕ → Read Form
next_rest s = do
  (x, t) ← name s
  u ← after (bytes " ") t
  (p, v) ← list u
  z ← after (bytes " ") v
  (m, y) ← list z
  (b, r) ← body y
  some (next_form x p m b, r)

-- `(ask (L ..) (L ..))`, "with 1 to 4 stages"
unfoldable pub ask_rest : List ℕ → Read Form
ask_rest s = do
  (q, t) ← stage s
  (qs, u) ← rest stage (limit.stages - 1) t
  some (ask_form (q ∷ qs), u)

-- by its first word
unfoldable pub line : List ℕ → Read Form
line s =
    whether (after (bytes "(state ") s) state_rest
    (whether (after (bytes "(rel ") s) rel_rest
    (whether (after (bytes "(rule ") s) rule_rest
    (whether (after (bytes "(new ") s) new_rest
    (whether (after (bytes "(next ") s) next_rest
    (after (bytes "(ask ") s >>= ask_rest)))))

-- nothing is left
abbrev pub whole : {A : Type 0} → Read A → Option A
whole none = none
whole (some (x, [])) = some x
whole (some (x, b ∷ s)) = none

-- the form that a line is, if it has "one of the shapes above"
unfoldable pub form_of : List ℕ → Option Form
form_of s = whole (line s)

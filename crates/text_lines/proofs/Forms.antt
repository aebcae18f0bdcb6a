-- THE FORMS THAT A READER READS, by the words it reads first.
use mathlib.Core.Path.{◌≡◌, subst}
use mathlib.Core.List.{List, [], ◌∷◌}
use mathlib.Core.Option.{Option, none, some}
use Prim.Native.Nat.{ℕ}
use Rattle.grammar.specs.Bytes.{bytes, Word}
use Rattle.grammar.specs.Forms.{Atom, Literal, Form, state_form, rel_form, rule_form, new_form, next_form}
use Rattle.grammar.specs.Shapes.{Read, ◌>>=◌, after, whether, name, arity, atom, list, body, whole, state_rest, rel_rest, rule_rest, new_rest, next_rest}

some-form : {f g : Form} → ◌≡◌ {A = Option Form} (some f) (some g) → f ≡ g
some-form e = cc

-- whatever is read as a whole is so
abbrev pub Only : (Form → Type 0) → Read Form → Type 0
Only Q r = (f : Form) → whole r ≡ some f → Q f

module _ (Q : Form → Type 0) where
  pub only_none : Only Q none
  only_none f e = cc

  pub only_one : (g : Form) → Q g → (u : List ℕ) → Only Q (some (g, u))
  only_one g h [] f e = subst Q (some-form e) h
  only_one g h (b ∷ u) f e = cc

  pub only_then : {A : Type 0} (o : Option A) (k : A → Read Form) → ((x : A) → Only Q (k x)) → Only Q (o >>= k)
  only_then none k h = only_none
  only_then (some x) k h = h x

  pub only-either : {A : Type 0} (o : Option A) (k : A → Read Form) (r : Read Form) → ((x : A) → Only Q (k x)) → Only Q r → Only Q (whether o k r)
  only-either none k r h g = g
  only-either (some x) k r h g = h x

  pub state-only : ((w : Word) → Q (state_form w)) → (s : List ℕ) → Only Q (state_rest s)
  unfolding state_rest
  state-only h s = only_then (name s) _ (λ p. only_then (after (bytes ")") p.1) _ (only_one (state_form p.0) (h p.0)))

  pub rel-only : ((w : Word) (n : ℕ) → Q (rel_form w n)) → (s : List ℕ) → Only Q (rel_rest s)
  unfolding rel_rest
  rel-only h s = only_then (name s) _ (λ p. only_then (after (bytes " ") p.1) _ (λ t. only_then (arity t) _ (λ q. only_then (after (bytes ")") q.1) _ (only_one (rel_form p.0 q.0) (h p.0 q.0)))))

  pub rule-only : ((h : Atom) (b : List Literal) → Q (rule_form h b)) → (s : List ℕ) → Only Q (rule_rest s)
  unfolding rule_rest
  rule-only h s = only_then (atom s) _ (λ p. only_then (body p.1) _ (λ q. only_one (rule_form p.0 q.0) (h p.0 q.0) q.1))

  pub new-only : ((l : List Word) (b : List Literal) → Q (new_form l b)) → (s : List ℕ) → Only Q (new_rest s)
  unfolding new_rest
  new-only h s = only_then (list s) _ (λ p. only_then (body p.1) _ (λ q. only_one (new_form p.0 q.0) (h p.0 q.0) q.1))

  pub next-only : ((x : Word) (p m : List Word) (b : List Literal) → Q (next_form x p m b)) → (s : List ℕ) → Only Q (next_rest s)
  unfolding next_rest
  next-only h s = only_then (name s) _ (λ x. only_then (after (bytes " ") x.1) _ (λ t. only_then (list t) _ (λ p. only_then (after (bytes " ") p.1) _ (λ u.
      only_then (list u) _ (λ m. only_then (body m.1) _ (λ b. only_one (next_form x.0 p.0 m.0 b.0) (h x.0 p.0 m.0 b.0) b.1))))))

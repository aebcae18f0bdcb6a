-- NUMBERS OF ANSWERS can be read. The lines of a run stay below 65,536, since a line before it has 8 bytes at least and a place 6, without byte 10; the codes of relations stay below 128.
use mathlib.Core.Path.{◌≡◌, refl, ap, ◌∙◌}
use mathlib.Core.Logic.{⊎_elim}
use mathlib.Core.Bool.{Bool, true, false, cond, false≢true}
use mathlib.Core.List.{List, [], ◌∷◌, ◌++◌}
use mathlib.Core.Option.{Option, none, some, none-ne-some, some-injective}
use Prim.Native.Nat.{ℕ, zero, suc, ◌+◌, ◌*◌, ◌/◌, ◌%◌, ◌≤◌, ◌<◌}
use native.Mathlib.Omega.{arith}
use lib.Dec.{eqb, ltb}
use lib.ListN.{length, length-append}
use borrow.Author.Tests.{ltb-false}
use Rattle.std.proofs.lemmas.Bool.{cases_Bool}
use Rattle.std.specs.Prelude.{Some}
use Rattle.limits.specs.Limits as limit
use Rattle.semantics.specs.Runs.{Place, step, meet}
use Rattle.grammar.specs.Bytes.{Word, bytes, Line, ended, unended, in_front, lines}
use Rattle.grammar.specs.Shapes.{Read, ◌>>=◌, after, whether, rest, whole}
use Rattle.grammar.specs.Declarations.{class, Declared}
use Rattle.grammar.specs.Texts.{Outcome, accepted, refused, outcome}
use Rattle.acceptance.specs.Sound.{code_at}
use Rattle.acceptance.proofs.Acceptance.{accepted-sound}
use Rattle.handin_lines.specs.Lines.{verdict, below, Said, nothing, place, states_rest, atomic_rest, step_rest, meet_rest, line, said_by}
use Rattle.handin.specs.Handins.{says-yes, unreadable, content, onwards, follows, preface, read_lines, reading}
use Rattle.handin.proofs.Runs.{run-writable}
use Rattle.display_shapes.specs.declared.Span.{Span}
use Rattle.display_shapes.specs.Rows.{pick}
use Rattle.display.specs.declared.Declaration.{Declaration}
use Rattle.display.specs.Shown.{relation_at, FindsRelation}
use Rattle.codes.specs.Codes.{spanned, declared}
use Rattle.codes.proofs.Fitting.{relation-fits}

-- A READER that gives something, by what its first part gives
by_word : {A B G : Type 0} (o : Option A) (f : A → Option B) (b : Option B) (y : B) → ((x : A) → o ≡ some x → f x ≡ some y → G) → (b ≡ some y → G) → whether o f b ≡ some y → G
by_word none f b y g h e = h e
by_word (some x) f b y g h e = g x refl e

then-word : {A B G : Type 0} (o : Option A) (f : A → Option B) (y : B) → ((x : A) → o ≡ some x → f x ≡ some y → G) → (o >>= f) ≡ some y → G
then-word none f y g e = absurd (none-ne-some y e)
then-word (some x) f y g e = g x refl e

after-long : (w s t : List ℕ) → after w s ≡ some t → length s ≡ length w + length t
after-long [] s t e = omega (arith, ap length (some-injective s t e))
after-long (b ∷ w) [] t e = absurd (none-ne-some t e)
after-long (b ∷ w) (c ∷ s) t e = ⊎_elim (λ (q : eqb b c ≡ true). omega (arith, after-long w s t (rw q at e))) (λ (q : eqb b c ≡ false). absurd (none-ne-some t (rw q at e))) (cases_Bool (eqb b c))

-- A LINE that says something has 6 bytes at least
line-long : (s : List ℕ) (r : Said × List ℕ) → line s ≡ some r → 6 ≤ length s
unfolding line
line-long s r =
    by_word (after (bytes "(states ") s) states_rest _ r (λ t e f. omega (arith, after-long (bytes "(states ") s t e))
    (by_word (after (bytes "(atomic") s) atomic_rest _ r (λ t e f. omega (arith, after-long (bytes "(atomic") s t e))
    (by_word (after (bytes "(step ") s) step_rest _ r (λ t e f. omega (arith, after-long (bytes "(step ") s t e))
    (then-word (after (bytes "(meet ") s) meet_rest r (λ t e f. omega (arith, after-long (bytes "(meet ") s t e)))))

said-long : (s : List ℕ) (x : Said) → said_by s ≡ some x → 6 ≤ length s
unfolding said_by
said-long s x e = go (line s) refl e
  where
    go : (r : Read Said) → line s ≡ r → whole r ≡ some x → 6 ≤ length s
    go none q h = absurd (none-ne-some x h)
    go (some r) q h = line-long s r q

-- ONE THAT IS NO PLACE has 8: it is no step and no meeting, and `(atomic` goes on
atomic-long : (s : List ℕ) (r : Said × List ℕ) → atomic_rest s ≡ some r → 1 ≤ length s
unfolding atomic_rest rest
atomic-long [] r e = absurd (none-ne-some r e)
atomic-long (b ∷ s) r e = omega arith

is-place : (p : Place) (t u : List ℕ) → ◌≡◌ {A = Read Said} (some (place p, t)) (some (nothing, u)) → ⊥
is-place p t u e =
    let q : place p ≡ nothing = ap (λ (r : Said × List ℕ). r.0) (some-injective (place p, t) (nothing, u) e) in
    let k : ◌≡◌ {A = ℕ} 0 1 = cc in
    omega arith

step-place : (s u : List ℕ) → step_rest s ≡ some (nothing, u) → ⊥
unfolding step_rest
step-place s u = then-word (below 8388608 s) _ (nothing, u)
    (λ x e. then-word (after (bytes " ") x.1) _ (nothing, u)
    (λ v f. then-word (below limit.objects v) _ (nothing, u)
    (λ y g. then-word (after (bytes ")") y.1) _ (nothing, u)
    (λ z h. is-place (step x.0 y.0) z u))))

meet-place : (s u : List ℕ) → meet_rest s ≡ some (nothing, u) → ⊥
unfolding meet_rest
meet-place s u = then-word (below 128 s) _ (nothing, u)
    (λ x e. then-word (rest (below limit.objects) limit.variables x.1) _ (nothing, u)
    (λ y f. is-place (meet x.0 y.0) y.1 u))

line-nothing : (s u : List ℕ) → line s ≡ some (nothing, u) → 8 ≤ length s
unfolding line
line-nothing s u =
    by_word (after (bytes "(states ") s) states_rest _ (nothing, u) (λ t e f. omega (arith, after-long (bytes "(states ") s t e))
    (by_word (after (bytes "(atomic") s) atomic_rest _ (nothing, u) (λ t e f. omega (arith, after-long (bytes "(atomic") s t e, atomic-long t (nothing, u) f))
    (by_word (after (bytes "(step ") s) step_rest _ (nothing, u) (λ t e f. absurd (step-place t u f))
    (then-word (after (bytes "(meet ") s) meet_rest (nothing, u) (λ t e f. absurd (meet-place t u f)))))

said-nothing : (s : List ℕ) → said_by s ≡ some nothing → 8 ≤ length s
unfolding said_by
said-nothing s e = go (line s) refl e
  where
    go : (r : Read Said) → line s ≡ r → whole r ≡ some nothing → 8 ≤ length s
    go none q h = absurd (none-ne-some nothing h)
    go (some (x, [])) q h = line-nothing s [] (q ∙ ap (λ (y : Said). some (y, [])) (some-injective x nothing h))
    go (some (x, b ∷ t)) q h = absurd (none-ne-some nothing h)

-- THE BYTES of lines, each with one more at its end, are at most one more than those of the hand-in
abbrev size : List Line → ℕ
size [] = 0
size (l ∷ ls) = suc (length (content l)) + size ls

in-front-size : (n b : ℕ) (ls : List Line) → size ls ≤ suc n → size (in_front b ls) ≤ suc (suc n)
in-front-size n b [] h = omega arith
in-front-size n b (ended s ∷ ls) h = omega arith
in-front-size n b (unended s ∷ ls) h = omega arith

few_bytes : (s : List ℕ) → size (lines s) ≤ suc (length s)
few_bytes [] = omega arith
few_bytes (b ∷ s) =
    ⊎_elim (λ (q : eqb b 10 ≡ true). rw q (omega (arith, few_bytes s))) (λ (q : eqb b 10 ≡ false). rw q (in-front-size (length s) b (lines s) (few_bytes s))) (cases_Bool (eqb b 10))

-- THE FIRST LINE of a run, and its places
no-yes : {A : Type 0} (n first : ℕ) (ps : List Place) → unreadable n ≡ says-yes first ps → A
no-yes n first ps e = absurd (false≢true cc)

module _ (first : ℕ) (ps : List Place) where
  one_place : (n : ℕ) (qs : List Place) (l : Line) (ls : List Line) (o : Option Said) → said_by (content l) ≡ o
      → ((p : Place) → onwards n (qs ++ p ∷ []) ls ≡ says-yes first ps → first * 9 + length ps * 7 ≤ n * 9 + length (qs ++ p ∷ []) * 7 + size ls)
      → elim o [
        | none ↦ unreadable (n + length qs)
        | some nothing ↦ unreadable (n + length qs)
        | some (place p) ↦ cond (ltb (length qs) limit.run) (onwards n (qs ++ p ∷ []) ls) (unreadable (n + length qs))
      ] ≡ says-yes first ps
      → first * 9 + length ps * 7 ≤ n * 9 + length qs * 7 + size (l ∷ ls)
  one_place n qs l ls none q go e = no-yes (n + length qs) first ps e
  one_place n qs l ls (some nothing) q go e = no-yes (n + length qs) first ps e
  one_place n qs l ls (some (place p)) q go e =
      ⊎_elim (λ (t : ltb (length qs) limit.run ≡ true). omega (arith, go p (rw t at e), said-long (content l) (place p) q, length-append qs (p ∷ []))) (λ (t : ltb (length qs) limit.run ≡ false). no-yes (n + length qs) first ps (rw t at e)) (cases_Bool (ltb (length qs) limit.run))

  run-first : (n : ℕ) (qs : List Place) (ls : List Line) → onwards n qs ls ≡ says-yes first ps → first * 9 + length ps * 7 ≤ n * 9 + length qs * 7 + size ls
  unfolding onwards
  run-first n qs [] e = let q : n ≡ first = cc in let r : qs ≡ ps = cc in omega (arith, q, ap length r)
  run-first n qs (l ∷ ls) e = one_place n qs l ls (said_by (content l)) refl (λ p. run-first n (qs ++ p ∷ []) ls) e

  follows-first : (reached : Bool) (n : ℕ) (ls : List Line) → follows reached n ls ≡ says-yes first ps → first * 9 + length ps * 7 ≤ n * 9 + size ls
  unfolding follows
  follows-first true n ls e = omega (arith, run-first n [] ls e)
  follows-first false n [] e = absurd (false≢true cc)
  follows-first false n (l ∷ ls) e = no-yes n first ps e

  one_line : (reached : Bool) (n : ℕ) (l : Line) (ls : List Line) (o : Option Said) → said_by (content l) ≡ o → (preface reached (suc n) ls ≡ says-yes first ps → first * 9 + length ps * 7 ≤ suc n * 9 + size ls)
      → elim o [ none ↦ follows reached n (l ∷ ls) | some nothing ↦ preface reached (suc n) ls | some (place p) ↦ follows reached n (l ∷ ls) ] ≡ says-yes first ps → first * 9 + length ps * 7 ≤ n * 9 + size (l ∷ ls)
  one_line reached n l ls none q go e = omega (arith, follows-first reached n (l ∷ ls) e)
  one_line reached n l ls (some nothing) q go e = omega (arith, go e, said-nothing (content l) q)
  one_line reached n l ls (some (place p)) q go e = omega (arith, follows-first reached n (l ∷ ls) e)

  preface-first : (reached : Bool) (n : ℕ) (ls : List Line) → preface reached n ls ≡ says-yes first ps → first * 9 + length ps * 7 ≤ n * 9 + size ls
  unfolding preface
  preface-first reached n [] e = omega (arith, follows-first reached n [] e)
  preface-first reached n (l ∷ ls) e = one_line reached n l ls (said_by (content l)) refl (preface-first reached (suc n) ls) e

  lines-first : (ls : List Line) → read_lines ls ≡ says-yes first ps → first * 9 + length ps * 7 ≤ 18 + size ls
  unfolding read_lines
  lines-first [] e = no-yes 1 first ps e
  lines-first (l ∷ ls) e = go (verdict (content l)) e
    where
      go : (o : Option Bool) → elim o [ none ↦ unreadable 1 | some reached ↦ preface reached 2 ls ] ≡ says-yes first ps → first * 9 + length ps * 7 ≤ 18 + size (l ∷ ls)
      go none h = no-yes 1 first ps h
      go (some reached) h = omega (arith, preface-first reached 2 ls h)

  first_small : (handin : List ℕ) → reading handin ≡ says-yes first ps → first * 9 + length ps * 7 ≤ 19 + limit.handin
  unfolding reading
  first_small handin e =
      ⊎_elim (λ (q : ltb limit.handin (length handin) ≡ true). no-yes 0 first ps (rw q at e))
      (λ (q : ltb limit.handin (length handin) ≡ false). omega (arith, lines-first (lines handin) (rw q at e), few_bytes handin, ltb-false limit.handin (length handin) q))
      (cases_Bool (ltb limit.handin (length handin)))

  -- THE VALUES: a place, or the number of places, and a line are read off
  module _ (handin : List ℕ) (e : reading handin ≡ says-yes first ps) where
    pub yes-read : (length ps * 65536 + first < 4294967296) × ((length ps * 65536 + first) / 65536 ≡ length ps) × ((length ps * 65536 + first) % 65536 ≡ first)
    yes-read = let f = first_small handin e in let n = (run-writable handin first ps e).0 in (omega arith, omega arith, omega arith)

    pub breaks-read : (k : ℕ) → k ≤ length ps → (k * 65536 + (first + k) < 4294967296) × ((k * 65536 + (first + k)) / 65536 ≡ k) × ((k * 65536 + (first + k)) % 65536 ≡ first + k)
    breaks-read k h = let f = first_small handin e in let n = (run-writable handin first ps e).0 in (omega arith, omega arith, omega arith)

-- A PART OF A LINE
pub span-read : (s : Span) → s.from ≤ limit.text → s.to ≤ limit.text → (spanned (Some s) / 4294967296 ≡ s.from) × (spanned (Some s) % 4294967296 ≡ s.to)
span-read s h k = (omega arith, omega arith)

-- A DECLARED RELATION
code-small : (D : Declared) (i : ℕ) (d : Word × ℕ) → pick D i ≡ some d → ((j : ℕ) → j < length D → class (code_at D j) < 4) → d.1 < 128
code-small [] i d e h = absurd (none-ne-some d e)
code-small (x ∷ D) zero d e h = let q : x.1 ≡ d.1 = cc in omega (arith, q, h 0 (omega arith))
code-small (x ∷ D) (suc i) d e h = code-small D i d e (λ j l. h (suc j) (omega arith))

code_fits : (text : List ℕ) (o : Outcome) (i : ℕ) (r : Declaration) → outcome text ≡ o → FindsRelation text (relation_at o i) (Some r) → r.code < 128
code_fits text (refused n l) i r e s = absurd s
code_fits text (accepted D P Q) i r e s = go (pick D i) refl s
  where
    go : (d : Option (Word × ℕ)) → pick D i ≡ d → FindsRelation text d (Some r) → r.code < 128
    go none q s = absurd s
    go (some d) q s = omega (arith, s.2, code-small D i d q (λ j l. ((accepted-sound text D P Q e).lines.declarations.order j l).0))

pub relation-read : (text : List ℕ) (i : ℕ) (r : Declaration) → FindsRelation text (relation_at (outcome text) i) (Some r)
    → (declared (Some r) / 4294967296 ≡ r.from) × (declared (Some r) % 4294967296 / 65536 ≡ r.size) × (declared (Some r) % 65536 ≡ r.code)
relation-read text i r s =
    let f = relation-fits text (outcome text) i (Some r) refl s in
    let c = code_fits text (outcome text) i r refl s in
    (omega (arith, f.0, f.1, c), omega (arith, f.0, f.1, c), omega (arith, f.0, f.1, c))

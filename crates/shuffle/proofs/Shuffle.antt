-- TWO RUNS AT ONE DESK: every shuffle of two runs is a run, with the objects of both.
use mathlib.Core.Path.{◌≡◌, refl, sym, ap, ◌∙◌, subst, fun_ext}
use mathlib.Core.Logic.{⊎_elim, ◌≢◌}
use mathlib.Core.Bool.{true, false, cond, ◌&&◌, and-eq-true_iff, false≢true}
use mathlib.Core.List.{List, [], ◌∷◌, ◌++◌, map, append-nil, append_assoc}
use mathlib.Core.Option.{Option, none, some}
use Prim.Native.Nat.{ℕ, zero, suc, ◌+◌, ◌≤◌, ◌<◌}
use native.Mathlib.Nat.{not-suc-le-zero}
use native.Mathlib.Omega.{arith}
use lib.Dec.{eqb, ltb}
use lib.ListN.{length, length-append, length-set, length-map, get_or-append}
use lib.Seq.{get_or-append_seam, get_or-set_same, get_or-set_other}
use borrow.Author.Tests.{ltb-true, ltb-false}
use Rattle.std.proofs.lemmas.Bool.{cases_Bool}
use Rattle.semantics.specs.Labels.{has, union, difference, relabel}
use Rattle.semantics.specs.Models.{elem, is, isnt, Body, Line, rule, new, next, other, Program, line, Question, vars, shared, firsts, names, SafeLine, Safe}
use Rattle.semantics.specs.Facts.{Database, state, Chosen, Meets}
use Rattle.semantics.specs.Steps.{Enabled, execute, Steps}
use Rattle.semantics.specs.Runs.{Place, step, meet, named, Session, start, stage, Allowed, after, Plays, Kept, played}
use Rattle.semantics.specs.Cases.{office, promotion}
use Rattle.shuffle.specs.Shuffle.{Begins, Side, left, right, whose, Turn, turn, own, Shuffle, creates, makers, number, count, renumber, renamed, Desk, empty, seen, desk_after, Joined, desk_played, steps, heard, numbers, AtOneDesk, hired, pausing, mixed, Mixed}
use Rattle.semantics.proofs.Tools.{same?, no_none, each-cons, names-elem, pick-map}
use Rattle.semantics.proofs.Similar.{live_below, similar}
use Rattle.semantics.proofs.Cases.{promoted-true}

-- SIDES
right-left : right ≢ left
right-left e = false≢true cc

left-right : left ≢ right
left-right e = false≢true cc

for-both : (R : Side → Type 0) → R left → R right → (b : Side) → R b
for-both R l r left = l
for-both R l r right = r

-- what holds of a's new value, and of the others' old ones
module _ {A B : Type 0} (R : Side → A → B → Type 0) where
  whose-both : (a : Side) (x : A) (y : Side → A) (u : B) (v : Side → B) → R a x u → ((b : Side) → b ≢ a → R b (y b) (v b)) → (b : Side) → R b (whose b a x (y b)) (whose b a u (v b))
  whose-both left x y u v h k left = h
  whose-both left x y u v h k right = k right right-left
  whose-both right x y u v h k left = k left left-right
  whose-both right x y u v h k right = h

module _ {A : Type 0} (R : Side → A → Type 0) where
  whose-one : (a : Side) (x : A) (y : Side → A) → R a x → ((b : Side) → b ≢ a → R b (y b)) → (b : Side) → R b (whose b a x (y b))
  whose-one left x y h k left = h
  whose-one left x y h k right = k right right-left
  whose-one right x y h k left = k left left-right
  whose-one right x y h k right = h

-- THE NUMBERS. They rise with creation,
pub number-rising : (b : Side) (ms : List Side) (o p : ℕ) → o < p → number b ms o < number b ms p
number-rising b [] o p h = h
number-rising left (left ∷ ms) o zero h = absurd (not-suc-le-zero h)
number-rising left (left ∷ ms) zero (suc p) h = omega arith
number-rising left (left ∷ ms) (suc o) (suc p) h = omega (arith, number-rising left ms o p (omega arith))
number-rising left (right ∷ ms) o p h = omega (arith, number-rising left ms o p h)
number-rising right (left ∷ ms) o p h = omega (arith, number-rising right ms o p h)
number-rising right (right ∷ ms) o zero h = absurd (not-suc-le-zero h)
number-rising right (right ∷ ms) zero (suc p) h = omega arith
number-rising right (right ∷ ms) (suc o) (suc p) h = omega (arith, number-rising right ms o p (omega arith))

-- so that no two objects of a run have one,
pub number-injective : (b : Side) (ms : List Side) (o p : ℕ) → number b ms o ≡ number b ms p → o ≡ p
number-injective b ms o p e = ⊎_elim (λ q. q) (λ (q : o ≢ p). ⊎_elim
    (λ (t : ltb o p ≡ true). absurd (omega (arith, number-rising b ms o p (ltb-true o p t))))
    (λ (t : ltb o p ≡ false). absurd (omega (arith, number-rising b ms p o (omega (arith, ltb-false o p t))))) (cases_Bool (ltb o p))) (same? o p)

-- nor two of different runs;
pub number-apart : (ms : List Side) (o p : ℕ) → o < count left ms → p < count right ms → number left ms o ≢ number right ms p
number-apart [] o p h k e = absurd (not-suc-le-zero h)
number-apart (left ∷ ms) zero p h k e = omega arith
number-apart (left ∷ ms) (suc o) p h k e = number-apart ms o p (omega arith) k (omega arith)
number-apart (right ∷ ms) o zero h k e = omega arith
number-apart (right ∷ ms) o (suc p) h k e = number-apart ms o p h (omega arith) (omega arith)

pub number-one : (a b : Side) (ms : List Side) (o p : ℕ) → o < count a ms → p < count b ms → number a ms o ≡ number b ms p → (a ≡ b) × (o ≡ p)
number-one left left ms o p h k e = (refl, number-injective left ms o p e)
number-one left right ms o p h k e = absurd (number-apart ms o p h k e)
number-one right left ms o p h k e = absurd (number-apart ms p o k h (sym e))
number-one right right ms o p h k e = (refl, number-injective right ms o p e)

-- what is made later changes none, and they are below the number of objects;
pub number-early : (b : Side) (ms ns : List Side) (o : ℕ) → o < count b ms → (number b (ms ++ ns) o ≡ number b ms o) × (number b (ms ++ ns) o < length ms)
number-early b [] ns o h = absurd (not-suc-le-zero h)
number-early left (left ∷ ms) ns zero h = (refl, omega arith)
number-early left (left ∷ ms) ns (suc o) h = let r = number-early left ms ns o (omega arith) in (ap suc r.0, omega arith)
number-early left (right ∷ ms) ns o h = let r = number-early left ms ns o h in (ap suc r.0, omega arith)
number-early right (left ∷ ms) ns o h = let r = number-early right ms ns o h in (ap suc r.0, omega arith)
number-early right (right ∷ ms) ns zero h = (refl, omega arith)
number-early right (right ∷ ms) ns (suc o) h = let r = number-early right ms ns o (omega arith) in (ap suc r.0, omega arith)

-- the next object of a side gets the next number,
pub number-seam : (b : Side) (ms ns : List Side) → number b (ms ++ b ∷ ns) (count b ms) ≡ length ms
number-seam left [] ns = refl
number-seam right [] ns = refl
number-seam left (left ∷ ms) ns = ap suc (number-seam left ms ns)
number-seam left (right ∷ ms) ns = ap suc (number-seam left ms ns)
number-seam right (left ∷ ms) ns = ap suc (number-seam right ms ns)
number-seam right (right ∷ ms) ns = ap suc (number-seam right ms ns)

-- and each number is given
abbrev Given : List Side → List Side → ℕ → Type 0
Given ms ns q = (b : Side) × (o : ℕ) × (o < count b ms) × (number b (ms ++ ns) o ≡ q)

given-more : (a b : Side) (ms ns : List Side) (o q : ℕ) → o < count b ms → number b (ms ++ ns) o ≡ q → Given (a ∷ ms) ns (suc q)
given-more left left ms ns o q h e = (left, suc o, omega arith, ap suc e)
given-more left right ms ns o q h e = (right, o, h, ap suc e)
given-more right left ms ns o q h e = (left, o, h, ap suc e)
given-more right right ms ns o q h e = (right, suc o, omega arith, ap suc e)

pub number-all : (ms ns : List Side) (q : ℕ) → q < length ms → Given ms ns q
number-all [] ns q h = absurd (not-suc-le-zero h)
number-all (left ∷ ms) ns zero h = (left, 0, omega arith, refl)
number-all (right ∷ ms) ns zero h = (right, 0, omega arith, refl)
number-all (a ∷ ms) ns (suc q) h = let r = number-all ms ns q (omega arith) in given-more a r.0 ms ns r.1 q r.2 r.3

pub count-both : (ms : List Side) → length ms ≡ count left ms + count right ms
count-both [] = refl
count-both (left ∷ ms) = omega (arith, count-both ms)
count-both (right ∷ ms) = omega (arith, count-both ms)

count-append : (b : Side) (ms ns : List Side) → count b (ms ++ ns) ≡ count b ms + count b ns
count-append b [] ns = omega arith
count-append left (left ∷ ms) ns = omega (arith, count-append left ms ns)
count-append left (right ∷ ms) ns = omega (arith, count-append left ms ns)
count-append right (left ∷ ms) ns = omega (arith, count-append right ms ns)
count-append right (right ∷ ms) ns = omega (arith, count-append right ms ns)

count-own : (a : Side) → count a (a ∷ []) ≡ 1
count-own left = refl
count-own right = refl

count-others : (a b : Side) → b ≢ a → count b (a ∷ []) ≡ 0
count-others left left n = absurd (n refl)
count-others left right n = refl
count-others right left n = refl
count-others right right n = absurd (n refl)

-- one side's run goes on by a place
abbrev further : Program → Question → (Side → Session) → Side → Place → Side → Session
further P Q s a p b = whose b a (after P Q (s a) p) (s b)

-- The turns are taken from the desk d on, s being where each run stands by itself. Each place is allowed, with its objects renumbered, to the side
-- whose turn it is; before and after each, the desk has what the runs gave so far.
abbrev Shared : Program → Question → (Side → ℕ → ℕ) → (Side → Session) → Desk → List Turn → Type 0
Shared P Q n s d [] = Joined n s d
Shared P Q n s d (turn a p ∷ zs) = Joined n s d × Allowed P Q (seen d a) (renumber (n a) p) × Shared P Q n (further P Q s a p) (desk_after P Q d a (renumber (n a) p)) zs

-- WHAT THE DESK HAS when the sides in ms have made its objects, in this order
record Kept-up (n : Side → ℕ → ℕ) (ms : List Side) (s : Side → Session) (d : Desk) : Type 0 where
  size : length d.db ≡ length ms
  sizes : (b : Side) → length (s b).db ≡ count b ms
  like : (b : Side) (o : ℕ) → o < length (s b).db → state d.db (n b o) ≡ state (s b).db o
  met : (b : Side) → d.met b ≡ (s b).met
  carried : (b : Side) (x : ℕ) → d.carried b x ≡ renamed (n b) ((s b).carried x)

-- the makers after a line of side a
abbrev grown : Line → Side → List Side → List Side
grown (rule r xs b) a ms = ms
grown (new s b) a ms = ms ++ a ∷ []
grown (next x plus minus b) a ms = ms
grown other a ms = ms

grown-makers : (L : Line) (a : Side) (ms ns : List Side) → ms ++ cond (creates L) (a ∷ ns) ns ≡ grown L a ms ++ ns
grown-makers (rule r xs b) a ms ns = refl
grown-makers (new s b) a ms ns = sym (append_assoc ms (a ∷ []) ns)
grown-makers (next x plus minus b) a ms ns = refl
grown-makers other a ms ns = refl

module _ (M : List Side) where
  abbrev num : Side → ℕ → ℕ
  num b o = number b M o

  joined : (ms ns : List Side) → M ≡ ms ++ ns → (s : Side → Session) (d : Desk) → Kept-up num ms s d → Joined num s d
  joined ms ns e s d k = record {
    each = λ b o l. (rw e (omega (arith, k.size, (number-early b ms ns o (in-ms b o l)).1)), k.like b o l);
    all = λ q l. let r = number-all ms ns q (omega (arith, k.size)) in (r.0, r.1, omega (arith, k.sizes r.0, r.2), rw e r.3);
    one = λ a b o p l m q. number-one a b M o p (in_all a o l) (in_all b p m) q;
    rising = λ b o p l. number-rising b M o p l;
    many = omega (arith, k.size, k.sizes left, k.sizes right, count-both ms);
    met = k.met;
    carried = k.carried;
  }
    where
      in-ms : (b : Side) (o : ℕ) → o < length (s b).db → o < count b ms
      in-ms b o l = omega (arith, k.sizes b)

      in_all : (b : Side) (o : ℕ) → o < length (s b).db → o < count b M
      in_all b o l = rw e (omega (arith, in-ms b o l, count-append b ms ns))

  -- WHAT IS ALLOWED
  module _ (P : Program) (safe : Safe P) (Q : Question) (s : Side → Session) (d : Desk) (j : Joined num s d) (a : Side) where
    meets-there : (σ τ : ℕ → ℕ) (b : Body) → ((x : ℕ) → elem x (vars b) ≡ true → τ x ≡ num a (σ x)) → Meets P (s a).db σ b → Meets P d.db τ b
    meets-there σ τ b at m = similar (s a).db d.db (num a) (λ o v. mate o (live_below (s a).db o v)) P safe σ τ b (λ x e. rw (at x e) (mate (σ x) (m.0 x e))) m
      where
        mate : (o : ℕ) → o < length (s a).db → (num a o < length d.db) × (state (s a).db o ≡ state d.db (num a o))
        mate o l = let k = j.each a o l in (k.0, sym k.1)

    enabled-there : (o : ℕ) (L : Line) → (creates L ≡ true → num a (length (s a).db) ≡ length d.db) → Enabled P (s a).db o L → Enabled P d.db (num a o) L
    enabled-there o (rule r xs b) h c = c
    enabled-there o (new t b) h c = (rw c.0 (h refl), (λ x. num a (c.1.0 x), meets-there c.1.0 (λ x. num a (c.1.0 x)) b (λ x e. refl) c.1.1))
    enabled-there o (next x plus minus b) h c = ((j.each a o c.0).0, (λ x. num a (c.1.0 x), ap (λ (z : ℕ). num a z) c.1.1, meets-there c.1.0 (λ x. num a (c.1.0 x)) b (λ x e. refl) c.1.2))
    enabled-there o other h c = c

    named-there : (b : Body) (os : List ℕ) → length os ≡ length (names b) → (x : ℕ) → elem x (vars b) ≡ true → named b (map (num a) os) x ≡ num a (named b os x)
    named-there b os l x e = pick-map (num a) x 0 (names b) os l (names-elem x b e)

    meet-there : (i : ℕ) (os : List ℕ) → Allowed P Q (s a) (meet i os) → Allowed P Q (seen d a) (meet i (map (num a) os))
    meet-there i os h = rw (j.met a) (
      h.0,
      h.1,
      length-map os _ ∙ h.2,
      meets-there (named b os) _ b (named-there b os h.2) h.3,
      λ x c e v. named-there b os h.2 x v ∙ same x ((s a).carried x) (λ c q. h.4 x c q v) c (sym (j.carried a x) ∙ e),
    )
      where
        b : Body
        b = stage P Q (s a)

        same : (x : ℕ) (k : Option ℕ) → ((c : ℕ) → k ≡ some c → named b os x ≡ c) → (c : ℕ) → renamed (num a) k ≡ some c → num a (named b os x) ≡ c
        same x none h c e = no_none e
        same x (some y) h c e = let q : y ≡ named b os x = sym (h y refl) in cc

    carried-there : (i : ℕ) (os : List ℕ) → Allowed P Q (s a) (meet i os) → (x : ℕ)
        → (after P Q (seen d a) (meet i (map (num a) os))).carried x ≡ renamed (num a) ((after P Q (s a) (meet i os)).carried x)
    carried-there i os h x = rw (j.met a) (⊎_elim
        (λ (e : (shared Q x && elem x (vars b)) ≡ true). rw e (ap {B = Option ℕ} some (named-there b os h.2 x ((and-eq-true_iff (shared Q x) (elem x (vars b))).0 e).1)))
        (λ (e : (shared Q x && elem x (vars b)) ≡ false). rw e (j.carried a x)) (cases_Bool (shared Q x && elem x (vars b))))
      where
        b : Body
        b = stage P Q (s a)

  -- WHAT A PLACE LEAVES
  seam : (L : Line) (a : Side) (ms ns : List Side) → M ≡ ms ++ cond (creates L) (a ∷ ns) ns → (s : Side → Session) (d : Desk) → Kept-up num ms s d → creates L ≡ true → num a (length (s a).db) ≡ length d.db
  seam (rule r xs b) a ms ns e s d k c = absurd (false≢true c)
  seam (new t b) a ms ns e s d k c = rw (e, k.sizes a, k.size) (number-seam a ms ns)
  seam (next x plus minus b) a ms ns e s d k c = absurd (false≢true c)
  seam other a ms ns e s d k c = absurd (false≢true c)

  module _ (s : Side → Session) (d : Desk) (a : Side) where
    abbrev worked : ℕ → Line → Side → Session
    worked o L b = whose b a (record { db = execute (s a).db o L; met = (s a).met; carried = (s a).carried }) (s b)

    abbrev worked-desk : ℕ → Line → Desk
    worked-desk o L = record { db = execute d.db (num a o) L; met = λ b. whose b a (d.met a) (d.met b); carried = λ b. whose b a (d.carried a) (d.carried b) }

    work : (o : ℕ) (L : Line) (ms ms' : List Side) → Kept-up num ms s d → length (execute d.db (num a o) L) ≡ length ms'
        → length (execute (s a).db o L) ≡ count a ms' → ((b : Side) → b ≢ a → count b ms' ≡ count b ms)
        → ((p : ℕ) → p < length (execute (s a).db o L) → state (execute d.db (num a o) L) (num a p) ≡ state (execute (s a).db o L) p)
        → ((b : Side) → b ≢ a → (p : ℕ) → p < length (s b).db → state (execute d.db (num a o) L) (num b p) ≡ state d.db (num b p))
        → Kept-up num ms' (worked o L) (worked-desk o L)
    work o L ms ms' k l la lb ya yb = record {
      size = l;
      sizes = whose-one (λ (b : Side) (t : Session). length t.db ≡ count b ms') a σ s la (λ b q. k.sizes b ∙ sym (lb b q));
      like = whose-one (λ (b : Side) (t : Session). (p : ℕ) → p < length t.db → state (execute d.db (num a o) L) (num b p) ≡ state t.db p) a σ s ya (λ b q p h. yb b q p h ∙ k.like b p h);
      met = whose-both (λ (b : Side) (m : ℕ) (t : Session). m ≡ t.met) a (d.met a) d.met σ s (k.met a) (λ b q. k.met b);
      carried = whose-both (λ (b : Side) (c : ℕ → Option ℕ) (t : Session). (x : ℕ) → c x ≡ renamed (num b) (t.carried x)) a (d.carried a) d.carried σ s (k.carried a) (λ b q. k.carried b);
    }
      where
        σ : Session
        σ = record { db = execute (s a).db o L; met = (s a).met; carried = (s a).carried }

    worked-up : (P : Program) (o : ℕ) (L : Line) (ms ns : List Side) → M ≡ ms ++ cond (creates L) (a ∷ ns) ns → Joined num s d → Kept-up num ms s d → Enabled P (s a).db o L
        → Kept-up num (grown L a ms) (worked o L) (worked-desk o L)
    worked-up P o (rule r xs b) ms ns e j k c = absurd c
    worked-up P o (new t b) ms ns e j k c = work o (new t b) ms (ms ++ a ∷ []) k
        (rw (length-append d.db (t ∷ []), length-append ms (a ∷ [])) (omega (arith, k.size)))
        (rw (length-append, count-append, count-own) (omega (arith, k.sizes a)))
        (λ b q. rw (count-append, count-others a b q) (omega arith))
        (λ p h. ⊎_elim
        (λ (q : ltb p (length (s a).db) ≡ true). let l = ltb-true p (length (s a).db) q in get_or-append d.db (t ∷ []) 0 (num a p) (j.each a p l).0 ∙ k.like a p l ∙ sym (get_or-append (s a).db (t ∷ []) 0 p l))
        (λ (q : ltb p (length (s a).db) ≡ false). let z : p ≡ length (s a).db = omega (arith, ltb-false p (length (s a).db) q, length-append (s a).db (t ∷ [])) in
        rw (z, seam (new t b) a ms ns e s d k refl) (get_or-append_seam d.db t [] 0 ∙ sym (get_or-append_seam (s a).db t [] 0))) (cases_Bool (ltb p (length (s a).db))))
        (λ b q p h. get_or-append d.db (t ∷ []) 0 (num b p) (j.each b p h).0)
    worked-up P o (next x plus minus b) ms ns e j k c = work o (next x plus minus b) ms ms k
        (rw length-set k.size)
        (rw length-set (k.sizes a))
        (λ b q. refl)
        (λ p h. let l : p < length (s a).db = rw length-set at h in ⊎_elim
        (λ (q : p ≡ o). rw q (get_or-set_same d.db (num a o) (relabel (state d.db (num a o)) plus minus) 0 (j.each a o c.0).0 ∙ ap (λ (z : ℕ). relabel z plus minus) (k.like a o c.0)
        ∙ sym (get_or-set_same (s a).db o (relabel (state (s a).db o) plus minus) 0 c.0)))
        (λ (q : p ≢ o). get_or-set_other d.db (num a o) (num a p) (relabel (state d.db (num a o)) plus minus) 0 (λ r. q (number-injective a M p o r)) ∙ k.like a p l
        ∙ sym (get_or-set_other (s a).db o p (relabel (state (s a).db o) plus minus) 0 q)) (same? p o))
        (λ b q p h. get_or-set_other d.db (num a o) (num b p) (relabel (state d.db (num a o)) plus minus) 0 (λ r. q (j.one b a p o h c.0 r).0))
    worked-up P o other ms ns e j k c = absurd c

    met-up : (P : Program) (safe : Safe P) (Q : Question) (i : ℕ) (os : List ℕ) (ms : List Side) → Joined num s d → Kept-up num ms s d → Allowed P Q (s a) (meet i os)
        → Kept-up num ms (further P Q s a (meet i os)) (desk_after P Q d a (meet i (map (num a) os)))
    met-up P safe Q i os ms j k h = record {
      size = k.size;
      sizes = whose-one (λ (b : Side) (t : Session). length t.db ≡ count b ms) a σ s (k.sizes a) (λ b q. k.sizes b);
      like = whose-one (λ (b : Side) (t : Session). (p : ℕ) → p < length t.db → state d.db (num b p) ≡ state t.db p) a σ s (k.like a) (λ b q. k.like b);
      met = whose-both (λ (b : Side) (m : ℕ) (t : Session). m ≡ t.met) a (suc (d.met a)) d.met σ s (ap suc (k.met a)) (λ b q. k.met b);
      carried = whose-both (λ (b : Side) (c : ℕ → Option ℕ) (t : Session). (x : ℕ) → c x ≡ renamed (num b) (t.carried x)) a (after P Q (seen d a) (meet i (map (num a) os))).carried d.carried σ s
          (carried-there P safe Q s d j a i os h) (λ b q. k.carried b);
    }
      where
        σ : Session
        σ = after P Q (s a) (meet i os)

  -- ALL TURNS
  module _ (P : Program) (safe : Safe P) (Q : Question) where
    begins-turn : (a : Side) (p : Place) (zs : List Turn) (s : Side → Session) → ((b : Side) → Begins P Q (s b) (own b (turn a p ∷ zs))) → Allowed P Q (s a) p × ((b : Side) → Begins P Q (further P Q s a p b) (own b zs))
    begins-turn left p zs s h = ((h left).0, for-both (λ (b : Side). Begins P Q (further P Q s left p b) (own b zs)) (h left).1 (h right))
    begins-turn right p zs s h = ((h right).0, for-both (λ (b : Side). Begins P Q (further P Q s right p b) (own b zs)) (h left) (h right).1)

    share : (zs : List Turn) (ms : List Side) (s : Side → Session) (d : Desk) → M ≡ ms ++ makers P zs → Kept-up num ms s d → ((b : Side) → Begins P Q (s b) (own b zs)) → Shared P Q num s d zs
    share [] ms s d e k h = joined ms [] e s d k
    share (turn a (step ℓ o) ∷ zs) ms s d e k h =
        let j : Joined num s d = joined ms (makers P (turn a (step ℓ o) ∷ zs)) e s d k in
        let c = begins-turn a (step ℓ o) zs s h in (
          j,
          (omega (arith, j.met a, c.0.0), enabled-there P safe Q s d j a o (line P ℓ) (seam (line P ℓ) a ms (makers P zs) e s d k) c.0.1),
          share zs (grown (line P ℓ) a ms) (further P Q s a (step ℓ o)) (desk_after P Q d a (step ℓ (num a o))) (e ∙ grown-makers (line P ℓ) a ms (makers P zs)) (worked-up s d a P o (line P ℓ) ms (makers P zs) e j k c.0.1) c.1,
        )
    share (turn a (meet i os) ∷ zs) ms s d e k h =
        let j : Joined num s d = joined ms (makers P zs) e s d k in
        let c = begins-turn a (meet i os) zs s h in (
          j,
          meet-there P safe Q s d j a i os c.0,
          share zs ms (further P Q s a (meet i os)) (desk_after P Q d a (meet i (map (num a) os))) e (met-up s d a P safe Q i os ms j k c.0) c.1,
        )

-- WHAT FOLLOWS FROM IT. The steps are allowed one after the other,
shared-steps : (P : Program) (Q : Question) (n : Side → ℕ → ℕ) (zs : List Turn) (s : Side → Session) (d : Desk) → Shared P Q n s d zs → Steps P d.db (steps n zs) (desk_played P Q n d zs).db
shared-steps P Q n [] s d h = refl
shared-steps P Q n (turn a (step ℓ o) ∷ zs) s d h = (h.1.1, shared-steps P Q n zs (further P Q s a (step ℓ o)) (desk_after P Q d a (step ℓ (n a o))) h.2)
shared-steps P Q n (turn a (meet i os) ∷ zs) s d h = shared-steps P Q n zs (further P Q s a (meet i os)) (desk_after P Q d a (meet i (map (n a) os))) h.2

-- where the runs stand after a turn
further-played : (P : Program) (Q : Question) (a : Side) (p : Place) (zs : List Turn) (s : Side → Session) (b : Side) → played P Q (further P Q s a p b) (own b zs) ≡ played P Q (s b) (own b (turn a p ∷ zs))
further-played P Q left p zs s left = refl
further-played P Q left p zs s right = refl
further-played P Q right p zs s left = refl
further-played P Q right p zs s right = refl

-- after any beginning of the shuffle the rest is shared likewise, from where each run's places so far lead
pub shared-rest : (P : Program) (Q : Question) (n : Side → ℕ → ℕ) (ys zs : List Turn) (s : Side → Session) (d : Desk) → Shared P Q n s d (ys ++ zs) → Shared P Q n (λ b. played P Q (s b) (own b ys)) (desk_played P Q n d ys) zs
shared-rest P Q n [] zs s d h = h
shared-rest P Q n (turn a p ∷ ys) zs s d h = subst (λ (t : Side → Session). Shared P Q n t (desk_played P Q n d (turn a p ∷ ys)) zs) (fun_ext (further-played P Q a p ys s))
    (shared-rest P Q n ys zs (further P Q s a p) (desk_after P Q d a (renumber (n a) p)) h.2)

shared-now : (P : Program) (Q : Question) (n : Side → ℕ → ℕ) (zs : List Turn) (s : Side → Session) (d : Desk) → Shared P Q n s d zs → Joined n s d
shared-now P Q n [] s d h = h
shared-now P Q n (turn a p ∷ zs) s d h = h.0

-- WHAT A SIDE HEARS
seen_step : (P : Program) (Q : Question) (d : Desk) (a b : Side) (ℓ o : ℕ) → seen (desk_after P Q d a (step ℓ o)) b ≡ after P Q (seen d b) (step ℓ o)
seen_step P Q d left left ℓ o = refl
seen_step P Q d left right ℓ o = refl
seen_step P Q d right left ℓ o = refl
seen_step P Q d right right ℓ o = refl

-- a side counts more and more stages
met-grows : (P : Program) (Q : Question) (n : Side → ℕ → ℕ) (b : Side) (ys : List Turn) (d : Desk) → d.met b ≤ (desk_played P Q n d ys).met b
met-grows P Q n b [] d = omega arith
met-grows P Q n left (turn left (step ℓ o) ∷ ys) d = met-grows P Q n left ys (desk_after P Q d left (step ℓ (n left o)))
met-grows P Q n left (turn right (step ℓ o) ∷ ys) d = met-grows P Q n left ys (desk_after P Q d right (step ℓ (n right o)))
met-grows P Q n right (turn left (step ℓ o) ∷ ys) d = met-grows P Q n right ys (desk_after P Q d left (step ℓ (n left o)))
met-grows P Q n right (turn right (step ℓ o) ∷ ys) d = met-grows P Q n right ys (desk_after P Q d right (step ℓ (n right o)))
met-grows P Q n left (turn left (meet i os) ∷ ys) d = omega (arith, met-grows P Q n left ys (desk_after P Q d left (meet i (map (n left) os))))
met-grows P Q n left (turn right (meet i os) ∷ ys) d = met-grows P Q n left ys (desk_after P Q d right (meet i (map (n right) os)))
met-grows P Q n right (turn left (meet i os) ∷ ys) d = met-grows P Q n right ys (desk_after P Q d left (meet i (map (n left) os)))
met-grows P Q n right (turn right (meet i os) ∷ ys) d = omega (arith, met-grows P Q n right ys (desk_after P Q d right (meet i (map (n right) os))))

allowed-met : (P : Program) (Q : Question) (s : Session) (p : Place) → Allowed P Q s p → s.met < length Q
allowed-met P Q s (step ℓ o) h = h.0
allowed-met P Q s (meet i os) h = h.0

-- the places heard up to a place of the side are allowed one after the other
hearing : (P : Program) (Q : Question) (n : Side → ℕ → ℕ) (b : Side) (p : Place) (ws ys : List Turn) (s : Side → Session) (d : Desk) → Shared P Q n s d (ys ++ turn b p ∷ ws)
    → (desk_played P Q n d ys).met b < length Q → Begins P Q (seen d b) (heard n b (ys ++ turn b p ∷ []))
hearing P Q n b (step ℓ o) ws [] s d h l = (h.1, tt)
hearing P Q n left (meet i os) ws [] s d h l = (h.1, tt)
hearing P Q n right (meet i os) ws [] s d h l = (h.1, tt)
hearing P Q n b p ws (turn a (step ℓ o) ∷ ys) s d h l = (
  (omega (arith, met-grows P Q n b (turn a (step ℓ o) ∷ ys) d), h.1.1),
  subst (λ (t : Session). Begins P Q t (heard n b (ys ++ turn b p ∷ []))) (seen_step P Q d a b ℓ (n a o)) (hearing P Q n b p ws ys (further P Q s a (step ℓ o)) (desk_after P Q d a (step ℓ (n a o))) h.2 l),
)
hearing P Q n left p ws (turn left (meet i os) ∷ ys) s d h l = (h.1, hearing P Q n left p ws ys (further P Q s left (meet i os)) (desk_after P Q d left (meet i (map (n left) os))) h.2 l)
hearing P Q n left p ws (turn right (meet i os) ∷ ys) s d h l = hearing P Q n left p ws ys (further P Q s right (meet i os)) (desk_after P Q d right (meet i (map (n right) os))) h.2 l
hearing P Q n right p ws (turn left (meet i os) ∷ ys) s d h l = hearing P Q n right p ws ys (further P Q s left (meet i os)) (desk_after P Q d left (meet i (map (n left) os))) h.2 l
hearing P Q n right p ws (turn right (meet i os) ∷ ys) s d h l = (h.1, hearing P Q n right p ws ys (further P Q s right (meet i os)) (desk_after P Q d right (meet i (map (n right) os))) h.2 l)

-- WHO HAS MADE WHAT
makers-append : (P : Program) (ys ws : List Turn) → makers P (ys ++ ws) ≡ makers P ys ++ makers P ws
makers-append P [] ws = refl
makers-append P (turn a (step ℓ o) ∷ ys) ws = ⊎_elim (λ (q : creates (line P ℓ) ≡ true). rw (q, makers-append P ys ws)) (λ (q : creates (line P ℓ) ≡ false). rw (q, makers-append P ys ws)) (cases_Bool (creates (line P ℓ)))
makers-append P (turn a (meet i os) ∷ ys) ws = makers-append P ys ws

made-own : (b : Side) (L : Line) (db : Database) (o : ℕ) (ms : List Side) → length (execute db o L) + count b ms ≡ length db + count b (cond (creates L) (b ∷ ms) ms)
made-own b (rule r xs c) db o ms = refl
made-own left (new s c) db o ms = omega (arith, length-append db (s ∷ []))
made-own right (new s c) db o ms = omega (arith, length-append db (s ∷ []))
made-own b (next x plus minus c) db o ms = rw length-set
made-own b other db o ms = refl

made-others : (a b : Side) → b ≢ a → (L : Line) (ms : List Side) → count b (cond (creates L) (a ∷ ms) ms) ≡ count b ms
made-others a b n (rule r xs c) ms = refl
made-others a b n (new s c) ms = omega (arith, count-append b (a ∷ []) ms, count-others a b n)
made-others a b n (next x plus minus c) ms = refl
made-others a b n other ms = refl

-- a side has as many objects as it made
made : (P : Program) (Q : Question) (b : Side) (ys : List Turn) (s : Session) → length (played P Q s (own b ys)).db ≡ length s.db + count b (makers P ys)
made P Q b [] s = omega arith
made P Q left (turn left (step ℓ o) ∷ ys) s = made P Q left ys (after P Q s (step ℓ o)) ∙ made-own left (line P ℓ) s.db o (makers P ys)
made P Q left (turn right (step ℓ o) ∷ ys) s = made P Q left ys s ∙ rw (made-others right left left-right (line P ℓ) (makers P ys))
made P Q right (turn left (step ℓ o) ∷ ys) s = made P Q right ys s ∙ rw (made-others left right right-left (line P ℓ) (makers P ys))
made P Q right (turn right (step ℓ o) ∷ ys) s = made P Q right ys (after P Q s (step ℓ o)) ∙ made-own right (line P ℓ) s.db o (makers P ys)
made P Q left (turn left (meet i os) ∷ ys) s = made P Q left ys (after P Q s (meet i os))
made P Q left (turn right (meet i os) ∷ ys) s = made P Q left ys s
made P Q right (turn left (meet i os) ∷ ys) s = made P Q right ys s
made P Q right (turn right (meet i os) ∷ ys) s = made P Q right ys (after P Q s (meet i os))

nothing : (n : Side → ℕ → ℕ) → Kept-up n [] (λ b. start []) empty
nothing n = record {
  size = refl;
  sizes = λ b. refl;
  like = λ b o l. absurd (not-suc-le-zero l);
  met = λ b. refl;
  carried = λ b x. refl;
}

-- EVERY SHUFFLE OF TWO RUNS OF ONE TEXT, each begun from the empty database, IS A RUN AT ONE DESK
pub shuffled : (P : Program) → Safe P → (Q : Question) (ps qs : List Place) → Begins P Q (start []) ps → Begins P Q (start []) qs → (zs : List Turn) → Shuffle ps qs zs → AtOneDesk P Q ps qs zs
shuffled P safe Q ps qs hp hq zs z = record {
  run = shared-steps P Q n zs (λ b. start []) empty all;
  allowed = λ ys ws a p e. (rest ys (turn a p ∷ ws) e).1;
  through = through;
  early = λ ys ws e b o l. rw (e, makers-append P ys ws) (number-early b (makers P ys) (makers P ws) o (omega (arith, made P Q b ys (start [])))).0;
  hears = λ ys ws b p e. hearing P Q n b p ws ys (λ b. start []) empty (subst (λ (t : List Turn). Shared P Q n (λ b. start []) empty t) e all) (allowed-met P Q (seen (desk_played P Q n empty ys) b) (renumber (n b) p) (rest ys (turn b p ∷ ws) e).1);
  ends = subst (λ (t : Side → Session). Joined n t (desk_played P Q n empty zs)) (fun_ext sides) (through zs [] (sym (append-nil zs)));
}
  where
    n : Side → ℕ → ℕ
    n = numbers P zs

    all : Shared P Q n (λ b. start []) empty zs
    all = share (makers P zs) P safe Q zs [] (λ b. start []) empty refl (nothing n) (for-both (λ (b : Side). Begins P Q (start []) (own b zs)) (rw z.0 hp) (rw z.1 hq))

    rest : (ys ws : List Turn) → zs ≡ ys ++ ws → Shared P Q n (λ b. played P Q (start []) (own b ys)) (desk_played P Q n empty ys) ws
    rest ys ws e = shared-rest P Q n ys ws (λ b. start []) empty (subst (λ (t : List Turn). Shared P Q n (λ b. start []) empty t) e all)

    through : (ys ws : List Turn) → zs ≡ ys ++ ws → Joined n (λ b. played P Q (start []) (own b ys)) (desk_played P Q n empty ys)
    through ys ws e = shared-now P Q n ws (λ b. played P Q (start []) (own b ys)) (desk_played P Q n empty ys) (rest ys ws e)

    sides : (b : Side) → played P Q (start []) (own b zs) ≡ whose b left (played P Q (start []) ps) (played P Q (start []) qs)
    sides left = rw z.0
    sides right = rw z.1

-- a stage of either run is met at the desk, for the renumbered objects, as that run's own count has it
pub stage-met : (P : Program) (Q : Question) (ps qs : List Place) (zs : List Turn) → AtOneDesk P Q ps qs zs → (ys ws : List Turn) (a : Side) (i : ℕ) (os : List ℕ) → zs ≡ ys ++ turn a (meet i os) ∷ ws
    → (i ≡ suc (played P Q (start []) (own a ys)).met)
    × Meets P (desk_played P Q (numbers P zs) empty ys).db (named (stage P Q (played P Q (start []) (own a ys))) (map (numbers P zs a) os)) (stage P Q (played P Q (start []) (own a ys)))
stage-met P Q ps qs zs A ys ws a i os e = let h = A.allowed ys ws a (meet i os) e in let m = (A.through ys (turn a (meet i os) ∷ ws) e).met a in (h.1 ∙ ap suc m, rw m at h.3)

-- RUNS THAT ARE KEPT
pub plays-begins : (P : Program) (Q : Question) (s : Session) (ps : List Place) → Plays P Q s ps → Begins P Q s ps × ((played P Q s ps).met ≡ length Q)
plays-begins P Q s [] h = (tt, h)
plays-begins P Q s (p ∷ ps) h = let r = plays-begins P Q (after P Q s p) ps h.1 in ((h.0, r.0), r.1)

begins-plays : (P : Program) (Q : Question) (s : Session) (ps : List Place) → Begins P Q s ps → (played P Q s ps).met ≡ length Q → Plays P Q s ps
begins-plays P Q s [] h e = e
begins-plays P Q s (p ∷ ps) h e = (h.0, begins-plays P Q (after P Q s p) ps h.1 e)

-- both meet all their stages at the desk
pub both-met : (P : Program) → Safe P → (Q : Question) (ps qs : List Place) → Kept P Q ps → Kept P Q qs → (zs : List Turn) → Shuffle ps qs zs → (b : Side) → (desk_played P Q (numbers P zs) empty zs).met b ≡ length Q
both-met P safe Q ps qs hp hq zs z b = j.met b ∙ for-both (λ (b : Side). (whose b left (played P Q (start []) ps) (played P Q (start []) qs)).met ≡ length Q) p.1 q.1 b
  where
    p : Begins P Q (start []) ps × ((played P Q (start []) ps).met ≡ length Q)
    p = plays-begins P Q (start []) ps hp

    q : Begins P Q (start []) qs × ((played P Q (start []) qs).met ≡ length Q)
    q = plays-begins P Q (start []) qs hq

    j : Joined (numbers P zs) (λ b. whose b left (played P Q (start []) ps) (played P Q (start []) qs)) (desk_played P Q (numbers P zs) empty zs)
    j = (shuffled P safe Q ps qs p.0 q.0 zs z).ends

-- what a side has heard leads to what it sees
heard-played : (P : Program) (Q : Question) (n : Side → ℕ → ℕ) (b : Side) (ys : List Turn) (d : Desk) → played P Q (seen d b) (heard n b ys) ≡ seen (desk_played P Q n d ys) b
heard-played P Q n b [] d = refl
heard-played P Q n b (turn a (step ℓ o) ∷ ys) d = ap {B = Session} (λ (t : Session). played P Q t (heard n b ys)) (sym (seen_step P Q d a b ℓ (n a o))) ∙ heard-played P Q n b ys (desk_after P Q d a (step ℓ (n a o)))
heard-played P Q n left (turn left (meet i os) ∷ ys) d = heard-played P Q n left ys (desk_after P Q d left (meet i (map (n left) os)))
heard-played P Q n left (turn right (meet i os) ∷ ys) d = heard-played P Q n left ys (desk_after P Q d right (meet i (map (n right) os)))
heard-played P Q n right (turn left (meet i os) ∷ ys) d = heard-played P Q n right ys (desk_after P Q d left (meet i (map (n left) os)))
heard-played P Q n right (turn right (meet i os) ∷ ys) d = heard-played P Q n right ys (desk_after P Q d right (meet i (map (n right) os)))

own-append : (b : Side) (ys zs : List Turn) → own b (ys ++ zs) ≡ own b ys ++ own b zs
own-append b [] zs = refl
own-append left (turn left p ∷ ys) zs = ap {B = List Place} (λ (l : List Place). p ∷ l) (own-append left ys zs)
own-append left (turn right p ∷ ys) zs = own-append left ys zs
own-append right (turn left p ∷ ys) zs = own-append right ys zs
own-append right (turn right p ∷ ys) zs = ap {B = List Place} (λ (l : List Place). p ∷ l) (own-append right ys zs)

-- Where a side's run is kept, what it hears up to its last place is kept: the shuffle's steps with its meetings, among the objects of both.
pub heard-kept : (P : Program) (Q : Question) (ps qs : List Place) (zs : List Turn) → AtOneDesk P Q ps qs zs → (b : Side) → Kept P Q (own b zs)
    → (ys ws : List Turn) (p : Place) → zs ≡ ys ++ turn b p ∷ ws → own b ws ≡ [] → Kept P Q (heard (numbers P zs) b (ys ++ turn b p ∷ []))
heard-kept P Q ps qs zs A b kept ys ws p e last = begins-plays P Q (start []) (heard n b us) (A.hears ys ws b p e)
    (ap {B = ℕ} (λ (t : Session). t.met) (heard-played P Q n b us empty) ∙ (A.through us ws parts).met b ∙ ap {B = ℕ} (λ (l : List Place). (played P Q (start []) l).met) (sym whole) ∙ (plays-begins P Q (start []) (own b zs) kept).1)
  where
    n : Side → ℕ → ℕ
    n = numbers P zs

    us : List Turn
    us = ys ++ turn b p ∷ []

    parts : zs ≡ us ++ ws
    parts = e ∙ sym (append_assoc ys (turn b p ∷ []) ws)

    whole : own b zs ≡ own b us
    whole = ap {B = List Place} (own b) parts ∙ own-append b us ws ∙ rw (last, append-nil)

-- EVERY WAY: a shuffle is known by whose turn it is, and there is one for each row of turns that has as many of each side as its run has places
abbrev pub sides : List Turn → List Side
sides [] = []
sides (turn a p ∷ zs) = a ∷ sides zs

abbrev pub deal : List Side → List Place → List Place → List Turn
deal [] ps qs = []
deal (left ∷ w) [] qs = []
deal (left ∷ w) (p ∷ ps) qs = turn left p ∷ deal w ps qs
deal (right ∷ w) ps [] = []
deal (right ∷ w) ps (q ∷ qs) = turn right q ∷ deal w ps qs

pub dealt : (w : List Side) (ps qs : List Place) → count left w ≡ length ps → count right w ≡ length qs → Shuffle ps qs (deal w ps qs) × (sides (deal w ps qs) ≡ w)
dealt [] [] [] l r = ((refl, refl), refl)
dealt [] (p ∷ ps) qs l r = absurd (omega arith)
dealt [] [] (q ∷ qs) l r = absurd (omega arith)
dealt (left ∷ w) [] qs l r = absurd (omega arith)
dealt (left ∷ w) (p ∷ ps) qs l r = let h = dealt w ps qs (omega arith) r in ((ap {B = List Place} (λ (t : List Place). p ∷ t) h.0.0, h.0.1), ap {B = List Side} (λ (t : List Side). left ∷ t) h.1)
dealt (right ∷ w) ps [] l r = absurd (omega arith)
dealt (right ∷ w) ps (q ∷ qs) l r = let h = dealt w ps qs l (omega arith) in ((h.0.0, ap {B = List Place} (λ (t : List Place). q ∷ t) h.0.1), ap {B = List Side} (λ (t : List Side). right ∷ t) h.1)

pub dealt-one : (zs : List Turn) → zs ≡ deal (sides zs) (own left zs) (own right zs)
dealt-one [] = refl
dealt-one (turn left p ∷ zs) = ap {B = List Turn} (λ (t : List Turn). turn left p ∷ t) (dealt-one zs)
dealt-one (turn right p ∷ zs) = ap {B = List Turn} (λ (t : List Turn). turn right p ∷ t) (dealt-one zs)

pub sides-count : (zs : List Turn) (b : Side) → count b (sides zs) ≡ length (own b zs)
sides-count [] b = refl
sides-count (turn left p ∷ zs) left = ap suc (sides-count zs left)
sides-count (turn left p ∷ zs) right = sides-count zs right
sides-count (turn right p ∷ zs) left = sides-count zs left
sides-count (turn right p ∷ zs) right = ap suc (sides-count zs right)

-- THE EXAMPLE
abbrev AllSafe : Program → Type 0
AllSafe [] = Unit {0}
AllSafe (c ∷ P) = SafeLine c.1 × AllSafe P

all-safe : (P : Program) → AllSafe P → Safe P
all-safe [] h ℓ = tt
all-safe (c ∷ P) h ℓ = ⊎_elim (λ (q : eqb ℓ c.0 ≡ true). rw q h.0) (λ (q : eqb ℓ c.0 ≡ false). rw q (all-safe P h.1 ℓ)) (cases_Bool (eqb ℓ c.0))

chosen-two : (db : Database) (σ : ℕ → ℕ) (x y : ℕ) → σ x < length db → σ y < length db → Chosen db σ (x ∷ y ∷ [])
chosen-two db σ x y p q = each-cons (λ (z : ℕ). σ z < length db) x (y ∷ []) p (each-cons (λ (z : ℕ). σ z < length db) y [] q (λ z e. absurd (false≢true e)))

free : (P : Program) (db : Database) → (σ : ℕ → ℕ) × Meets P db σ []
free P db = ((λ x. 0), ((λ x e. absurd (false≢true e)), tt))

pausing-begins : Begins office promotion (start []) pausing
unfolding has union difference relabel firsts
pausing-begins = (
  (omega arith, (refl, free office [])),
  (
    (omega arith, refl, refl, (chosen-two (2 ∷ []) (named (is 1 0 ∷ isnt 0 0 ∷ []) (0 ∷ [])) 0 0 (omega arith) (omega arith), (refl, (refl, tt))), (λ x c e t. no_none e)),
    ((omega arith, (refl, free office (2 ∷ []))), ((omega arith, (omega arith, ((λ x. x), refl, (chosen-two (2 ∷ 1 ∷ []) (λ x. x) 0 1 (omega arith) (omega arith), (refl, (refl, tt)))))), tt)),
  ),
)

mixed-shared : AtOneDesk office promotion hired pausing mixed
mixed-shared = shuffled office (all-safe office ((λ x e. e), ((λ x e. e), ((refl, (λ x e. e)), (((refl, tt), (λ x e. e), (λ x e. e)), tt))))) promotion hired pausing
    (plays-begins office promotion (start []) hired promoted-true.0.1).0 pausing-begins mixed (refl, refl)

pub mixed-desk : Mixed
unfolding has union difference relabel
mixed-desk = record {
  desk = mixed-shared;
  worked = refl;
  ended = refl;
  kept = heard-kept office promotion hired pausing mixed mixed-shared left promoted-true.0.1
      (turn right (step 5 0) ∷ turn left (step 4 0) ∷ turn left (step 5 1) ∷ turn right (meet 1 (0 ∷ [])) ∷ turn left (meet 1 (1 ∷ [])) ∷ turn right (step 4 1) ∷ turn left (step 6 1) ∷ [])
      (turn right (step 6 0) ∷ []) (meet 2 (1 ∷ [])) refl refl;
}

-- How a hand-in is read from line to line.
use mathlib.Core.Path.{◌≡◌, refl, sym, ap, ◌∙◌}
use mathlib.Core.Logic.{⊎_elim}
use mathlib.Core.Bool.{Bool, true, false, cond, false≢true}
use mathlib.Core.List.{List, [], ◌∷◌, ◌++◌, map, map-append}
use mathlib.Core.Option.{Option, none, some}
use Prim.Native.Nat.{ℕ, suc, ◌+◌, ◌≤◌, ◌<◌}
use native.Mathlib.Numerals.{add-one, one-add}
use native.Mathlib.Omega.{arith}
use lib.Dec.{eqb, ltb}
use lib.ListN.{length, take, drop, set, length-append, length-drop, length-map}
use borrow.Author.Tests.{lt-ltb, le-ltb, ltb-true, ltb-false, eqb-true, eqb-false}
use Rattle.std.proofs.lemmas.Bool.{cases_Bool}
use Rattle.std.specs.List.{position}
use Rattle.std.specs.Option.{unwrap_or}
use Rattle.std.proofs.lemmas.List.{nil_from_length}
use Rattle.std.proofs.lemmas.List.Recursion.{is_position_or_len}
use Rattle.limits.specs.Limits as limit
use Rattle.semantics.specs.Runs.{Place}
use Rattle.model.specs.Places.{number_of}
use Rattle.grammar.specs.Bytes.{Line, ended, unended, lines}
use Rattle.handin_lines.specs.Lines as lines_of
use Rattle.handin_lines.specs.Lines.{verdict, nothing, place, said_by}
use Rattle.handin_lines.specs.Found.{is_silent, number_said, clear}
use Rattle.std.specs.Prelude.{Some, None}
use Rattle.std.specs.Prelude as std
use Rattle.std.specs.Option.{MatchOption, IsSome}
use denote.Ref.{Bor}
use Rattle.handin.specs.declared.Lines.{Lines}
use Rattle.handin.specs.Handins.{Handin, says-no, says-yes, unreadable, content, onwards, follows, preface, read_lines, reading}
use Rattle.handin.specs.declared.Start.{Start}
use Rattle.handin.specs.Answers.{first_length, Front, Gives, PrefaceEnd}

-- THE FIRST LINE of some bytes
First : List ℕ → Type 0
First s = (l : Line) × (lines s ≡ l ∷ lines (drop (suc (first_length s)) s)) × (content l ≡ take (first_length s) s)

longer : (b : ℕ) (s : List ℕ) → (eqb b 10 ≡ false) → First s → First (b ∷ s)
unfolding First
longer b s q (ended w, e, f) = rw q (ended (b ∷ w), rw e, ap (λ (v : List ℕ). b ∷ v) f)
longer b s q (unended w, e, f) = rw q (unended (b ∷ w), rw e, ap (λ (v : List ℕ). b ∷ v) f)

first-line : (s : List ℕ) → 0 < length s → First s
unfolding First
first-line [] h = absurd (omega arith)
first-line (b ∷ []) h = ⊎_elim (λ (q : eqb b 10 ≡ true). rw q (ended [], refl, refl)) (λ (q : eqb b 10 ≡ false). rw q (unended (b ∷ []), refl, refl)) (cases_Bool (eqb b 10))
first-line (b ∷ c ∷ s) h = ⊎_elim (λ (q : eqb b 10 ≡ true). rw q (ended [], refl, refl)) (λ (q : eqb b 10 ≡ false). longer b (c ∷ s) q (first-line (c ∷ s) (omega arith))) (cases_Bool (eqb b 10))

pub first-end : (s : List ℕ) → first_length s ≤ length s
first-end [] = omega arith
first-end (b ∷ s) = ⊎_elim (λ (q : eqb b 10 ≡ true). rw q (omega arith)) (λ (q : eqb b 10 ≡ false). rw q (omega (arith, first-end s))) (cases_Bool (eqb b 10))

-- `position` of byte 10, or the length
pub position-first : (s : List ℕ) → unwrap_or (position (λ b. eqb b 10) s) (length s) ≡ first_length s
position-first s =
    let e = is_position_or_len first_length (λ b. eqb b 10) refl (λ y ys. ap (cond (eqb y 10) 0) (sym (one-add (first_length ys)))) s in
    rw (← e) (⊎_elim
    (λ (q : ltb (first_length s) (length s) ≡ true). rw q)
    (λ (q : ltb (first_length s) (length s) ≡ false). rw q (omega (arith, first-end s, ltb-false (first_length s) (length s) q)))
    (cases_Bool (ltb (first_length s) (length s))))

pub front : (s : List ℕ) {e : ℕ} {others : List ℕ} → (length s ≡ 0 → ⊥) → e ≡ first_length s → others ≡ drop (e + 1) s → Front s (take e s) others
unfolding First
front s {e} {others} h z o =
    let f = first-line s (omega arith) in
    record { whole = f.0; read = f.1 ∙ rw (o, z, add-one (first_length s)); says = f.2 ∙ rw z; less = rw o (omega (arith, length-drop (e + 1) s)) }

-- WHAT A LINE SAYS, by the answer to it
says_nothing : (o : Option lines_of.Said) → is_silent o ≡ true → o ≡ some nothing
says_nothing none e = cc
says_nothing (some nothing) e = refl
says_nothing (some (place p)) e = cc

module _ (reached : Bool) (n : ℕ) (l : Line) (ls : List Line) where
  preface-on : is_silent (said_by (content l)) ≡ true → preface reached n (l ∷ ls) ≡ preface reached (suc n) ls
  unfolding preface
  preface-on e = rw (says_nothing (said_by (content l)) e, preface)

  preface-stops : is_silent (said_by (content l)) ≡ false → preface reached n (l ∷ ls) ≡ follows reached n (l ∷ ls)
  unfolding preface
  preface-stops h = go (said_by (content l)) h
    where
      go : (o : Option lines_of.Said) → is_silent o ≡ false → elim o [ none ↦ follows reached n (l ∷ ls) | some nothing ↦ preface reached (suc n) ls | some (place p) ↦ follows reached n (l ∷ ls) ] ≡ follows reached n (l ∷ ls)
      go none k = refl
      go (some nothing) k = cc
      go (some (place p)) k = refl

module _ (first : ℕ) (ps : List Place) (l : Line) (ls : List Line) where
  onwards-full : limit.run ≤ length ps → onwards first ps (l ∷ ls) ≡ unreadable (first + length ps)
  unfolding onwards
  onwards-full h = go (said_by (content l)) refl
    where
      go : (o : Option lines_of.Said) → said_by (content l) ≡ o → onwards first ps (l ∷ ls) ≡ unreadable (first + length ps)
      go none e = rw (e, onwards)
      go (some nothing) e = rw (e, onwards)
      go (some (place p)) e = rw (e, onwards, le-ltb (length ps) limit.run h)

  onwards-bad : number_said (said_by (content l)) ≡ None → onwards first ps (l ∷ ls) ≡ unreadable (first + length ps)
  unfolding onwards
  onwards-bad h = go (said_by (content l)) refl
    where
      go : (o : Option lines_of.Said) → said_by (content l) ≡ o → onwards first ps (l ∷ ls) ≡ unreadable (first + length ps)
      go none e = rw (e, onwards)
      go (some nothing) e = rw (e, onwards)
      go (some (place p)) e = let k = sym h ∙ ap number_said e in cc

module _ (ps : List Place) (l : Line) (ls : List Line) (v : ℕ) where
  More : Type 0
  More = (p : Place) × (number_of p ≡ v) × ((first : ℕ) → onwards first ps (l ∷ ls) ≡ onwards first (ps ++ p ∷ []) ls)

  onwards-on : number_said (said_by (content l)) ≡ Some v → length ps < limit.run → More
  unfolding onwards More
  onwards-on e h = go (said_by (content l)) refl e
    where
      go : (o : Option lines_of.Said) → said_by (content l) ≡ o → number_said o ≡ Some v → More
      go none q k = absurd (false≢true cc)
      go (some nothing) q k = absurd (false≢true cc)
      go (some (place p)) q k = (p, cc, λ first. rw (q, onwards, lt-ltb (length ps) limit.run h))

-- THE PREFACE: the lines before those of i, where line n is next, say nothing
pub record PrefaceSo (left i : List ℕ) (n : ℕ) : Type 0 where
  pub small : n + length i ≤ length left + 2
  pub read : (reached : Bool) → preface reached 2 (lines left) ≡ preface reached n (lines i)

module _ {left i : List ℕ} {n : ℕ} (so : PrefaceSo left i n) where
  pub preface-all : i ≡ [] → (reached : Bool) → preface reached 2 (lines left) ≡ follows reached n (lines i)
  unfolding preface
  preface-all h reached = so.read reached ∙ rw h

  module _ {line j : List ℕ} (f : Front i line j) where
    pub preface-other : is_silent (said_by line) ≡ false → (reached : Bool) → preface reached 2 (lines left) ≡ follows reached n (lines i)
    preface-other h reached = so.read reached ∙ rw f.read (preface-stops reached n f.whole (lines j) (rw f.says h))

    pub preface-more : is_silent (said_by line) ≡ true → PrefaceSo left j (n + 1)
    preface-more h = record {
      small = omega (arith, so.small, f.less);
      read = λ reached. so.read reached ∙ rw (f.read, add-one n) (preface-on reached n f.whole (lines j) (rw f.says h));
    }

-- THE RUN: the k lines before those of i are the places ps
pub record RunSo (left i : List ℕ) (k : ℕ) : Type 0 where
  pub ps : List Place
  pub count : k ≡ length ps
  pub few : k ≤ limit.run
  pub read : (n : ℕ) → onwards n [] (lines left) ≡ onwards n ps (lines i)

abbrev pub run-start : (left : List ℕ) → RunSo left left 0
run-start left = record { ps = []; count = refl; few = omega arith; read = λ n. refl }

module _ {left i : List ℕ} {k : ℕ} (so : RunSo left i k) (n : ℕ) where
  pub run_end : i ≡ [] → onwards n [] (lines left) ≡ says-yes n so.ps
  unfolding onwards
  run_end h = so.read n ∙ rw h

  module _ {line j : List ℕ} (f : Front i line j) where
    pub run-full : k ≡ limit.run → onwards n [] (lines left) ≡ unreadable (n + k)
    run-full z = so.read n ∙ rw (f.read, so.count) (onwards-full n so.ps f.whole (lines j) (omega (arith, so.count)))

    pub run-bad : number_said (said_by line) ≡ None → onwards n [] (lines left) ≡ unreadable (n + k)
    run-bad h = so.read n ∙ rw (f.read, so.count) (onwards-bad n so.ps f.whole (lines j) (rw f.says h))

module _ {left i : List ℕ} {k : ℕ} (so : RunSo left i k) where
  pub run_more : {line j : List ℕ} {v : ℕ} → Front i line j → number_said (said_by line) ≡ Some v → k < limit.run
      → (on : RunSo left j (k + 1)) × (map number_of on.ps ≡ map number_of so.ps ++ v ∷ [])
  unfolding More
  run_more {line} {j} {v} f h r =
      let g : length so.ps < limit.run = omega (arith, so.count) in
      let said-so : number_said (said_by (content f.whole)) ≡ Some v = rw f.says h in
      let p = onwards-on so.ps f.whole (lines j) v said-so g in (
        record {
          ps = so.ps ++ p.0 ∷ [];
          count = omega (arith, so.count, length-append so.ps (p.0 ∷ []));
          few = omega arith;
          read = λ n. so.read n ∙ rw f.read (p.2 n);
        },
        map-append number_of so.ps (p.0 ∷ []) ∙ rw p.1,
      )

-- the run of a hand-in that says yes
abbrev run_of : Handin → List Place
run_of says-no = []
run_of (says-yes first ps) = ps
run_of (unreadable n) = []

pub no-yes : {n first : ℕ} {ps : List Place} → unreadable n ≡ says-yes first ps → ⊥
no-yes e = absurd (false≢true cc)

pub some-there : (r : std.Option ℕ) → (r ≡ None → ⊥) → IsSome r
some-there None h = absurd (h refl)
some-there (Some v) h = refl

-- THE TABLE: one number more
store-more : (xs d : List ℕ) (v : ℕ) → length xs < length d → set (xs ++ drop (length xs) d) (length xs) v ≡ (xs ++ v ∷ []) ++ drop (suc (length xs)) d
store-more [] (y ∷ d) v h = refl
store-more xs [] v h = absurd (omega arith)
store-more (x ∷ xs) (y ∷ d) v h = ap (λ (t : List ℕ). x ∷ t) (store-more xs d v (omega arith))

module _ {left i : List ℕ} {k : ℕ} (so : RunSo left i k) (run₀ run : List ℕ) (t : run ≡ map number_of so.ps ++ drop k run₀) (h : k ≤ length run₀) where
  pub table-length : length run ≡ length run₀
  table-length = ap length t ∙ length-append (map number_of so.ps) (drop k run₀) ∙ omega (arith, length-map so.ps number_of, so.count, length-drop k run₀)

  pub table_more : {j : List ℕ} (v : ℕ) (on : RunSo left j (k + 1)) → map number_of on.ps ≡ map number_of so.ps ++ v ∷ [] → k < length run₀ → set run k v ≡ map number_of on.ps ++ drop (k + 1) run₀
  table_more v on e l =
      let z : length (map number_of so.ps) ≡ k = length-map so.ps number_of ∙ sym so.count in
      rw (t, e, add-one k) (rw z at (store-more (map number_of so.ps) run₀ v (omega arith)))

  pub table-end : (n first : ℕ) (ps : List Place) → i ≡ [] → onwards n [] (lines left) ≡ says-yes first ps → run ≡ map number_of ps ++ drop (length ps) run₀
  table-end n first ps l e =
      let q : so.ps ≡ ps = ap run_of (sym (run_end so n l) ∙ e) in
      t ∙ rw (so.count, q)

-- the lines are the places of a run
abbrev pub Says : List ℕ → Type 0
Says left = (n first : ℕ) × (ps : List Place) × (onwards n [] (lines left) ≡ says-yes first ps)

-- there is room for one place more
pub run_room : {left i line j : List ℕ} {k : ℕ} → RunSo left i k → Says left → Front i line j → k < limit.run
run_room {k = k} so (n, first, ps, e) f =
    ⊎_elim (λ q. ltb-true k limit.run q) (λ q. absurd (no-yes (sym (run-full so n f (omega (arith, so.few, ltb-false k limit.run q))) ∙ e))) (cases_Bool (ltb k limit.run))

-- AFTER THE PREFACE
module _ (left : List ℕ) (n : ℕ) where
  pub follows-yes : follows true n (lines left) ≡ onwards n [] (lines left)
  unfolding follows
  follows-yes = refl

  pub follows-more : (length left ≡ 0 → ⊥) → follows false n (lines left) ≡ unreadable n
  unfolding follows First
  follows-more h = let f = first-line left (omega arith) in rw f.1

  pub follows-none : length left ≡ 0 → follows false n (lines left) ≡ says-no
  unfolding follows
  follows-none h = rw (nil_from_length left h)

-- THE FIRST LINE
module _ (handin : List ℕ) where
  pub reading-long : limit.handin < length handin → reading handin ≡ unreadable 0
  unfolding reading
  reading-long h = rw (lt-ltb limit.handin (length handin) h)

  reading-short : length handin ≤ limit.handin → reading handin ≡ read_lines (lines handin)
  unfolding reading
  reading-short h = rw (le-ltb limit.handin (length handin) h)

  reading-empty : length handin ≤ limit.handin → handin ≡ [] → reading handin ≡ unreadable 1
  unfolding read_lines
  reading-empty h z = reading-short h ∙ rw z

  module _ (h : length handin ≤ limit.handin) {line others : List ℕ} (f : Front handin line others) where
    first_said : (o : Option Bool) → verdict line ≡ o → reading handin ≡ elim o [ none ↦ unreadable 1 | some reached ↦ preface reached 2 (lines others) ]
    unfolding read_lines
    first_said o q = reading-short h ∙ rw (f.read, ← q, ← f.says)

-- what a hand-in says whose first line has this verdict
abbrev pub read_on : std.Option Bool → List ℕ → Handin
read_on None others = unreadable 1
read_on (Some reached) others = preface reached 2 (lines others)

pub reading-first : {P : Bor (List ℕ) → Type 0} (s : Lines) (o : std.Option (Bor (List ℕ))) (t : Lines) (r : std.Option Bool) → length s.left.now ≤ limit.handin → Gives s o t → MatchOption o (r ≡ None) P
    → ((x : Bor (List ℕ)) → P x → r ≡ clear (verdict x.now)) → reading s.left.now ≡ read_on r t.left.now
reading-first s None t r h g m f = rw m (reading-empty s.left.now h g)
reading-first s (Some x) t r h g m f = rw (f x m) (go (verdict x.now) refl)
  where
    go : (v : Option Bool) → verdict x.now ≡ v → reading s.left.now ≡ read_on (clear v) t.left.now
    go none q = first_said s.left.now h g none q
    go (some reached) q = first_said s.left.now h g (some reached) q

-- A HAND-IN THAT SAYS YES
module _ (handin : List ℕ) {first : ℕ} {ps : List Place} (yes : reading handin ≡ says-yes first ps) where
  pub yes-short : length handin ≤ limit.handin
  yes-short = ⊎_elim (λ q. absurd (no-yes (sym (reading-long handin (ltb-true limit.handin (length handin) q)) ∙ yes))) (λ q. ltb-false limit.handin (length handin) q) (cases_Bool (ltb limit.handin (length handin)))

  yes-some : handin ≡ [] → ⊥
  yes-some z = no-yes (sym (reading-empty handin yes-short z) ∙ yes)

  pub yes-run : {line others : List ℕ} {s : Start} → Front handin line others → PrefaceEnd others s → onwards s.line [] (lines s.left.now) ≡ says-yes first ps
  yes-run {line} {others} {s} f p = go (verdict line) refl
    where
      away : follows false s.line (lines s.left.now) ≡ says-yes first ps → ⊥
      away q = ⊎_elim (λ z. absurd (let y = sym (follows-none s.left.now s.line (eqb-true (length s.left.now) 0 z)) ∙ q in false≢true cc))
          (λ z. no-yes (sym (follows-more s.left.now s.line (eqb-false (length s.left.now) 0 z)) ∙ q)) (cases_Bool (eqb (length s.left.now) 0))

      go : (o : Option Bool) → verdict line ≡ o → onwards s.line [] (lines s.left.now) ≡ says-yes first ps
      go none q = absurd (no-yes (sym (first_said handin yes-short f none q) ∙ yes))
      go (some true) q = sym (follows-yes s.left.now s.line) ∙ sym (p.read true) ∙ sym (first_said handin yes-short f (some true) q) ∙ yes
      go (some false) q = absurd (away (sym (p.read false) ∙ sym (first_said handin yes-short f (some false) q) ∙ yes))

-- the first line of a hand-in that says yes
pub yes-front : (s : Lines) (o : std.Option (Bor (List ℕ))) (t : Lines) → Gives s o t → {first : ℕ} {ps : List Place} → reading s.left.now ≡ says-yes first ps → (line : List ℕ) × Front s.left.now line t.left.now
yes-front s None t g e = absurd (yes-some s.left.now e g)
yes-front s (Some line) t g e = (line.now, g)

-- THE CONTRACT LEAVES NO FREEDOM: the answer, the states, their numbers of moves and the work area are settled.
use mathlib.Core.Path.{◌≡◌, sym, ap, ◌∙◌, subst}
use mathlib.Core.Logic.{⊎_elim}
use mathlib.Core.Bool.{true, false}
use mathlib.Core.List.{List, [], ◌∷◌, ◌++◌}
use mathlib.Core.Option.{some-injective}
use Prim.Native.Nat.{ℕ, ◌-◌, ◌<◌}
use native.Mathlib.Omega.{arith}
use borrow.Author.Tests.{eqb-true}
use lib.Dec.{eqb}
use lib.ListN.{length, take, drop, get_or, replicate, take-append-drop}
use lib.Seq.{ext_get_or, get_or-take, length-take-le}
use Rattle.std.proofs.lemmas.Bool.{cases_Bool}
use Rattle.std.specs.Prelude.{Result, Ok, Err}
use Rattle.rows.specs.Rows.{number_of}
use Rattle.rows.specs.declared.Refusal.{Refusal}
use Rattle.rows.proofs.Laws.{same-refusal}
use Rattle.limits.specs.Limits as limit
use Rattle.semantics.specs.Models.{Body, Program, Question, names}
use Rattle.semantics.proofs.Tools.{clash, no_none}
use Rattle.games.specs.Game.{Tells}
use Rattle.games.specs.Sides.{Hosts}
use Rattle.games.proofs.Holding.{tells-one}
use Rattle.search_states.proofs.Listed.{states-settled}
use Rattle.game_lists.specs.Lists.{Form}
use Rattle.game_answer.specs.declared.Game.{Game}
use Rattle.game_answer.specs.Telling.{owned, told, Telling, Refusing, Settles}

-- what a number tells says which number it is
told-one : (v w : ℕ) → told v ≡ told w → v ≡ w
unfolding told
told-one v w e = ⊎_elim
    (λ (p : eqb v limit.none ≡ true). ⊎_elim
    (λ (q : eqb w limit.none ≡ true). eqb-true v limit.none p ∙ sym (eqb-true w limit.none q))
    (λ (q : eqb w limit.none ≡ false). no_none {A = v ≡ w} (rw (p, q) at e))
    (cases_Bool (eqb w limit.none)))
    (λ (p : eqb v limit.none ≡ false). ⊎_elim
    (λ (q : eqb w limit.none ≡ true). no_none {A = v ≡ w} (sym (rw (p, q) at e)))
    (λ (q : eqb w limit.none ≡ false). some-injective v w (rw (p, q) at e))
    (cases_Bool (eqb w limit.none)))
    (cases_Bool (eqb v limit.none))

-- the ask has one form
abbrev first : Question → Body
first [] = []
first (b ∷ Q) = b

one-stage : (Q : Question) (b c : Body) (x y : ℕ) → Form Q b x → Form Q c y → b ≡ c
one-stage Q b c x y p q = ap first (sym p.0 ∙ q.0)

one-variable : (Q : Question) (b c : Body) (x y : ℕ) → Form Q b x → Form Q c y → x ≡ y
one-variable Q b c x y p q = ap (λ (ns : List ℕ). get_or ns 0 0) (sym p.1 ∙ ap names (one-stage Q b c x y p q) ∙ q.1)

module _ (P : Program) (Q : Question) (A B : List ℕ) where
  -- THE NUMBERS, where the states are the same
  number-one : (g h : Game) → Telling P Q A B g → Telling P Q A B h → g.states ≡ h.states → (i : ℕ) → i < g.count → i < h.count → get_or g.moves i 0 ≡ get_or h.moves i 0
  number-one g h x y e i l k =
      let H = x.played.row in
      let helpers = x.played.helpers in
      let p = x.played.so H helpers in
      let q = y.played.so H helpers in
      let G = p.arena in
      let there = subst (λ (b : Body). Hosts P H (owned A B) b y.variable G) (one-stage Q x.stage y.stage x.variable y.variable x.form y.form)
      (subst (λ (v : ℕ). Hosts P H (owned A B) x.stage v G) (one-variable Q x.stage y.stage x.variable y.variable x.form y.form) p.hosts) in
      let s = get_or h.states i 0 in
      let ours = subst (λ (r : List ℕ). Tells G (get_or r i 0) (told (get_or g.moves i 0))) e (p.tells G p.hosts i l) in
      told-one (get_or g.moves i 0) (get_or h.moves i 0) (tells-one G s (told (get_or g.moves i 0)) (told (get_or h.moves i 0)) ours (q.tells G there i k))

  moves-one : (g h : Game) → length g.moves ≡ limit.listed → length h.moves ≡ limit.listed → Telling P Q A B g → Telling P Q A B h → g.states ≡ h.states → g.count ≡ h.count → g.moves ≡ h.moves
  moves-one g h p q x y e c = sym (take-append-drop g.count g.moves) ∙ ap (λ (l : List ℕ). l ++ drop g.count g.moves) firsts ∙ ap (λ (l : List ℕ). take h.count h.moves ++ l) rest ∙ take-append-drop h.count h.moves
    where
      ours : length (take g.count g.moves) ≡ g.count
      ours = length-take-le g.count g.moves (omega (arith, p, x.listed.count))

      theirs : length (take h.count h.moves) ≡ h.count
      theirs = length-take-le h.count h.moves (omega (arith, q, y.listed.count))

      firsts : take g.count g.moves ≡ take h.count h.moves
      firsts = ext_get_or 0 (take g.count g.moves) (take h.count h.moves) (ours ∙ c ∙ sym theirs) (λ i l.
          let k : i < g.count = omega (arith, l, ours) in
          let j : i < h.count = omega (arith, k, c) in
          get_or-take g.count g.moves i 0 k ∙ number-one g h x y e i k j ∙ sym (get_or-take h.count h.moves i 0 j))

      rest : drop g.count g.moves ≡ drop h.count h.moves
      rest = x.blank ∙ ap (λ (k : ℕ). replicate (limit.listed - k) 0) c ∙ sym y.blank

  -- A REFUSAL is no told game, and has one number
  not-refused : (n : ℕ) (work work' v' : List ℕ) (g : Game) → Settles P Q A B work (Ok g) v' → Refusing P Q A B n work work' → ⊥
  not-refused n work work' v' g x r = ⊎_elim
      (λ q. clash q.1 x.0)
      (λ r. ⊎_elim (λ q. q.2 (x.2.stage, x.2.variable, x.2.form)) (λ q. x.1 q.3) r)
      r

  refused-one : (n k : ℕ) (work w w' : List ℕ) → Refusing P Q A B n work w → Refusing P Q A B k work w' → (n ≡ k) × (w ≡ w')
  refused-one n k work w w' x y = ⊎_elim
      (λ p. ⊎_elim (λ q. (p.0 ∙ sym q.0, p.2 ∙ sym q.2)) (λ y. ⊎_elim (λ q. clash p.1 q.1) (λ q. clash p.1 q.1) y) y)
      (λ x. ⊎_elim
      (λ p. ⊎_elim (λ q. clash q.1 p.1) (λ y. ⊎_elim (λ q. (p.0 ∙ sym q.0, p.3 ∙ sym q.3)) (λ q. absurd (p.2 q.2)) y) y)
      (λ p. ⊎_elim (λ q. clash q.1 p.1) (λ y. ⊎_elim (λ q. absurd (q.2 p.2)) (λ q. (p.0 ∙ sym q.0, p.4 ∙ sym q.4)) y) y)
      x)
      x

-- THE WHOLE, with the work area; an array of a told game has its length
abbrev pub Long : Result Game Refusal → Type 0
Long (Ok g) = (length g.states ≡ limit.listed) × (length g.moves ≡ limit.listed)
Long (Err x) = Unit {0}

same-game : (g h : Game) → g.states ≡ h.states → g.moves ≡ h.moves → g.count ≡ h.count → g ≡ h
same-game g h s m c =
    ap (λ (l : List ℕ). record { states = l; moves = g.moves; count = g.count }) s
    ∙ ap (λ (l : List ℕ). record { states = h.states; moves = l; count = g.count }) m
    ∙ ap (λ (k : ℕ). record { states = h.states; moves = h.moves; count = k }) c

pub settled : (P : Program) (Q : Question) (A B work : List ℕ) (g h : Result Game Refusal) (w w' : List ℕ) → Long g → Long h → Settles P Q A B work g w → Settles P Q A B work h w' → (g ≡ h) × (w ≡ w')
settled P Q A B work (Ok g) (Ok h) w w' p q x y =
    let s = states-settled P g.states h.states g.count h.count p.0 q.0 x.2.listed y.2.listed in
    (ap Ok (same-game g h s.0 (moves-one P Q A B g h p.1 q.1 x.2 y.2 s.0 s.1) s.1), x.3 ∙ sym y.3)
settled P Q A B work (Ok g) (Err z) w w' p q x y = absurd (not-refused P Q A B (number_of z.row) work w' w g x y.0)
settled P Q A B work (Err z) (Ok h) w w' p q x y = absurd (not-refused P Q A B (number_of z.row) work w w' h y x.0)
settled P Q A B work (Err z) (Err u) w w' p q x y =
    let e = refused-one P Q A B (number_of z.row) (number_of u.row) work w w' x.0 y.0 in
    (ap Err (same-refusal z u e.0 (x.1 ∙ sym y.1)), e.1)

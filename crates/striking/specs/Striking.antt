-- STRIKING LINES: a text without some of its `new` and `next` lines; which lines to strike (document 02, R-8), and how much of the policy matters (R-10).
use Rattle.std.specs.Prelude.{◌≡◌, ◌⊎◌, Bool, true, false, if◌then◌else◌, not, ◌||◌, List, [], ◌∷◌, ◌++◌, map, ℕ, suc, ◌+◌, ◌*◌, ◌^◌, ◌<◌, ◌==◌, nat_lt, length}
use Rattle.std.proofs.Math.Option.{Option, none, some}
use Rattle.semantics.specs.Models.{elem, is, Line, rule, new, next, other, Program, line, Question}
use Rattle.semantics.specs.Questions.{Reached}
use Rattle.semantics.specs.Cases.{never, some_a, turning}

-- the program without the lines of these numbers: "Removing lines renumbers none: the others keep their line numbers"
abbrev pub strike : Program → List ℕ → Program
strike [] L = []
strike (c ∷ P) L = if elem c.0 L then strike P L else c ∷ strike P L

-- THE LIST that is given. A line that may be struck: a `new` or a `next` line
abbrev pub strikable : Line → Bool
strikable (rule r xs b) = false
strikable (new s b) = true
strikable (next x plus minus b) = true
strikable other = false

-- each listed line may be struck
abbrev pub AllStrikable : Program → List ℕ → Type 0
AllStrikable P L = (ℓ : ℕ) → elem ℓ L ≡ true → strikable (line P ℓ) ≡ true

-- the list "names a line twice"
abbrev pub twice : List ℕ → Bool
twice [] = false
twice (x ∷ L) = elem x L || twice L

-- it "names one that is neither `new` nor `next`"
abbrev pub strange : Program → List ℕ → Bool
strange P [] = false
strange P (x ∷ L) = not (strikable (line P x)) || strange P L

-- "up to ten line numbers"
abbrev pub most : ℕ
most = 10

-- REFUSAL 19: "if the list is empty, over ten long, names a line twice or names one that is neither `new` nor `next`"
unfoldable pub faulty : Program → List ℕ → Bool
faulty P L = length L == 0 || (nat_lt most (length L) || (twice L || strange P L))

-- CHOICES. The numbers of the one list are among those of the other
abbrev pub Among : List ℕ → List ℕ → Type 0
Among C L = (x : ℕ) → elem x C ≡ true → elem x L ≡ true

-- each number is below those after it
abbrev pub Rising : List ℕ → Type 0
Rising [] = Unit {0}
Rising (x ∷ xs) = ((y : ℕ) → elem y xs ≡ true → x < y) × Rising xs

-- A CHOICE of the listed lines: some of them, in rising order
abbrev pub Choice : List ℕ → List ℕ → Type 0
Choice L C = Rising C × Among C L

-- of two equally small choices the one comes before the other: its "rising line numbers come first", number by number
abbrev pub Before : List ℕ → List ℕ → Type 0
Before [] D = ⊥
Before (x ∷ C) [] = ⊥
Before (x ∷ C) (y ∷ D) = (x < y) ⊎ ((x ≡ y) × Before C D)

-- THE CURE (R-8): "the fewest of these lines whose removal makes the verdict unreached"; "Among equally small choices, the one whose rising line numbers come first"
pub record Cure (P : Program) (Q : Question) (L C : List ℕ) : Type 0 where
  pub choice : Choice L C
  pub unreached : Reached (strike P C) Q → ⊥
  pub fewest : (D : List ℕ) → Choice L D → length D < length C → Reached (strike P D) Q
  pub first : (D : List ℕ) → Choice L D → length D ≡ length C → Before D C → Reached (strike P D) Q

-- "or that no choice does"
abbrev pub NoCure : Program → Question → List ℕ → Type 0
NoCure P Q L = (C : List ℕ) → Choice L C → Reached (strike P C) Q

-- the answer is right: a choice that is the cure, or none
abbrev pub Cured : Program → Question → List ℕ → Option (List ℕ) → Type 0
Cured P Q L none = NoCure P Q L
Cured P Q L (some C) = Cure P Q L C

-- ALL CHOICES. The numbers of a list in rising order, each once
abbrev pub insert : ℕ → List ℕ → List ℕ
insert x [] = x ∷ []
insert x (y ∷ ys) = if nat_lt x y then x ∷ y ∷ ys else (if x == y then y ∷ ys else y ∷ insert x ys)

abbrev pub rising : List ℕ → List ℕ
rising [] = []
rising (x ∷ xs) = insert x (rising xs)

-- the ways to take some of a list and leave the rest
abbrev pub parts : List ℕ → List (List ℕ)
parts [] = [] ∷ []
parts (x ∷ xs) = map (λ (C : List ℕ). x ∷ C) (parts xs) ++ parts xs

abbrev pub choices : List ℕ → List (List ℕ)
choices L = parts (rising L)

-- of the choices in a list so many are reached, and so many unreached
pub data Counts (P : Program) (Q : Question) : List (List ℕ) → ℕ → ℕ → Type 0 where
  nothing : Counts P Q [] 0 0
  reached : {C : List ℕ} {l : List (List ℕ)} {r u : ℕ} → Reached (strike P C) Q → Counts P Q l r u → Counts P Q (C ∷ l) (suc r) u
  unreached : {C : List ℕ} {l : List (List ℕ)} {r u : ℕ} → (Reached (strike P C) Q → ⊥) → Counts P Q l r u → Counts P Q (C ∷ l) r (suc u)

-- HOW MUCH OF THE POLICY MATTERS (R-10): "how many of the 2^m ways to keep some and strike the rest are reached and how many unreached", and
-- "the reached share in whole hundredths with its exact remainder: 100 × reached = share × 2^m + remainder, the remainder below 2^m"
pub record Tally (P : Program) (Q : Question) (L : List ℕ) (reached unreached share remainder : ℕ) : Type 0 where
  pub counts : Counts P Q (choices L) reached unreached
  pub hundredths : 100 * reached ≡ share * 2 ^ length L + remainder
  pub below : remainder < 2 ^ length L

-- "to keep some and strike the rest": those of the listed lines that are not kept
abbrev pub unkept : List ℕ → List ℕ → List ℕ
unkept [] K = []
unkept (x ∷ L) K = if elem x K then unkept L K else x ∷ unkept L K

-- EXAMPLES, with `(new (A))` on line 3 and `(next x (B) (A) (A x))` on line 4: `((B x))`,
abbrev pub some_b : Question
some_b = (is 1 0 ∷ []) ∷ []

-- and lines 1 to 11, `(new (A))` each, the last of them a rule
abbrev pub eleven : Program
eleven = map (λ (ℓ : ℕ). (ℓ, new 1 [])) (1 ∷ 2 ∷ 3 ∷ 4 ∷ 5 ∷ 6 ∷ 7 ∷ 8 ∷ 9 ∷ 10 ∷ []) ++ ((11, rule 32 [] []) ∷ [])

-- Of lines 4 and 3 either will do, and 3 comes first; of the four choices the empty one alone is reached, a quarter. Asked `((A x))`, no choice of line 4
-- does; and where nothing is created, nothing need be struck. Lines 3 and 9 come before 4 and 5. A list of ten is taken, and an unsorted one; refused are an
-- empty list, eleven lines, a line twice, a rule, and the numbers of no line.
pub record Struck : Type 0 where
  pub cure : Cured turning some_b (4 ∷ 3 ∷ []) (some (3 ∷ []))
  pub tally : Tally turning some_b (4 ∷ 3 ∷ []) 1 3 25 0
  pub all : choices (4 ∷ 3 ∷ []) ≡ (3 ∷ 4 ∷ []) ∷ (3 ∷ []) ∷ (4 ∷ []) ∷ [] ∷ []
  pub no-choice : Cured turning some_a (4 ∷ []) none
  pub already : Cured never some_a (3 ∷ []) (some [])
  pub order : Before (3 ∷ 9 ∷ []) (4 ∷ 5 ∷ [])
  pub ten : faulty eleven (10 ∷ 9 ∷ 8 ∷ 7 ∷ 6 ∷ 5 ∷ 4 ∷ 3 ∷ 2 ∷ 1 ∷ []) ≡ false
  pub empty : faulty eleven [] ≡ true
  pub over : faulty (map (λ (ℓ : ℕ). (ℓ, new 1 [])) (11 ∷ 10 ∷ 9 ∷ 8 ∷ 7 ∷ 6 ∷ 5 ∷ 4 ∷ 3 ∷ 2 ∷ 1 ∷ [])) (11 ∷ 10 ∷ 9 ∷ 8 ∷ 7 ∷ 6 ∷ 5 ∷ 4 ∷ 3 ∷ 2 ∷ 1 ∷ []) ≡ true
  pub again : faulty eleven (2 ∷ 1 ∷ 2 ∷ []) ≡ true
  pub ruled : faulty eleven (1 ∷ 11 ∷ []) ≡ true
  pub nowhere : faulty eleven (0 ∷ []) ≡ true
  pub past : faulty eleven (12 ∷ []) ≡ true

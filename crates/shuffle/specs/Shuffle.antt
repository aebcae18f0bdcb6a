-- TWO RUNS AT ONE DESK: two runs of one text, each with its own objects, are played on one database.
use Rattle.std.specs.Prelude.{◌≡◌, Bool, true, false, if◌then◌else◌, List, [], ◌∷◌, ◌++◌, map, ℕ, zero, suc, ◌+◌, ◌<◌, length}
use Rattle.std.proofs.Math.Option.{Option, none, some}
use Rattle.semantics.specs.Models.{Line, rule, new, next, other, Program, line, Question}
use Rattle.semantics.specs.Facts.{Database, state}
use Rattle.semantics.specs.Steps.{Pair, Steps}
use Rattle.semantics.specs.Runs.{Place, step, meet, Session, nobody, start, Allowed, after, Kept, played}
use Rattle.semantics.specs.Cases.{office, promotion}

-- the places are allowed one after the other; stages may be left unmet at the end
abbrev pub Begins : Program → Question → Session → List Place → Type 0
Begins P Q s [] = Unit {0}
Begins P Q s (p ∷ ps) = Allowed P Q s p × Begins P Q (after P Q s p) ps

-- whose it is
pub data Side : Type 0 where
  left right : Side

-- x if b is a, and y otherwise
abbrev pub whose : {A : Type 0} → Side → Side → A → A → A
whose left left x y = x
whose left right x y = y
whose right left x y = y
whose right right x y = x

-- A SHUFFLE: places in a row, each said to be of one of the two runs
pub data Turn : Type 0 where
  turn : Side → Place → Turn

-- the places of one of them, as they come
abbrev pub own : Side → List Turn → List Place
own b [] = []
own b (turn a p ∷ zs) = whose b a (p ∷ own b zs) (own b zs)

-- "every way that preserves each one's order": the places of each side are those of its run, in their order
abbrev pub Shuffle : List Place → List Place → List Turn → Type 0
Shuffle ps qs zs = (own left zs ≡ ps) × (own right zs ≡ qs)

-- "RENUMBERED BY CREATION". The line makes an object.
abbrev pub creates : Line → Bool
creates (rule r xs b) = false
creates (new s b) = true
creates (next x plus minus b) = false
creates other = false

-- who makes the objects of the shuffle, in order of creation
abbrev pub makers : Program → List Turn → List Side
makers P [] = []
makers P (turn a (step ℓ o) ∷ zs) = if creates (line P ℓ) then a ∷ makers P zs else makers P zs
makers P (turn a (meet i os) ∷ zs) = makers P zs

-- 0 for object 0, and for each other one more than f says of the one before
abbrev pub ahead : (ℕ → ℕ) → ℕ → ℕ
ahead f zero = 0
ahead f (suc o) = suc (f o)

-- the number that object o of side b gets: how many objects are made before it, by either side
abbrev pub number : Side → List Side → ℕ → ℕ
number b [] o = o
number b (a ∷ ms) o = whose b a (ahead (number b ms) o) (suc (number b ms o))

-- how many objects side b makes
abbrev pub count : Side → List Side → ℕ
count b [] = 0
count b (a ∷ ms) = whose b a (suc (count b ms)) (count b ms)

-- a place with its objects renumbered
abbrev pub renumber : (ℕ → ℕ) → Place → Place
renumber n (step ℓ o) = step ℓ (n o)
renumber n (meet i os) = meet i (map n os)

abbrev pub renamed : (ℕ → ℕ) → Option ℕ → Option ℕ
renamed n none = none
renamed n (some c) = some (n c)

-- THE DESK: one database, and for each side how many stages it has met, and its carried objects
pub record Desk : Type 0 where
  pub db : Database
  pub met : Side → ℕ
  pub carried : Side → ℕ → Option ℕ

abbrev pub empty : Desk
empty = record { db = []; met = λ b. 0; carried = λ b. nobody }

-- what a side sees of it
abbrev pub seen : Desk → Side → Session
seen d b = record { db = d.db; met = d.met b; carried = d.carried b }

-- one side plays a place
abbrev pub desk_after : Program → Question → Desk → Side → Place → Desk
desk_after P Q d a p = record { db = (after P Q (seen d a) p).db; met = λ b. whose b a (after P Q (seen d a) p).met (d.met b); carried = λ b. whose b a (after P Q (seen d a) p).carried (d.carried b) }

-- THE DESK HAS WHAT THE RUNS GAVE: s is where each run stands by itself, and n how its objects are numbered
pub record Joined (n : Side → ℕ → ℕ) (s : Side → Session) (d : Desk) : Type 0 where
  -- each object of either run is there, in the state that its own run gave it
  pub each : (b : Side) (o : ℕ) → o < length (s b).db → (n b o < length d.db) × (state d.db (n b o) ≡ state (s b).db o)
  -- there are no others
  pub all : (q : ℕ) → q < length d.db → (b : Side) × (o : ℕ) × (o < length (s b).db) × (n b o ≡ q)
  -- and none is two
  pub one : (a b : Side) (o p : ℕ) → o < length (s a).db → p < length (s b).db → n a o ≡ n b p → (a ≡ b) × (o ≡ p)
  -- the objects of each run are in their order
  pub rising : (b : Side) (o p : ℕ) → o < p → n b o < n b p
  pub many : length d.db ≡ length (s left).db + length (s right).db
  -- "counted for each run by itself"
  pub met : (b : Side) → d.met b ≡ (s b).met
  pub carried : (b : Side) (x : ℕ) → d.carried b x ≡ renamed (n b) ((s b).carried x)

-- the desk after the turns, whose objects are numbered by n
abbrev pub desk_played : Program → Question → (Side → ℕ → ℕ) → Desk → List Turn → Desk
desk_played P Q n d [] = d
desk_played P Q n d (turn a p ∷ zs) = desk_played P Q n (desk_after P Q d a (renumber (n a) p)) zs

-- the steps of the shuffle, with their objects renumbered
abbrev pub steps : (Side → ℕ → ℕ) → List Turn → List Pair
steps n [] = []
steps n (turn a (step ℓ o) ∷ zs) = (ℓ, n a o) ∷ steps n zs
steps n (turn a (meet i os) ∷ zs) = steps n zs

-- the same with the meetings of one side
abbrev pub heard : (Side → ℕ → ℕ) → Side → List Turn → List Place
heard n b [] = []
heard n b (turn a (step ℓ o) ∷ zs) = step ℓ (n a o) ∷ heard n b zs
heard n b (turn a (meet i os) ∷ zs) = whose b a (meet i (map (n a) os) ∷ heard n b zs) (heard n b zs)

-- the numbers that a shuffle gives
abbrev pub numbers : Program → List Turn → Side → ℕ → ℕ
numbers P zs b o = number b (makers P zs) o

-- THE SHUFFLE IS A RUN, AND THE DESK ENDS WITH WHAT BOTH RUNS GAVE
pub record AtOneDesk (P : Program) (Q : Question) (ps qs : List Place) (zs : List Turn) : Type 0 where
  -- its steps are allowed one after the other from the empty database, and lead to the desk's
  pub run : Steps P [] (steps (numbers P zs) zs) (desk_played P Q (numbers P zs) empty zs).db
  -- each place, a meeting too, is allowed where it comes to the side whose turn it is
  pub allowed : (ys ws : List Turn) (a : Side) (p : Place) → zs ≡ ys ++ turn a p ∷ ws → Allowed P Q (seen (desk_played P Q (numbers P zs) empty ys) a) (renumber (numbers P zs a) p)
  -- after each place the desk has what the places of each run so far give from the empty database
  pub through : (ys ws : List Turn) → zs ≡ ys ++ ws → Joined (numbers P zs) (λ b. played P Q (start []) (own b ys)) (desk_played P Q (numbers P zs) empty ys)
  -- an object's number is known when it is made: what comes later changes none
  pub early : (ys ws : List Turn) → zs ≡ ys ++ ws → (b : Side) (o : ℕ) → o < length (played P Q (start []) (own b ys)).db → numbers P zs b o ≡ numbers P ys b o
  -- up to a place of a side, all steps with that side's meetings are a run of the text
  pub hears : (ys ws : List Turn) (b : Side) (p : Place) → zs ≡ ys ++ turn b p ∷ ws → Begins P Q (start []) (heard (numbers P zs) b (ys ++ turn b p ∷ []))
  -- at the end
  pub ends : Joined (numbers P zs) (λ b. whose b left (played P Q (start []) ps) (played P Q (start []) qs)) (desk_played P Q (numbers P zs) empty zs)

-- AN EXAMPLE, with the office: the run that document 01 gives,
abbrev pub hired : List Place
hired = step 4 0 ∷ step 5 1 ∷ meet 1 (1 ∷ []) ∷ step 6 1 ∷ meet 2 (1 ∷ []) ∷ []

-- one that is left before its last stage,
abbrev pub pausing : List Place
pausing = step 5 0 ∷ meet 1 (0 ∷ []) ∷ step 4 1 ∷ step 6 0 ∷ []

-- and one of their shuffles
abbrev pub mixed : List Turn
mixed =
    turn right (step 5 0)
    ∷ turn left (step 4 0)
    ∷ turn left (step 5 1)
    ∷ turn right (meet 1 (0 ∷ []))
    ∷ turn left (meet 1 (1 ∷ []))
    ∷ turn right (step 4 1)
    ∷ turn left (step 6 1)
    ∷ turn left (meet 2 (1 ∷ []))
    ∷ turn right (step 6 0)
    ∷ []

-- its steps; the objects at the end; and that the shuffle with the left side's meetings, up to its last, is kept
pub record Mixed : Type 0 where
  pub desk : AtOneDesk office promotion hired pausing mixed
  pub worked : steps (numbers office mixed) mixed ≡ (5, 0) ∷ (4, 1) ∷ (5, 2) ∷ (4, 3) ∷ (6, 2) ∷ (6, 0) ∷ []
  pub ended : (desk_played office promotion (numbers office mixed) empty mixed).db ≡ 3 ∷ 1 ∷ 3 ∷ 1 ∷ []
  pub kept : Kept office promotion (step 5 0 ∷ step 4 1 ∷ step 5 2 ∷ meet 1 (2 ∷ []) ∷ step 4 3 ∷ step 6 2 ∷ meet 2 (2 ∷ []) ∷ [])

-- THE WALK of the carried objects along the levels, from a pair of slots of the last level back.
-- A slot is a place in the row of found states. One object of each state stands by; the first carried variable's object is made behind them, and then the second's, if they are not there.
use Rattle.std.specs.Prelude as std
use Rattle.std.specs.Prelude.{◌≡◌, ◌⊎◌, ◌≢◌, Bool, true, false, if◌then◌else◌, List, [], ℕ, suc, ◌+◌, ◌-◌, ◌*◌, ◌≤◌, ◌<◌, length, slice_index_or}
use Rattle.std.proofs.Math.Option.{Option, none, some}
use Rattle.limits.specs.Limits as limit
use Rattle.semantics.specs.Models.{elem, vars}
use Rattle.semantics.specs.Facts.{Database, state}
use Rattle.semantics.specs.Runs.{Place, Plays}
use Rattle.semantics.specs.Building.{session, places, with}
use Rattle.semantics.specs.Walkers.{Whole, Way, Comes, Stand, Copy, Walking, Touches}
use Rattle.model.specs.declared.Model.{Model}
use Rattle.model.specs.Records.{program_of, question_of, carried_at}
use Rattle.facts_bits.specs.Bits.{in_row}
use Rattle.search_states.specs.declared.States.{States}
use Rattle.search_states.specs.States.{row}
use Rattle.search_ways.specs.Moves.{Marks, CanTake}
use Rattle.search_ways.specs.Steps.{Between, OneStep}
use Rattle.search_levels.specs.Levels.{holder, chosen, pair_at, Moved, Filled}
use Rattle.witness_lineage.specs.Lineage.{making}
use Rattle.witness_meetings.specs.declared.Cast.{Cast}
use Rattle.witness_meetings.specs.Meetings.{Known, Written, pair}

-- no line adds a state, and the tables have the moves and the single steps between the found states
pub record Mapped (m : Model) (s : States) (table steps : List ℕ) : Type 0 where
  pub whole : Whole (program_of m) (row s)
  pub moves : Marks table (CanTake m s)
  pub single : Marks steps (Between s.count (OneStep (program_of m) (row s)))

-- WHAT THE SEARCH RECORDED: the states with their facts and moves, who can come from which to which, and the pairs of each level
pub record Recorded (m : Model) (w : List ℕ) (s : States) (rows table steps ways : List ℕ) : Type 0 where
  pub known : Known m w s
  pub mapped : Mapped m s table steps
  pub comes : Marks ways (Between s.count (λ e t. Comes (program_of m) (row s) (state (row s) e) (state (row s) t)))
  -- whatever stage 1 asks besides
  pub asked : std.Option (List ℕ)
  pub levels : Filled m (row s) w ways asked (record { rows = rows })

-- ERRANDS: what a carried object does before a stage is met. Whether its variable stands in the stage, and whether it stood in one before, decide it.
-- It can come to slot e: where it is made, e is the slot of a state, and where it was in slot u, it can come to e from there.
abbrev pub Ready : Model → States → Bool → Bool → ℕ → ℕ → Type 0
Ready m s false began u e = Unit {0}
Ready m s true false u e = e < s.count
Ready m s true true u e = Between s.count (λ i j. Comes (program_of m) (row s) (state (row s) i) (state (row s) j)) u e

-- the places by which object o comes to slot e: none, its making, or a way from slot u
abbrev pub Errand : Model → States → ℕ → Bool → Bool → ℕ → ℕ → List Place → Type 0
Errand m s o false began u e ps = ps ≡ []
Errand m s o true false u e ps = ps ≡ making m s o e
Errand m s o true true u e ps = (ls : List ℕ) × Way (program_of m) (row s) (state (row s) u) ls (state (row s) e) × (ps ≡ places (with o ls))

-- how many these are at most, where there are n states
abbrev pub effort : ℕ → Bool → Bool → ℕ
effort n false began = 0
effort n true false = n
effort n true true = n - 1

-- A POST of the run: the stages met, the objects that their meetings carried, the states of the walkers and their objects, and how many objects there are
pub record Post : Type 0 where
  pub met : ℕ
  pub carried : ℕ → Option ℕ
  pub states : Stand
  pub objects : ℕ → Option ℕ
  pub many : ℕ

-- THE GROUND on which a walk goes: a database, the walkers that are there from the start, and beside the carried objects others that are named, in these states
pub record Ground : Type 0 where
  pub database : Database
  pub given : ℕ → Option ℕ
  pub others : ℕ → Option ℕ
  pub stand : Stand

-- it is one for the cast, from level `until` on: one object of each state stands by and is no walker; a first object that is still to be made comes right before the second; the others stand in no stage to come, but for a carried variable
pub record Fits (m : Model) (s : States) (cast : Cast) (until : ℕ) (g : Ground) : Type 0 where
  pub copy : Copy (row s) g.database (λ o. cast.base + o)
  pub free : (x i : ℕ) → i < length (row s) → g.given x ≢ some (cast.base + i)
  pub order : (k : ℕ) → until ≤ k → chosen m 0 k ≡ false → cast.second ≡ suc cast.first
  pub alike : (x : ℕ) → g.others x ≡ none → g.stand x ≡ none
  pub aside : (x k : ℕ) → until ≤ k → elem x (vars (slice_index_or (question_of m) k [])) ≡ true → x ≢ carried_at m 0 → x ≢ carried_at m 1 → g.others x ≡ none

-- the places are played to the end from the post, whatever database of the ground it is reached with
abbrev pub PlaysFrom : Model → Ground → Post → List Place → Type 0
PlaysFrom m g p ps = (d : Database) → Walking g.database g.given d p.states p.objects → length d ≡ p.many → Plays (program_of m) (question_of m) (session d p.met p.carried) ps

-- x where there is an object
abbrev pub there : Bool → ℕ → Option ℕ
there c x = if c then some x else none

-- the objects of the two carried variables, where c and d say whether these are there, and the others
abbrev pub walkers : Model → Cast → Ground → Bool → Bool → ℕ → Option ℕ
walkers m cast g c d = pair m g.others (there c cast.first) (there d cast.second)

-- the post with i stages met, whose meetings carried the objects k, and the two in slots e and f, as far as they are there
abbrev pub stance : Model → States → Cast → Ground → ℕ → (ℕ → Option ℕ) → Bool → ℕ → Bool → ℕ → Post
stance m s cast g i k c e d f = record {
  met = i;
  carried = k;
  states = pair m g.stand (there c (state (row s) e)) (there d (state (row s) f));
  objects = walkers m cast g c d;
  many = if d then suc cast.second else (if c then cast.second else cast.first);
}

-- the same where those are carried that stood in one of these stages
abbrev pub post : Model → States → Cast → Ground → ℕ → Bool → ℕ → Bool → ℕ → Post
post m s cast g i = stance m s cast g i (walkers m cast g (chosen m 0 i) (chosen m 1 i))

-- the places are played from there to the end on every ground for the cast, and lead the carried objects alone
pub record Goes (m : Model) (s : States) (cast : Cast) (until i : ℕ) (c : Bool) (e : ℕ) (d : Bool) (f : ℕ) (ps : List Place) : Type 0 where
  pub plays : (g : Ground) → Fits m s cast until g → PlaysFrom m g (post m s cast g i c e d f) ps
  pub touches : Touches (λ o. (o ≡ cast.first) ⊎ (o ≡ cast.second)) ps

-- the pair of slots e f is on level i
abbrev pub Sits : List ℕ → ℕ → ℕ → ℕ → Type 0
Sits rows i e f = (e < limit.listed) × (f < limit.listed) × (pair_at rows i e f ≡ true)

-- the pair u v of level k leads to the pair e f of the next level
abbrev pub LeadsTo : Model → List ℕ → List ℕ → ℕ → ℕ → ℕ → ℕ → ℕ → Type 0
LeadsTo m rows ways k e f u v = Sits rows k u v × Moved ways (holder m 0 k) (chosen m 0 k) u e × Moved ways (holder m 1 k) (chosen m 1 k) v f

-- slot u of row j goes with an object that can go from it to slot e
abbrev pub Source : List ℕ → List ℕ → ℕ → Bool → Bool → ℕ → ℕ → Type 0
Source rows ways j stands began e u = (in_row rows j u ≡ true) × Moved ways stands began u e

-- the steps that a carried object may have taken before level i, where there are n states: n for its making, and n - 1 before each later meeting, together 1 + i (n - 1)
abbrev pub ahead : ℕ → ℕ → Bool → ℕ
ahead n i c = if c then suc (i * (n - 1)) else 0

-- BEHIND the pair e f of level i the run is written: it is played from there to its end, and what is still to come fits
pub record Behind (m : Model) (s : States) (cast : Cast) (until : ℕ) (rows run₀ run : List ℕ) (i e f at : ℕ) : Type 0 where
  pub level : i ≤ m.stagecount
  pub above : until ≤ i
  pub sits : Sits rows i e f
  pub most : ℕ
  pub played : Written (Goes m s cast until i (chosen m 0 i) e (chosen m 1 i) f) most run₀ 0 run at
  pub few : most + i + ahead s.count i (chosen m 0 i) + ahead s.count i (chosen m 1 i) ≤ m.stagecount + limit.carried * suc (m.stagecount * (s.count - 1))

-- The run that builds the states and walks on is kept, fits, and ends with a meeting.
use mathlib.Core.Path.{◌≡◌, refl, sym, ap, ◌∙◌, subst, fun_ext}
use mathlib.Core.Bool.{false}
use mathlib.Core.List.{List, [], ◌∷◌, ◌++◌, map, map-append, reverse}
use mathlib.Core.Option.{Option, none, some}
use Prim.Native.Nat.{ℕ, suc, ◌+◌, ◌-◌, ◌≤◌, ◌<◌}
use native.Mathlib.Omega.{arith}
use native.Mathlib.Nat.{mul-le-mul, zero-add}
use lib.ListN.{length, take, drop, get_or, length-append, length-map, get_or-map}
use lib.Seq.{take_at, get_or_at, get_or-take}
use Rattle.limits.specs.Limits as limit
use Rattle.semantics.specs.Models.{Program, Question}
use Rattle.semantics.specs.Facts.{Database}
use Rattle.semantics.specs.Steps.{Steps}
use Rattle.semantics.specs.Runs.{Place, step, meet, Session, start, nobody, after, Plays, Kept}
use Rattle.semantics.specs.PlayingOn.{PlayingOn}
use Rattle.semantics.specs.Building.{session, Leads}
use Rattle.semantics.specs.Walkers.{Stand, Walking, raise}
use Rattle.semantics.proofs.Tools.{no_none}
use Rattle.semantics.proofs.Leads.{leads-plays, steps-lead, kept-length}
use Rattle.semantics.proofs.Playing.{playing-on}
use Rattle.semantics.proofs.WalkersBuild.{raised, length-raise}
use Rattle.model.specs.declared.Model.{Model}
use Rattle.model.specs.Records.{program_of, question_of}
use Rattle.model.specs.WellFormed.{WellFormed}
use Rattle.model.specs.Places.{number_of, place_of}
use Rattle.model.proofs.Accepted.{stages}
use Rattle.search_states.specs.declared.States.{States}
use Rattle.search_states.specs.States.{row, by, from}
use Rattle.search_states.proofs.Laws.{length-row}
use Rattle.witness_table.specs.Runs.{numbers, backwards}
use Rattle.witness_table.proofs.Laws.{length-backwards, turned, decoded-numbers}
use Rattle.witness_lineage.specs.Lineage.{building}
use Rattle.witness_lineage.proofs.Making.{length-steps, numerable-building}
use Rattle.witness_meetings.specs.declared.Cast.{Cast}
use Rattle.witness_meetings.specs.Meetings.{Known, Written, pair}
use Rattle.witness_walk.specs.Walk.{Recorded, Ground, Fits, Goes, Behind}
use Rattle.witness_walk.proofs.Laws.{written_on, behind-few}
use Rattle.witness_walk.proofs.Pairs.{pair-each}
use Rattle.witness.specs.Witness.{Shown}

-- what is played to its end ends with the meeting of the last stage
pub plays-last : (P : Program) (Q : Question) (s : Session) (ps : List Place) → Plays P Q s ps → s.met < length Q
    → (first : List Place) × (os : List ℕ) × (ps ≡ first ++ (meet (length Q) os ∷ []))
plays-last P Q s [] h l = absurd (omega (arith, h))
plays-last P Q s (step ℓ o ∷ ps) h l = let t = plays-last P Q (after P Q s (step ℓ o)) ps h.1 l in (step ℓ o ∷ t.0, t.1, ap (λ (qs : List Place). step ℓ o ∷ qs) t.2)
plays-last P Q s (meet i os ∷ []) h l = ([], os, ap (λ (n : ℕ). meet n os ∷ []) (h.0.1 ∙ h.1))
plays-last P Q s (meet i os ∷ step ℓ o ∷ ps) h l =
    let t = plays-last P Q (after P Q s (meet i os)) (step ℓ o ∷ ps) h.1 h.1.0.0 in (meet i os ∷ t.0, t.1, ap (λ (qs : List Place). meet i os ∷ qs) t.2)
plays-last P Q s (meet i os ∷ meet j ps ∷ qs) h l =
    let t = plays-last P Q (after P Q s (meet i os)) (meet j ps ∷ qs) h.1 h.1.0.0 in (meet i os ∷ t.0, t.1, ap (λ (qs : List Place). meet i os ∷ qs) t.2)

-- THE TABLE IS TURNED ROUND
module _ (G : List Place → Type 0) (most : ℕ) (run run₂ : List ℕ) (r : ℕ) (h : Written G most run 0 run₂ r) (fits : most ≤ length run) where
  count : r ≡ length h.places
  count = omega (arith, h.index)

  pub turn-fits : r ≤ length run₂
  turn-fits = omega (arith, count, h.few, ap length h.written, length-backwards run 0 h.places)

  module _ (run' : List ℕ) (e : run' ≡ reverse (take r run₂) ++ drop r run₂) where
    pub turn-written : run' ≡ numbers h.places ++ drop r run
    turn-written = e ∙ (rw (h.written, count) (turned run h.places (omega (arith, h.few))))

    pub turn-decoded : map place_of (take r run') ≡ map some h.places
    turn-decoded = ap (λ (t : List ℕ). map place_of (take r t)) turn-written ∙ ap (map place_of) (take_at (numbers h.places) (drop r run) r (length-map h.places number_of ∙ sym count)) ∙ decoded-numbers h.places h.numerable

module _ (m : Model) (w : List ℕ) (s : States) (known : Known m w s) where
  pub some-stage : 0 < length (question_of m)
  some-stage = rw (stages m known.model) known.model.one

  -- ONE OBJECT OF EACH STATE IS BUILT behind the database D
  pub building-leads : (D : Database) (k : ℕ → Option ℕ) → Leads (program_of m) (question_of m) (session D 0 k) (building m s (length D) s.count) (session (D ++ row s) 0 k)
  building-leads D k = steps-lead (program_of m) (question_of m) D (D ++ row s) 0 k (raise (program_of m) (by s) (from s) (length D) s.count) some-stage
      (subst (λ (n : ℕ). Steps (program_of m) D (raise (program_of m) (by s) (from s) (length D) n) (D ++ row s)) (length-row s known.proper) (raised (program_of m) known.model.safe (row s) (by s) (from s) known.found D))

  -- in at most 8,128 steps
  pub building-few : (b : ℕ) → length (building m s b s.count) ≤ limit.built
  building-few b =
      let few = known.proper.count in
      omega (
        arith,
        length-steps (raise (program_of m) (by s) (from s) b s.count),
        length-raise (program_of m) (row s) (by s) (from s) known.found b s.count (omega (arith, length-row s known.proper)),
        mul-le-mul few (let k : suc s.count ≤ limit.listed = omega arith in k),
      )

  pub building-written : (b : ℕ) → b + s.count ≤ limit.objects → (run run' : List ℕ) (at at' : ℕ) → at' ≡ at + length (building m s b s.count) → run' ≡ backwards run at (building m s b s.count)
      → Written (λ ps. ps ≡ building m s b s.count) limit.built run at run' at'
  building-written b small run run' at at' index written = record {
    places = building m s b s.count;
    good = refl;
    few = building-few b;
    numerable = numerable-building m known.model s known.proper known.found b s.count (omega arith) small;
    written = written;
    index = index;
  }

-- FROM THE EMPTY DATABASE the objects of the states come first, and then those of the carried variables
module _ (m : Model) (w : List ℕ) (s : States) (rows table steps ways : List ℕ) (rec : Recorded m w s rows table steps ways) where
  abbrev plain : Cast
  plain = record { base = 0; first = s.count; second = s.count + 1 }

  abbrev ground : Ground
  ground = record { database = row s; given = nobody; others = nobody; stand = nobody }

  fit : Fits m s plain 0 ground
  fit = record {
    copy = λ i l. (rw zero-add l, rw zero-add refl);
    free = λ x i l. no_none;
    order = λ k l z. omega arith;
    alike = λ x z. refl;
    aside = λ x k l i n o. refl;
  }

  nothing : (x : ℕ) → pair m nobody none none x ≡ none
  nothing x = pair-each m (λ (y z : Option ℕ). y ≡ none) nobody nobody none none none none x (λ q. refl) (λ q. refl) (λ n p. refl)

  begin : Walking (row s) nobody (row s) (pair m nobody none none) (pair m nobody none none)
  begin = subst (λ (f : Stand). Walking (row s) nobody (row s) f f) (sym (fun_ext nothing))
      (record { grown = omega arith; each = λ x. tt; apart = λ x y o n p q. no_none p; stays = λ o l n. refl; old = λ x o q l. no_none q })

  kept : (ps qs : List Place) → ps ≡ building m s 0 s.count → (e f : ℕ) → Goes m s plain 0 0 false e false f qs → Kept (program_of m) (question_of m) (ps ++ qs)
  kept ps qs q e f h = rw q (leads-plays (program_of m) (question_of m) (start []) (session (row s) 0 nobody) (building m s 0 s.count) qs (building-leads m w s rec.known [] nobody)
      (subst (λ (g : ℕ → Option ℕ). Plays (program_of m) (question_of m) (session (row s) 0 g) qs) (fun_ext nothing) (h.plays ground fit (row s) begin (length-row s rec.known.proper))))

  pub whole : (run run₁ run₂ : List ℕ) (e f n r : ℕ) → Behind m s plain 0 rows run run₁ 0 e f n → r ≡ n + length (building m s 0 s.count) → run₂ ≡ backwards run₁ n (building m s 0 s.count)
      → Written (Kept (program_of m) (question_of m)) limit.shown run 0 run₂ r
  whole run run₁ run₂ e f n r k index written =
      let few = rec.known.proper.count in
      let p = written_on _ _ (Kept (program_of m) (question_of m)) (λ ps qs a b. kept ps qs a e f b) k.most limit.built run run₁ run₂ 0 n r k.played (building-written m w s rec.known 0 (omega arith) run₁ run₂ n r index written) in
      record { places = p.places; good = p.good; few = omega (arith, p.few, behind-few m w s rows table steps ways rec plain 0 run run₁ 0 e f n k); numerable = p.numerable; written = p.written; index = p.index }

  pub shown : (run run₂ : List ℕ) (r : ℕ) → Written (Kept (program_of m) (question_of m)) limit.shown run 0 run₂ r → limit.shown ≤ length run → (run' : List ℕ) → run' ≡ reverse (take r run₂) ++ drop r run₂ → Shown m run run' r
  shown run run₂ r h long run' e = record {
    places = h.places;
    kept = h.good;
    index = omega (arith, h.index);
    few = omega (arith, h.index, h.few);
    written = turn-written _ limit.shown run run₂ r h long run' e;
    decoded = turn-decoded _ limit.shown run run₂ r h long run' e;
    last = subst (λ (n : ℕ). (first : List Place) × (os : List ℕ) × (h.places ≡ first ++ (meet n os ∷ []))) (stages m rec.known.model) (plays-last (program_of m) (question_of m) (start []) h.places h.good (some-stage m w s rec.known));
  }

-- the table's last number stands for the run's last place
pub last-number : (run : List ℕ) (r : ℕ) (places first : List Place) (p : Place) → r ≡ length places → map place_of (take r run) ≡ map some places → places ≡ first ++ (p ∷ []) → (1 ≤ r) × (place_of (get_or run (r - 1) 0) ≡ some p)
last-number run r places first p index decoded last = (omega (arith, long), subst (λ (o : Option Place). o ≡ some p) at_last (get_or_at (map some first) _ [] (place_of 0) (r - 1) (omega (arith, long, length-map first (λ (p : Place). some p)))))
  where
    long : r ≡ length first + 1
    long = index ∙ ap length last ∙ length-append first _

    at_last : get_or (map some first ++ (some p ∷ [])) (r - 1) (place_of 0) ≡ place_of (get_or run (r - 1) 0)
    at_last =
        ap (λ (os : List (Option Place)). get_or os (r - 1) (place_of 0)) (sym (map-append (λ (p : Place). some p) first (p ∷ [])) ∙ ap (map some) (sym last) ∙ sym decoded)
        ∙ get_or-map place_of (take r run) (r - 1) 0 ∙ ap place_of (get_or-take r run (r - 1) 0 (omega (arith, long)))

-- WHAT FOLLOWS for a shown run
module _ (m : Model) (run run' : List ℕ) (r : ℕ) (h : Shown m run run' r) where
  -- its last place is the meeting of the last stage
  pub last-place : (1 ≤ r) × (place_of (get_or run' (r - 1) 0) ≡ some (meet m.stagecount h.last.1))
  last-place = last-number run' r h.places h.last.0 (meet m.stagecount h.last.1) h.index h.decoded h.last.2

  -- demand 3: it is played on after any list of pairs, and has at most 9,344 steps
  pub played-on : WellFormed m → PlayingOn (program_of m) (question_of m) limit.run h.places
  played-on w = playing-on (program_of m) w.safe (question_of m) h.places h.kept limit.run (omega (arith, h.few, h.index, kept-length (program_of m) (question_of m) h.places h.kept))

-- A run, place by place.
use mathlib.Core.Path.{◌≡◌, refl, sym, ap, ◌∙◌, subst, fun_ext}
use mathlib.Core.Logic.{inl, inr, ◌≢◌}
use mathlib.Core.Bool.{true}
use mathlib.Core.List.{List, [], ◌∷◌}
use mathlib.Core.Option.{some}
use Prim.Native.Nat.{ℕ, zero, suc, ◌+◌, ◌≤◌, ◌<◌}
use Rattle.std.specs.Prelude.{Option, None}
use native.Mathlib.Omega.{arith}
use native.Mathlib.Numerals.{add-one}
use native.Mathlib.Nat.{not-suc-le-zero}
use lib.ListN.{length, take, drop, get_or, length-set, length-replicate, get_or-replicate, drop_of_length-le}
use lib.Seq.{drop-cons, length-take-le}
use Rattle.limits.specs.Limits as limit
use Rattle.semantics.specs.Models.{Line, rule, new, next, other, Program, line, Question, carriers}
use Rattle.semantics.specs.Facts.{Database}
use Rattle.semantics.specs.Steps.{Enabled}
use Rattle.semantics.specs.Runs as runs
use Rattle.semantics.specs.Runs.{step, meet, start, Allowed, after}
use Rattle.model.specs.declared.Model.{Model}
use Rattle.model.specs.Records.{program_of, question_of}
use Rattle.model.specs.Places.{place_of, Numerable}
use Rattle.model.specs.WellFormed.{WellFormed}
use Rattle.model.proofs.Places.{number-of-place}
use Rattle.model.proofs.Accepted.{stages}
use Rattle.facts_table.specs.Table.{Consistent}
use Rattle.std.specs.Prelude.{Option, Some}
use Rattle.facts_plans.specs.declared.ClausePlan.{ClausePlan}
use Rattle.facts_derived.specs.declared.Stock.{Stock}
use Rattle.facts_derived.specs.Stocks.{ExactFor, StockedIfAny, Enough, Supplied}
use Rattle.facts_derived.proofs.Users.{any, there, supplied}
use Rattle.replay_session.specs.declared.Answer.{Answer}
use Rattle.replay_session.specs.declared.Answer.TheVariants.{Kept, Broken}
use Rattle.replay_session.specs.declared.Session.{Session}
use Rattle.replay_session.specs.Sessions.{stepped}
use Rattle.replay_session.specs.Records.{session_of, Fits, taken}
use Rattle.replay_session.specs.Replays.{Replays}
use Rattle.replay_session.proofs.Carrying.{nobody-carried, cells_stay}
use Rattle.replay_session.proofs.Effects.{taken-after, taken-fits}
use Rattle.replay_view.specs.declared.View.{View}
use Rattle.replay_view.specs.Views.{row_of, Views, Arranged, Known}
use Rattle.replay_steps.specs.Tries.{Rests, Sees, Lent, TakenAt, BarredAt}
use Rattle.replay_places.proofs.Looking.{taken-small}
use Rattle.replay_runs.specs.Replies.{fresh}
use Rattle.replay_runs.specs.Endings.{Leads, Stopped}

-- THE START
pub fresh-session : (m : Model) → session_of m fresh ≡ start []
fresh-session m = λ i. record { db = []; met = 0; carried = fun_ext (nobody-carried (carriers (question_of m)) limit.carried) i }

fresh-fits : (m : Model) → Fits m fresh
fresh-fits m =
    record {
      objects = omega arith;
      relations = λ o a l. absurd (not-suc-le-zero l);
      stages = omega arith;
      carried = λ v l. rw (get_or-replicate {A = Option ℕ} limit.carried v None None l) tt;
      places = omega arith;
    }

fresh-long : length fresh.states ≡ 255
fresh-long = length-replicate {A = ℕ} 255 0

-- WHAT A PLACE LEAVES: the arrays' lengths, and one more place kept
stepped-long : (s : Session) (o : ℕ) (L : Line) → length (stepped s o L).states ≡ length s.states
stepped-long s o (rule r xs b) = refl
stepped-long s o (new t b) = length-set s.states s.objects t
stepped-long s o (next x plus minus b) = length-set s.states o _
stepped-long s o other = refl

taken-long : (m : Model) (s : Session) (p : runs.Place) → length (taken m s p).states ≡ length s.states
taken-long m s (step ℓ o) = stepped-long s o (line (program_of m) ℓ)
taken-long m s (meet i os) = refl

stepped-cells : (s : Session) (o : ℕ) (L : Line) → (stepped s o L).carried ≡ s.carried
stepped-cells s o (rule r xs b) = refl
stepped-cells s o (new t b) = refl
stepped-cells s o (next x plus minus b) = refl
stepped-cells s o other = refl

taken-cells : (m : Model) (s : Session) (p : runs.Place) → length (taken m s p).carried ≡ length s.carried
taken-cells m s (step ℓ o) = ap length (stepped-cells s o (line (program_of m) ℓ))
taken-cells m s (meet i os) = cells_stay (carriers (question_of m)) (get_or (question_of m) s.met []) os s.carried

stepped_kept : (m : Model) (db : Database) (s : Session) (o : ℕ) (L : Line) → Enabled (program_of m) db o L → (stepped s o L).kept ≡ s.kept + 1
stepped_kept m db s o (rule r xs b) e = absurd e
stepped_kept m db s o (new t b) e = refl
stepped_kept m db s o (next x plus minus b) e = refl
stepped_kept m db s o other e = absurd e

taken-kept : (m : Model) (s : Session) (p : runs.Place) → Allowed (program_of m) (question_of m) (session_of m s) p → (taken m s p).kept ≡ s.kept + 1
taken-kept m s (step ℓ o) a = stepped_kept m (session_of m s).db s o (line (program_of m) ℓ) a.1
taken-kept m s (meet i os) a = refl

-- one place more
leads-more : (P : Program) (Q : Question) (s : runs.Session) (ns : List ℕ) (k : ℕ) (t : runs.Session) → Leads P Q s ns k t → k < length ns → (p : runs.Place) → place_of (get_or ns k 0) ≡ some p → Allowed P Q t p → Leads P Q s ns (suc k) (after P Q t p)
leads-more P Q s [] k t h l p e a = absurd (not-suc-le-zero l)
leads-more P Q s (n ∷ ns) zero t h l p e a = (p, e, subst (λ (x : runs.Session). Allowed P Q x p) h a, ap (λ (x : runs.Session). after P Q x p) h)
leads-more P Q s (n ∷ ns) (suc k) t h l p e a = (h.0, h.1, h.2, leads-more P Q (after P Q s h.0) ns k t h.3 (omega arith) p e a)

-- WHERE A RUN STANDS after i places, all kept: what the rest of the run is answered from there, the whole run is answered
pub record Running (m : Model) (run : List ℕ) (i : ℕ) (s : Session) : Type 0 where
  pub kept : s.kept ≡ i
  pub fits : Fits m s
  pub long : length s.states ≡ 255
  pub cells : length s.carried ≡ limit.carried
  pub rest : (a : Answer) → Replays (program_of m) (question_of m) (session_of m s) (drop i run) i a → Replays (program_of m) (question_of m) (start []) run 0 a
  pub leads : Leads (program_of m) (question_of m) (start []) run i (session_of m s)

pub running-start : (m : Model) (run : List ℕ) → Running m run 0 fresh
running-start m run = record { kept = refl; fits = fresh-fits m; long = fresh-long; cells = length-replicate {A = Option ℕ} limit.carried None; rest = λ a h. rw (← fresh-session m) h; leads = fresh-session m }

module _ (m : Model) (w : WellFormed m) (run : List ℕ) (i : ℕ) (s : Session) (r : Running m run i s) where
  module _ (l : i < length run) (few : length run ≤ limit.run) where
    pub running-broken : BarredAt m s (get_or run i 0) → Replays (program_of m) (question_of m) (start []) run 0 (Broken i)
    running-broken h = r.rest (Broken i) (rw (drop-cons run i 0 l) (inr (h, refl)))

    pub running-next : (t : Session) (k : ℕ) → get_or run i 0 < 4294967296 → TakenAt m s (get_or run i 0) t k → Running m run (i + 1) t
    running-next t k small (p, e, (allowed, q, stands)) =
        subst (Running m run (i + 1)) (sym q)
        (record {
          kept = let k = taken-kept m s p allowed in let j = r.kept in omega arith;
          fits = taken-fits m w s r.long r.fits p numerable (let j = r.kept in omega arith) allowed;
          long = taken-long m s p ∙ r.long;
          cells = taken-cells m s p ∙ r.cells;
          rest = λ a h. r.rest a (rw (drop-cons run i 0 l) (inl (
            p,
            e,
            allowed,
            subst (λ (x : runs.Session). Replays (program_of m) (question_of m) x (drop (suc i) run) (suc i) a)
                (taken-after m w s r.long r.fits p numerable r.cells allowed) (rw add-one at h),
          )));
          leads = rw (add-one i, taken-after m w s r.long r.fits p numerable r.cells allowed) (leads-more (program_of m) (question_of m) (start []) run i (session_of m s) r.leads l p e allowed);
        })
      where
        numerable : Numerable p
        numerable = (number-of-place (get_or run i 0) p small e).1

  module _ (end : length run ≤ i) where
    nothing : drop i run ≡ []
    nothing = drop_of_length-le run end

    pub running-kept : s.met ≡ m.stagecount → Replays (program_of m) (question_of m) (start []) run 0 Kept
    running-kept e = r.rest Kept (rw nothing (e ∙ sym (stages m w)))

    pub running-early : s.met ≢ m.stagecount → Replays (program_of m) (question_of m) (start []) run 0 (Broken i)
    running-early e = r.rest (Broken i) (rw nothing ((λ q. e (q ∙ stages m w)), refl))

-- where the run ends or breaks
pub running-ends : (m : Model) (run : List ℕ) (i : ℕ) (s : Session) → Running m run i s → i ≤ length run → (t : Session) → t ≡ s → Stopped m run i t
running-ends m run i s r l t e = subst (Stopped m run i) (sym e) (record { within = l; kept = r.kept; fits = r.fits; long = r.long; cells = r.cells; leads = r.leads })

-- WHAT THE RUN SEES of its database: a view, a work area that shows its row, and a stock of facts over it, if any are begun
pub record Seen (m : Model) (plans : List ClausePlan) (db : Database) (v : View) (s : Option Stock) (units w d : List ℕ) : Type 0 where
  pub views : Views db v
  pub shown : Arranged (row_of v) w
  pub stocked : StockedIfAny m v.count plans s units w d

pub row-length : (db : Database) (v : View) → Views db v → length (row_of v) ≡ v.count
row-length db v h = let g = h.good in length-take-le v.count v.row (let a = g.few in let b = g.row in omega arith)

-- the facts that are needed are known
pub exact-known : (m : Model) (R S w : List ℕ) → Consistent w → ExactFor m R S w → Known (program_of m) R S w
exact-known m R S w c e = record { agree = c; states = e.states; facts = e.facts }

module _ (m : Model) (plans : List ClausePlan) (need : List ℕ) (db : Database) (v : View) (s : Option Stock) (units w d : List ℕ) (seen : Seen m plans db v s units w d) where
  pub seen-enough : Enough s need true → Sees m need db v w
  seen-enough h =
      record {
        views = seen.views;
        known = exact-known m need (row_of v) w seen.stocked.agree (there m v.count plans s need units w d true seen.stocked h refl (row_of v) (row-length db v seen.views) seen.shown.states);
      }

  module _ (s' : Stock) (units' w' d' : List ℕ) (h : Supplied m v.count plans need s' units w d units' w' d') where
    pub seen-supplied : Sees m need db v w'
    seen-supplied =
        record {
          views = seen.views;
          known = exact-known m need (row_of v) w' h.stock.agree (supplied m v.count plans need s' units w d units' w' d' h (row_of v) (row-length db v seen.views) seen.shown.states);
        }

    pub seen-still : Seen m plans db v (Some s') units' w' d'
    seen-still = record { views = seen.views; shown = record { agree = h.stock.agree; states = h.stays.rows (row_of v) seen.shown.states }; stocked = any m v.count plans s' units' w' d' h.stock }

-- WHAT IS LENT to the next place of a run, which rests on what is needed
pub running-lent : (m : Model) → WellFormed m → (run : List ℕ) (i : ℕ) (s : Session) → Running m run i s → i < limit.run → (slots w : List ℕ) (v : View) (need : List ℕ) (n : ℕ) → Sees m need (take s.objects s.states) v w
    → ((p : runs.Place) → place_of n ≡ some p → Rests m need p) → v.slots ≡ slots → Lent m v s slots w n
running-lent m wf run i s r l slots w v need n sees rests q =
    record {
      ready = record { accepted = wf; fits = r.fits; room = let k = r.kept in omega arith; relations = need; sees = sees; long = r.long; cells = r.cells };
      rests = rests;
      seats = q;
    }

-- the states are as a view needs them
pub few-objects : (m : Model) (run : List ℕ) (i : ℕ) (s : Session) → Running m run i s → s.objects ≤ length s.states
few-objects m run i s r = let a = r.fits.objects in let b = r.long in omega arith

pub small-states : (m : Model) → WellFormed m → (run : List ℕ) (i : ℕ) (s : Session) → Running m run i s → (o : ℕ) → o < length (take s.objects s.states) → get_or (take s.objects s.states) o 0 < limit.sets
small-states m w run i s r = taken-small m s w r.fits (few-objects m run i s r)

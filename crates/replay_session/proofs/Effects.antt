-- What a place makes of the replay's state is what the semantics make of it, and it fits the text again.
use mathlib.Core.Path.{◌≡◌, sym, ap, ◌∙◌, fun_ext}
use mathlib.Core.Logic.{⊎_elim, ◌≢◌}
use mathlib.Core.Bool.{true, not, ◌||◌, and-eq-true_iff}
use mathlib.Core.List.{List, [], ◌∷◌, ◌++◌}
use Prim.Native.Nat.{ℕ, ◌+◌, ◌<◌}
use native.Mathlib.Omega.{arith}
use native.Mathlib.Numerals.{add-one}
use lib.ListN.{length, take, set, get_or}
use lib.Seq.{length-take-le, take-suc-set, take-set-lt, get_or-take, get_or-set_same, get_or-set_other}
use Rattle.std.proofs.lemmas.Bool.{or_cases}
use Rattle.std.proofs.lemmas.Option.{IfSome_then}
use Rattle.limits.specs.Limits as limit
use Rattle.semantics.specs.Labels.{has, relabel}
use Rattle.semantics.specs.Models.{elem, Body, Line, rule, new, next, other, line, vars, carriers}
use Rattle.semantics.specs.Facts.{Database, state}
use Rattle.semantics.specs.Steps.{Enabled, execute}
use Rattle.semantics.specs.Runs as runs
use Rattle.semantics.specs.Runs.{step, meet, named, Allowed, after}
use Rattle.semantics.proofs.Tools.{same?}
use Rattle.semantics.proofs.Sets.{has-relabel}
use Rattle.model.specs.declared.Action.{Action}
use Rattle.model.specs.declared.Action.TheVariants.{Rule, New, Next}
use Rattle.model.specs.declared.Model.{Model}
use Rattle.model.specs.Records.{line_of, clause_body, program_of, question_of, clause_at}
use Rattle.model.specs.Places.{Numerable}
use Rattle.model.specs.WellFormed.{declared_in, GoodAction, WellFormed}
use Rattle.model.proofs.Lines.{every-line}
use Rattle.model.proofs.Accepted.{stages}
use Rattle.replay_session.specs.declared.Session.{Session}
use Rattle.replay_session.specs.Sessions.{state_in, carried_in, stepped}
use Rattle.replay_session.specs.Records.{session_of, Fits, taken}
use Rattle.replay_session.proofs.Relations.{Among, among_below}
use Rattle.replay_session.proofs.Carrying.{cell-after, carried-after}

-- the sets of a line have declared relations only
abbrev Sets : ℕ → Line → Type 0
Sets n (rule r xs b) = Unit {0}
Sets n (new t b) = Among n t
Sets n (next x plus minus b) = Among n plus × Among n minus
Sets n other = Unit {0}

sets : (m : Model) → WellFormed m → (ℓ : ℕ) → Sets (declared_in m 0) (line (program_of m) ℓ)
sets m w ℓ = every-line m (Sets (declared_in m 0)) tt (λ i h. go (clause_at m i).action (clause_body m.literals (clause_at m i)) (w.clause i h).action) ℓ
  where
    go : (a : Action) (b : Body) → GoodAction m a → Sets (declared_in m 0) (line_of a b)
    go (Rule r n) b g = tt
    go (New t) b g = among_below (declared_in m 0) t g
    go (Next plus minus) b g = (among_below (declared_in m 0) plus g.0, among_below (declared_in m 0) minus g.1)

among-relabel : (n s plus minus : ℕ) → Among n s → Among n plus → Among n (relabel s plus minus)
among-relabel n s plus minus f g a e =
    let h = (and-eq-true_iff (has s a || has plus a) (not (has minus a))).0 (sym (has-relabel s plus minus a) ∙ e) in
    ⊎_elim (f a) (g a) (or_cases (has s a) (has plus a) h.0)

module _ (m : Model) (w : WellFormed m) (s : Session) (long : length s.states ≡ 255) (f : Fits m s) where
  abbrev db : Database
  db = take s.objects s.states

  pub size : length db ≡ s.objects
  size = length-take-le s.objects s.states (let h = f.objects in omega arith)

  pub state-here : (o : ℕ) → o < s.objects → state db o ≡ state_in s o
  state-here o h = get_or-take s.objects s.states o 0 h

  -- A STEP
  stepped-after : (o : ℕ) (L : Line) → o < 255 → Enabled (program_of m) db o L
      → session_of m (stepped s o L) ≡ record { db = execute db o L; met = s.met; carried = (session_of m s).carried }
  stepped-after o (rule r xs b) h e = absurd e
  stepped-after o (new t b) h e = λ i. record { db = grown i; met = s.met; carried = (session_of m s).carried }
    where
      grown : take (s.objects + 1) (set s.states s.objects t) ≡ db ++ (t ∷ [])
      grown = let z = size in let q = e.0 in rw add-one (take-suc-set s.states s.objects t (omega arith))
  stepped-after o (next x plus minus b) h e = λ i. record { db = changed i; met = s.met; carried = (session_of m s).carried }
    where
      here : o < s.objects
      here = let z = size in let q = e.0 in omega arith

      changed : take s.objects (set s.states o (relabel (state_in s o) plus minus)) ≡ set db o (relabel (state db o) plus minus)
      changed = take-set-lt s.objects s.states o (relabel (state_in s o) plus minus) here ∙ ap (λ (t : ℕ). set db o (relabel t plus minus)) (sym (state-here o here))
  stepped-after o other h e = absurd e

  stepped-fits : (o : ℕ) (L : Line) → Sets (declared_in m 0) L → o < 255 → s.kept < limit.run → Enabled (program_of m) db o L → Fits m (stepped s o L)
  stepped-fits o (rule r xs b) g h k e = absurd e
  stepped-fits o (new t b) g h k e =
      let z = size in
      let q = e.0 in
      let v = f.objects in
      record {
        objects = omega arith;
        relations = λ p a l. ⊎_elim
            (λ (i : p ≡ s.objects). rw (i, get_or-set_same s.states s.objects t 0 (omega arith)) (g a))
            (λ (n : p ≢ s.objects). rw (get_or-set_other s.states s.objects p t 0 n) (f.relations p a (omega arith)))
            (same? p s.objects);
        stages = f.stages;
        carried = λ v n. IfSome_then (carried_in s v) (f.carried v n) (λ d l. omega arith);
        places = omega arith;
      }
  stepped-fits o (next x plus minus b) g h k e =
      let z = size in
      let q = e.0 in
      let v = f.objects in
      let t = relabel (state_in s o) plus minus in
      record {
        objects = f.objects;
        relations = λ p a l. ⊎_elim
            (λ (i : p ≡ o). rw (i, get_or-set_same s.states o t 0 (omega arith)) (among-relabel (declared_in m 0) (state_in s o) plus minus (λ c d. f.relations o c (omega arith) d) g.0 a))
            (λ (n : p ≢ o). rw (get_or-set_other s.states o p t 0 n) (f.relations p a l))
            (same? p o);
        stages = f.stages;
        carried = f.carried;
        places = omega arith;
      }
  stepped-fits o other g h k e = absurd e

  -- A MEETING
  module _ (i : ℕ) (os : List ℕ) (allowed : Allowed (program_of m) (question_of m) (session_of m s) (meet i os)) where
    abbrev stage : Body
    stage = get_or (question_of m) s.met []

    -- the object that stands for a variable was created
    named-below : (x : ℕ) → elem x (vars stage) ≡ true → named stage os x < s.objects
    named-below x e = let l = allowed.3.0 x e in let z = size in omega arith

    met-after : length s.carried ≡ limit.carried → session_of m (taken m s (meet i os)) ≡ after (program_of m) (question_of m) (session_of m s) (meet i os)
    met-after cells = λ j. record { db = db; met = add-one s.met j; carried = fun_ext (carried-after m w s cells s.met os) j }

    met-fits : s.kept < limit.run → Fits m (taken m s (meet i os))
    met-fits k =
        let l = allowed.0 in
        let q = stages m w in
        record {
          objects = f.objects;
          relations = f.relations;
          stages = omega arith;
          carried = λ v n. ⊎_elim
              (λ e. rw e (f.carried v n))
              (λ r. rw r.2 (named-below r.0 r.1))
              (cell-after (carriers (question_of m)) stage os s.carried v);
          places = omega arith;
        }

  -- ANY PLACE
  pub taken-after : (p : runs.Place) → Numerable p → length s.carried ≡ limit.carried → Allowed (program_of m) (question_of m) (session_of m s) p
      → session_of m (taken m s p) ≡ after (program_of m) (question_of m) (session_of m s) p
  taken-after (step ℓ o) n cells a = stepped-after o (line (program_of m) ℓ) n.1 a.1
  taken-after (meet i os) n cells a = met-after i os a cells

  pub taken-fits : (p : runs.Place) → Numerable p → s.kept < limit.run → Allowed (program_of m) (question_of m) (session_of m s) p → Fits m (taken m s p)
  taken-fits (step ℓ o) n k a = stepped-fits o (line (program_of m) ℓ) (sets m w ℓ) n.1 k a.1
  taken-fits (meet i os) n k a = met-fits i os a k

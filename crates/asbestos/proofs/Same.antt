-- THE TEXT SAYS WHAT THE MESSAGES SAY: databases of the program are systems, each process by its labels.
use mathlib.Core.Path.{◌≡◌, refl, sym, ap, ◌∙◌, subst}
use mathlib.Core.Logic.{◌↔◌, ◌≢◌}
use mathlib.Core.Bool.{Bool, true, false, cond, false≢true}
use mathlib.Core.List.{List, [], ◌∷◌, ◌++◌, map}
use Prim.Native.Nat.{ℕ, zero, suc, ◌≤◌, ◌<◌}
use native.Mathlib.Omega.{arith}
use native.Mathlib.Nat.{not-suc-le-zero}
use borrow.Author.Tests.{eqb-true, eqb-false, eq-eqb, leb-true, leb-false, le-leb, lt-leb}
use lib.Dec.{eqb, leb}
use lib.ListN.{length, set, length-map}
use lib.Seq.{set-get_or}
use Rattle.semantics.specs.Labels.{has, relabel, set_of}
use Rattle.semantics.specs.Models.{is, isnt, Body, Line, Program, line}
use Rattle.semantics.specs.Facts.{Database, state, Chosen, Meets}
use Rattle.semantics.specs.Steps.{Enabled, execute, Pair, Steps}
use Rattle.semantics.specs.Questions.{Reached}
use Rattle.semantics.proofs.Tools.{clash, each-cons}
use Rattle.semantics.proofs.Leads.{steps-append}
use Rattle.asbestos.specs.Messages.{levels, Process, Proper, AllProper, nobody, process, resulting_level, received, Event, create, message, Possible, happened, History, Marked}
use Rattle.asbestos.specs.Desk.{send_relation, receive_relation, mark_relation, code, born, passing, left, marking, raising, entry, each, entries, clauses, program, question}
use Rattle.asbestos.proofs.Codes.{has-send, has-receive, has-mark, received-proper, marking-receives, raising-receives, nothing-received}
use Rattle.asbestos.proofs.Lines.{Every, every_append, every-each, every-born, every-line, Among, among-left, among-right, among-each, among-born, among-line}

-- A SYSTEM AS A DATABASE
abbrev pub coded : List Process → Database
coded ps = map code ps

pub state-coded : (ps : List Process) (i : ℕ) → i < length ps → state (coded ps) i ≡ code (process ps i)
state-coded [] i h = absurd (not-suc-le-zero h)
state-coded (p ∷ ps) zero h = refl
state-coded (p ∷ ps) (suc i) h = state-coded ps i (omega arith)

pub length-coded : (ps : List Process) → length (coded ps) ≡ length ps
length-coded ps = length-map ps code

coded_set : (ps : List Process) (i : ℕ) (p : Process) → coded (set ps i p) ≡ set (coded ps) i (code p)
coded_set [] i p = refl
coded_set (q ∷ ps) zero p = refl
coded_set (q ∷ ps) (suc i) p = ap {B = List ℕ} (λ (r : List ℕ). code q ∷ r) (coded_set ps i p)

coded-append : (ps : List Process) (p : Process) → coded (ps ++ p ∷ []) ≡ coded ps ++ code p ∷ []
coded-append [] p = refl
coded-append (q ∷ ps) p = ap {B = List ℕ} (λ (r : List ℕ). code q ∷ r) (coded-append ps p)

pub proper-at : (ps : List Process) → AllProper ps → (i : ℕ) → i < length ps → Proper (process ps i)
proper-at [] h i l = absurd (not-suc-le-zero l)
proper-at (p ∷ ps) h zero l = h.0
proper-at (p ∷ ps) h (suc i) l = proper-at ps h.1 i (omega arith)

proper-set : (ps : List Process) (i : ℕ) (p : Process) → AllProper ps → Proper p → AllProper (set ps i p)
proper-set [] i p h k = tt
proper-set (q ∷ ps) zero p h k = (k, h.1)
proper-set (q ∷ ps) (suc i) p h k = (h.0, proper-set ps i p h.1 k)

pub proper-append : (ps : List Process) (p : Process) → AllProper ps → Proper p → AllProper (ps ++ p ∷ [])
proper-append [] p h k = (k, tt)
proper-append (q ∷ ps) p h k = (h.0, proper-append ps p h.1 k)

-- where nothing is received, nothing changes
unchanged : (ps : List Process) (j : ℕ) (p : Process) → p ≡ process ps j → set ps j p ≡ ps
unchanged ps j p e = rw e (set-get_or ps j nobody)

-- the question's only stage, t being whether the level is 4
abbrev asks : ℕ → Bool → Body
asks level t = is mark_relation 0 ∷ is (receive_relation level) 0 ∷ cond t [] (isnt (receive_relation (suc level)) 0 ∷ [])

module _ (kinds : List Process) (proper : AllProper kinds) (port : ℕ) where
  pub proper-happened : (ps : List Process) (e : Event) → AllProper ps → Possible kinds port ps e → AllProper (happened kinds port ps e)
  proper-happened ps (create k) h c = proper-append ps (process kinds k) h (proper-at kinds proper k c)
  proper-happened ps (message i j) h c = proper-set ps j (received (process ps i) (process ps j)) h (received-proper (process ps i) (process ps j) (proper-at ps h i c.0) (proper-at ps h j c.1))

  pub history-proper : (ps : List Process) (es : List Event) (qs : List Process) → AllProper ps → History kinds port ps es qs → AllProper qs
  history-proper ps [] qs h c = subst (λ (z : List Process). AllProper z) c h
  history-proper ps (e ∷ es) qs h c = history-proper (happened kinds port ps e) es qs (proper-happened ps e h c.0) c.1

  -- WHAT A LINE ALLOWS HAPPENS
  abbrev Real : Program → Line → Type 0
  Real P l = (ps : List Process) → AllProper ps → (o : ℕ) → Enabled P (coded ps) o l
      → (e : Event) × Possible kinds port ps e × (execute (coded ps) o l ≡ coded (happened kinds port ps e))

  born-real : (P : Program) (k : ℕ) → k < length kinds → Real P (born (process kinds k))
  born-real P k l ps h o c = (create k, l, sym (coded-append ps (process kinds k)))

  module _ (low : port < levels) where
    -- who is meant by a body `(Sa x) (Rb x) (Sb y) ..`
    record Meant (ps : List Process) (a b x y : ℕ) : Type 0 where
      receiver : x < length ps
      sender : y < length ps
      receives : (process ps x).send ≡ a
      sends : (process ps y).send ≡ b
      may : b ≤ (process ps x).receive

    meant : (P : Program) (ps : List Process) → AllProper ps → (a b : ℕ) → a < levels → b < levels → (σ : ℕ → ℕ) (more : Body) → Meets P (coded ps) σ (passing a b more) → Meant ps a b (σ 0) (σ 1)
    meant P ps h a b la lb σ more m = record {
      receiver = lx;
      sender = ly;
      receives = sym (eqb-true a (process ps (σ 0)).send (sym (has-send (process ps (σ 0)) (proper-at ps h (σ 0) lx) a la) ∙ sym (ap (λ (z : ℕ). has z (send_relation a)) (state-coded ps (σ 0) lx)) ∙ m.1.0));
      sends = sym (eqb-true b (process ps (σ 1)).send (sym (has-send (process ps (σ 1)) (proper-at ps h (σ 1) ly) b lb) ∙ sym (ap (λ (z : ℕ). has z (send_relation b)) (state-coded ps (σ 1) ly)) ∙ m.1.1.1.0));
      may = leb-true b (process ps (σ 0)).receive (sym (has-receive (process ps (σ 0)) (proper-at ps h (σ 0) lx) b lb) ∙ sym (ap (λ (z : ℕ). has z (receive_relation b)) (state-coded ps (σ 0) lx)) ∙ m.1.1.0);
    }
      where
        lx : σ 0 < length ps
        lx = omega (arith, m.0 0 refl, length-coded ps)

        ly : σ 1 < length ps
        ly = omega (arith, m.0 1 refl, length-coded ps)

    has-state : (ps : List Process) → AllProper ps → (i : ℕ) → i < length ps → has (state (coded ps) i) mark_relation ≡ (process ps i).mark
    has-state ps h i l = ap (λ (z : ℕ). has z mark_relation) (state-coded ps i l) ∙ has-mark (process ps i) (proper-at ps h i l)

    sent : (ps : List Process) (a b o y : ℕ) → Meant ps a b o y → b < suc port → Possible kinds port ps (message y o)
    sent ps a b o y m lb = (m.sender, m.receiver, (omega (arith, m.sends, m.may), omega (arith, m.sends)))

    executed : (ps : List Process) (o plus minus : ℕ) (p : Process) → o < length ps → relabel (code (process ps o)) plus minus ≡ code p → set (coded ps) o (relabel (state (coded ps) o) plus minus) ≡ coded (set ps o p)
    executed ps o plus minus p l e = rw (state-coded ps o l, e) (sym (coded_set ps o p))

    marking-real : (P : Program) (a b : ℕ) → a < levels → b < suc port → Real P (marking a b)
    marking-real P a b la lb ps h o c = (message y o, sent ps a b o y m lb, executed ps o (set_of (mark_relation ∷ send_relation (resulting_level a b) ∷ [])) (set_of (left a (resulting_level a b))) (received (process ps y) (process ps o)) m.receiver does)
      where
        y : ℕ
        y = c.1.0 1

        m : Meant ps a b o y
        m = subst (λ (z : ℕ). Meant ps a b z y) c.1.1 (meant P ps h a b la (omega arith) c.1.0 (is mark_relation 1 ∷ []) c.1.2)

        marked : (process ps y).mark ≡ true
        marked = sym (has-state ps h y m.sender) ∙ c.1.2.1.1.1.1.0

        does : relabel (code (process ps o)) (set_of (mark_relation ∷ send_relation (resulting_level a b) ∷ [])) (set_of (left a (resulting_level a b))) ≡ code (received (process ps y) (process ps o))
        does = marking-receives (process ps y) (process ps o) (proper-at ps h y m.sender) (proper-at ps h o m.receiver) a b m.receives m.sends marked

    raising-real : (P : Program) (a b : ℕ) → a < levels → b < suc port → eqb (resulting_level a b) a ≡ false → Real P (raising a b)
    raising-real P a b la lb d ps h o c = (message y o, sent ps a b o y m lb, executed ps o (set_of (send_relation (resulting_level a b) ∷ [])) (set_of (send_relation a ∷ [])) (received (process ps y) (process ps o)) m.receiver does)
      where
        y : ℕ
        y = c.1.0 1

        m : Meant ps a b o y
        m = subst (λ (z : ℕ). Meant ps a b z y) c.1.1 (meant P ps h a b la (omega arith) c.1.0 (isnt mark_relation 1 ∷ []) c.1.2)

        unmarked : (process ps y).mark ≡ false
        unmarked = sym (has-state ps h y m.sender) ∙ c.1.2.1.1.1.1.0

        does : relabel (code (process ps o)) (set_of (send_relation (resulting_level a b) ∷ [])) (set_of (send_relation a ∷ [])) ≡ code (received (process ps y) (process ps o))
        does = raising-receives (process ps y) (process ps o) (proper-at ps h y m.sender) (proper-at ps h o m.receiver) a b m.receives m.sends unmarked d

    entry-real : (P : Program) (a b : ℕ) → a < levels → b < suc port → Every (Real P) (entry a b)
    entry-real P a b la lb = (marking-real P a b la lb, more (eqb (resulting_level a b) a) refl)
      where
        more : (t : Bool) → eqb (resulting_level a b) a ≡ t → Every (Real P) (cond t [] (raising a b ∷ []))
        more true d = tt
        more false d = (raising-real P a b la lb d, tt)

    all-real : (P : Program) (ℓ : ℕ) → Real P (line (program kinds port) ℓ)
    all-real P ℓ = every-line (Real P) (λ ps h o c. absurd c) 12 (clauses kinds port)
        (every_append (Real P) (map born kinds) (entries port) (every-born (Real P) kinds (born-real P))
        (every-each (Real P) levels (λ (a : ℕ). each (suc port) (λ (b : ℕ). entry a b)) (λ a la. every-each (Real P) (suc port) (λ (b : ℕ). entry a b) (λ b lb. entry-real P a b la lb)))) ℓ

    -- THE STEPS OF A RUN ARE A HISTORY
    pub steps-history : (ts : List Pair) (ps : List Process) (db : Database) → AllProper ps → Steps (program kinds port) (coded ps) ts db
        → (es : List Event) × (qs : List Process) × History kinds port ps es qs × AllProper qs × (db ≡ coded qs)
    steps-history [] ps db h c = ([], ps, refl, h, sym c)
    steps-history (t ∷ ts) ps db h c =
        let r = all-real (program kinds port) t.0 ps h t.1 c.0 in
        let n = steps-history ts (happened kinds port ps r.0) db (proper-happened ps r.0 h r.1) (subst (λ (z : Database). Steps (program kinds port) z ts db) r.2 c.1) in
        (r.0 ∷ n.0, n.1, (r.1, n.2), n.3, n.4)

    -- WHAT HAPPENS IS ALLOWED
    one-step : (db : Database) (l : Line) → Among l (clauses kinds port) → (o : ℕ) (db' : Database) → Enabled (program kinds port) db o l → execute db o l ≡ db' → (ts : List Pair) × Steps (program kinds port) db ts db'
    one-step db l a o db' c e = let r = among-line 12 l (clauses kinds port) a in ((r.0, o) ∷ [], rw r.1 (c, e))

    among-entry : (l : Line) (a b : ℕ) → a < levels → b < suc port → Among l (entry a b) → Among l (clauses kinds port)
    among-entry l a b la lb m = among-right l (map born kinds) (entries port) (among-each l levels (λ (a : ℕ). each (suc port) (λ (b : ℕ). entry a b)) a la (among-each l (suc port) (λ (b : ℕ). entry a b) b lb m))

    among-raising : (a b : ℕ) → eqb (resulting_level a b) a ≡ false → Among (raising a b) (entry a b)
    among-raising a b d = second (eqb (resulting_level a b) a) d
      where
        second : (t : Bool) → t ≡ false → Among (raising a b) (marking a b ∷ cond t [] (raising a b ∷ []))
        second true e = clash refl e
        second false e = (1, omega arith, refl)

    -- i for y, and j for x
    abbrev roles : ℕ → ℕ → ℕ → ℕ
    roles i j x = cond (eqb x 0) j i

    module _ (ps : List Process) (h : AllProper ps) (i j : ℕ) (c : Possible kinds port ps (message i j)) where
      abbrev from : Process
      from = process ps i

      abbrev to : Process
      to = process ps j

      chosen : (more : List ℕ) → Chosen (coded ps) (roles i j) more → Chosen (coded ps) (roles i j) (0 ∷ 0 ∷ 1 ∷ more)
      chosen more k = each-cons In 0 (0 ∷ 1 ∷ more) x (each-cons In 0 (1 ∷ more) x (each-cons In 1 more y k))
        where
          In : ℕ → Type 0
          In v = roles i j v < length (coded ps)

          x : In 0
          x = omega (arith, c.1, length-coded ps)

          y : In 1
          y = omega (arith, c.0, length-coded ps)

      is-there : (k a : ℕ) → k < length ps → a ≡ (process ps k).send → has (state (coded ps) k) (send_relation a) ≡ true
      is-there k a l e = rw (state-coded ps k l, e, has-send (process ps k) (proper-at ps h k l) (process ps k).send (proper-at ps h k l).0) (eq-eqb (process ps k).send (process ps k).send refl)

      may-there : has (state (coded ps) j) (receive_relation from.send) ≡ true
      may-there = rw (state-coded ps j c.1, has-receive to (proper-at ps h j c.1) from.send (proper-at ps h i c.0).0) (le-leb from.send to.receive c.2.0)

      event-step : (t : Bool) → from.mark ≡ t → (d : Bool) → eqb (resulting_level to.send from.send) to.send ≡ d → (ts : List Pair) × Steps (program kinds port) (coded ps) ts (coded (set ps j (received from to)))
      event-step true m d e = one-step (coded ps) (marking to.send from.send) (among-entry (marking to.send from.send) to.send from.send (proper-at ps h j c.1).0 (omega (arith, c.2.1)) (0, omega arith, refl)) j (coded (set ps j (received from to))) (
        omega (arith, c.1, length-coded ps),
        (
          roles i j,
          refl,
          (
            chosen (1 ∷ []) (each-cons (λ (v : ℕ). roles i j v < length (coded ps)) 1 [] (omega (arith, c.0, length-coded ps)) (λ v q. absurd (false≢true q))),
            (is-there j to.send c.1 refl, (may-there, (is-there i from.send c.0 refl, (has-state ps h i c.0 ∙ m, tt)))),
          ),
        ),
      )
          (executed ps j (set_of (mark_relation ∷ send_relation (resulting_level to.send from.send) ∷ [])) (set_of (left to.send (resulting_level to.send from.send))) (received from to) c.1
          (marking-receives from to (proper-at ps h i c.0) (proper-at ps h j c.1) to.send from.send refl refl m))
      event-step false m true e = ([], ap (λ (z : List Process). coded z) (sym (unchanged ps j (received from to) (nothing-received from to (proper-at ps h i c.0) (proper-at ps h j c.1) m e))))
      event-step false m false e = one-step (coded ps) (raising to.send from.send) (among-entry (raising to.send from.send) to.send from.send (proper-at ps h j c.1).0 (omega (arith, c.2.1)) (among-raising to.send from.send e)) j (coded (set ps j (received from to))) (
        omega (arith, c.1, length-coded ps),
        (
          roles i j,
          refl,
          (
            chosen (1 ∷ []) (each-cons (λ (v : ℕ). roles i j v < length (coded ps)) 1 [] (omega (arith, c.0, length-coded ps)) (λ v q. absurd (false≢true q))),
            (is-there j to.send c.1 refl, (may-there, (is-there i from.send c.0 refl, (has-state ps h i c.0 ∙ m, tt)))),
          ),
        ),
      )
          (executed ps j (set_of (send_relation (resulting_level to.send from.send) ∷ [])) (set_of (send_relation to.send ∷ [])) (received from to) c.1
          (raising-receives from to (proper-at ps h i c.0) (proper-at ps h j c.1) to.send from.send refl refl m e))

    event-steps : (ps : List Process) → AllProper ps → (e : Event) → Possible kinds port ps e → (ts : List Pair) × Steps (program kinds port) (coded ps) ts (coded (happened kinds port ps e))
    event-steps ps h (create k) c = one-step (coded ps) (born (process kinds k)) (among-left (born (process kinds k)) (map born kinds) (entries port) (among-born kinds k c)) (length (coded ps)) (coded (ps ++ process kinds k ∷ []))
        (refl, ((λ _. 0), ((λ x e. absurd (false≢true e)), tt))) (sym (coded-append ps (process kinds k)))
    event-steps ps h (message i j) c = event-step ps h i j c (process ps i).mark refl (eqb (resulting_level (process ps j).send (process ps i).send) (process ps j).send) refl

    -- A HISTORY IS A RUN'S STEPS
    pub history-steps : (es : List Event) (ps qs : List Process) → AllProper ps → History kinds port ps es qs → (ts : List Pair) × Steps (program kinds port) (coded ps) ts (coded qs)
    history-steps [] ps qs h c = ([], ap (λ (z : List Process). coded z) c)
    history-steps (e ∷ es) ps qs h c =
        let r = event-steps ps h e c.0 in
        let n = history-steps es (happened kinds port ps e) qs (proper-happened ps e h c.0) c.1 in
        (r.0 ++ n.0, steps-append (program kinds port) (coded ps) (coded (happened kinds port ps e)) (coded qs) r.0 n.0 r.1 n.1)

    -- THE QUESTION
    module _ (level : ℕ) (asked : level < levels) (ps : List Process) (h : AllProper ps) (P : Program) where
      below-it : (i : ℕ) → i < length ps → (b : ℕ) → b < levels → has (state (coded ps) i) (receive_relation b) ≡ leb b (process ps i).receive
      below-it i l b lb = ap (λ (z : ℕ). has z (receive_relation b)) (state-coded ps i l) ∙ has-receive (process ps i) (proper-at ps h i l) b lb

      high : level ≢ 4 → suc level < levels
      high n = omega (arith, asked)

      met : (i : ℕ) → i < length ps → (process ps i).receive ≡ level → (process ps i).mark ≡ true → (t : Bool) → eqb level 4 ≡ t → Meets P (coded ps) (λ _. i) (asks level t)
      met i l e m true d = ((λ x q. omega (arith, length-coded ps)), (has-state ps h i l ∙ m, (below-it i l level asked ∙ le-leb level (process ps i).receive (omega arith), tt)))
      met i l e m false d = (
        (λ x q. omega (arith, length-coded ps)),
        (
          has-state ps h i l ∙ m,
          (
            below-it i l level asked ∙ le-leb level (process ps i).receive (omega arith),
            (below-it i l (suc level) (high (eqb-false level 4 d)) ∙ lt-leb (suc level) (process ps i).receive (omega arith), tt),
          ),
        ),
      )

      meeting : (σ : ℕ → ℕ) (t : Bool) → eqb level 4 ≡ t → Meets P (coded ps) σ (asks level t) → (i : ℕ) × (i < length ps) × ((process ps i).receive ≡ level) × ((process ps i).mark ≡ true)
      meeting σ t d m = (σ 0, l, exact t d m, sym (has-state ps h (σ 0) l) ∙ m.1.0)
        where
          l : σ 0 < length ps
          l = omega (arith, m.0 0 refl, length-coded ps)

          least : level ≤ (process ps (σ 0)).receive
          least = leb-true level (process ps (σ 0)).receive (sym (below-it (σ 0) l level asked) ∙ m.1.1.0)

          exact : (t : Bool) → eqb level 4 ≡ t → Meets P (coded ps) σ (asks level t) → (process ps (σ 0)).receive ≡ level
          exact true d m = omega (arith, eqb-true level 4 d, least, (proper-at ps h (σ 0) l).1)
          exact false d m = omega (arith, least, leb-false (suc level) (process ps (σ 0)).receive (sym (below-it (σ 0) l (suc level) (high (eqb-false level 4 d))) ∙ m.1.1.1.0))

-- THE VERDICT OF THE WRITTEN TEXT IS THE ONE OVER MESSAGES
pub same-verdict : (kinds : List Process) (port level : ℕ) → AllProper kinds → port < levels → level < levels → Reached (program kinds port) (question level) ↔ Marked kinds port level
same-verdict kinds port level proper low asked = (there, back)
  where
    there : Reached (program kinds port) (question level) → Marked kinds port level
    there r =
        let n = steps-history kinds proper port low r.1.0 [] r.1.1 tt r.1.2 in
        (n.0, n.1, n.2, meeting kinds proper port low level asked n.1 n.3 (program kinds port) r.0 (eqb level 4) refl (subst (λ (z : Database). Meets (program kinds port) z r.0 (asks level (eqb level 4))) n.4 r.1.3))

    back : Marked kinds port level → Reached (program kinds port) (question level)
    back m =
        let h = history-proper kinds proper port [] m.0 m.1 tt m.2 in
        let n = history-steps kinds proper port low m.0 [] m.1 tt m.2 in
        ((λ _. m.3.0), (n.0, coded m.1, n.1, met kinds proper port low level asked m.1 h (program kinds port) m.3.0 m.3.1 m.3.2 m.3.3 (eqb level 4) refl, tt))

-- THE TEXT FITS: at most 49 clauses for 18 kinds, and at most 50 reachable states.
use mathlib.Core.Path.{◌≡◌, refl, sym, ap, ◌∙◌, subst}
use mathlib.Core.Logic.{◌↔◌}
use mathlib.Core.Bool.{Bool, true, false}
use mathlib.Core.List.{List, [], ◌∷◌, map}
use Prim.Native.Nat.{ℕ, suc, ◌≤◌, ◌<◌}
use native.Mathlib.Omega.{arith}
use borrow.Author.Tests.{leb-true}
use lib.Dec.{leb}
use lib.ListN.{length, length-map, length-append}
use Rattle.limits.specs.Limits as limit
use Rattle.semantics.specs.Labels.{union, set_of}
use Rattle.semantics.specs.Models.{elem, Line, Distinct}
use Rattle.semantics.specs.Facts.{Database, state}
use Rattle.semantics.specs.Steps.{Pair, Steps, Reachable, MoreThan}
use Rattle.semantics.proofs.Tools.{below, below-use, distinct-length}
use Rattle.asbestos.specs.Messages.{levels, Process, most, Proper, AllProper, process, resulting_level, Event, History}
use Rattle.asbestos.specs.Desk.{code, born, each, entries, clauses, numbered, program}
use Rattle.asbestos.proofs.Codes.{tried, tried-use, proc}
use Rattle.asbestos.proofs.Same.{coded, state-coded, length-coded, proper-at, history-proper, steps-history, history-steps}

-- CLAUSES
pub length-numbered : (n : ℕ) (ls : List Line) → length (numbered n ls) ≡ length ls
length-numbered n [] = refl
length-numbered n (l ∷ ls) = ap suc (length-numbered (suc n) ls)

abbrev fits : ℕ → Bool
fits port = leb (length (entries port)) 31

entries_fit : below levels fits ≡ true
unfolding resulting_level
entries_fit = refl

pub few-clauses : (kinds : List Process) (port : ℕ) → port < levels → length kinds ≤ most → length (program kinds port) ≤ 49
few-clauses kinds port low few = omega (
  arith,
  length-numbered 12 (clauses kinds port),
  length-append (map born kinds) (entries port),
  length-map kinds born,
  leb-true (length (entries port)) 31 (below-use levels fits entries_fit port low),
)

-- STATES: the 50 of them
all_codes : List ℕ
all_codes = each levels (λ (s : ℕ). each levels (λ (r : ℕ). code (proc s r false) ∷ code (proc s r true) ∷ []))

fifty : length all_codes ≡ 50
unfolding all_codes
fifty = refl

abbrev listed : ℕ → ℕ → ℕ → Bool → Bool
listed s r b m = elem (code (proc s r m)) all_codes

all_listed : tried listed ≡ true
unfolding all_codes code set_of union
all_listed = refl

code-listed : (p : Process) → Proper p → elem (code p) all_codes ≡ true
code-listed p h = tried-use listed all_listed p.send p.receive 0 h.0 h.1 (omega arith) p.mark

module _ (kinds : List Process) (proper : AllProper kinds) (port : ℕ) (low : port < levels) where
  -- EACH OBJECT IS A PROCESS
  object-process : (ts : List Pair) (db : Database) → Steps (program kinds port) [] ts db → (o : ℕ) → o < length db → (p : Process) × Proper p × (state db o ≡ code p)
  object-process ts db c o l =
      let n = steps-history kinds proper port low ts [] db tt c in
      let k : o < length n.1 = omega (arith, length-coded n.1, ap length n.4) in
      (process n.1 o, proper-at n.1 n.3 o k, ap (λ (z : Database). state z o) n.4 ∙ state-coded n.1 o k)

  reachable-listed : (s : ℕ) → Reachable (program kinds port) s → elem s all_codes ≡ true
  reachable-listed s r = let p = object-process r.0 r.1 r.2 r.3.0 r.3.1 in subst (λ (z : ℕ). elem z all_codes ≡ true) (sym p.2 ∙ r.3.2) (code-listed p.0 p.1)

  -- AT MOST 50 STATES
  pub few-states : (ss : List ℕ) → Distinct ss → ((s : ℕ) → elem s ss ≡ true → Reachable (program kinds port) s) → length ss ≤ 50
  few-states ss d h = omega (arith, fifty, distinct-length ss all_codes d (λ s e. reachable-listed s (h s e)))

  -- so that there are never more than 127 (refusal 15)
  pub never-many : MoreThan limit.atomic (program kinds port) → ⊥
  never-many m = omega (arith, m.2, few-states m.0 m.1 (λ s e. (m.3 s e).1))

  -- THE REACHABLE STATES are those of the processes of a system
  pub same-states : (s : ℕ) → Reachable (program kinds port) s ↔ ((es : List Event) × (ps : List Process) × History kinds port [] es ps × ((i : ℕ) × (i < length ps) × (code (process ps i) ≡ s)))
  same-states s = (there, back)
    where
      there : Reachable (program kinds port) s → (es : List Event) × (ps : List Process) × History kinds port [] es ps × ((i : ℕ) × (i < length ps) × (code (process ps i) ≡ s))
      there r =
          let n = steps-history kinds proper port low r.0 [] r.1 tt r.2 in
          let k : r.3.0 < length n.1 = omega (arith, length-coded n.1, ap length n.4, r.3.1) in
          (n.0, n.1, n.2, (r.3.0, k, sym (state-coded n.1 r.3.0 k) ∙ sym (ap (λ (z : Database). state z r.3.0) n.4) ∙ r.3.2))

      back : (es : List Event) × (ps : List Process) × History kinds port [] es ps × ((i : ℕ) × (i < length ps) × (code (process ps i) ≡ s)) → Reachable (program kinds port) s
      back m =
          let h = history-proper kinds proper port [] m.0 m.1 tt m.2 in
          let n = history-steps kinds proper port low m.0 [] m.1 tt m.2 in
          (n.0, coded m.1, n.1, (m.3.0, omega (arith, length-coded m.1, m.3.1), state-coded m.1 m.3.0 m.3.1 ∙ m.3.2))

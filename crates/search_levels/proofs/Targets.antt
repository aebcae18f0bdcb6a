-- What is asked for an object of some state: the slots to whose states it can come.
use mathlib.Core.Path.{◌≡◌, sym, ◌∙◌, subst}
use mathlib.Core.Logic.{⊎_elim}
use mathlib.Core.Bool.{true}
use mathlib.Core.List.{List, []}
use Prim.Native.Nat.{ℕ, ◌≤◌, ◌<◌}
use native.Mathlib.Omega.{arith}
use lib.ListN.{length, get_or, replicate}
use Rattle.semantics.specs.Models.{elem, Body, Line, rule, new, next, other, Program, line, vars, SafeLine, Safe}
use Rattle.semantics.specs.Facts.{Database, state}
use Rattle.semantics.specs.Tables.{seat}
use Rattle.semantics.specs.Walkers.{Takes, Comes}
use Rattle.semantics.proofs.Tools.{clash, seat-ok}
use Rattle.semantics.proofs.Bodies.{supported-vars}
use Rattle.semantics.proofs.WalkersMoves.{elem-state, comes-least}
use Rattle.model.specs.declared.Model.{Model}
use Rattle.model.specs.Records.{program_of, stage_body, number_in, question_of, stage_at}
use Rattle.model.specs.WellFormed.{WellFormed}
use Rattle.model.proofs.Accepted.{stage-here, stage-vars}
use Rattle.model.proofs.Renaming.{elem-map, vars-renamed}
use Rattle.facts_bits.specs.Width as width
use Rattle.facts_bits.specs.Bits.{in_row, Copied}
use Rattle.facts_bits.proofs.Changing.{before?}
use Rattle.search_states.specs.declared.States.{States}
use Rattle.search_states.specs.States.{row, Proper}
use Rattle.search_states.proofs.Laws.{length-row}
use Rattle.search_states.proofs.Seats.{seat-in, seat-out}
use Rattle.search_ways.specs.Moves.{Marks}
use Rattle.search_ways.specs.Steps.{Between}
use Rattle.search_levels.specs.Levels.{first_variable, Aims, Points}
use Rattle.search_levels.proofs.Rows.{has-nothing}

-- THE FIRST VARIABLE of stage 1 stands there
module _ (m : Model) (wf : WellFormed m) (one : 0 < (stage_at m 0).variables) where
  pub first-stands : elem (first_variable m) (vars (get_or (question_of m) 0 [])) ≡ true
  first-stands = subst (λ (b : Body). elem (first_variable m) (vars b) ≡ true) (sym (stage-here m wf 0 wf.one))
      (rw (vars-renamed (number_in (stage_at m 0)) (stage_body m.literals (stage_at m 0))) (elem-map (number_in (stage_at m 0)) 0 (vars (stage_body m.literals (stage_at m 0))) ((stage-vars m wf 0 wf.one 0).1 one)))

-- THE ROW OF THE STATE'S SLOT, or none
pub aims-row : (s : States) (ways : List ℕ) (t : ℕ) (r : List ℕ) → seat t (row s) < s.count → Copied ways (seat t (row s)) r → Aims s ways t r
aims-row s ways t r l copied = record { slots = λ e h. let same = copied.bits e (omega arith) in ((λ q. (l, sym same ∙ q)), λ q. same ∙ q.1) }

pub aims-none : (s : States) (ways : List ℕ) (t : ℕ) → s.count ≤ seat t (row s) → Aims s ways t (replicate width.bytes 0)
aims-none s ways t l = record { slots = (has-nothing (λ e. (seat t (row s) < s.count) × (in_row ways (seat t (row s)) e ≡ true)) (λ e h q. absurd (omega (arith, l, q.0)))).bits }

-- what comes to a listed state is listed
module _ (P : Program) (safe : Safe P) (S : Database) where
  takes-listed : (s t : ℕ) (L : Line) → SafeLine L → Takes P S s t L → elem s S ≡ true
  takes-listed s t (rule r xs b) k a = absurd a
  takes-listed s t (new u b) k a = absurd a
  takes-listed s t (next x plus minus b) k a = subst (λ (z : ℕ). elem z S ≡ true) a.1.1 (elem-state S (a.1.0 x) (a.1.2.0 x (supported-vars x b k.0)))
  takes-listed s t other k a = absurd a

  comes-listed : (s t : ℕ) → Comes P S s t → elem t S ≡ true → elem s S ≡ true
  comes-listed = comes-least P S (λ s t. elem t S ≡ true → elem s S ≡ true) (λ s e. e) (λ s u t ℓ a h e. takes-listed s u (line P ℓ) (safe ℓ) a)

-- THESE ARE THE SLOTS to whose states an object of state t can come
module _ (m : Model) (wf : WellFormed m) (s : States) (proper : Proper s) (ways : List ℕ) (closed : Marks ways (Between s.count (λ e u. Comes (program_of m) (row s) (state (row s) e) (state (row s) u))))
    (t : ℕ) (among : List ℕ) (aims : Aims s ways t among) where
  count : length (row s) ≡ s.count
  count = length-row s proper

  pub aims-points : Points (program_of m) (row s) t among
  aims-points = record {
    slots = λ e h. let there = aims.slots e h in (
      λ q. let z = there.0 q in let y = (closed.bits (seat t (row s)) e (omega arith)).0 z.1 in
          (subst (λ (n : ℕ). e < n) (sym count) y.1, subst (λ (a : ℕ). Comes (program_of m) (row s) a (state (row s) e)) (at z.0) y.2),
      λ q. let l = listed e q.0 q.1 in
          there.1 (l, (closed.bits (seat t (row s)) e (omega arith)).1 (l, subst (λ (n : ℕ). e < n) count q.0, subst (λ (a : ℕ). Comes (program_of m) (row s) a (state (row s) e)) (sym (at l)) q.1)),
    );
  }
    where
      at : seat t (row s) < s.count → state (row s) (seat t (row s)) ≡ t
      at l = (seat-ok t (row s) (seat-in t (row s) s.count count l)).1

      listed : (e : ℕ) → e < length (row s) → Comes (program_of m) (row s) t (state (row s) e) → seat t (row s) < s.count
      listed e l c = ⊎_elim (λ g. g) (λ g. clash (comes-listed (program_of m) wf.safe (row s) t (state (row s) e) c (elem-state (row s) e l)) (seat-out t (row s) s.count count g)) (before? (seat t (row s)) s.count)

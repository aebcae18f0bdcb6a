-- What the contracts say of the cells beside each answer.
use mathlib.Core.Path.{◌≡◌, ◌∙◌, ap}
use mathlib.Core.Logic.{⊎_elim}
use mathlib.Core.Bool.{false}
use mathlib.Core.List.{List}
use Prim.Native.Nat.{ℕ, ◌+◌}
use lib.ListN.{length, replicate}
use Rattle.std.specs.Prelude.{Result, Ok, Err}
use Rattle.rows.specs.declared.Refusal.{Refusal}
use Rattle.limits.specs.Limits as limit
use Rattle.grammar.specs.Texts.{Outcome, accepted, refused}
use Rattle.calls.specs.Calls.{short, called}
use Rattle.analyzer.specs.Analyzing.{Leaves}
use Rattle.analyzer_verdict.specs.declared.Analysis.{Analysis}
use Rattle.analyzer_verdict.specs.declared.Answer.TheVariants.{Refused}
use Rattle.analyzer_verdict.specs.Judging.{Beside}
use Rattle.replay_session.specs.declared.PlaceAnswer.{PlaceAnswer}
use Rattle.replay_session.specs.declared.PlaceAnswer.TheVariants.{Kept}
use Rattle.replay_session.specs.declared.Session.{Session}
use Rattle.replay.specs.Replies.{place_outcome, Put}
use Rattle.exports.specs.Cells.{last_number, table, state_of, cells_of}
use Rattle.exports.specs.Calls.{Analyzed, Placed}
use Rattle.exports.proofs.Cells.{zero-beside-refusal, cells_left}

-- beside a refusal all cells are zero
zero-cells : (o : Outcome) (work run : List ℕ) (a : Analysis) (work' run' : List ℕ) (k l : ℕ) → a.answer ≡ Refused k l → Leaves o work run a work' run'
    → table a (last_number a.answer run') ≡ replicate (limit.listed + 2) 0
zero-cells (refused n i) work run a work' run' k l e h = ap (λ (b : Analysis). table b (last_number b.answer run')) h.0 ∙ zero-beside-refusal n i
zero-cells (accepted D P Q) work run a work' run' k l e h =
    let none : Beside P a.states a.count (Refused k l) = (rw e at h.states) in
    rw (e, none.0, none.1) (zero-beside-refusal k l)

pub refused-zero : (text work run : List ℕ) (n : ℕ) (work' run' out' : List ℕ) (h : Analyzed text work run n work' run' out') (k l : ℕ) → h.analysis.answer ≡ Refused k l
    → out' ≡ replicate (limit.listed + 2) 0
refused-zero text work run n work' run' out' h k l e = h.cells ∙ zero-cells (called text (short (length work) (length run)) false) work run h.analysis work' run' k l e h.analyzes

-- a place that is not kept leaves the cells
unkept-state : (o : Outcome) (s : Session) (place : ℕ) (work : List ℕ) (a : Result PlaceAnswer Refusal) (t : Session) (work' : List ℕ) → ((stood : ℕ) → a ≡ Ok (Kept stood) → ⊥) → Put o s place work a t work' → t ≡ s
unkept-state (refused k l) s place work a t work' not h = h.1
unkept-state (accepted D P Q) s place work (Ok a) t work' not h = ⊎_elim (λ w. w.left) (λ w. ⊎_elim (λ k. absurd (not k.stood (ap Ok k.answer))) (λ b. b.left) w.1) h.0
unkept-state (accepted D P Q) s place work (Err x) t work' not h = absurd h.0

pub unkept-left : (text lent : List ℕ) (place : ℕ) (work : List ℕ) (n : ℕ) (lent' work' : List ℕ) → length lent ≡ 260 → (h : Placed text lent place work n lent' work')
    → ((stood : ℕ) → h.answer ≡ Ok (Kept stood) → ⊥) → lent' ≡ lent
unkept-left text lent place work n lent' work' size h not =
    h.cells ∙ ap cells_of (unkept-state (place_outcome text (state_of lent) work) (state_of lent) place work h.answer h.after work' not h.puts) ∙ cells_left lent size

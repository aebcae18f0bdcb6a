-- THE PROMISE: an analysis of the written text, with buffers of row 12's sizes, is never refused, and its verdict is the one over messages.
use mathlib.Core.Path.{◌≡◌, refl, sym, subst}
use mathlib.Core.Logic.{◌↔◌}
use mathlib.Core.Bool.{Bool, true, false}
use mathlib.Core.List.{List, ◌++◌}
use Prim.Native.Nat.{ℕ, ◌≤◌}
use native.Mathlib.Omega.{arith}
use lib.ListN.{length, take, drop}
use lib.Seq.{take_at}
use borrow.Author.Tests.{ne_eqb, le-ltb}
use Rattle.limits.specs.Limits as limit
use Rattle.semantics.specs.Models.{Program, Question}
use Rattle.semantics.specs.Questions as questions
use Rattle.grammar.specs.Texts.{Outcome, accepted}
use Rattle.calls.specs.Calls.{early, short, called}
use Rattle.analyzer_verdict.specs.declared.Answer as verdict
use Rattle.analyzer_verdict.specs.declared.Answer.TheVariants.{Reached, Unreached, Refused}
use Rattle.calls.specs.Crowding.{Crowded}
use Rattle.analyzer_verdict.specs.Judging.{Answered}
use Rattle.analyzer.specs.Analyzing.{Leaves as Judged}
use Rattle.asbestos.specs.Messages.{Process}
use Rattle.asbestos.specs.Desk.{program, question}
use Rattle.asbestos.proofs.Same.{same-verdict}
use Rattle.asbestos.proofs.Sizes.{never-many}
use Rattle.asbestos_forms.specs.Forms.{declared, text}
use Rattle.asbestos_forms.proofs.Sizes.{text-long, text-short}
use Rattle.asbestos_forms.proofs.Accepted.{text-accepted}
use Rattle.std.specs.Prelude.{Result, Ok, Err}
use Rattle.rows.specs.declared.Refusal.{Refusal}
use Rattle.asbestos_writer.specs.Writing.{refuses, Leaves, Desks}
use Rattle.asbestos_writer.proofs.Checks.{Fit, fit}
use Rattle.asbestos_desk.specs.Promise.{Tells, Promised, Keeps}
use Rattle.words.specs.Words.{by_number}
use Rattle.asbestos_desk.specs.Codes.{ShortText}

-- A VERDICT that is right tells what is equivalent, where there are never too many states
tells : (P : Program) (Q : Question) {X : Type 0} → (Crowded P → ⊥) → questions.Reached P Q ↔ X → (run run' : List ℕ) (a : verdict.Answer) → Answered P Q run run' a → Tells a X
tells P Q few same run run' (Reached n last) h = same.0 h.1
tells P Q few same run run' Unreached h = λ x. h.1 (same.1 x)
tells P Q few same run run' (Refused n l) h = few h.0

-- A TEXT WAS WRITTEN, and so many bytes of the output are it
module _ (kinds : List Process) (port level : ℕ) (out : List ℕ) (n : ℕ) (out' : List ℕ) (desk : Desks kinds port level out (Ok n) out') where
  written : (t : Bool) → Leaves t (text kinds port level) out (Ok n) out' → (t ≡ false) × (n ≡ length (text kinds port level)) × (out' ≡ text kinds port level ++ drop (length (text kinds port level)) out)
  written true d = absurd d.0
  written false d = (refl, (let z = d.0 in cc), d.1)

  fits : Fit kinds port level (length out)
  fits = fit kinds port level (length out) (written (refuses kinds port level (length out)) desk).0

  text-there : take n out' ≡ text kinds port level
  text-there = let w = written (refuses kinds port level (length out)) desk in rw w.2 (take_at (text kinds port level) (drop (length (text kinds port level)) out) n (sym w.1))

  -- no row before the lines refuses it, no line does, and its question is there
  text-called : (bytes places : ℕ) → limit.work ≤ bytes → limit.run ≤ places → called (take n out') (short bytes places) false ≡ accepted declared (program kinds port) (question level)
  unfolding called early
  text-called bytes places work run = rw (
    text-there,
    ne_eqb (length (text kinds port level)) 0 (λ e. omega (arith, text-long kinds port level)),
    le-ltb limit.text (length (text kinds port level)) (omega (arith, text-short kinds port level fits.proper fits.few fits.low fits.asked)),
    le-ltb bytes limit.work work,
    le-ltb places limit.run run,
  ) (text-accepted kinds port level fits.proper fits.few fits.low fits.asked)

  promised : Promised kinds port level (take n out')
  promised work run long wide a work' run' analyzed =
      let j = subst (λ (o : Outcome). Judged o work run a work' run') (text-called (length work) (length run) long wide) analyzed in
      tells (program kinds port) (question level) (never-many kinds fits.proper port fits.low) (same-verdict kinds port level fits.proper fits.low fits.asked) run run' a.answer j.verdict

  no_longer : n ≤ limit.text
  no_longer = omega (arith, (written (refuses kinds port level (length out)) desk).1, text-short kinds port level fits.proper fits.few fits.low fits.asked)

-- THE DESK KEEPS ITS PROMISE
pub keeps : (kinds : List Process) (port level : ℕ) (out : List ℕ) (a : Result ℕ Refusal) (out' : List ℕ) → Desks kinds port level out a out' → Keeps kinds port level a out'
keeps kinds port level out (Ok n) out' d = promised kinds port level out n out' d
keeps kinds port level out (Err x) out' d = tt

-- and its text is no longer than a text may be
pub short-text : (kinds : List Process) (port level : ℕ) (out : List ℕ) (a : Result ℕ Refusal) (out' : List ℕ) → Desks kinds port level out a out' → ShortText (by_number a)
short-text kinds port level out (Ok n) out' d = no_longer kinds port level out n out' d
short-text kinds port level out (Err x) out' d = tt

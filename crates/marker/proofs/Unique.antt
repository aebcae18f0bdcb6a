-- THE CONTRACT LEAVES NO FREEDOM: a text and a hand-in have one mark, and one work area and two tables after it.
use mathlib.Core.Path.{◌≡◌, sym, ◌∙◌}
use mathlib.Core.Bool.{false}
use mathlib.Core.List.{List, [], map}
use Prim.Native.Nat.{ℕ}
use lib.ListN.{length}
use Rattle.std.specs.Prelude.{Result}
use Rattle.rows.specs.declared.Refusal.{Refusal}
use Rattle.rows.proofs.Laws.{refuses_one}
use Rattle.semantics.specs.Models.{Program, Question}
use Rattle.semantics.specs.Runs.{start}
use Rattle.grammar.specs.Texts.{Outcome, accepted, refused}
use Rattle.model.specs.Places.{number_of}
use Rattle.calls.specs.Calls.{called}
use Rattle.replay_session.proofs.Noting.{one-notes}
use Rattle.handin.specs.Handins.{Handin, says-no, says-yes, unreadable, reading}
use Rattle.marker_worth.specs.declared.Mark.{Mark}
use Rattle.marker_worth.proofs.Unique.{one-worth}
use Rattle.marker.specs.Marking.{narrow, Leaves, Marked, Marks}

-- the buffers
one_left : (P : Program) (Q : Question) (h : Handin) (work run stood work' run' stood' work'' run'' stood'' : List ℕ) → Leaves P Q h work run stood work' run' stood' → Leaves P Q h work run stood work'' run'' stood''
    → (work' ≡ work'') × (run' ≡ run'') × (stood' ≡ stood'')
one_left P Q (unreadable at) work run stood work' run' stood' work'' run'' stood'' g h = (g.0 ∙ sym h.0, g.1 ∙ sym h.1, g.2 ∙ sym h.2)
one_left P Q says-no work run stood work' run' stood' work'' run'' stood'' g h = (g.0 ∙ sym h.0, g.1 ∙ sym h.1, g.2 ∙ sym h.2)
one_left P Q (says-yes first ps) work run stood work' run' stood' work'' run'' stood'' g h =
    (g.0 ∙ sym h.0, g.1 ∙ sym h.1, one-notes P Q (start []) (map number_of ps) stood stood' stood'' g.2 h.2)

one-marked : (o : Outcome) (h : Handin) (work run stood work' run' stood' work'' run'' stood'' : List ℕ) (a b : Result Mark Refusal) → Marked o h work run stood a work' run' stood' → Marked o h work run stood b work'' run'' stood''
    → (a ≡ b) × (work' ≡ work'') × (run' ≡ run'') × (stood' ≡ stood'')
one-marked (refused n l) h work run stood work' run' stood' work'' run'' stood'' a b f g = (refuses_one n l a b f.0 g.0, f.1 ∙ sym g.1, f.2 ∙ sym g.2, f.3 ∙ sym g.3)
one-marked (accepted D P Q) h work run stood work' run' stood' work'' run'' stood'' a b f g =
    let l = one_left P Q h work run stood work' run' stood' work'' run'' stood'' f.1 g.1 in
    (one-worth P Q h a b f.0 g.0, l.0, l.1, l.2)

pub one-mark : (text handin work run stood work' run' stood' work'' run'' stood'' : List ℕ) (a b : Result Mark Refusal) → Marks text handin work run stood a work' run' stood' → Marks text handin work run stood b work'' run'' stood''
    → (a ≡ b) × (work' ≡ work'') × (run' ≡ run'') × (stood' ≡ stood'')
one-mark text handin work run stood = one-marked (called text (narrow (length work) (length run) (length stood)) false) (reading handin) work run stood

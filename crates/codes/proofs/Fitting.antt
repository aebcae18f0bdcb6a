-- What the calls answer for a mark and for display fits its number.
use mathlib.Core.Path.{◌≡◌, refl}
use mathlib.Core.Logic.{⊎_elim}
use mathlib.Core.Bool.{true, false, ◌||◌, false≢true}
use mathlib.Core.List.{List}
use mathlib.Core.Option.{Option, none, some}
use Prim.Native.Nat.{ℕ, ◌≤◌}
use native.Mathlib.Omega.{arith}
use lib.Dec.{eqb, ltb}
use lib.ListN.{length}
use borrow.Author.Tests.{ltb-false}
use Rattle.std.proofs.lemmas.Bool.{cases_Bool}
use Rattle.std.specs.Prelude.{Result, Ok, Err, Some, None}
use Rattle.std.specs.Prelude as std
use Rattle.rows.specs.declared.Refusal.{Refusal}
use Rattle.limits.specs.Limits as limit
use Rattle.semantics.specs.Models.{Program, Question}
use Rattle.semantics.specs.Runs.{Place}
use Rattle.semantics.proofs.Tools.{or-false}
use Rattle.grammar.specs.Bytes.{Word}
use Rattle.grammar.specs.Declarations.{Declared}
use Rattle.grammar.specs.Texts.{Outcome, accepted, refused, outcome}
use Rattle.handin.specs.Handins.{Handin, says-no, says-yes, unreadable, reading}
use Rattle.handin.specs.Answers.{told}
use Rattle.marker_worth.specs.declared.Mark.{Mark}
use Rattle.marker_worth.specs.declared.Mark.TheVariants.{Unreadable, Right, Other, Breaks}
use Rattle.marker_worth.specs.Worth.{Worth}
use Rattle.marker.specs.Marking.{Marked}
use Rattle.handin.proofs.Runs.{run-writable}
use Rattle.display_shapes.specs.declared.Span.{Span}
use Rattle.display_shapes.specs.Rows.{pick, Shown}
use Rattle.display.specs.declared.Declaration.{Declaration}
use Rattle.display.specs.Shown.{relation_at, FindsRelation}
use Rattle.words.specs.Words.{by_number}
use Rattle.codes.specs.Ranges.{ShortRun, LowPlace, Near, NearName}

-- WHAT A HAND-IN SAYS
pub said_fits : (handin : List ℕ) (h : Handin) → reading handin ≡ h → ShortRun (told h)
said_fits handin says-no e = tt
said_fits handin (says-yes first ps) e = (run-writable handin first ps e).0
said_fits handin (unreadable at) e = tt

-- THE MARK
worth-fits : (P : Program) (Q : Question) (h : Handin) (m : Result Mark Refusal) → ((first : ℕ) (ps : List Place) → h ≡ says-yes first ps → length ps ≤ limit.run) → Worth P Q h m → LowPlace (by_number m)
worth-fits P Q h (Err x) f w = tt
worth-fits P Q h (Ok (Unreadable l)) f w = tt
worth-fits P Q h (Ok Right) f w = tt
worth-fits P Q h (Ok (Other reached)) f w = tt
worth-fits P Q (unreadable at) (Ok (Breaks place line)) f w = absurd (false≢true cc)
worth-fits P Q says-no (Ok (Breaks place line)) f w = absurd w
worth-fits P Q (says-yes first ps) (Ok (Breaks place line)) f w = omega (arith, f first ps refl, w.1.0)

pub mark-fits : (o : Outcome) (handin work run stood : List ℕ) (m : Result Mark Refusal) (work' run' stood' : List ℕ) → Marked o (reading handin) work run stood m work' run' stood' → LowPlace (by_number m)
mark-fits o handin work run stood (Err x) work' run' stood' h = tt
mark-fits (refused n l) handin work run stood (Ok m) work' run' stood' h = absurd h.0
mark-fits (accepted D P Q) handin work run stood (Ok m) work' run' stood' h = worth-fits P Q (reading handin) (Ok m) (λ first ps e. (run-writable handin first ps e).0) h.0

-- A DECLARED RELATION stands in an accepted text
text-size : (text : List ℕ) (D : Declared) (P : Program) (Q : Question) → outcome text ≡ accepted D P Q → length text ≤ limit.text
unfolding outcome
text-size text D P Q e = ⊎_elim
    (λ (q : (eqb (length text) 0 || ltb limit.text (length text)) ≡ true). absurd (let z = rw q at e in false≢true cc))
    (λ (q : (eqb (length text) 0 || ltb limit.text (length text)) ≡ false). ltb-false limit.text (length text) (or-false (eqb (length text) 0) (ltb limit.text (length text)) q).1)
    (cases_Bool (eqb (length text) 0 || ltb limit.text (length text)))

name-fits : (text : List ℕ) (d : Option (Word × ℕ)) (r : std.Option Declaration) → length text ≤ limit.text → FindsRelation text d r → NearName r
name-fits text d None h s = tt
name-fits text none (Some r) h s = absurd s
name-fits text (some d) (Some r) h s = (omega (arith, s.0), omega (arith, s.0))

pub relation-fits : (text : List ℕ) (o : Outcome) (i : ℕ) (r : std.Option Declaration) → outcome text ≡ o → FindsRelation text (relation_at o i) r → NearName r
relation-fits text (refused n l) i None e s = tt
relation-fits text (refused n l) i (Some r) e s = absurd s
relation-fits text (accepted D P Q) i r e s = name-fits text (pick D i) r (text-size text D P Q e) s

-- A PART OF A LINE
pub part-fits : (line : List ℕ) (part : Option (List ℕ)) (r : std.Option Span) → length line ≤ limit.text → Shown line part r → Near r
part-fits line part None h s = tt
part-fits line none (Some r) h s = absurd s
part-fits line (some w) (Some r) h s = (omega (arith, s.0, s.1), omega (arith, s.1))

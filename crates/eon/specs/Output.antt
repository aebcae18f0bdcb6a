-- WHAT THE PROGRAM WRITES for a text.
use Rattle.std.specs.Prelude.{◌≡◌, ◌↔◌, Bool, true, false, List, [], map, ℕ, ◌≤◌, length, take}
use Rattle.std.proofs.Math.Option.{some}
use Rattle.semantics.specs.Models.{elem, Program, Question}
use Rattle.semantics.specs.Steps.{Reachable}
use Rattle.semantics.specs.Questions.{Verdict}
use Rattle.semantics.specs.Runs.{Place, Kept}
use Rattle.model.specs.declared.Model.{Model}
use Rattle.model.specs.Places.{place_of}
use Rattle.grammar.specs.Bytes.{lines}
use Rattle.grammar.specs.Declarations.{Declared}
use Rattle.grammar.specs.Texts.{Outcome, accepted, refused, outcome}
use Rattle.acceptance.specs.Represents.{Represents}
use Rattle.text.specs.Reading.{Names}
use Rattle.search_states.specs.Rising.{Rising}
use Rattle.analyzer_verdict.specs.declared.Answer.{Answer}
use Rattle.analyzer_verdict.specs.declared.Answer.TheVariants.{Reached, Unreached, Refused}
use Rattle.analyzer_verdict.specs.declared.Analysis.{Analysis}
use Rattle.analyzer.specs.Analyzing.{Analyzes}
use Rattle.listing_bytes.specs.Writing.{WritesLine}
use Rattle.listing_lines.specs.Lines.{refused_line, listing_of}
use Rattle.listing.specs.Report.{Listable, WritesListing}

-- OUTPUT: a count of bytes that the buffer has
abbrev pub IsPrefixLen : ℕ → List ℕ → Type 0
IsPrefixLen n out = (n ≤ length out) × (n ≡ length (take n out))

-- AN ANALYSIS that can be listed, and its listing: the first k states, and of a reached question the run
abbrev pub Ready : List ℕ → Model → List ℕ → ℕ → List ℕ → Answer → Type 0
Ready text m states k run (Reached n last) = (k ≤ length states) × (n ≤ length run) × Listable text m (take k states) (take n run)
Ready text m states k run Unreached = (k ≤ length states) × Listable text m (take k states) []
Ready text m states k run (Refused n l) = Unit {0}

abbrev pub Shows : List ℕ → Model → List ℕ → ℕ → List ℕ → Answer → List ℕ → ℕ → List ℕ → Type 0
Shows text m states k run (Reached n last) d r e = WritesListing d text m true (take k states) (take n run) r e
Shows text m states k run Unreached d r e = WritesListing d text m false (take k states) [] r e
Shows text m states k run (Refused n l) d r e = WritesLine d (refused_line n l) r e

-- WHAT AN ANALYSIS TELLS with the run table that it leaves: the verdict, and the run that the first n numbers of the table stand for
abbrev pub Tells : Answer → List ℕ → Bool → List Place → Type 0
Tells (Reached n last) table reached run = (reached ≡ true) × (map place_of (take n table) ≡ map some run)
Tells Unreached table reached run = reached ≡ false
Tells (Refused n l) table reached run = ⊥

-- THE LISTING OF AN ACCEPTED TEXT: the verdict, the reachable atomic states by rising number, the empty one first, and of a reached question a kept run; all three are those of the analysis
abbrev pub Run : Program → Question → Bool → List Place → Type 0
Run P Q true run = Kept P Q run
Run P Q false run = run ≡ []

pub record Lists (text : List ℕ) (D : Declared) (P : Program) (Q : Question) (a : Analysis) (table out : List ℕ) : Type 0 where
  -- the record of the text's model says where in the text the names stand
  pub model : Model
  pub represents : Represents (length (lines text)) D P Q model
  pub names : Names text D model
  pub reached : Bool
  pub verdict : Verdict P Q reached
  pub states : List ℕ
  pub first : states ≡ take a.count a.states
  pub rising : Rising states (length states)
  pub reachable : (s : ℕ) → Reachable P s ↔ (elem s states ≡ true)
  pub run : List Place
  pub shown : Run P Q reached run
  pub told : Tells a.answer table reached run
  pub bytes : out ≡ listing_of text model reached states run

-- what is written of an accepted text by its answer: a verdict is listed; "a refusal is the one line `(refused number line)`", and so is 15
abbrev pub Written : List ℕ → Declared → Program → Question → Analysis → List ℕ → List ℕ → Answer → Type 0
Written text D P Q a table out (Reached n last) = Lists text D P Q a table out
Written text D P Q a table out Unreached = Lists text D P Q a table out
Written text D P Q a table out (Refused n l) = out ≡ refused_line n l

-- the listing of a text
abbrev pub Listing : Outcome → List ℕ → Analysis → List ℕ → List ℕ → Type 0
Listing (refused n l) text a table out = out ≡ refused_line n l
Listing (accepted D P Q) text a table out = Written text D P Q a table out a.answer

-- THE OUTPUT for a text: the listing of its analysis, with the work area and the run table before and after it
abbrev pub Output : List ℕ → List ℕ → List ℕ → List ℕ → List ℕ → List ℕ → Type 0
Output text work run work' run' out = (a : Analysis) × Analyzes text work run a work' run' × Listing (outcome text) text a run' out

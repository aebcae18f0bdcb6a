-- WHAT THE EXPORTED CALLS ANSWER: each passes on the whole contract of the public call, its answer as a number and its records as cells.
use Rattle.std.specs.Prelude.{◌≡◌, if◌then◌else◌, List, ◌++◌, map, ℕ, nat_lt, length, drop, Result}
use Rattle.std.specs.Prelude as std
use Rattle.std.proofs.Math.Option.{Option, none}
use Rattle.limits.specs.Limits as limit
use Rattle.grammar.specs.Texts.{outcome}
use Rattle.model.specs.Places.{number_of}
use Rattle.rows.specs.declared.Refusal.{Refusal}
use Rattle.analyzer_verdict.specs.declared.Analysis.{Analysis}
use Rattle.analyzer.specs.Analyzing.{Analyzes}
use Rattle.from_here.specs.Asking.{Asks}
use Rattle.replay_session.specs.declared.Answer.{Answer}
use Rattle.replay_session.specs.declared.PlaceAnswer.{PlaceAnswer}
use Rattle.replay_session.specs.declared.Session.{Session}
use Rattle.replay.specs.Replies as replies
use Rattle.replay.specs.Replies.{run_outcome, place_outcome, Put}
use Rattle.handin.specs.Handins.{Handin, says-no, says-yes, unreadable, reading}
use Rattle.handin.specs.Answers.{told}
use Rattle.marker_worth.specs.declared.Mark.{Mark}
use Rattle.marker.specs.Marking.{Marks}
use Rattle.display_shapes.specs.declared.Span.{Span}
use Rattle.display_shapes.specs.Rows.{Shown}
use Rattle.display.specs.declared.Declaration.{Declaration}
use Rattle.display.specs.Shown.{relation_at, FindsRelation}
use Rattle.explain.specs.declared.Explanation.{Explanation}
use Rattle.explain.specs.Explains.{Explained}
use Rattle.asbestos.specs.Messages.{Process}
use Rattle.asbestos_writer.specs.Writing.{Desks}
use Rattle.asbestos_desk.specs.Promise.{Keeps}
use Rattle.asbestos_desk.specs.Codes.{code}
use Rattle.codes.specs.Codes as codes
use Rattle.reason_codes.specs.Codes.{explained}
use Rattle.words.specs.Words.{refusal, by_number}
use Rattle.exports.specs.Codes.{coded, replied, put}
use Rattle.exports.specs.Cells as cells
use Rattle.exports.specs.Cells.{last_number, state_of, cells_of}

-- THE ANALYSIS, with the work area, the run table and the cells after it
pub record Analyzed (text work run : List ℕ) (n : ℕ) (work' run' out' : List ℕ) : Type 0 where
  pub analysis : Analysis
  pub analyzes : Analyzes text work run analysis work' run'
  pub number : n ≡ coded analysis.answer
  pub cells : out' ≡ cells.table analysis (last_number analysis.answer run')

-- WHAT CAN STILL BECOME OF AN OBJECT after the places, with the work area, the run table and the cells after it
pub record Asked (text places : List ℕ) (object : ℕ) (work run : List ℕ) (n : ℕ) (work' run' out' : List ℕ) : Type 0 where
  pub analysis : Analysis
  pub asks : Asks text places object work run analysis work' run'
  pub number : n ≡ coded analysis.answer
  pub cells : out' ≡ cells.table analysis (last_number analysis.answer run')

-- THE REPLAY of a run, with the work area and the table of those who stood by after it
pub record Replayed (text run work table : List ℕ) (n : ℕ) (work' table' : List ℕ) : Type 0 where
  pub answer : Result Answer Refusal
  pub replays : replies.Replayed (run_outcome text run work table) run work table answer work' table'
  pub number : n ≡ replied answer

-- ONE PLACE put to the state that the cells say
pub record Placed (text lent : List ℕ) (place : ℕ) (work : List ℕ) (n : ℕ) (lent' work' : List ℕ) : Type 0 where
  pub answer : Result PlaceAnswer Refusal
  pub after : Session
  pub puts : Put (place_outcome text (state_of lent) work) (state_of lent) place work answer after work'
  pub number : n ≡ put answer
  pub cells : lent' ≡ cells_of after

-- the run table after a hand-in is read: the run of a yes is written by its numbers
abbrev pub written : Handin → List ℕ → List ℕ
written says-no run = run
written (says-yes first ps) run = map number_of ps ++ drop (length ps) run
written (unreadable at) run = run

-- A HAND-IN, with the run table after it: row 12, or what it says
pub record Handed (handin run : List ℕ) (n : ℕ) (run' : List ℕ) : Type 0 where
  pub number : n ≡ (if nat_lt (length run) limit.run then refusal 12 0 else codes.handed (told (reading handin)))
  pub table : run' ≡ (if nat_lt (length run) limit.run then run else written (reading handin) run)

-- THE MARK of a hand-in to a text, with the work area, the run table and the table of those who stood by after it
pub record Marked (text handin work run stood : List ℕ) (n : ℕ) (work' run' stood' : List ℕ) : Type 0 where
  pub mark : Result Mark Refusal
  pub marks : Marks text handin work run stood mark work' run' stood'
  pub number : n ≡ codes.marked (by_number mark)

-- A RUN PUT TO A TEXT, and why it breaks, with the work area and the table of those who stood by after it
pub record Reasoned (text run work table : List ℕ) (n : ℕ) (work' table' : List ℕ) : Type 0 where
  pub explanation : Result Explanation Refusal
  pub explains : Explained (run_outcome text run work table) run work table explanation work' table'
  pub number : n ≡ explained (by_number explanation)

-- A DECLARED RELATION of a text, if there is one
pub record Declared (text : List ℕ) (i n : ℕ) : Type 0 where
  pub relation : std.Option Declaration
  pub shows : FindsRelation text (relation_at (outcome text) i) relation
  pub number : n ≡ codes.declared relation

-- A PART OF A LINE; a line that is longer than a text has none
pub record Spanned (line : List ℕ) (part : Option (List ℕ)) (n : ℕ) : Type 0 where
  pub span : std.Option Span
  pub shows : Shown line (if nat_lt limit.text (length line) then none else part) span
  pub number : n ≡ codes.spanned span

-- THE TEXT THAT A DESK for Asbestos labels writes, with the output after it
pub record Desked (kinds : List Process) (port level : ℕ) (out : List ℕ) (n : ℕ) (out' : List ℕ) : Type 0 where
  pub answer : Result ℕ Refusal
  pub desks : Desks kinds port level out answer out'
  pub keeps : Keeps kinds port level answer out'
  pub number : n ≡ code (by_number answer)

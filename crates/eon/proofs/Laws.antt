-- What reading and analyzing a text give of the program's output.
use mathlib.Core.Path.{◌≡◌, refl, ap}
use mathlib.Core.Logic.{⊎_elim}
use mathlib.Core.Bool.{Bool, true, false, not, ◌&&◌, ◌||◌}
use mathlib.Core.List.{List, [], ◌∷◌}
use Prim.Native.Nat.{ℕ, ◌+◌, ◌≤◌, ◌<◌}
use native.Mathlib.Omega.{arith}
use lib.Dec.{eqb, ltb, leb}
use lib.ListN.{length, take, replicate, length-replicate}
use lib.Seq.{get_or-take, length-slice, length-take-le}
use borrow.Author.Tests.{leb-true, le-ltb}
use Rattle.std.proofs.lemmas.Bool.{cases_Bool}
use Rattle.std.proofs.lemmas.List.{length-take}
use Rattle.limits.specs.Limits as limit
use Rattle.semantics.specs.Models.{Program, Question}
use Rattle.model.specs.Records.{name_of, program_of, question_of}
use Rattle.model.specs.declared.Model.{Model}
use Rattle.grammar.specs.Bytes.{bytes, Word, letter, alphanumeric, every, same, is_name, lines}
use Rattle.grammar.specs.Declarations.{Declared}
use Rattle.grammar.specs.Texts.{accepted, outcome}
use Rattle.grammar.proofs.Tests.{and_left, and_right}
use Rattle.acceptance.specs.Represents.{Represents}
use Rattle.acceptance.specs.Sound.{name_at}
use Rattle.acceptance.proofs.Acceptance.{accepted-sound}
use Rattle.acceptance.proofs.WellFormed.{accepted-well-formed}
use Rattle.text.specs.Reading.{Names, Accepts}
use Rattle.search_states.specs.Rising.{Rising}
use Rattle.analyzer_verdict.specs.declared.Answer.{Answer}
use Rattle.analyzer_verdict.specs.declared.Answer.TheVariants.{Reached, Unreached, Refused}
use Rattle.analyzer_verdict.specs.declared.Analysis.{Analysis}
use Rattle.analyzer_verdict.specs.Judging.{Answered, Beside, Judges}
use Rattle.calls.specs.Calls.{early, called, short}
use Rattle.analyzer.specs.Analyzing.{Leaves, Analyzes}
use Rattle.listing_lines.specs.Lines.{Named}
use Rattle.listing.specs.Report.{Listable}
use Rattle.eon.specs.Output.{Ready, Shows, Written, Listing}

-- a name has at most 16 bytes
name-short : (w : Word) → is_name w ≡ true → length w ≤ 16
unfolding is_name
name-short [] e = omega arith
name-short (b ∷ w) e =
    let long = and_left (letter b && every alphanumeric w && leb (length w) 15) (not (same (b ∷ w) (bytes "not"))) e in
    omega (arith, leb-true (length w) 15 (and_right (letter b && every alphanumeric w) (leb (length w) 15) long))

-- the front of a row that rises does
rising-front : (row : List ℕ) (k : ℕ) → k ≤ length row → Rising row k → Rising (take k row) (length (take k row))
rising-front row k h r i j l t =
    let n : length (take k row) ≡ k = length-take-le k row h in
    rw (get_or-take k row i 0 (omega arith), get_or-take k row j 0 (omega arith)) (r i j l (omega arith))

module _ (text : List ℕ) (D : Declared) (P : Program) (Q : Question) (m : Model) (ok : outcome text ≡ accepted D P Q) (rep : Represents (length (lines text)) D P Q m) (names : Names text D m) where
  -- the names of an accepted text
  named : Named text m
  named = record {
    within = λ i h. names.within i (omega (arith, rep.declared));
    short = λ i h.
        let j : i < length D = omega (arith, rep.declared) in
        let a = (name_of m i).start in
        let l = (name_of m i).len in
        omega (arith, length-slice a (a + l) text (names.within i j), ap length (names.name i j), name-short (name_at D i) ((accepted-sound text D P Q ok).lines.declarations.names i j));
  }

  -- an analysis of it can be listed
  listable : (states run : List ℕ) → length states ≤ limit.listed → length run ≤ limit.run → Listable text m states run
  listable states run few short = record {
    relations = (accepted-well-formed text D P Q m ok rep).relations;
    names = named;
    few = few;
    short = short;
  }

  module _ (states : List ℕ) (k : ℕ) (run run' : List ℕ) (whole : length states ≡ limit.listed) where
    pub ready : (a : Answer) → Answered P Q run run' a → Beside P states k a → limit.run ≤ length run' → Ready text m states k run' a
    ready (Reached n last) h l long = (
      omega (arith, l.count),
      omega (arith, h.2.fits),
      listable (take k states) (take n run') (simp length-take (omega (arith, l.count))) (simp length-take (omega (arith, h.2.fits))),
    )
    ready Unreached h l long = (omega (arith, l.count), listable (take k states) [] (simp length-take (omega (arith, l.count))) (omega arith))
    ready (Refused n ℓ) h l long = tt

    -- and what is written of it is the output
    module _ (d : List ℕ) (r : ℕ) (e : List ℕ) where
      pub writes : (a : Answer) → Answered P Q run run' a → Beside P states k a → Shows text m states k run' a d r e → Written text D P Q (record { answer = a; states = states; count = k }) run' (take r e) a
      writes (Reached n last) h l w = record {
        model = m;
        represents = rep;
        names = names;
        reached = true;
        verdict = h.1;
        states = take k states;
        first = refl;
        rising = rising-front states k (omega (arith, l.count)) l.rising;
        reachable = l.reachable;
        run = h.2.places;
        shown = h.2.kept;
        told = (refl, h.2.decoded);
        bytes = (w h.2.places h.2.decoded).front;
      }
      writes Unreached h l w = record {
        model = m;
        represents = rep;
        names = names;
        reached = false;
        verdict = h.1;
        states = take k states;
        first = refl;
        rising = rising-front states k (omega (arith, l.count)) l.rising;
        reachable = l.reachable;
        run = [];
        shown = refl;
        told = refl;
        bytes = (w [] refl).front;
      }
      writes (Refused n ℓ) h l w = w.front

      pub room : (a : Answer) → Answered P Q run run' a → Shows text m states k run' a d r e → r ≤ length d
      room (Reached n last) h w = (w h.2.places h.2.decoded).room
      room Unreached h w = (w [] refl).room
      room (Refused n ℓ) h w = w.room

-- a buffer of n zeros has n cells
pub zeros : (n : ℕ) → n ≤ length (replicate {A = ℕ} n 0)
zeros n = omega (arith, length-replicate {A = ℕ} n 0)

pub zeros-length : (n : ℕ) → n ≡ length (replicate {A = ℕ} n 0)
zeros-length n = omega (arith, length-replicate {A = ℕ} n 0)

-- with buffers that have their sizes, the answer is the text's
in-room : (text : List ℕ) (short : Bool) → short ≡ false → called text short false ≡ outcome text
unfolding called early outcome
in-room text short e = rw e (⊎_elim (λ (q : bytes-wrong ≡ true). rw q refl) (λ (q : bytes-wrong ≡ false). rw q refl) (cases_Bool bytes-wrong))
  where
    bytes-wrong : Bool
    bytes-wrong = eqb (length text) 0 || ltb limit.text (length text)

pub answered : (text work run : List ℕ) (a : Analysis) (work' run' : List ℕ) → limit.work ≤ length work → limit.run ≤ length run → Analyzes text work run a work' run' → Leaves (outcome text) work run a work' run'
answered text work run a work' run' h l w = rw (in-room text (short (length work) (length run)) (rw (le-ltb (length work) limit.work h, le-ltb (length run) limit.run l) refl)) at w

-- AN ACCEPTED TEXT. What analyzing it leaves can be listed, and the listing is the output
module _ (text work run : List ℕ) (m : Model) (r : Accepts (outcome text) text m) (a : Analysis) (work' run' : List ℕ) (whole : length a.states ≡ limit.listed) (leaves : Leaves (outcome text) work run a work' run') where
  judged : Judges (program_of m) (question_of m) work run a work' run'
  judged = rw r.says at leaves

  pub text-ready : limit.run ≤ length run' → Ready text m a.states a.count run' a.answer
  text-ready long = ready text r.declared (program_of m) (question_of m) m r.says r.represents r.names a.states a.count run run' whole a.answer judged.verdict judged.states long

  module _ (d : List ℕ) (n : ℕ) (e : List ℕ) (w : Shows text m a.states a.count run' a.answer d n e) where
    pub text-output : Listing (outcome text) text a run' (take n e)
    text-output = rw r.says (writes text r.declared (program_of m) (question_of m) m r.says r.represents r.names a.states a.count run run' whole d n e a.answer judged.verdict judged.states w)

    pub text-room : n ≤ length d
    text-room = room text r.declared (program_of m) (question_of m) m r.says r.represents r.names a.states a.count run run' whole d n e a.answer judged.verdict w

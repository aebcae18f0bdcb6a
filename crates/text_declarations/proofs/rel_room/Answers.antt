use mathlib.Core.Path.{◌≡◌, sym, ◌∙◌}
use mathlib.Core.Bool.{false, ◌&&◌, and-false}
use native.Mathlib.Omega.{arith}
use lib.Dec.{eqb, leb}
use borrow.Author.Tests.{ne_eqb, lt-leb}
use Rattle.text_names.specs.Names.{declared_of}
use Rattle.text_names.proofs.Laws.{tally-count}
use Rattle.text_declarations.proofs.Laws.{tally-le, rel-crowded, rel-pairs, rel-free}
use Rattle.text_declarations.proofs.rel_room.Goals as goal
use Rattle.text_declarations.proofs.rel_room.Goals.{else-n-eq2-via-else-n-eq2, else-n-eq2-via-then-n-eq2+else-pairs-ge-PAIRS}

pub overflow_add-nullary : goal.overflow_add-nullary
overflow_add-nullary c = let d = c.args.d.now in omega (arith, c.requires.count, c.tally_of-nullary.ensures, c.tally_of-single.ensures, tally-le 1 d.names d.count, tally-le 2 d.names d.count)

pub overflow_add-nullary-2 : goal.overflow_add-nullary-2
overflow_add-nullary-2 c = let d = c.args.d.now in omega (arith, c.requires.count, c.tally_of-nullary.ensures, c.tally_of-single.ensures, c.tally_of-pairs.ensures, tally-le 1 d.names d.count, tally-le 2 d.names d.count, tally-le 3 d.names d.count)

pub returns-then-nullary-single-ge-RELS : goal.returns-then-nullary-single-ge-RELS
returns-then-nullary-single-ge-RELS c = let t = c.args.text.now in sym (rel-crowded (declared_of t c.args.d.now) c.args.word.now c.args.n c.tally_of-nullary.result c.tally_of-single.result c.tally_of-pairs.result (tally-count t c.args.d.now 1 ∙ sym c.tally_of-nullary.ensures) (tally-count t c.args.d.now 2 ∙ sym c.tally_of-single.ensures) (tally-count t c.args.d.now 3 ∙ sym c.tally_of-pairs.ensures) c.if-nullary-single-ge-RELS.true)

pub returns-then-pairs-ge-PAIRS : goal.returns-then-pairs-ge-PAIRS
returns-then-pairs-ge-PAIRS c = let t = c.args.text.now in sym (rel-pairs (declared_of t c.args.d.now) c.args.word.now c.args.n c.tally_of-nullary.result c.tally_of-single.result c.tally_of-pairs.result (tally-count t c.args.d.now 1 ∙ sym c.tally_of-nullary.ensures) (tally-count t c.args.d.now 2 ∙ sym c.tally_of-single.ensures) (tally-count t c.args.d.now 3 ∙ sym c.tally_of-pairs.ensures) c.if-nullary-single-ge-RELS.false c.if-n-eq2.true c.if-pairs-ge-PAIRS.true)

pub returns : goal.returns
returns c = let t = c.args.text.now in
    let k : (eqb c.args.n 2 && leb 6 c.tally_of-pairs.result) ≡ false = elim c.else-n-eq2.branch [ else-n-eq2-via-then-n-eq2+else-pairs-ge-PAIRS w ↦ rw (lt-leb 6 c.tally_of-pairs.result w.if-pairs-ge-PAIRS.false) (and-false (eqb c.args.n 2)) | else-n-eq2-via-else-n-eq2 w ↦ rw (ne_eqb c.args.n 2 w.if-n-eq2.false) ] in
    c.unused.ensures ∙ sym (rel-free (declared_of t c.args.d.now) c.args.word.now c.args.n c.tally_of-nullary.result c.tally_of-single.result c.tally_of-pairs.result (tally-count t c.args.d.now 1 ∙ sym c.tally_of-nullary.ensures) (tally-count t c.args.d.now 2 ∙ sym c.tally_of-single.ensures) (tally-count t c.args.d.now 3 ∙ sym c.tally_of-pairs.ensures) c.if-nullary-single-ge-RELS.false k)

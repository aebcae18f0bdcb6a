use mathlib.Core.Path.{sym, ap, ◌∙◌}
use native.Mathlib.Omega.{arith}
use borrow.Author.Rules.{rules}
use lib.ListN.{length}
use Rattle.facts_bits.proofs.Laws.{with-bit-length}
use Rattle.search_ways.proofs.Nearest.{layers-start, layers-more, not_yet}
use Rattle.search_ways.proofs.reach.Goals as goal

pub loop-j-init : goal.loop-j-init
loop-j-init c =
    let a = c.args in (
      ap length c.put.ensures ∙ (with-bit-length a.layers.now a.from ∙ search rules),
      rw c.put.ensures (layers-start a.links.now a.n c.requires.0 a.from c.requires.1 a.layers.now c.requires.3 (search rules)),
      λ i l h. omega arith,
    )

pub loop-j-preserved : goal.loop-j-preserved
loop-j-preserved c =
    let a = c.args in
    let l = c.loop-j in
    let f = not_yet a.links.now a.n c.requires.0 a.from l.j a.to c.requires.2 l.layers l.invariant.1 (sym c.get.ensures ∙ c.if-get.false) l.invariant.2 in
    (search rules, layers-more a.links.now a.n c.requires.0 a.from l.j l.layers _ l.invariant.1 c.spread.ensures, f)

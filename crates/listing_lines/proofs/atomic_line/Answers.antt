-- `listing::atomic_line` meets its contract.
use Rattle.listing_lines.specs.Lines.{names_in, atomic_line}
use Rattle.listing_bytes.specs.Forms.{items}
use Rattle.listing_bytes.proofs.Writing.{after, whole-line}
use Rattle.listing_lines.proofs.atomic_line.Goals as goal

pub returns : goal.returns
unfolding atomic_line
returns c =
    let a = c.args in
    let names = names_in a.text.now a.m.now a.set a.m.now.relations.count in
    whole-line (after (after c.put_bytes-word.ensures {t = items names} c.put_names-names.ensures.0) c.put_end.ensures)

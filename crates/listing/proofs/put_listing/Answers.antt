use Rattle.listing.proofs.Laws.{whole-listing}
use Rattle.listing.proofs.put_listing.Goals as goal

pub returns : goal.returns
returns c =
    let a = c.args in
    whole-listing a.text.now a.m.now a.reached a.states.now a.run.now c.put_summary-summary.ensures.0 c.put_states-listed.ensures.0 c.put_run.ensures

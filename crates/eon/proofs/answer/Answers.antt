-- `eon::answer` meets its contract: the buffers that it lends have their sizes.
use Rattle.limits.specs.Limits as limit
use Rattle.listing.specs.Report.{size}
use Rattle.eon.proofs.Laws.{zeros, zeros-length}
use Rattle.eon.proofs.answer.Goals as goal

pub report-n-requires : goal.report-n-requires
report-n-requires g c = (zeros limit.work, zeros limit.run, zeros size)

pub slice_bounds-report-end-3 : goal.slice_bounds-report-end-3
slice_bounds-report-end-3 g c = zeros-length size

pub slice_bounds-out-end : goal.slice_bounds-out-end
slice_bounds-out-end g c = c.report-n.ensures.1.0

pub slice_bounds-write_all-end : goal.slice_bounds-write_all-end
slice_bounds-write_all-end g c = c.report-n.ensures.1.1

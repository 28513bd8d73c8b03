-- `measured::next` meets its contract. Assumes nothing.
use Rattle.particle.proofs.Laws.{some_bytes, end_within, later_is}
use Rattle.particle.proofs.Runs.{bare_later, told_end}
use Rattle.particle.proofs.measured.next.Goals as goal

pub record_at-r-requires : goal.record_at-r-requires
record_at-r-requires c = some_bytes c.requires.row

pub returns-then-r-eq0 : goal.returns-then-r-eq0
returns-then-r-eq0 c = search bare_later

pub slice_bounds-result-count : goal.slice_bounds-result-count
slice_bounds-result-count c = end_within _ (rw c.from-n.ensures (search told_end))

pub slice_bounds-result-start : goal.slice_bounds-result-start
slice_bounds-result-start c = end_within _ (rw c.from-n.ensures (search told_end))

pub returns : goal.returns
returns c = later_is _ (rw c.from-n.ensures (search told_end))

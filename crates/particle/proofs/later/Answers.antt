-- `particle::later` meets its contract. Assumes nothing.
use Rattle.particle.proofs.Laws.{end_within}
use Rattle.particle.proofs.later.Goals as goal

pub slice_bounds-result-count : goal.slice_bounds-result-count
slice_bounds-result-count c = end_within _ c.run_len-n.ensures

pub slice_bounds-result-start : goal.slice_bounds-result-start
slice_bounds-result-start c = end_within _ c.run_len-n.ensures

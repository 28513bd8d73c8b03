-- `particle::items` meets its contract. Assumes nothing.
use Rattle.particle.proofs.Laws.{some_bytes}
use Rattle.particle.proofs.items.Goals as goal

pub slice_bounds-result-count : goal.slice_bounds-result-count
slice_bounds-result-count c = some_bytes c.requires

pub slice_bounds-result-start : goal.slice_bounds-result-start
slice_bounds-result-start c = some_bytes c.requires

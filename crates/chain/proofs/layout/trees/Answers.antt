-- `layout::trees` meets its contract. Assumes nothing.
use Rattle.chain.proofs.Lengths.{not_empty, start_within}
use Rattle.chain.proofs.layout.trees.Goals as goal

pub level_count-requires : goal.level_count-requires
level_count-requires c = search not_empty

pub slice_bounds-result-count : goal.slice_bounds-result-count
slice_bounds-result-count c = search start_within

pub slice_bounds-result-start : goal.slice_bounds-result-start
slice_bounds-result-start c = search start_within

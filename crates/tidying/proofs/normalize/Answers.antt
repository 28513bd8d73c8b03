-- `tidying::normalize` meets its contract. Assumes nothing.
use Rattle.std.proofs.Common.{rules}
use Rattle.tidying.proofs.WholeStep.{end_fits, out_length, same_length, records_written, tree_written}
use Rattle.tidying.proofs.normalize.Goals as goal

pub slice_bounds-copy_from_slice-end : goal.slice_bounds-copy_from_slice-end
slice_bounds-copy_from_slice-end c = search (end_fits, rules)

pub slice_bounds-copy_from_slice-end-2 : goal.slice_bounds-copy_from_slice-end-2
slice_bounds-copy_from_slice-end-2 c = search (out_length, rules)

pub copy_from_slice-requires : goal.copy_from_slice-requires
copy_from_slice-requires c = search (same_length, rules)

pub returns : goal.returns
returns c = record { value = search records_written; out_after = search tree_written }

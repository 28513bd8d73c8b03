-- `tidying::copy_tree` meets its contract. Assumes nothing.
use Rattle.std.proofs.Common.{rules}
use Rattle.tidying.proofs.CopyStep.{in_out, end_fits, run_length, run_fits, copied}
use Rattle.tidying.proofs.copy_tree.Goals as goal

pub overflow_add-end : goal.overflow_add-end
overflow_add-end c = search end_fits

pub slice_bounds-copy_from_slice-end : goal.slice_bounds-copy_from_slice-end
slice_bounds-copy_from_slice-end c = search in_out

pub slice_bounds-copy_from_slice-end-2 : goal.slice_bounds-copy_from_slice-end-2
slice_bounds-copy_from_slice-end-2 c = search run_length

pub copy_from_slice-requires : goal.copy_from_slice-requires
copy_from_slice-requires c = search run_fits

pub returns : goal.returns
returns c = record { read = search rules; laid = search copied }

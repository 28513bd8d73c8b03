-- `fill_types_by` meets its contract. Assumes nothing.
use Rattle.types.proofs.Entry.{kind_each, kinds_within}
use Rattle.types.proofs.fill_types_by.Goals as goal

pub slice_bounds-kinds-end : goal.slice_bounds-kinds-end
slice_bounds-kinds-end c = kinds_within c.args.sheet.now (cc) _ c.leaf_kinds.ensures

pub slice_bounds-new-end : goal.slice_bounds-new-end
slice_bounds-new-end c = kind_each c.args.sheet.now (cc) _ c.leaf_kinds.ensures

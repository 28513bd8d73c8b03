-- `tidying::normalize_in` meets its contract. Assumes nothing.
use Rattle.tidying.proofs.WholeStep.{whole_room, starts_with}
use Rattle.tidying.proofs.normalize_in.Goals as goal

pub tidy_tree-requires : goal.tidy_tree-requires
tidy_tree-requires c = search whole_room

pub returns : goal.returns
returns c = search starts_with

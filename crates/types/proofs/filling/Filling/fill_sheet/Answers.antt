-- `Filling::fill_sheet` meets its contract. Assumes nothing.
use Rattle.types.proofs.Entry.{second_square, filled_whole}
use Rattle.types.proofs.filling.Filling.fill_sheet.Goals as goal

pub fill_second-requires : goal.fill_second-requires
fill_second-requires c = search second_square

pub returns : goal.returns
returns c = search filled_whole

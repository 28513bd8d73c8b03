-- `Filling::fill_row` meets its contract. Assumes nothing.
use Rattle.std.proofs.Common.{rules}
use Rattle.types.proofs.Rows.{row_next, row_done}
use Rattle.types.proofs.filling.Filling.fill_row.Goals as goal

pub loop-m-preserved : goal.loop-m-preserved
loop-m-preserved c = search (rules, row_next)

pub returns : goal.returns
returns c = search (rules, row_done)

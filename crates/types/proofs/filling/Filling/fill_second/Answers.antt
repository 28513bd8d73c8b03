-- `Filling::fill_second` meets its contract. Assumes nothing.
use Rattle.std.proofs.Common.{rules}
use Rattle.types.proofs.Rows.{table_next, table_done}
use Rattle.types.proofs.filling.Filling.fill_second.Goals as goal

pub loop-l-preserved : goal.loop-l-preserved
loop-l-preserved c = search (rules, table_next)

pub returns : goal.returns
returns c = search (rules, table_done)

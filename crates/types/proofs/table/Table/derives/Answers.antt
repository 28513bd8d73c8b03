-- `Table::derives` meets its contract: the walk goes on while the base has a smaller number. Assumes nothing.
use Rattle.types.proofs.Chains.{walk_on, falls_on, walk_done}
use Rattle.types.proofs.TypeTables.{table_ordered}
use Rattle.types.proofs.table.Table.derives.Goals as goal

pub loop-current-smaller : goal.loop-current-smaller
loop-current-smaller c = search (table_ordered, falls_on)

pub loop-current-preserved : goal.loop-current-preserved
loop-current-preserved c = search (table_ordered, walk_on)

pub returns : goal.returns
returns c = search (table_ordered, walk_done)

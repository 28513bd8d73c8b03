-- `table::table_ok` meets its contract. Assumes nothing.
use Rattle.std.proofs.Common.{rules}
use Rattle.types.specs.Table.{table_ok}
use Rattle.types.proofs.table.table_ok.Goals as goal

pub returns-then-contains : goal.returns-then-contains
unfolding table_ok
returns-then-contains c = search rules

pub returns-else-contains : goal.returns-else-contains
unfolding table_ok
returns-else-contains c = search rules

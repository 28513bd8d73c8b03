-- `layout::contained` meets its contract. Assumes nothing.
use Rattle.chain.proofs.Loops.{counted_next, trees_counted, records_counted}
use Rattle.chain.proofs.layout.contained.Goals as goal

pub loop-i-preserved : goal.loop-i-preserved
loop-i-preserved c = search counted_next

pub returns-clause-trees_value : goal.returns-clause-trees_value
returns-clause-trees_value c = (search trees_counted, search records_counted)

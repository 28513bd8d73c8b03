-- `measured::told_emptiable` meets its contract. Assumes nothing.
use Rattle.particle.proofs.Laws.{some_bytes}
use Rattle.particle.proofs.Found.{bare_tree, told_tree}
use Rattle.particle.proofs.measured.told_emptiable.Goals as goal

pub record_at-r-requires : goal.record_at-r-requires
record_at-r-requires c = some_bytes c.requires.row

pub returns-then-r-eq0 : goal.returns-then-r-eq0
returns-then-r-eq0 c = search bare_tree

pub returns : goal.returns
returns c = search told_tree

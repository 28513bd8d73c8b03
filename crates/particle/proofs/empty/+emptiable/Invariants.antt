-- `empty::emptiable` and `items_emptiable` meet their contracts. A call goes to a shorter part, or from a row to one of its trees. Assumes nothing.
use Rattle.particle.proofs.Emptiness.{ItemsLeft}
use Rattle.particle.proofs.Falls.{of_tree, of_row, Part}
use Rattle.particle.proofs.empty.+emptiable.Given as goal

abbrev pub decreases-emptiable : goal.decreases-emptiable
decreases-emptiable l = of_tree l.t.bytes.now

abbrev pub decreases-items_emptiable : goal.decreases-items_emptiable
decreases-items_emptiable l = of_row l.items.bytes.now

abbrev pub invariant-items_emptiable-loop-rest : goal.invariant-items_emptiable-loop-rest
invariant-items_emptiable-loop-rest l = Part l.rest.count l.rest.bytes.now l.items.bytes.now × ItemsLeft l.each l.items.count l.items.bytes.now l.rest.bytes.now l.rest.count

abbrev pub decreases-items_emptiable-loop-rest : goal.decreases-items_emptiable-loop-rest
decreases-items_emptiable-loop-rest l = l.rest.count

-- `restriction::left_over` meets its contract. Assumes nothing.
use Rattle.restriction.proofs.LeftOver.{LeftOver}
use Rattle.restriction.proofs.rows.left_over.Given as goal

abbrev pub invariant-loop-b : goal.invariant-loop-b
invariant-loop-b l = LeftOver l.bs.count l.bs.bytes.now l.b-iterator.bytes.now l.b-iterator.count

-- `unordered::take_named` meets its contract: an item that is taken or of another name is passed. Assumes nothing.
use Rattle.verdicts.specs.Paper.{paper_leaves}
use Rattle.verdicts.proofs.BaseLoops.{Looking}
use Rattle.verdicts.proofs.unordered.take_named.Given as goal

abbrev pub invariant-loop-b : goal.invariant-loop-b
invariant-loop-b l = Looking l.bs.bytes.now l.bs.count l.initial.matched (paper_leaves l.paper) l.name l.matched l.b-iterator.bytes.now l.i l.b-iterator.count

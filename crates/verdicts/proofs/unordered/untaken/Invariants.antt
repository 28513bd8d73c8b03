-- `unordered::untaken` meets its contract: an item that is taken or of minimum 0 is passed. Assumes nothing.
use Rattle.verdicts.proofs.BaseLoops.{Seeking}
use Rattle.verdicts.proofs.unordered.untaken.Given as goal

abbrev pub invariant-loop-b : goal.invariant-loop-b
invariant-loop-b l = Seeking l.bs.bytes.now l.bs.count l.matched l.b-iterator.bytes.now l.i l.b-iterator.count

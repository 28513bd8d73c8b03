-- `unordered::take_members` meets its contract. Assumes nothing.
use Rattle.verdicts.specs.Paper.{paper_leaves, paper_tables}
use Rattle.verdicts.proofs.Members.{Past, Going}
use Rattle.verdicts.proofs.unordered.take_members.Given as goal

abbrev pub invariant-loop-rest : goal.invariant-loop-rest
invariant-loop-rest l = Going (paper_leaves l.paper) (paper_tables l.paper) l.ds.bytes.now l.ds.count l.bs.bytes.now l.bs.count l.initial.matched l.rest.bytes.now l.rest.count l.seen l.free.bytes.now l.low l.free.count l.matched

abbrev pub decreases-loop-rest : goal.decreases-loop-rest
decreases-loop-rest l = l.rest.count

abbrev pub invariant-loop-free : goal.invariant-loop-free
invariant-loop-free l = Past l.bs.count l.matched l.initial.free.bytes.now l.initial.low l.initial.free.count l.free.bytes.now l.low l.free.count

abbrev pub decreases-loop-free : goal.decreases-loop-free
decreases-loop-free l = l.free.count

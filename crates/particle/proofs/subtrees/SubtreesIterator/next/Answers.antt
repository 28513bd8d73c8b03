-- `Subtrees::next` meets its contract. Assumes nothing.
use native.Mathlib.Omega.{arith}
use Rattle.particle.proofs.Laws.{row_rest}
use Rattle.particle.proofs.subtrees.SubtreesIterator.next.Goals as goal

pub invariant_of-self : goal.invariant_of-self
invariant_of-self c = record { row = rw c.later.ensures (row_rest (omega (arith, c.if-self-eq0.false)) c.args.self.now.row) }

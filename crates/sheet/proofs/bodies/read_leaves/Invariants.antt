-- `bodies::read_leaves` meets its contract. Assumes nothing.
use lib.ListN.{length}
use Rattle.sheet.proofs.Loops.{LeavesLeft}
use Rattle.sheet.proofs.bodies.read_leaves.Given as goal

abbrev pub invariant-loop-i : goal.invariant-loop-i
invariant-loop-i l = LeavesLeft l.leaves l.n (length l.initial.out) l.out l.ok l.i

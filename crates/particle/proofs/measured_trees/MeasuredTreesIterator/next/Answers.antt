-- `MeasuredTrees::next` meets its contract. Assumes nothing.
use native.Mathlib.Omega.{arith}
use Rattle.particle.proofs.Runs.{run_rest}
use Rattle.particle.proofs.measured_trees.MeasuredTreesIterator.next.Goals as goal

pub invariant_of-self : goal.invariant_of-self
invariant_of-self c = record { run = rw c.next-rest.ensures (run_rest (omega (arith, c.if-self-eq0.false)) c.args.self.now.run) }

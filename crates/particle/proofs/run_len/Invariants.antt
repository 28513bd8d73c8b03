-- `particle::run_len` meets its contract: at each turn one record is passed, and its items are awaited. Assumes nothing.
use Prim.Native.Nat.{◌-◌}
use lib.ListN.{length}
use Rattle.particle.proofs.Run.{Running}
use Rattle.particle.proofs.run_len.Given as goal

abbrev pub invariant-loop-pending : goal.invariant-loop-pending
invariant-loop-pending l = Running l.t l.at l.pending

abbrev pub decreases-loop-pending : goal.decreases-loop-pending
decreases-loop-pending l = length l.t - l.at

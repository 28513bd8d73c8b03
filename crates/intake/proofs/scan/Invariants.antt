-- `intake::scan` meets its contract. Assumes nothing.
use lib.ListN.{length}
use Rattle.particle.specs.Tree.{records}
use Rattle.intake.specs.Scan.{listed}
use Rattle.intake.proofs.Scanning.{Scanning, Between}
use Rattle.intake.proofs.scan.Given as goal

abbrev pub invariant-loop-left : goal.invariant-loop-left
invariant-loop-left l = Scanning (listed l.kinds) (records l.t) l.left l.in_all l.outer l.above (records l.rest)

abbrev pub decreases-loop-left : goal.decreases-loop-left
decreases-loop-left l = l.above

abbrev pub invariant-loop-rest : goal.invariant-loop-rest
invariant-loop-rest l = Between (listed l.kinds) (records l.t) l.left l.in_all l.outer l.above (records l.rest)

abbrev pub decreases-loop-rest : goal.decreases-loop-rest
decreases-loop-rest l = length (records l.rest)

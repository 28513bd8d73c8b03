-- `chain::nest` meets its contract. Assumes nothing.
use Rattle.chain.proofs.NestStep.{nest_start, nest_next, nest_done}
use Rattle.chain.proofs.nest.Goals as goal

pub loop-i-init : goal.loop-i-init
loop-i-init c = search nest_start

pub loop-i-preserved : goal.loop-i-preserved
loop-i-preserved c = search nest_next

pub returns : goal.returns
returns c = search nest_done

-- `bodies::verdicts_ok` meets its contract. Assumes nothing.
use Rattle.sheet.proofs.Loops.{verdict_next, verdicts_done}
use Rattle.sheet.proofs.bodies.verdicts_ok.Goals as goal

pub loop-v-preserved : goal.loop-v-preserved
loop-v-preserved c = search verdict_next

pub returns : goal.returns
returns c = search verdicts_done

-- `marking::never` meets its contract. Assumes nothing.
use Rattle.marking.proofs.Marking.{root_zero}
use Rattle.marking.proofs.never.Goals as goal

pub returns : goal.returns
returns c = search root_zero

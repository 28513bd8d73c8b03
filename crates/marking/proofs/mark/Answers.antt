-- `marking::mark` meets its contract. Assumes nothing.
use Rattle.marking.proofs.Marking.{marked}
use Rattle.marking.proofs.Shown.{in_range_lem}
use Rattle.marking.proofs.mark.Goals as goal

pub returns-in-Ok-clause-set_in_range : goal.returns-in-Ok-clause-set_in_range
returns-in-Ok-clause-set_in_range c = (in_range_lem c.args.s.now _ (search marked)).1

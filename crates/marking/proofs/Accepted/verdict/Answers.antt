-- `marking::Accepted::verdict` meets its contract. Assumes nothing.
use Rattle.marking.proofs.TidiedPart.{longest_fits}
use Rattle.marking.proofs.Accepted.verdict.Goals as goal

pub mark_with-requires-in_default : goal.mark_with-requires-in_default
mark_with-requires-in_default c = longest_fits _ c.args.self.accepted

-- `tidying::Kept::keep` meets its contract. Assumes nothing.
use Rattle.tidying.proofs.KeepStep.{dropped, opened, stays}
use Rattle.tidying.proofs.Kept.keep.Goals as goal

pub returns-then-never : goal.returns-then-never
returns-then-never c = search dropped

pub returns-then-splices : goal.returns-then-splices
returns-then-splices c = search opened

pub returns-else-splices : goal.returns-else-splices
returns-else-splices c = search stays

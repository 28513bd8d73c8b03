-- `tidying::Kept::close` meets its contract. Assumes nothing.
use Rattle.tidying.proofs.CloseStep.{many, takes_place, takes_pair_lem, stays}
use Rattle.tidying.proofs.Kept.close.Goals as goal
use Rattle.tidying.proofs.Kept.close.Goals.{then-self-eq1+else-once+else-takes_pair, else-self-eq1}

pub returns-then-once : goal.returns-then-once
returns-then-once c = search takes_place

pub returns-then-takes_pair : goal.returns-then-takes_pair
returns-then-takes_pair c = search takes_pair_lem

pub returns : goal.returns
returns c before x l n a =
    elim c.if-self-eq1.branch [ then-self-eq1+else-once+else-takes_pair w ↦ search stays | else-self-eq1 w ↦ search many ]

-- `restriction::left_over` meets its contract. Assumes nothing.
use Rattle.verdicts.proofs.Rest.{step}
use Rattle.restriction.proofs.LeftOver.{left_start, left_end, left_emptiable, left_fails}
use Rattle.restriction.proofs.rows.left_over.Goals as goal

pub loop-b-init : goal.loop-b-init
loop-b-init c = rw c.into_iter-b-iterator.ensures.into_iter_gives (left_start c.args.bs.run)

pub loop-b-preserved : goal.loop-b-preserved
loop-b-preserved c = search (left_emptiable, step c.in-Some.ensures.steps)

pub returns-then-not-emptiable : goal.returns-then-not-emptiable
returns-then-not-emptiable c = left_fails c.loop-b.invariant (step c.in-Some.ensures.steps) c.emptiable.ensures c.if-not-emptiable.true

pub returns : goal.returns
returns c = left_end c.loop-b.invariant c.in-None.ensures.steps.0

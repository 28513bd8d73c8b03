-- `unordered::take_named` meets its contract: an item that is taken or of another name is passed. Assumes nothing.
use lib.ListN.{length-set}
use Rattle.verdicts.proofs.Rest.{step}
use Rattle.verdicts.proofs.BaseLoops.{look, same_long, flagged, look_on, found_here, found_none}
use Rattle.verdicts.proofs.unordered.take_named.Goals as goal

pub loop-b-init : goal.loop-b-init
loop-b-init c = rw c.into_iter-b-iterator.ensures.into_iter_gives (look _ _ _ _ _ c.args.bs.row)

pub bounds-matched-i : goal.bounds-matched-i
bounds-matched-i c = search (flagged, step c.in-Some.ensures.steps)

pub bounds-matched-i-then-is_free : goal.bounds-matched-i-then-is_free
bounds-matched-i-then-is_free c = search (flagged, step c.in-Some.ensures.steps)

pub shape_of-matched-then-is_free : goal.shape_of-matched-then-is_free
shape_of-matched-then-is_free c = search (same_long, length-set)

pub returns-then-is_free : goal.returns-then-is_free
returns-then-is_free c = search (found_here, step c.in-Some.ensures.steps)

pub loop-b-preserved : goal.loop-b-preserved
loop-b-preserved c = search (look_on, step c.in-Some.ensures.steps)

pub shape_of-matched : goal.shape_of-matched
shape_of-matched c = search same_long

pub returns : goal.returns
returns c = search (found_none, c.in-None.ensures.steps)

-- `unordered::take_members` meets its contract. Assumes nothing.
use native.Mathlib.Omega.{arith}
use Rattle.verdicts.proofs.Rest.{stepped, ahead}
use Rattle.verdicts.proofs.Members.{past_none, past_one, start, passed, unsure, failed, at_end}
use Rattle.verdicts.proofs.unordered.take_members.Goals as goal
use Rattle.verdicts.proofs.unordered.take_members.Goals.{in-Ok, in-Unknown}

pub loop-rest-init : goal.loop-rest-init
loop-rest-init c = search start

pub loop-free-init : goal.loop-free-init
loop-free-init c = past_none c.loop-rest.invariant.base

pub loop-free-preserved : goal.loop-free-preserved
loop-free-preserved c =
    let next = c.next in
    past_one c.loop-free.invariant (stepped c.loop-free.free next.new.self next.result next.ensures.steps c.loop-free-test.true) (omega (arith, c.loop-rest.invariant.flags, c.loop-free.invariant.base.passed, c.requires)) (search)

pub loop-rest-preserved : goal.loop-rest-preserved
loop-rest-preserved c =
    let next = c.next-in-loop-rest in
    let step = stepped c.loop-rest.rest next.new.self next.result next.ensures.steps c.loop-rest-test.true in
    let judged = c.member_restrict-v.ensures in
    elim c.match-v.branch [
      | in-Ok w ↦ rw w.seen-is (passed _ _ _ _ _ _ _ c.requires c.loop-rest.invariant c.loop-free.invariant step c.record.ensures judged (search) (search))
      | in-Unknown w ↦ rw w.seen-is (unsure _ _ _ _ _ _ _ c.requires c.loop-rest.invariant c.loop-free.invariant step c.record.ensures judged (search) (search))
    ]

pub returns-in-Violation : goal.returns-in-Violation
returns-in-Violation c = search (failed, ahead c.loop-rest.rest c.loop-rest-test.true)

pub returns : goal.returns
returns c = at_end _ _ _ _ _ _ _ c.loop-rest.invariant (omega (arith, c.loop-rest-test.false)) c.untaken.ensures c.definite-2.ensures

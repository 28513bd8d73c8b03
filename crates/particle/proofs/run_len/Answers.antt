-- `particle::run_len` meets its contract: at each turn one record is passed, and its items are awaited. Assumes nothing.
use native.Mathlib.Omega.{arith}
use Rattle.particle.proofs.Run.{start, room, record_left, record_passed, run_ended}
use Rattle.particle.proofs.run_len.Goals as goal

pub loop-pending-init : goal.loop-pending-init
loop-pending-init c = start c.requires

pub count_at-requires : goal.count_at-requires
count_at-requires c = record_left c.loop-pending.invariant (search)

pub overflow_add-pending : goal.overflow_add-pending
overflow_add-pending c = omega (arith, room ((record_passed c.loop-pending.invariant (search) c.count_at.ensures)))

pub overflow_add-at : goal.overflow_add-at
overflow_add-at c = omega (arith, room ((record_passed c.loop-pending.invariant (search) c.count_at.ensures)))

pub loop-pending-smaller : goal.loop-pending-smaller
loop-pending-smaller c = omega (arith, room ((record_passed c.loop-pending.invariant (search) c.count_at.ensures)))

pub loop-pending-preserved : goal.loop-pending-preserved
loop-pending-preserved c = (record_passed c.loop-pending.invariant (search) c.count_at.ensures)

pub returns : goal.returns
returns c = run_ended c.loop-pending.invariant (search)

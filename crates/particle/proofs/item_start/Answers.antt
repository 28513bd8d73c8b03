-- `particle::item_start` meets its contract. Assumes nothing.
use native.Mathlib.Omega.{arith}
use Rattle.particle.proofs.ItemWalk.{begin, run_whole, run_passed, arrived}
use Rattle.particle.proofs.item_start.Goals as goal

pub loop-init : goal.loop-init
loop-init c = begin c.requires.row c.requires.k_bound

pub run_len-at-requires : goal.run_len-at-requires
run_len-at-requires c = run_whole c.loop.invariant

pub overflow_add-at : goal.overflow_add-at
overflow_add-at c = omega (arith, ((run_passed c.loop.invariant (search) c.run_len-at.ensures)).within)

pub loop-preserved : goal.loop-preserved
loop-preserved c = (run_passed c.loop.invariant (search) c.run_len-at.ensures)

pub returns : goal.returns
returns c = arrived c.loop.invariant (search)

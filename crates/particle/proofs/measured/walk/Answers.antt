-- `measured::walk` meets its contract. Assumes nothing.
use mathlib.Core.Path.{◌≡◌}
use Prim.Native.Nat.{◌+◌, ◌-◌, ◌≤◌, ◌<◌}
use native.Mathlib.Omega.{arith}
use Rattle.particle.proofs.Runs.{row_done}
use Rattle.particle.proofs.Found.{walk_next, walk_done}
use Rattle.particle.proofs.measured.walk.Goals as goal

pub loop-preserved : goal.loop-preserved
loop-preserved c =
    let some : 0 < c.args.n - c.loop.counter = omega arith in
    let one_less : c.args.n - (c.loop.counter + 1) ≡ c.args.n - c.loop.counter - 1 = omega arith in
    rw one_less (search walk_next)

pub overflow_sub-result : goal.overflow_sub-result
overflow_sub-result c =
    let none : c.args.n - c.loop.counter ≤ 0 = omega arith in
    omega (arith, row_done c.loop.invariant.ahead none)

pub returns : goal.returns
returns c =
    let none : c.args.n - c.loop.counter ≤ 0 = omega arith in
    search walk_done

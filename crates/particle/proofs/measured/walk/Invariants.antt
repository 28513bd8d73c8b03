-- `measured::walk` meets its contract. Assumes nothing.
use Prim.Native.Nat.{◌-◌}
use Rattle.particle.proofs.Found.{Walked}
use Rattle.particle.proofs.measured.walk.Given as goal

abbrev pub invariant-loop : goal.invariant-loop
invariant-loop l = Walked l.n l.t l.every l.some l.rest (l.n - l.counter)

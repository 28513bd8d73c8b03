-- `particle::item_start` meets its contract. Assumes nothing.
use Rattle.particle.proofs.ItemWalk.{Walk}
use Rattle.particle.proofs.item_start.Given as goal

abbrev pub invariant-loop : goal.invariant-loop
invariant-loop l = Walk l.t l.fn.k l.at l.counter

-- `measured::after` meets its contract. Assumes nothing.
use Rattle.particle.proofs.Runs.{if_run}
use Rattle.particle.proofs.measured.after.Goals as goal

pub next-requires : goal.next-requires
next-requires c = search if_run

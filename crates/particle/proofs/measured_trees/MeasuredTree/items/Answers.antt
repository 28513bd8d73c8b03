-- `MeasuredTree::items` meets its contract. Assumes nothing.
use Rattle.particle.proofs.Laws.{some_bytes}
use Rattle.particle.proofs.Runs.{items_run}
use Rattle.particle.proofs.measured_trees.MeasuredTree.items.Goals as goal

pub record_at-requires : goal.record_at-requires
record_at-requires c = some_bytes c.args.self.run.row

pub invariant_of-result : goal.invariant_of-result
invariant_of-result c = record { run = rw (c.from.ensures, c.record_at.ensures, c.items.ensures) (items_run c.args.self.run) }

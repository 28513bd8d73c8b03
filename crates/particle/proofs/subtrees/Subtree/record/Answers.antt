-- `Subtree::record` meets its contract. Assumes nothing.
use Rattle.particle.proofs.Laws.{some_bytes}
use Rattle.particle.proofs.subtrees.Subtree.record.Goals as goal

pub record_at-requires : goal.record_at-requires
record_at-requires c = some_bytes c.args.self.row

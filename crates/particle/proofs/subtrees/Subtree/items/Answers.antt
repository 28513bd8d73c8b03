-- `Subtree::items` meets its contract. Assumes nothing.
use Rattle.particle.proofs.Laws.{some_bytes, items_row}
use Rattle.particle.proofs.subtrees.Subtree.items.Goals as goal

pub record_at-requires : goal.record_at-requires
record_at-requires c = some_bytes c.args.self.row

pub invariant_of-result : goal.invariant_of-result
invariant_of-result c = record { row = rw (c.from.ensures, c.record_at.ensures, c.items.ensures) (items_row c.args.self.row) }

-- `entries::item` meets its contract. Assumes nothing.
use Rattle.particle.proofs.Laws.{some_bytes}
use Rattle.entries.proofs.item.Goals as goal

pub record_at-requires : goal.record_at-requires
record_at-requires c = some_bytes {n = 0} c.in-Ok.ensures.row

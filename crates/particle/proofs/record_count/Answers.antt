-- `particle::record_count` meets its contract. Assumes nothing.
use mathlib.Core.Path.{sym}
use Rattle.particle.proofs.Records.{length_records}
use Rattle.particle.proofs.record_count.Goals as goal

pub returns : goal.returns
returns c = sym (length_records c.args.t.now)

-- `particle::write_record` meets its contract. Assumes nothing.
use native.Mathlib.Omega.{arith}
use Rattle.particle.proofs.Store.{bytes_of_half, bytes_of_word, record_stored}
use Rattle.particle.proofs.write_record.Goals as goal

pub returns : goal.returns
returns c =
    record_stored c.args.out.now c.args.at c.args.r c.requires
    (bytes_of_half (omega arith) c.to_le_bytes.ensures) c.write.ensures
    (bytes_of_half (omega arith) c.to_le_bytes-2.ensures) c.write-2.ensures
    (bytes_of_word (omega arith) c.to_le_bytes-3.ensures) c.write-3.ensures
    (bytes_of_word (omega arith) c.to_le_bytes-4.ensures) c.write-4.ensures

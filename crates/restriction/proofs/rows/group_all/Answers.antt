-- `restriction::group_all` meets its contract. Assumes nothing.
use Rattle.particle.proofs.Runs.{run_few}
use Rattle.restriction.proofs.rows.group_all.Goals as goal

pub recurse_unordered-requires : goal.recurse_unordered-requires
recurse_unordered-requires c = rw c.from-then-range_ok.ensures.1 (run_few c.items-then-range_ok.result.run)

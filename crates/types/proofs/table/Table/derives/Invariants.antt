-- `Table::derives` meets its contract: the walk goes on while the base has a smaller number. Assumes nothing.
use mathlib.Core.Path.{◌≡◌}
use Rattle.types.specs.Derives as spec
use Rattle.types.proofs.table.Table.derives.Given as goal

abbrev pub invariant-loop-current : goal.invariant-loop-current
invariant-loop-current l = spec.derives l.self.parents.now l.current l.base ≡ spec.derives l.self.parents.now l.derived l.base

abbrev pub decreases-loop-current : goal.decreases-loop-current
decreases-loop-current l = l.current

-- `Filling::fill_second` meets its contract. Assumes nothing.
use Rattle.types.specs.Fill.{fill_verdict}
use Rattle.types.proofs.Rows.{TableLeft}
use Rattle.types.proofs.filling.Filling.fill_second.Given as goal

abbrev pub invariant-loop-l : goal.invariant-loop-l
invariant-loop-l l = TableLeft (fill_verdict l.self.table.parents.now l.self.kinds.now l.self.types.now) l.n l.initial.second l.second l.l

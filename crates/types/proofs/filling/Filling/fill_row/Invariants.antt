-- `Filling::fill_row` meets its contract. Assumes nothing.
use Rattle.types.specs.Fill.{fill_verdict}
use Rattle.types.proofs.Rows.{RowLeft}
use Rattle.types.proofs.filling.Filling.fill_row.Given as goal

abbrev pub invariant-loop-m : goal.invariant-loop-m
invariant-loop-m l = RowLeft (fill_verdict l.self.table.parents.now l.self.kinds.now l.self.types.now l.l) l.initial.row l.row l.m

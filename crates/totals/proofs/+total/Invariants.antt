-- `totals::effective_total_range`, `sum_of` and `span_of` meet their contracts. A call goes to a shorter part, or from a row to one of its trees. Assumes nothing.
use Prim.Native.Nat.{◌-◌}
use Rattle.particle.specs.Runs.{RunIf}
use Rattle.totals.specs.Exact.{sum, span}
use Rattle.particle.proofs.Falls.{of_tree, of_row}
use Rattle.totals.proofs.Gathered.{Gathered}
use Rattle.totals.proofs.+total.Given as goal

abbrev pub decreases-effective_total_range : goal.decreases-effective_total_range
decreases-effective_total_range l = of_tree l.t.now

abbrev pub decreases-span_of : goal.decreases-span_of
decreases-span_of l = of_row l.t.now

abbrev pub decreases-sum_of : goal.decreases-sum_of
decreases-sum_of l = of_row l.t.now

abbrev pub invariant-span_of-loop : goal.invariant-span_of-loop
invariant-span_of-loop l = Gathered span l.n l.t l.span l.items (l.n - l.counter) × RunIf l.measured (l.n - l.counter) l.items

abbrev pub invariant-sum_of-loop : goal.invariant-sum_of-loop
invariant-sum_of-loop l = Gathered sum l.n l.t l.sum l.items (l.n - l.counter) × RunIf l.measured (l.n - l.counter) l.items

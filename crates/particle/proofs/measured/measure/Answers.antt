-- `measured::measure` meets its contract. Assumes nothing.
use mathlib.Core.Path.{ap, ◌∙◌}
use native.Mathlib.Omega.{arith}
use lib.Seq.{sets}
use Rattle.particle.proofs.Store.{bytes_of_half}
use Rattle.particle.proofs.Found.{note_made}
use Rattle.particle.proofs.MeasureStep.{none_measured, all_measured, one_more, bare_measured, tree_lent, items_lent, found_lent, size_fits, noted_measured}
use Rattle.particle.proofs.measured.measure.Goals as goal

pub loop-i-init : goal.loop-i-init
loop-i-init c = none_measured c.record_count-i.ensures c.requires.row c.requires.t_len_bound

pub walk-x-requires : goal.walk-x-requires
walk-x-requires c = items_lent _ (one_more c.loop-i.invariant c.loop-i-test.true) c.count_at-count.ensures c.if-count-gt0.true

pub found_emptiable-requires-clause-row : goal.found_emptiable-requires-clause-row
found_emptiable-requires-clause-row c = tree_lent _ (one_more c.loop-i.invariant c.loop-i-test.true) c.count_at-count.ensures c.if-count-gt0.true

pub found_emptiable-requires-clause-row_found : goal.found_emptiable-requires-clause-row_found
found_emptiable-requires-clause-row_found c = found_lent _ (one_more c.loop-i.invariant c.loop-i-test.true) c.count_at-count.ensures c.if-count-gt0.true c.walk-x.ensures

pub overflow_cast-size : goal.overflow_cast-size
overflow_cast-size c = omega (arith, size_fits _ (one_more c.loop-i.invariant c.loop-i-test.true) c.count_at-count.ensures c.if-count-gt0.true c.walk-x.ensures)

pub loop-i-preserved-then-count-gt0 : goal.loop-i-preserved-then-count-gt0
loop-i-preserved-then-count-gt0 c =
    let a = one_more c.loop-i.invariant c.loop-i-test.true in
    let fits = size_fits _ a c.count_at-count.ensures c.if-count-gt0.true c.walk-x.ensures in
    noted_measured _ a c.count_at-count.ensures c.if-count-gt0.true c.walk-x.ensures (note_made _ c.from.ensures) c.found_emptiable.ensures
    (c.write.ensures ∙ ap (sets _ _) (bytes_of_half (omega (arith, fits)) c.to_le_bytes.ensures))

pub loop-i-preserved : goal.loop-i-preserved
loop-i-preserved c = bare_measured _ (one_more c.loop-i.invariant c.loop-i-test.true) c.count_at-count.ensures c.if-count-gt0.false

pub returns : goal.returns
returns c = all_measured c.loop-i.invariant (omega arith)

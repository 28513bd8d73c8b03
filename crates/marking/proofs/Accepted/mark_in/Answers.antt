-- `marking::mark_in` meets its contract: both trees stand tidied and measured in the buffers. Assumes nothing.
use Rattle.marking.proofs.TidiedPart.{tidied_row, prepared}
use Rattle.marking.proofs.Marking.{accepted_mark, derived_whole, derived_exact, base_whole, base_exact}
use Rattle.marking.proofs.Accepted.mark_in.Goals as goal

pub normalize_in-d-requires-clause-row : goal.normalize_in-d-requires-clause-row
normalize_in-d-requires-clause-row c = search derived_whole

pub normalize_in-d-requires-clause-faithful : goal.normalize_in-d-requires-clause-faithful
normalize_in-d-requires-clause-faithful c = search derived_exact

pub normalize_in-b-requires-clause-row : goal.normalize_in-b-requires-clause-row
normalize_in-b-requires-clause-row c = search base_whole

pub normalize_in-b-requires-clause-faithful : goal.normalize_in-b-requires-clause-faithful
normalize_in-b-requires-clause-faithful c = search base_exact

pub measure-requires-clause-row : goal.measure-requires-clause-row
measure-requires-clause-row c = search tidied_row

pub measure-requires-2-clause-row : goal.measure-requires-2-clause-row
measure-requires-2-clause-row c = search tidied_row

pub invariant_of-derived : goal.invariant_of-derived
invariant_of-derived c = record { run = (prepared _ c.normalize_in-d.ensures {s = c.measure.new.t} c.measure.auto.t c.measure.ensures).run }

pub invariant_of-base : goal.invariant_of-base
invariant_of-base c = record { run = (prepared _ c.normalize_in-b.ensures {s = c.measure-2.new.t} c.measure-2.auto.t c.measure-2.ensures).run }

pub returns : goal.returns
returns c =
    let derived = prepared _ c.normalize_in-d.ensures {s = c.measure.new.t} c.measure.auto.t c.measure.ensures in
    let base = prepared _ c.normalize_in-b.ensures {s = c.measure-2.new.t} c.measure-2.auto.t c.measure-2.ensures in
    accepted_mark _ c.leaves.ensures c.tables.ensures c.leaf_count.ensures c.derived.ensures derived.same c.base.ensures base.same c.mark_tidied.ensures

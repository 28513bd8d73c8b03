-- `totals::effective_total_range`, `sum_of` and `span_of` meet their contracts. A call goes to a shorter part, or from a row to one of its trees. Assumes nothing.
use mathlib.Core.Path.{◌≡◌}
use Prim.Native.Nat.{◌+◌, ◌-◌, ◌≤◌, ◌<◌}
use native.Mathlib.Nat.{pos_of_ne-zero}
use native.Mathlib.Omega.{arith}
use Rattle.particle.proofs.Laws.{some_bytes}
use Rattle.particle.proofs.Runs.{first_if, rest_if, items_if}
use Rattle.particle.proofs.Falls.{first_row, part_first, part_falls, items_trees, items_fall}
use Rattle.totals.proofs.FirstTotal.{leaf_total, choice_total, ordered_total}
use Rattle.totals.proofs.Gathered.{sums, spans, span_none, sum_start, span_start, leaf_item, gathered_next, gathered_end}
use Rattle.totals.proofs.+total.Goals as goal
use Rattle.totals.proofs.+total.Goals.{span_of-then-head-lt-SEQUENCE, span_of-else-head-lt-SEQUENCE, sum_of-then-head-lt-SEQUENCE, sum_of-else-head-lt-SEQUENCE}

pub effective_total_range-record_at-head-requires : goal.effective_total_range-record_at-head-requires
effective_total_range-record_at-head-requires t c = search (some_bytes {n = 0})

pub effective_total_range-returns-then-head-lt-SEQUENCE : goal.effective_total_range-returns-then-head-lt-SEQUENCE
effective_total_range-returns-then-head-lt-SEQUENCE t c = search leaf_total

pub effective_total_range-sum_of-requires : goal.effective_total_range-sum_of-requires
effective_total_range-sum_of-requires t c = rw c.from-n.ensures (search items_fall, (search items_trees, search items_if))

pub effective_total_range-returns-then-head-ne-CHOICE : goal.effective_total_range-returns-then-head-ne-CHOICE
effective_total_range-returns-then-head-ne-CHOICE t c = search ordered_total

pub effective_total_range-span_of-requires : goal.effective_total_range-span_of-requires
effective_total_range-span_of-requires t c = rw c.from-n.ensures (search items_fall, (search items_trees, search items_if))

pub effective_total_range-returns : goal.effective_total_range-returns
effective_total_range-returns t c = search choice_total

pub span_of-returns-then-n-eq0 : goal.span_of-returns-then-n-eq0
span_of-returns-then-n-eq0 t c = search span_none

pub span_of-effective_total_range-span-requires : goal.span_of-effective_total_range-span-requires
span_of-effective_total_range-span-requires t c = (omega arith, (search first_row, search (first_if {m = 0}, pos_of_ne-zero)))

pub span_of-after-items-requires : goal.span_of-after-items-requires
span_of-after-items-requires t c = record { row = search first_row; run_if = search (first_if {m = 0}, pos_of_ne-zero) }

pub span_of-loop-init : goal.span_of-loop-init
span_of-loop-init t c = search (span_start, rest_if {m = 0}, pos_of_ne-zero)

pub span_of-after-items-requires-in-loop : goal.span_of-after-items-requires-in-loop
span_of-after-items-requires-in-loop t c =
    let some : 0 < c.args.n - c.loop.counter = omega arith in
    record { row = search part_first; run_if = search first_if }

pub span_of-record_at-head-requires : goal.span_of-record_at-head-requires
span_of-record_at-head-requires t c =
    let some : 0 < c.args.n - c.loop.counter = omega arith in
    search (some_bytes {n = 0}, part_first)

pub span_of-effective_total_range-requires : goal.span_of-effective_total_range-requires
span_of-effective_total_range-requires t c =
    let some : 0 < c.args.n - c.loop.counter = omega arith in
    (search part_falls, (search part_first, search first_if))

pub span_of-loop-preserved : goal.span_of-loop-preserved
span_of-loop-preserved t c =
    let some : 0 < c.args.n - c.loop.counter = omega arith in
    let one_less : c.args.n - (c.loop.counter + 1) ≡ c.args.n - c.loop.counter - 1 = omega arith in
    rw one_less (elim c.if-head-lt-SEQUENCE.branch [ span_of-then-head-lt-SEQUENCE w ↦ rw w.span-is (search (gathered_next spans, leaf_item, rest_if)) | span_of-else-head-lt-SEQUENCE w ↦ rw w.span-is (search (gathered_next spans, rest_if)) ])

pub span_of-returns : goal.span_of-returns
span_of-returns t c =
    let none : c.args.n - c.loop.counter ≤ 0 = omega arith in
    search (gathered_end spans)

pub sum_of-loop-init : goal.sum_of-loop-init
sum_of-loop-init t c =
    let all : c.args.n - 0 ≡ c.args.n = omega arith in
    rw all (search sum_start)

pub sum_of-after-items-requires : goal.sum_of-after-items-requires
sum_of-after-items-requires t c =
    let some : 0 < c.args.n - c.loop.counter = omega arith in
    record { row = search part_first; run_if = search first_if }

pub sum_of-record_at-head-requires : goal.sum_of-record_at-head-requires
sum_of-record_at-head-requires t c =
    let some : 0 < c.args.n - c.loop.counter = omega arith in
    search (some_bytes {n = 0}, part_first)

pub sum_of-effective_total_range-requires : goal.sum_of-effective_total_range-requires
sum_of-effective_total_range-requires t c =
    let some : 0 < c.args.n - c.loop.counter = omega arith in
    (search part_falls, (search part_first, search first_if))

pub sum_of-loop-preserved : goal.sum_of-loop-preserved
sum_of-loop-preserved t c =
    let some : 0 < c.args.n - c.loop.counter = omega arith in
    let one_less : c.args.n - (c.loop.counter + 1) ≡ c.args.n - c.loop.counter - 1 = omega arith in
    rw one_less (elim c.if-head-lt-SEQUENCE.branch [ sum_of-then-head-lt-SEQUENCE w ↦ rw w.sum-is (search (gathered_next sums, leaf_item, rest_if)) | sum_of-else-head-lt-SEQUENCE w ↦ rw w.sum-is (search (gathered_next sums, rest_if)) ])

pub sum_of-returns : goal.sum_of-returns
sum_of-returns t c =
    let none : c.args.n - c.loop.counter ≤ 0 = omega arith in
    search (gathered_end sums)

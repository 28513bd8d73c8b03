-- `tidying::tidy_tree` and `tidy_items` meet their contracts. A call goes to a shorter part, or from a tree to its items. Each answer names its law;
use native.Mathlib.Omega.{arith}
use Rattle.particle.proofs.Laws.{some_bytes}
use Rattle.tidying.proofs.ItemsStep.{none_read, kept_stand, item_room, item_stands, read_within, read_fits, item_read, all_read, closes}
use Rattle.tidying.proofs.TreeStep.{record_fits, bare, unaltered}
use Rattle.tidying.proofs.+tidy.Goals as goal

pub tidy_items-returns-then-not-tidies : goal.tidy_items-returns-then-not-tidies
tidy_items-returns-then-not-tidies t c = search unaltered

pub tidy_items-loop-init : goal.tidy_items-loop-init
tidy_items-loop-init t c = search none_read

pub tidy_items-tidy_tree-x-requires : goal.tidy_items-tidy_tree-x-requires
tidy_items-tidy_tree-x-requires t c = (omega arith, search item_room)

pub tidy_items-keep-requires : goal.tidy_items-keep-requires
tidy_items-keep-requires t c = search item_stands

pub tidy_items-slice_bounds-rest-count : goal.tidy_items-slice_bounds-rest-count
tidy_items-slice_bounds-rest-count t c = omega (arith, read_within)

pub tidy_items-slice_bounds-rest-start : goal.tidy_items-slice_bounds-rest-start
tidy_items-slice_bounds-rest-start t c = omega (arith, read_within)

pub tidy_items-overflow_add-read : goal.tidy_items-overflow_add-read
tidy_items-overflow_add-read t c = search read_fits

pub tidy_items-loop-preserved : goal.tidy_items-loop-preserved
tidy_items-loop-preserved t c = search item_read

pub tidy_items-close-requires : goal.tidy_items-close-requires
tidy_items-close-requires t c = search kept_stand

pub tidy_items-returns : goal.tidy_items-returns
tidy_items-returns t c = record { read = search all_read; laid = search closes }

pub tidy_tree-record_at-root-requires : goal.tidy_tree-record_at-root-requires
tidy_tree-record_at-root-requires t c = search (some_bytes {n = 0})

pub tidy_tree-write_record-requires : goal.tidy_tree-write_record-requires
tidy_tree-write_record-requires t c = search record_fits

pub tidy_tree-returns-then-root-eq0 : goal.tidy_tree-returns-then-root-eq0
tidy_tree-returns-then-root-eq0 t c = search bare

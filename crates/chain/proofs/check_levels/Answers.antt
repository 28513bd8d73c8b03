-- `chain::check_levels` meets its contract. Assumes nothing.
use Rattle.std.proofs.lemmas.Result.{err_from_is_err_and}
use Rattle.chain.proofs.Lengths.{not_empty, counts_within}
use Rattle.chain.proofs.Loops.{count_there, levels_start, level_within, level_absent, level_accepted, level_refused, levels_done}
use Rattle.chain.proofs.check_levels.Goals as goal
use Rattle.chain.proofs.check_levels.Goals.{then-not-is_empty+in_ok-check_alone, else-not-is_empty}

pub level_count-i-end-requires : goal.level_count-i-end-requires
level_count-i-end-requires c = search not_empty

pub loop-i-init : goal.loop-i-init
loop-i-init c = search levels_start

pub count-requires-clause-count_size_in_bounds : goal.count-requires-clause-count_size_in_bounds
count-requires-clause-count_size_in_bounds c = search (count_there, counts_within)

pub split_at-requires : goal.split_at-requires
split_at-requires c = search level_within

pub returns-in_err-check_alone : goal.returns-in_err-check_alone
returns-in_err-check_alone c = let p = err_from_is_err_and c.from_residual.result c.from_residual.ensures.1 in rw (p.1, p.2) (search (level_refused, c.in_err-check_alone.ensures))

pub loop-i-preserved : goal.loop-i-preserved
loop-i-preserved c = elim c.if-not-is_empty.branch [ then-not-is_empty+in_ok-check_alone w ↦ search (level_accepted, w.in_ok-check_alone.ensures) | else-not-is_empty w ↦ search level_absent ]

pub returns : goal.returns
returns c = search levels_done

-- `chain::effective_particle` meets its contract. Assumes nothing.
use Rattle.std.proofs.lemmas.Result.{err_from_is_err_and}
use native.Mathlib.Omega.{arith}
use Rattle.chain.proofs.Lengths.{counts_within}
use Rattle.chain.proofs.Entry.{no_chain_lem, no_chain_kept, is_chain, level_refused, level_refused_kept, no_content_lem, no_content_kept, trees_even, trees_small, joined_answer, joined_buffer}
use Rattle.chain.proofs.effective_particle.Goals as goal

pub returns-then-not-chain_ok-clause-result_value : goal.returns-then-not-chain_ok-clause-result_value
returns-then-not-chain_ok-clause-result_value c = search no_chain_lem

pub returns-then-not-chain_ok-clause-out_after : goal.returns-then-not-chain_ok-clause-out_after
returns-then-not-chain_ok-clause-out_after c = search no_chain_kept

pub returns-in_err-map_err-clause-result_value : goal.returns-in_err-map_err-clause-result_value
returns-in_err-map_err-clause-result_value c = let p = err_from_is_err_and c.from_residual.result c.from_residual.ensures.1 in rw (p.1, p.2) (level_refused _ _ c.chain_ok.ensures c.if-not-chain_ok.false c.check_levels.ensures _ c.in_err-map_err.ensures.cases)

pub returns-in_err-map_err-clause-out_after : goal.returns-in_err-map_err-clause-out_after
returns-in_err-map_err-clause-out_after c = level_refused_kept _ _ c.chain_ok.ensures c.if-not-chain_ok.false c.check_levels.ensures _ c.in_err-map_err.ensures.cases

pub contained-all-requires : goal.contained-all-requires
contained-all-requires c = search (counts_within, is_chain)

pub returns-then-all-eq0-clause-result_value : goal.returns-then-all-eq0-clause-result_value
returns-then-all-eq0-clause-result_value c = search (no_content_lem, c.in_ok-map_err.ensures.variant)

pub returns-then-all-eq0-clause-out_after : goal.returns-then-all-eq0-clause-out_after
returns-then-all-eq0-clause-out_after c = search (no_content_kept, c.in_ok-map_err.ensures.variant)

pub join-requires-clause-record_size_len : goal.join-requires-clause-record_size_len
join-requires-clause-record_size_len c = search trees_even

pub join-requires-clause-n_bound : goal.join-requires-clause-n_bound
join-requires-clause-n_bound c = (omega arith, search trees_small)

pub returns-in_err-records-clause-result_value : goal.returns-in_err-records-clause-result_value
returns-in_err-records-clause-result_value c = let p = err_from_is_err_and c.from_residual-in_err-records.result c.from_residual-in_err-records.ensures.1 in rw (p.1, p.2) (search (joined_answer, c.in_ok-map_err.ensures.variant, c.in_err-records.ensures))

pub returns-in_err-records-clause-out_after : goal.returns-in_err-records-clause-out_after
returns-in_err-records-clause-out_after c = search (joined_buffer, c.in_ok-map_err.ensures.variant)

pub returns-clause-result_value : goal.returns-clause-result_value
returns-clause-result_value c = search (joined_answer, c.in_ok-map_err.ensures.variant, c.in_ok-records.ensures)

pub returns-clause-out_after : goal.returns-clause-out_after
returns-clause-out_after c = search (joined_buffer, c.in_ok-map_err.ensures.variant)

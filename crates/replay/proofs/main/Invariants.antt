-- `replay::main` is safe. Fewer cases agreed than the next one's number, and fewer differed. Assumes nothing.
use Rattle.std.proofs.Common.{◌<◌}
use Rattle.replay.proofs.main.Given as goal

abbrev pub invariant-loop-case : goal.invariant-loop-case
invariant-loop-case l = (l.counts.agreed < l.case-counter) × (l.counts.differ < l.case-counter)

-- `chain::nest` meets its contract. Assumes nothing.
use lib.ListN.{length}
use Rattle.chain.proofs.NestStep.{Nesting}
use Rattle.chain.proofs.nest.Given as goal

abbrev pub invariant-loop-i : goal.invariant-loop-i
invariant-loop-i l = Nesting (length l.initial.out) l.out l.i

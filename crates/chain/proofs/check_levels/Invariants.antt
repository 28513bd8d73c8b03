-- `chain::check_levels` meets its contract. Assumes nothing.
use Rattle.chain.proofs.Loops.{LevelsLeft}
use Rattle.chain.proofs.check_levels.Given as goal

abbrev pub invariant-loop-i : goal.invariant-loop-i
invariant-loop-i l = LevelsLeft l.c l.i-end l.rest l.i

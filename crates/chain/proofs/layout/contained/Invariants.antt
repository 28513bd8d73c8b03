-- `layout::contained` meets its contract. Assumes nothing.
use Rattle.chain.proofs.Loops.{Counted}
use Rattle.chain.proofs.layout.contained.Given as goal

abbrev pub invariant-loop-i : goal.invariant-loop-i
invariant-loop-i l = Counted l.c l.i-end l.all.trees l.all.records l.i

-- `bodies::verdicts_ok` meets its contract. Assumes nothing.
use mathlib.Core.Bool.{◌&&◌}
use lib.Dec.{leb}
use Rattle.sheet.proofs.Loops.{VerdictsLeft}
use Rattle.sheet.proofs.bodies.verdicts_ok.Given as goal

abbrev pub invariant-loop-v : goal.invariant-loop-v
invariant-loop-v l = VerdictsLeft l.tables (leb l.most 152 && leb l.place_most 117) l.v-index

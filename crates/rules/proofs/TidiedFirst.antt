-- A paper may be tidied before it is marked: the mark of two trees is that of the two tidied. Assumes nothing.
use mathlib.Core.Path.{◌≡◌, ap₂}
use Rattle.particle.specs.Tree.{Particle}
use Rattle.tidying.specs.Tidy.{tidy}
use Rattle.tidying.proofs.TidyTrees.{tidy_twice}
use Rattle.rules.specs.Verdicts.{Leaves, Tables}
use Rattle.rules.specs.Mark.{mark_tidied, mark}

pub tidied_first : (L : Leaves) (T : Tables) (d b : Particle) → mark L T (tidy d) (tidy b) ≡ mark L T d b
unfolding mark
tidied_first L T d b = ap₂ (mark_tidied L T) (tidy_twice d) (tidy_twice b)

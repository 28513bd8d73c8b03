-- What tidying keeps, as specs/ states it, and that it keeps the total range where it keeps the exact total. Assumes nothing.
use mathlib.Core.Path.{◌≡◌, ap}
use Rattle.particle.specs.Tree.{Particle}
use Rattle.totals.specs.Total.{cut, total}
use Rattle.language.specs.Premises.{BelowRoot, NoZeroMaximum, NoEmptyChoice}
use Rattle.tidying.specs.Tidy.{tidy}
use Rattle.tidying.specs.TidyKept.{TidyExactTotal, TidyTotal, TidyAllows}
use Rattle.tidying.proofs.Allowed.{tidy_allows}
use Rattle.tidying.proofs.TotalsKept.{tidy_exact_total}

pub tidy_total : (x : Particle) → BelowRoot NoZeroMaximum x → BelowRoot NoEmptyChoice x → total (tidy x) ≡ total x
unfolding total
tidy_total x z n = ap cut (tidy_exact_total x z n)

pub keeps_exact_total : TidyExactTotal
keeps_exact_total = tidy_exact_total

pub keeps_total : TidyTotal
keeps_total = tidy_total

pub keeps_allowed : TidyAllows
keeps_allowed = tidy_allows

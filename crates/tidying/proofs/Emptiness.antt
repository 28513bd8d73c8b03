-- Tidying and emptiness, by the least number of the total range: a tree is emptiable where its tidied tree is, its pairs being in order; the other way round too where it has no zero maximum and no empty choice below its root. Assumes nothing.
use mathlib.Core.Bool.{true}
use mathlib.Core.Path.{◌≡◌, ap, sym, ◌∙◌}
use native.Mathlib.Omega.{arith}
use borrow.Author.Tests.{eqb-true, eq-eqb}
use Rattle.particle.specs.Tree.{Particle}
use Rattle.particle.specs.Empty.{optional, emptiable}
use Rattle.totals.specs.Exact.{exact_total}
use Rattle.totals.proofs.Standard.{emptiable_exact}
use Rattle.language.specs.Premises.{BelowRoot, Ordered, NoZeroMaximum, NoEmptyChoice}
use Rattle.tidying.specs.Tidy.{tidy}
use Rattle.tidying.specs.TidyKept.{TidyEmptiable}
use Rattle.tidying.proofs.TotalsKept.{tidy_exact_min, tidy_exact_total}

pub tidy_emptiable : (x : Particle) → BelowRoot NoZeroMaximum x → BelowRoot NoEmptyChoice x → emptiable (tidy x) ≡ emptiable x
tidy_emptiable x z n = emptiable_exact (tidy x) ∙ (ap optional (tidy_exact_total x z n) ∙ sym (emptiable_exact x))

pub keeps_emptiable : TidyEmptiable
keeps_emptiable = tidy_emptiable

pub tidied_emptiable : (x : Particle) → BelowRoot Ordered x → emptiable (tidy x) ≡ true → emptiable x ≡ true
tidied_emptiable x o e =
    let zero : (exact_total (tidy x)).min ≡ 0 = eqb-true (exact_total (tidy x)).min 0 (sym (emptiable_exact (tidy x)) ∙ e) in
    emptiable_exact x ∙ eq-eqb (exact_total x).min 0 (omega (arith, tidy_exact_min x o))

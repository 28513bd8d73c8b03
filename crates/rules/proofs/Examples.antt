-- `examples_hold`: every P example of document 01, by computation. Assumes nothing.
use mathlib.Core.Path.{refl}
use Rattle.particle.specs.Tree.{◌then◌, count_i, size_i, fold}
use Rattle.particle.specs.Empty.{emptiable}
use Rattle.totals.specs.Exact.{sum, span, exact_total}
use Rattle.totals.specs.Total.{total}
use Rattle.tidying.specs.Tidy.{tidy_items, tidy}
use Rattle.rules.specs.Walk.{left_over, recurse_ordered, alternatives, each_member, take_named, untaken, recurse_unordered}
use Rattle.rules.specs.Rule.{rule}
use Rattle.rules.specs.Mark.{restrict_to, restrict, mark_tidied, mark}
use Rattle.rules.specs.Examples.{AllHold, examples}

pub examples_hold : AllHold examples
unfolding mark mark_tidied restrict restrict_to rule recurse_ordered left_over alternatives each_member recurse_unordered take_named untaken tidy tidy_items ◌then◌ emptiable total exact_total sum span fold count_i size_i
examples_hold = (refl, (refl, (refl, (refl, (refl, (refl, (refl, (refl, (refl, (refl, (refl, (refl, (refl, (refl, tt))))))))))))))

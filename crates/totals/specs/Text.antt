-- The text of a total range. Assumes nothing: these are definitions.
use Rattle.std.specs.Prelude.{ℕ, List, ◌++◌, codes}
use Rattle.std.specs.Fmt.{decimal}
use Rattle.totals.specs.declared.ranges.TotalMin.{TotalMin}
use Rattle.totals.specs.declared.ranges.TotalMin.TheVariants as least
use Rattle.totals.specs.declared.ranges.TotalMax.{TotalMax}
use Rattle.totals.specs.declared.ranges.TotalMax.TheVariants as most
use Rattle.totals.specs.declared.ranges.TotalRange.{TotalRange}

-- a minimum: a number, or `too large`
abbrev pub min_text : TotalMin → List ℕ
min_text (least.Exact n) = decimal n
min_text least.TooLarge = codes "too large"

-- a maximum: a number, `too large` or `unbounded`
abbrev pub max_text : TotalMax → List ℕ
max_text (most.Bounded n) = decimal n
max_text most.TooLarge = codes "too large"
max_text most.Unbounded = codes "unbounded"

-- `MIN, MAX`
abbrev pub range_text : TotalRange → List ℕ
range_text t = min_text t.min ++ codes ", " ++ max_text t.max

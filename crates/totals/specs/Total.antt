-- The total range: the exact one, cut once at 4294967295, and when it is within a pair (document 02 §2). Assumes nothing: these are definitions.
use Rattle.std.specs.Prelude.{Bool, true, false, cond, ◌&&◌, ℕ, leb}
use Rattle.particle.specs.declared.MaxOccurs.{MaxOccurs}
use Rattle.particle.specs.declared.MaxOccurs.TheVariants as occurs
use Rattle.particle.specs.declared.Occurs.{Occurs}
use Rattle.particle.specs.Tree.{Particle}
use Rattle.totals.specs.declared.ranges.TotalMin.{TotalMin}
use Rattle.totals.specs.declared.ranges.TotalMin.TheVariants as least
use Rattle.totals.specs.declared.ranges.TotalMax.{TotalMax}
use Rattle.totals.specs.declared.ranges.TotalMax.TheVariants as most
use Rattle.totals.specs.declared.ranges.TotalRange.{TotalRange}
use Rattle.totals.specs.Exact.{exact_total}

-- the largest number of 32 bits: what is above it is too large
abbrev pub largest : ℕ
largest = 4294967295

-- a minimum is exact or too large
abbrev pub cut_min : ℕ → TotalMin
cut_min n = cond (leb n largest) (least.Exact n) least.TooLarge

-- a maximum is bounded, too large or unbounded
abbrev pub cut_bounded : ℕ → TotalMax
cut_bounded n = cond (leb n largest) (most.Bounded n) most.TooLarge

abbrev pub cut_max : MaxOccurs → TotalMax
cut_max (occurs.Bounded n) = cut_bounded n
cut_max occurs.Unbounded = most.Unbounded

abbrev pub cut : Occurs → TotalRange
cut o = record { min = cut_min o.min; max = cut_max o.max }

-- `effective_total_range`: the exact total, and then one cut
unfoldable pub total : Particle → TotalRange
total x = cut (exact_total x)

-- a minimum isn't below b; one that is too large is above 4294967295, so it isn't below any b up to that
abbrev pub total_min_ok : TotalMin → (b : ℕ) → Bool
total_min_ok (least.Exact n) b = leb b n
total_min_ok least.TooLarge b = leb b largest

-- a maximum isn't above b; one that is too large is above every number of 32 bits
abbrev pub total_max_ok : TotalMax → (b : MaxOccurs) → Bool
total_max_ok t occurs.Unbounded = true
total_max_ok (most.Bounded n) (occurs.Bounded b) = leb n b
total_max_ok most.TooLarge (occurs.Bounded b) = false
total_max_ok most.Unbounded (occurs.Bounded b) = false

-- the total range t is within the pair b: its minimum isn't below and its maximum isn't above
abbrev pub total_ok : TotalRange → Occurs → Bool
total_ok t b = total_min_ok t.min b.min && total_max_ok t.max b.max

-- Sums, products and spans of ranges that are cut already: what the code computes with. They are the exact ones, cut (proofs/CutSums.antt). Assumes nothing: these are definitions.
use Rattle.std.specs.Prelude.{ℕ, zero, suc, ◌+◌, ◌*◌, min, max}
use Rattle.particle.specs.declared.MaxOccurs.{MaxOccurs}
use Rattle.particle.specs.declared.MaxOccurs.TheVariants as occurs
use Rattle.particle.specs.declared.Occurs.{Occurs}
use Rattle.totals.specs.declared.ranges.TotalMin.{TotalMin}
use Rattle.totals.specs.declared.ranges.TotalMin.TheVariants.{Exact, TooLarge}
use Rattle.totals.specs.declared.ranges.TotalMax.{TotalMax}
use Rattle.totals.specs.declared.ranges.TotalMax.TheVariants as most
use Rattle.totals.specs.declared.ranges.TotalRange.{TotalRange}
use Rattle.totals.specs.Total.{cut_min, cut_bounded}

-- Minima -------------------------------------------------------------------------

abbrev pub add_cut_min : TotalMin → TotalMin → TotalMin
add_cut_min (Exact a) (Exact b) = cut_min (a + b)
add_cut_min (Exact a) TooLarge = TooLarge
add_cut_min TooLarge b = TooLarge

-- a number times a minimum: zero times too large is 0
abbrev pub mul_cut_min : ℕ → TotalMin → TotalMin
mul_cut_min a (Exact b) = cut_min (a * b)
mul_cut_min zero TooLarge = Exact 0
mul_cut_min (suc a) TooLarge = TooLarge

-- the lesser: an exact one is below one that is too large
abbrev pub min_cut_min : TotalMin → TotalMin → TotalMin
min_cut_min (Exact a) (Exact b) = Exact (min a b)
min_cut_min (Exact a) TooLarge = Exact a
min_cut_min TooLarge b = b

-- Maxima -------------------------------------------------------------------------

-- with one that is too large, the sum and the greater alike: only unbounded is above it
abbrev pub with_too_large : TotalMax → TotalMax
with_too_large (most.Bounded b) = most.TooLarge
with_too_large most.TooLarge = most.TooLarge
with_too_large most.Unbounded = most.Unbounded

-- two maxima: f of the numbers where both are bounded; otherwise unbounded if one of them is, else too large
abbrev pub of_both : (ℕ → ℕ → TotalMax) → TotalMax → TotalMax → TotalMax
of_both f (most.Bounded a) (most.Bounded b) = f a b
of_both f (most.Bounded a) most.TooLarge = most.TooLarge
of_both f (most.Bounded a) most.Unbounded = most.Unbounded
of_both f most.TooLarge b = with_too_large b
of_both f most.Unbounded b = most.Unbounded

abbrev pub add_cut_max : TotalMax → TotalMax → TotalMax
add_cut_max = of_both (λ a b. cut_bounded (a + b))

-- the greater
abbrev pub max_cut_max : TotalMax → TotalMax → TotalMax
max_cut_max = of_both (λ a b. most.Bounded (max a b))

-- zero times what is too large or unbounded is 0; any other number times it is what it was
abbrev pub times_open : ℕ → TotalMax → TotalMax
times_open zero b = most.Bounded 0
times_open (suc a) b = b

-- a number times a maximum
abbrev pub times_cut_max : ℕ → TotalMax → TotalMax
times_cut_max a (most.Bounded b) = cut_bounded (a * b)
times_cut_max a most.TooLarge = times_open a most.TooLarge
times_cut_max a most.Unbounded = times_open a most.Unbounded

-- unbounded times a maximum
abbrev pub unbounded_times : TotalMax → TotalMax
unbounded_times (most.Bounded b) = times_open b most.Unbounded
unbounded_times most.TooLarge = most.Unbounded
unbounded_times most.Unbounded = most.Unbounded

abbrev pub mul_cut_max : MaxOccurs → TotalMax → TotalMax
mul_cut_max (occurs.Bounded a) b = times_cut_max a b
mul_cut_max occurs.Unbounded b = unbounded_times b

-- Ranges -------------------------------------------------------------------------

abbrev pub add_cut : TotalRange → TotalRange → TotalRange
add_cut a b = record { min = add_cut_min a.min b.min; max = add_cut_max a.max b.max }

-- a pair times a range
abbrev pub mul_cut : Occurs → TotalRange → TotalRange
mul_cut a b = record { min = mul_cut_min a.min b.min; max = mul_cut_max a.max b.max }

-- the lesser minimum and the greater maximum
abbrev pub span_cut : TotalRange → TotalRange → TotalRange
span_cut a b = record { min = min_cut_min a.min b.min; max = max_cut_max a.max b.max }

-- Total ranges as document 01 first had them: 'a minimum above 4294967295 becomes 4294967295; such a maximum becomes unbounded', at each sum and product.
-- No rule and no contract reads them: they serve the theorems that what the caps gave is known from the total range. Assumes nothing.
use mathlib.Core.Bool.{cond}
use mathlib.Core.List.{List, [], ◌∷◌}
use Prim.Native.Nat.{ℕ, ◌+◌, ◌*◌, ◌≤◌, min}
use lib.Dec.{leb}
use Rattle.particle.specs.declared.MaxOccurs.{MaxOccurs}
use Rattle.particle.specs.declared.MaxOccurs.TheVariants.{Bounded, Unbounded}
use Rattle.particle.specs.declared.Occurs.{Occurs}
use Rattle.particle.specs.Occurs.{exactly}
use Rattle.particle.specs.Tree.{Head, element, wildcard, sequence, choice, all, Particle, fold}
use Rattle.totals.specs.declared.ranges.TotalMin.{TotalMin}
use Rattle.totals.specs.declared.ranges.TotalMin.TheVariants as least
use Rattle.totals.specs.declared.ranges.TotalMax.{TotalMax}
use Rattle.totals.specs.declared.ranges.TotalMax.TheVariants as most
use Rattle.totals.specs.declared.ranges.TotalRange.{TotalRange}
use Rattle.totals.specs.Exact.{times_unbounded, span}
use Rattle.totals.specs.Total.{largest}

abbrev pub cap_min : ℕ → ℕ
cap_min n = min largest n

abbrev pub cap_max : ℕ → MaxOccurs
cap_max n = cond (leb n largest) (Bounded n) Unbounded

abbrev pub capped_add_max : MaxOccurs → MaxOccurs → MaxOccurs
capped_add_max (Bounded a) (Bounded b) = cap_max (a + b)
capped_add_max (Bounded a) Unbounded = Unbounded
capped_add_max Unbounded b = Unbounded

abbrev pub capped_mul_max : MaxOccurs → MaxOccurs → MaxOccurs
capped_mul_max (Bounded a) (Bounded b) = cap_max (a * b)
capped_mul_max (Bounded a) Unbounded = times_unbounded a
capped_mul_max Unbounded (Bounded b) = times_unbounded b
capped_mul_max Unbounded Unbounded = Unbounded

abbrev pub capped_add : Occurs → Occurs → Occurs
capped_add a b = record { min = cap_min (a.min + b.min); max = capped_add_max a.max b.max }

abbrev pub capped_mul : Occurs → Occurs → Occurs
capped_mul a b = record { min = cap_min (a.min * b.min); max = capped_mul_max a.max b.max }

unfoldable pub capped_sum : List Occurs → Occurs
capped_sum [] = exactly 0
capped_sum (t ∷ ts) = capped_add t (capped_sum ts)

-- the least minimum and the greatest maximum need no cap of their own: `span` serves
abbrev pub capped_from : Head → List Occurs → Occurs
capped_from (element l p) ts = p
capped_from (wildcard l p) ts = p
capped_from (sequence p) ts = capped_mul p (capped_sum ts)
capped_from (choice p) ts = capped_mul p (span ts)
capped_from (all p) ts = capped_mul p (capped_sum ts)

unfoldable pub capped_total : Particle → Occurs
capped_total x = capped_from x.head (fold capped_from x.items)

-- What the caps gave, computed from a total range: too large stands for a minimum of 4294967295 and for an unbounded maximum.
abbrev pub min_with_cap : TotalMin → ℕ
min_with_cap (least.Exact n) = n
min_with_cap least.TooLarge = largest

abbrev pub max_with_cap : TotalMax → MaxOccurs
max_with_cap (most.Bounded n) = Bounded n
max_with_cap most.TooLarge = Unbounded
max_with_cap most.Unbounded = Unbounded

abbrev pub with_caps : TotalRange → Occurs
with_caps t = record { min = min_with_cap t.min; max = max_with_cap t.max }

-- a pair of 32 bits: the caps do not alter it
abbrev pub Max32 : MaxOccurs → Type 0
Max32 (Bounded n) = n ≤ largest
Max32 Unbounded = Unit {0}

abbrev pub Pair32 : Occurs → Type 0
Pair32 p = (p.min ≤ largest) × Max32 p.max

-- a leaf's pair is of 32 bits, as every pair is that stands in bytes; of a group's pair nothing is asked
abbrev pub Leaf32 : Head → Type 0
Leaf32 (element l p) = Pair32 p
Leaf32 (wildcard l p) = Pair32 p
Leaf32 (sequence p) = Unit {0}
Leaf32 (choice p) = Unit {0}
Leaf32 (all p) = Unit {0}

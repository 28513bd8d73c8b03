-- Occurrence pairs: a minimum, and a maximum that is bounded or unbounded. Assumes nothing: these are definitions.
use Rattle.std.specs.Prelude.{Bool, true, false, ◌&&◌, ℕ, leb, eqb}
use Rattle.particle.specs.declared.MaxOccurs.{MaxOccurs}
use Rattle.particle.specs.declared.MaxOccurs.TheVariants.{Bounded, Unbounded}
use Rattle.particle.specs.declared.Occurs.{Occurs}

-- the maximum d isn't above b
abbrev pub max_ok : MaxOccurs → MaxOccurs → Bool
max_ok (Bounded d) (Bounded b) = leb d b
max_ok (Bounded d) Unbounded = true
max_ok Unbounded (Bounded b) = false
max_ok Unbounded Unbounded = true

-- `range_ok`: d's minimum isn't below b's, and its maximum isn't above
abbrev pub range_ok : Occurs → Occurs → Bool
range_ok d b = leb b.min d.min && max_ok d.max b.max

-- the pair (n, n)
abbrev pub exactly : ℕ → Occurs
exactly n = record { min = n; max = Bounded n }

-- maximum 0
abbrev pub is_zero : MaxOccurs → Bool
is_zero (Bounded n) = eqb n 0
is_zero Unbounded = false

-- the pair (1,1)
abbrev pub is_one : MaxOccurs → Bool
is_one (Bounded n) = eqb n 1
is_one Unbounded = false

abbrev pub is_once : Occurs → Bool
is_once p = eqb p.min 1 && is_one p.max

-- Document 01's examples of totals as document 02 §2 has them, what the exact totals are there, and where a total range differs from the standard's. Assumes nothing.
use mathlib.Core.Path.{◌≡◌, refl}
use Rattle.particle.specs.declared.MaxOccurs.TheVariants.{Unbounded}
use Rattle.particle.specs.declared.Occurs.{Occurs}
use Rattle.particle.specs.Occurs.{exactly}
use Rattle.particle.specs.Tree.{element, sequence, none, item, Particle, fold}
use Rattle.totals.specs.declared.ranges.TotalMin.TheVariants as least
use Rattle.totals.specs.declared.ranges.TotalMax.TheVariants as most
use Rattle.totals.specs.Exact.{sum, exact_total}
use Rattle.totals.specs.Total.{total}

-- S p [a q]: a sequence of pair p, its one item an element of pair q
abbrev pub sequence_of : Occurs → Occurs → Particle
sequence_of p q = record { head = sequence p; items = item (element 0 q) none none }

-- P totals: S(65535,65535)[a(65537,65537)] gives 4294967295 twice; 65536 in both places is too large twice
pub totals_examples :
    (total (sequence_of (exactly 65535) (exactly 65537)) ≡ record { min = least.Exact 4294967295; max = most.Bounded 4294967295 })
    × (total (sequence_of (exactly 65536) (exactly 65536)) ≡ record { min = least.TooLarge; max = most.TooLarge })
unfolding total exact_total fold sum
totals_examples = (refl, refl)

-- the exact total of the second is 4294967296 twice, as the standard has it
pub exact_example : exact_total (sequence_of (exactly 65536) (exactly 65536)) ≡ exactly 4294967296
unfolding exact_total fold sum
exact_example = refl

-- S(0,0)[a(0,*)]: 0, where the standard has unbounded
pub zero_differs : exact_total (sequence_of (exactly 0) (record { min = 0; max = Unbounded })) ≡ exactly 0
unfolding exact_total fold sum
zero_differs = refl

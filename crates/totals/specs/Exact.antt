-- The exact total range: sums and products over numbers without limit. Assumes nothing: these are definitions.
use Rattle.std.specs.Prelude.{List, [], ◌∷◌, ℕ, zero, suc, ◌+◌, ◌*◌, min, max}
use Rattle.particle.specs.declared.MaxOccurs.{MaxOccurs}
use Rattle.particle.specs.declared.MaxOccurs.TheVariants.{Bounded, Unbounded}
use Rattle.particle.specs.declared.Occurs.{Occurs}
use Rattle.particle.specs.Occurs.{exactly}
use Rattle.particle.specs.Tree.{Head, element, wildcard, sequence, choice, all, Particle, fold}

abbrev pub add_max : MaxOccurs → MaxOccurs → MaxOccurs
add_max (Bounded a) (Bounded b) = Bounded (a + b)
add_max (Bounded a) Unbounded = Unbounded
add_max Unbounded b = Unbounded

-- a number times unbounded: zero times unbounded is 0
abbrev pub times_unbounded : ℕ → MaxOccurs
times_unbounded zero = Bounded 0
times_unbounded (suc n) = Unbounded

abbrev pub mul_max : MaxOccurs → MaxOccurs → MaxOccurs
mul_max (Bounded a) (Bounded b) = Bounded (a * b)
mul_max (Bounded a) Unbounded = times_unbounded a
mul_max Unbounded (Bounded b) = times_unbounded b
mul_max Unbounded Unbounded = Unbounded

abbrev pub max_max : MaxOccurs → MaxOccurs → MaxOccurs
max_max (Bounded a) (Bounded b) = Bounded (max a b)
max_max (Bounded a) Unbounded = Unbounded
max_max Unbounded b = Unbounded

abbrev pub add_range : Occurs → Occurs → Occurs
add_range a b = record { min = a.min + b.min; max = add_max a.max b.max }

abbrev pub mul_range : Occurs → Occurs → Occurs
mul_range a b = record { min = a.min * b.min; max = mul_max a.max b.max }

-- the least minimum and the greatest maximum of two
abbrev pub span_range : Occurs → Occurs → Occurs
span_range a b = record { min = min a.min b.min; max = max_max a.max b.max }

-- the items' sums
unfoldable pub sum : List Occurs → Occurs
sum [] = exactly 0
sum (t ∷ ts) = add_range t (sum ts)

-- the least minimum and the greatest maximum; empty gives 0, 0
unfoldable pub span : List Occurs → Occurs
span [] = exactly 0
span (t ∷ []) = t
span (t ∷ u ∷ ts) = span_range t (span (u ∷ ts))

-- The exact total of a record, from its items: sequence and all, the group's pair times the items' sums; choice, times the least minimum and greatest maximum
abbrev pub exact_from : Head → List Occurs → Occurs
exact_from (element l p) ts = p
exact_from (wildcard l p) ts = p
exact_from (sequence p) ts = mul_range p (sum ts)
exact_from (choice p) ts = mul_range p (span ts)
exact_from (all p) ts = mul_range p (sum ts)

unfoldable pub exact_total : Particle → Occurs
exact_total x = exact_from x.head (fold exact_from x.items)

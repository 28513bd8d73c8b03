-- The element verdict. Assumes nothing: these are definitions.
use Rattle.std.specs.Prelude.{ℕ, leb}
use Rattle.particle.specs.declared.MaxOccurs.{MaxOccurs}
use Rattle.particle.specs.declared.MaxOccurs.TheVariants.{Bounded, Unbounded}
use Rattle.particle.specs.declared.Occurs.{Occurs}
use Rattle.rules.specs.Verdicts.{Mark, passes, fails, Tables}
use Rattle.rules.specs.Combine.{◌or_fails◌, ◌and_then◌}

-- the derived element's maximum against the base element's: 123 unbounded, 124 maximum above
abbrev pub max_restrict : MaxOccurs → MaxOccurs → Mark
max_restrict (Bounded d) (Bounded b) = leb d b or_fails 124
max_restrict (Bounded d) Unbounded = passes
max_restrict Unbounded (Bounded b) = fails 123
max_restrict Unbounded Unbounded = passes

-- The element verdict (`element_restrict`), of leaf l with pair p against leaf m with pair q: 'first table, minimum, maximum, second table; the first of these that is
-- not ok is the verdict'; 122 minimum below.
abbrev pub element_restrict : Tables → (l : ℕ) → Occurs → (m : ℕ) → Occurs → Mark
element_restrict T l p m q = T.first l m and_then leb q.min p.min or_fails 122 and_then max_restrict p.max q.max and_then T.second l m

-- How marks combine: one check or item after another, alternatives, the two readings. Assumes nothing: these are definitions.
use Rattle.std.specs.Prelude.{Bool, true, false, ℕ}
use Rattle.rules.specs.Verdicts.{Mark, passes, undecided, fails}

infix 40 ◌or_fails◌
infixr 30 ◌and_then◌ ◌or_else◌
-- a test, and the reason where it does not hold
abbrev pub ◌or_fails◌ : Bool → (reason : ℕ) → Mark
true or_fails r = passes
false or_fails r = fails r

-- One check or item, and then the rest. A failure ends it. 'A failure after an undecided item is undecided, and a rule or walk that ends without failure after one is
-- undecided too': so what follows an undecided one does not matter.
abbrev pub ◌and_then◌ : Mark → Mark → Mark
passes and_then rest = rest
undecided and_then rest = undecided
fails r and_then rest = fails r

-- One alternative, and then the later ones: 'the first pass wins; else one undecided makes it undecided'.
abbrev pub ◌or_else◌ : Mark → Mark → Mark
passes or_else rest = passes
undecided or_else rest = elim rest [ passes ↦ passes | undecided ↦ undecided | fails r ↦ undecided ]
fails r or_else rest = rest

-- The two readings (`combine_readings`): 'either passing passes; two failures give the first's reason; anything else is undecided'.
abbrev pub combine_readings : (first second : Mark) → Mark
combine_readings passes n = passes
combine_readings undecided n = elim n [ passes ↦ passes | undecided ↦ undecided | fails s ↦ undecided ]
combine_readings (fails r) n = elim n [ passes ↦ passes | undecided ↦ undecided | fails s ↦ fails r ]

-- The mark of two trees. Assumes nothing: these are definitions.
use Rattle.std.specs.Prelude.{Bool, true, false, ◌&&◌, ◌||◌, ℕ, zero, suc, ◌+◌, ◌*◌}
use Rattle.particle.specs.Occurs.{is_zero}
use Rattle.particle.specs.Tree.{Particle, pair_of, single, size_i}
use Rattle.particle.specs.Empty.{emptiable}
use Rattle.tidying.specs.Tidy.{tidy}
use Rattle.rules.specs.Verdicts.{Mark, passes, undecided, Leaves, Tables}
use Rattle.rules.specs.Walk.{Judge}
use Rattle.rules.specs.Rule.{rule}

-- the early pass: the derived root has maximum 0, and the base root has maximum 0 or is emptiable
abbrev pub early_pass : (derived base : Particle) → Bool
early_pass d b = is_zero (pair_of d.head).max && (is_zero (pair_of b.head).max || emptiable b)

-- more than twice the records of both trees
abbrev pub steps : (derived base : Particle) → ℕ
steps d b = suc (2 * (size_i (single d) + size_i (single b)))

module _ (L : Leaves) (T : Tables) where
  -- the rule, entered at most n deep; deeper, undecided
  unfoldable pub restrict_to : ℕ → Judge
  restrict_to zero = λ d b. undecided
  restrict_to (suc n) = λ d b. rule L T (restrict_to n) d.head d.items b.head b.items

  -- The mark by the rule (`restrict`). The rule is never entered so deep, and so this is the rule applied to itself: `mark_unfolds`.
  unfoldable pub restrict : Judge
  restrict d b = restrict_to (steps d b) d b

  -- the mark of two tidied trees: the early pass, otherwise the rule
  unfoldable pub mark_tidied : (derived base : Particle) → Mark
  mark_tidied d b = elim (early_pass d b) [ true ↦ passes | false ↦ restrict d b ]

  -- the mark of two trees: both are tidied first
  unfoldable pub mark : (derived base : Particle) → Mark
  mark d b = mark_tidied (tidy d) (tidy b)

-- What tidying keeps of a tree (document 02 §8): 'Where the tree handed in has no maximum of 0 and no empty choice, tidying keeps both emptiness and the set of name sequences allowed.'
-- Here this is supposed below the root only, and for the name sequences nothing of choices: that is more. Assumes nothing: these are definitions.
use Rattle.std.specs.Prelude.{List, ◌↔◌, ◌≡◌, ℕ}
use Rattle.particle.specs.Tree.{Particle}
use Rattle.particle.specs.Empty.{emptiable}
use Rattle.totals.specs.Exact.{exact_total}
use Rattle.totals.specs.Total.{total}
use Rattle.language.specs.Language.{Names, Allows}
use Rattle.language.specs.Premises.{BelowRoot, NoZeroMaximum, NoEmptyChoice}
use Rattle.tidying.specs.Tidy.{tidy}

-- f of the tidied tree is f of the tree, where this has no maximum of 0 and no empty choice below its root
abbrev pub TidyKeeps : {A : Type 0} → (Particle → A) → Type 0
TidyKeeps f = (x : Particle) → BelowRoot NoZeroMaximum x → BelowRoot NoEmptyChoice x → f (tidy x) ≡ f x

-- Tidying keeps emptiness.
abbrev pub TidyEmptiable : Type 0
TidyEmptiable = TidyKeeps emptiable

-- It keeps the exact total, which emptiness comes of.
abbrev pub TidyExactTotal : Type 0
TidyExactTotal = TidyKeeps exact_total

-- It keeps the total range.
abbrev pub TidyTotal : Type 0
TidyTotal = TidyKeeps total

-- It keeps the set of name sequences allowed, over any names, where the tree has no maximum of 0 below its root.
abbrev pub TidyAllows : Type 1
TidyAllows = (names : Names) (x : Particle) → BelowRoot NoZeroMaximum x → (w : List ℕ) → Allows names (tidy x) w ↔ Allows names x w

-- Demand 3 over sheets: what its two halves state. Both speak of `mark_sheet`. The contract of the entry `mark` is that its answer r to the sheet s has
-- mark_meaning r ≡ mark_sheet s, and so both hold of what the entry answers: `mark_meaning r ≡ gives m` is the same as `mark_sheet s ≡ gives m`.
-- Assumes nothing: these are definitions.
use Rattle.std.specs.Prelude.{List, ◌≡◌, ℕ, ◌≤◌, ◌<◌, length, get_or}
use Rattle.particle.specs.Tree.{Particle}
use Rattle.language.specs.Language.{Names, Allows}
use Rattle.language.specs.Premises.{BelowRoot, Throughout, NoZeroMaximum, NoEmptyChoice}
use Rattle.rules.specs.Verdicts.{Mark, passes, undecided}
use Rattle.rules.specs.Demand.{NamesAmong}
use Rattle.entries.specs.Answer.{gives}
use Rattle.sheet.specs.Layout.{leaf_count, tables_at, derived_at}
use Rattle.marking.specs.Answer.{sheet_leaves, sheet_tables, derived_tree, base_tree, mark_sheet}

-- First half: filling in ---------------------------------------------------------------

-- A verdict of a sheet before and after: the same byte; or 1 before, and now 0 or any of 140 to 152.
pub data FilledByte : (before after : ℕ) → Type 0 where
  unchanged : {v : ℕ} → FilledByte v v
  filled_ok : FilledByte 1 0
  filled_reason : {r : ℕ} → 140 ≤ r → r ≤ 152 → FilledByte 1 r

-- the byte at this place of the sheet is a verdict of the first or of the second table
abbrev pub IsVerdict : (s : List ℕ) (place : ℕ) → Type 0
IsVerdict s i = (tables_at (leaf_count s) ≤ i) × (i < derived_at (leaf_count s))

-- s' is s filled in: any of the verdicts 1 are replaced, each by its own choice, and every other byte is left.
pub record FilledSheet (s s' : List ℕ) : Type 0 where
  pub same_length : length s' ≡ length s
  pub verdicts : (i : ℕ) → IsVerdict s i → FilledByte (get_or s i 0) (get_or s' i 0)
  pub others : (i : ℕ) → ¬ (IsVerdict s i) → get_or s' i 0 ≡ get_or s i 0

-- Where a sheet's mark is not undecided, the sheet filled in has the same mark: a pass stays a pass, and a failure fails with the same reason.
abbrev pub FillingKeepsSheetMarks : Type 0
FillingKeepsSheetMarks = (s s' : List ℕ) → FilledSheet s s' → (m : Mark) → ¬ (m ≡ undecided) → mark_sheet s ≡ gives m → mark_sheet s' ≡ gives m

-- Second half: what a pass means --------------------------------------------------------

-- What document 02 §5 supposes of each of the two trees, as handed in: 'no empty choice and no zero maximum below a root; the roots may now have it'.
pub record Plain (x : Particle) : Type 0 where
  pub no_empty_choice : Throughout NoEmptyChoice x
  pub no_zero_below : BelowRoot NoZeroMaximum x

-- What document 01 supposes of them, which is more: no record, root or below, has a zero maximum, and no choice is empty.
pub record NoZeroMaxima (x : Particle) : Type 0 where
  pub no_empty_choice : Throughout NoEmptyChoice x
  pub no_zero_maximum : Throughout NoZeroMaximum x

-- Of a derived tree as D says and a base tree as B says: where a sheet passes, every sequence of names that its derived tree allows is allowed by its base tree, whatever sets of names its leaves have as derived and as base,
-- if for each two leaves whose verdicts are all ok the derived leaf's names are among the base leaf's.
abbrev pub SheetPassIncludes : (D B : Particle → Type 0) → Type 1
SheetPassIncludes D B = (s : List ℕ) → mark_sheet s ≡ gives passes → D (derived_tree s) → B (base_tree s)
    → (derived base : Names) → NamesAmong (sheet_leaves s) (sheet_tables s) derived base
    → (w : List ℕ) → Allows derived (derived_tree s) w → Allows base (base_tree s) w

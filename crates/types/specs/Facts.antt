-- What the theorems of document 02 §6 and §7 state, of any table of types. They speak of `type_answer`, `fill_answer` and `filled_sheet`. The contract of the entry
-- `fill_types_by` is that its answer r to the sheet s, the type numbers and the table has fill_meaning r ≡ fill_answer parents s types, and that the lent sheet then is
-- filled_sheet parents s types; that of `fill_types` is the same at the table `builtin_parents`. So they hold of what the entries answer and write. Assumes nothing:
-- these are definitions.
use Rattle.std.specs.Prelude.{true, false, ◌&&◌, List, ◌⊎◌, ◌↔◌, ◌≡◌, ℕ, ◌+◌, ◌*◌, ◌≤◌, ◌<◌, length, get_or, Ok}
use Rattle.rules.specs.Verdicts.{Mark, undecided}
use Rattle.intake.specs.declared.Refusal.TheVariants.{TypeTable}
use Rattle.intake.specs.Number.{refusal_number}
use Rattle.entries.specs.Answer.{gives, refused}
use Rattle.sheet.specs.Layout.{leaf_count, second_at, derived_at, second_part}
use Rattle.sheet.specs.Refused.{sheet_refusal}
use Rattle.marking.specs.Answer.{sheet_leaves, sheet_tables, mark_sheet}
use Rattle.marking.specs.Demand.{FilledSheet}
use Rattle.types.specs.Derives.{any_type, any_simple_type, has_type, Derives, derives_within, type_verdict}
use Rattle.types.specs.Table.{table_ok}
use Rattle.types.specs.Fill.{leaf_kinds, types_ok, fill_verdict}
use Rattle.types.specs.Answer.{type_or, type_answer, fill_or, fill_answer, filled_sheet}

-- Each chain ends at `anyType`.
abbrev pub ChainsEnd : (parents : List ℕ) → Type 0
ChainsEnd parents = (t : ℕ) → Derives parents t any_type

-- And it comes there in no more links than its row's number.
abbrev pub EndsWithin : (parents : List ℕ) → Type 0
EndsWithin parents = (t : ℕ) → derives_within t parents t any_type ≡ true

-- The verdict is ok exactly where the base is `anyType` or `anySimpleType`, or the derived type or one of its ancestors is the base.
abbrev pub OkExactly : (parents : List ℕ) → Type 0
OkExactly parents = (d b : ℕ) → (type_verdict parents d b ≡ 0) ↔ ((b ≡ any_type) ⊎ ((b ≡ any_simple_type) ⊎ Derives parents d b))

-- By a table that is not accepted the entries answer 18, whatever else is handed in, and nothing is written.
abbrev pub TableFirst : Type 0
TableFirst = (parents : List ℕ) → table_ok parents ≡ false
    → ((d b : ℕ) → type_answer parents d b ≡ refused (refusal_number TypeTable))
    × ((s types : List ℕ) → (fill_answer parents s types ≡ refused (refusal_number TypeTable)) × (filled_sheet parents s types ≡ s))

-- By this table they answer as document 02 §6 says: a verdict, or 17; filled, or 1 to 14, then 17.
abbrev pub ByRule : (parents : List ℕ) → Type 0
ByRule parents = ((d b : ℕ) → type_answer parents d b ≡ type_or (has_type parents d && has_type parents b) (type_verdict parents d b))
    × ((s types : List ℕ) → fill_answer parents s types ≡ fill_or (sheet_refusal s) (types_ok parents (leaf_kinds s) types))

-- one type number for each leaf, and the table has that of each element; nothing is asked of a wildcard's
abbrev pub TypesFit : (parents kinds types : List ℕ) → Type 0
TypesFit parents kinds types = (length types ≡ length kinds) × ((l : ℕ) → l < length kinds → get_or kinds l 0 ≡ 0 → get_or types l 0 < length parents)

-- the sheet and the type numbers are accepted
abbrev pub Fills : (parents s types : List ℕ) → Type 0
Fills parents s types = fill_answer parents s types ≡ gives tt

-- Each verdict of the second table, by row and column, is that of `fill_verdict`.
abbrev pub EachFilled : Type 0
EachFilled = (parents s types : List ℕ) → Fills parents s types → (l m : ℕ) → l < leaf_count s → m < leaf_count s
    → get_or (second_part (filled_sheet parents s types)) (l * leaf_count s + m) 0 ≡ fill_verdict parents (leaf_kinds s) types l m (get_or (second_part s) (l * leaf_count s + m) 0)

-- 'before anything is written': a refusal leaves the sheet.
abbrev pub RefusalWritesNothing : Type 0
RefusalWritesNothing = (parents s types : List ℕ) (n : ℕ) → fill_answer parents s types ≡ refused n → filled_sheet parents s types ≡ s

-- 'leaves every other byte': whatever is answered, the sheet keeps its length and every byte before and after the second table;
abbrev pub OutsideStays : Type 0
OutsideStays = (parents s types : List ℕ)
    → (length (filled_sheet parents s types) ≡ length s)
    × ((i : ℕ) → (i < second_at (leaf_count s)) ⊎ (derived_at (leaf_count s) ≤ i) → get_or (filled_sheet parents s types) i 0 ≡ get_or s i 0)

-- and in the second table, by row and column, each verdict of which either leaf is a wildcard, or which is not 1.
abbrev pub VerdictsStay : Type 0
VerdictsStay = (parents s types : List ℕ) (l m : ℕ) → l < leaf_count s → m < leaf_count s
    → ((sheet_leaves s).is_wildcard l ≡ true) ⊎ (((sheet_leaves s).is_wildcard m ≡ true) ⊎ ¬ (get_or (second_part s) (l * leaf_count s + m) 0 ≡ 1))
    → get_or (second_part (filled_sheet parents s types)) (l * leaf_count s + m) 0 ≡ get_or (second_part s) (l * leaf_count s + m) 0

-- Where it is 1 and both leaves are elements, it becomes the verdict of their types, the row's as derived and the column's as base.
abbrev pub ElementsFilled : Type 0
ElementsFilled = (parents s types : List ℕ) → Fills parents s types → (l m : ℕ) → l < leaf_count s → m < leaf_count s
    → (sheet_leaves s).is_wildcard l ≡ false → (sheet_leaves s).is_wildcard m ≡ false → get_or (second_part s) (l * leaf_count s + m) 0 ≡ 1
    → get_or (second_part (filled_sheet parents s types)) (l * leaf_count s + m) 0 ≡ type_verdict parents (get_or types l 0) (get_or types m 0)

-- A filling done twice is the filling done once: the same answer, and the same sheet.
abbrev pub FilledTwice : Type 0
FilledTwice = (parents s types : List ℕ)
    → (fill_answer parents (filled_sheet parents s types) types ≡ fill_answer parents s types)
    × (filled_sheet parents (filled_sheet parents s types) types ≡ filled_sheet parents s types)

-- The filled sheet is accepted.
abbrev pub FilledAccepted : Type 0
FilledAccepted = (parents s types : List ℕ) → Fills parents s types → sheet_refusal (filled_sheet parents s types) ≡ Ok tt

-- It is the sheet filled in, as demand 3 says it.
abbrev pub FilledIsFilledIn : Type 0
FilledIsFilledIn = (parents s types : List ℕ) → FilledSheet s (filled_sheet parents s types)

-- So a mark that is not undecided stays.
abbrev pub FilledKeepsMark : Type 0
FilledKeepsMark = (parents s types : List ℕ) (m : Mark) → ¬ (m ≡ undecided) → mark_sheet s ≡ gives m → mark_sheet (filled_sheet parents s types) ≡ gives m

-- Once it is filled, the second table is undecided for no two elements.
abbrev pub NoneUndecided : Type 0
NoneUndecided = (parents s types : List ℕ) → Fills parents s types → (l m : ℕ) → l < leaf_count s → m < leaf_count s
    → (sheet_leaves s).is_wildcard l ≡ false → (sheet_leaves s).is_wildcard m ≡ false
    → ¬ ((sheet_tables (filled_sheet parents s types)).second l m ≡ undecided)

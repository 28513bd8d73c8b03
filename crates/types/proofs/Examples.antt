-- Built-in types by number, and a sheet filled in: what the definitions give. Assumes nothing.
use mathlib.Core.List.{List, [], ◌∷◌, ◌++◌}
use mathlib.Core.Path.{◌≡◌, refl}
use Prim.Native.Nat.{ℕ}
use lib.ListN.{length}
use Rattle.particle.specs.Tree.{records, records_n}
use Rattle.intake.specs.Scan.{waiting, scan, refusal_in}
use Rattle.entries.specs.Answer.{gives, refused}
use Rattle.sheet.specs.Refused.{every, kinds_of, sheet_refusal}
use Rattle.sheet.specs.Layout.{leaves_in}
use Rattle.types.specs.Builtin.{builtin_parents}
use Rattle.types.specs.Derives.{derives_within}
use Rattle.types.specs.Table.{rows_ok, table_ok}
use Rattle.types.specs.Fill.{types_ok, fill_row, fill_rows, fill_sheet}
use Rattle.types.specs.Answer.{type_answer, fill_answer, filled_sheet}

-- there are fifty
pub fifty : length builtin_parents ≡ 50
fifty = refl

-- byte against decimal, its ancestor five links up, is ok; string against decimal is 148, and so is decimal against byte
pub by_ancestors : (type_answer builtin_parents 41 4 ≡ gives 0) × (type_answer builtin_parents 2 4 ≡ gives 148) × (type_answer builtin_parents 4 41 ≡ gives 148)
unfolding type_answer table_ok rows_ok derives_within
by_ancestors = (refl, refl, refl)

-- any_type against any_simple_type is ok, though it is its parent; against string it is 148
pub any_simple : (type_answer builtin_parents 0 1 ≡ gives 0) × (type_answer builtin_parents 0 2 ≡ gives 148)
unfolding type_answer table_ok rows_ok derives_within
any_simple = (refl, refl)

-- the list has no number 50
pub no_fifty : (type_answer builtin_parents 49 0 ≡ gives 0) × (type_answer builtin_parents 50 0 ≡ refused 17) × (type_answer builtin_parents 0 50 ≡ refused 17)
unfolding type_answer table_ok rows_ok derives_within
no_fifty = (refl, refl, refl)

-- Two leaves, a and b, undecided throughout the first table: S is a | b --------------------------------------------

-- a is an element, and b of this kind
abbrev sheet_of : (kind : ℕ) (second : List ℕ) → List ℕ
sheet_of kind second =
    (2 ∷ 0 ∷ 1 ∷ 0 ∷ 1 ∷ 0 ∷ 56 ∷ 0
    ∷ 0 ∷ 0 ∷ 0 ∷ 0 ∷ kind ∷ 0 ∷ 0 ∷ 0
    ∷ 0 ∷ 1 ∷ 1 ∷ 0 ∷ [])
    ++ (second
    ++ (0 ∷ 0 ∷ 0 ∷ 0 ∷ 0 ∷ 0 ∷ 0 ∷ 0 ∷ 1 ∷ 0 ∷ 0 ∷ 0 ∷ 1 ∷ 0 ∷ 0 ∷ 0
    ∷ kind ∷ 1 ∷ 0 ∷ 0 ∷ 0 ∷ 0 ∷ 0 ∷ 0 ∷ 1 ∷ 0 ∷ 0 ∷ 0 ∷ 1 ∷ 0 ∷ 0 ∷ 0 ∷ []))

-- b is an element, or a wildcard
abbrev sheet_with : (second : List ℕ) → List ℕ
sheet_with second = sheet_of 0 second

abbrev wildcard_with : (second : List ℕ) → List ℕ
wildcard_with second = sheet_of 1 second

abbrev undecided_sheet : List ℕ
undecided_sheet = sheet_with (1 ∷ 1 ∷ 1 ∷ 1 ∷ [])

-- a of type integer and b of type decimal: b against a alone is 148; the first table keeps its undecided verdicts
pub integer_decimal : (fill_answer builtin_parents undecided_sheet (34 ∷ 4 ∷ []) ≡ gives tt) × (filled_sheet builtin_parents undecided_sheet (34 ∷ 4 ∷ []) ≡ sheet_with (0 ∷ 0 ∷ 148 ∷ 0 ∷ []))
unfolding fill_answer table_ok rows_ok filled_sheet fill_sheet types_ok fill_rows fill_row derives_within sheet_refusal every leaves_in kinds_of refusal_in scan waiting records records_n
integer_decimal = (refl, refl)

-- beside a wildcard a against a alone is filled in; the wildcard's row and column stay, and the list need not have its number
pub wildcard_stays :
    (fill_answer builtin_parents (wildcard_with (1 ∷ 1 ∷ 1 ∷ 1 ∷ [])) (34 ∷ 50 ∷ []) ≡ gives tt)
    × (filled_sheet builtin_parents (wildcard_with (1 ∷ 1 ∷ 1 ∷ 1 ∷ [])) (34 ∷ 50 ∷ []) ≡ wildcard_with (0 ∷ 1 ∷ 1 ∷ 1 ∷ []))
unfolding fill_answer table_ok rows_ok filled_sheet fill_sheet types_ok fill_rows fill_row derives_within sheet_refusal every leaves_in kinds_of refusal_in scan waiting records records_n
wildcard_stays = (refl, refl)

-- one number too few, one too many, and one that the list does not have are refused 17, and the sheet stays; a sheet of no bytes is refused 1 before that
pub turned_away :
    (fill_answer builtin_parents undecided_sheet (34 ∷ []) ≡ refused 17)
    × (fill_answer builtin_parents undecided_sheet (34 ∷ 4 ∷ 0 ∷ []) ≡ refused 17)
    × (fill_answer builtin_parents undecided_sheet (34 ∷ 50 ∷ []) ≡ refused 17)
    × (filled_sheet builtin_parents undecided_sheet (34 ∷ 50 ∷ []) ≡ undecided_sheet)
    × (fill_answer builtin_parents [] (50 ∷ []) ≡ refused 1)
unfolding fill_answer table_ok rows_ok filled_sheet fill_sheet types_ok fill_rows fill_row derives_within sheet_refusal every leaves_in kinds_of refusal_in scan waiting records records_n
turned_away = (refl, refl, refl, refl, refl)

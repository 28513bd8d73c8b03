-- Tables of types at the limits, and such as are refused: what the definitions give. Assumes nothing.
use mathlib.Core.Bool.{true, false}
use mathlib.Core.List.{List, [], ◌∷◌}
use mathlib.Core.Path.{◌≡◌, refl}
use Prim.Native.Nat.{ℕ, zero, suc}
use Rattle.entries.specs.Answer.{gives, refused}
use Rattle.types.specs.Derives.{any_type, derives_within, type_verdict}
use Rattle.types.specs.Table.{rows_ok, table_ok}
use Rattle.types.specs.Answer.{type_answer, fill_answer}

-- so many numbers, from the first on
unfoldable pub counted : (first n : ℕ) → List ℕ
counted first zero = []
counted first (suc n) = first ∷ counted (suc first) n

-- rows 0 to n, and each but row 0 has the row before it as its parent
abbrev line : (n : ℕ) → List ℕ
line n = 0 ∷ counted 0 n

-- a table of one row has no `anySimpleType`
pub one_row : (type_answer (line 0) 0 0 ≡ gives 0) × (type_answer (line 0) 0 1 ≡ refused 17) × (type_answer (line 0) 1 0 ≡ refused 17)
unfolding type_answer table_ok rows_ok derives_within counted
one_row = (refl, refl, refl)

-- no row, 200 rows and 201
pub limits : (table_ok [] ≡ false) × (table_ok (line 199) ≡ true) × (table_ok (line 200) ≡ false)
unfolding table_ok rows_ok counted
limits = (refl, refl, refl)

-- row 0 has another parent; row 1 is its own; a later row is its own, or has a later one
pub bad_rows : (table_ok (1 ∷ []) ≡ false) × (table_ok (0 ∷ 1 ∷ []) ≡ false) × (table_ok (0 ∷ 0 ∷ 2 ∷ []) ≡ false) × (table_ok (0 ∷ 0 ∷ 3 ∷ 1 ∷ []) ≡ false)
unfolding table_ok rows_ok
bad_rows = (refl, refl, refl, refl)

-- 18 comes before 17 and before a sheet's 1
pub table_before : (type_answer (0 ∷ 1 ∷ []) 7 7 ≡ refused 18) × (fill_answer [] [] [] ≡ refused 18)
unfolding type_answer fill_answer table_ok rows_ok
table_before = (refl, refl)

-- The longest chain, of 199 links: row 199 comes to row 0, but not in 198 links; it is derived from row 2, and row 2 is not derived from it.
pub longest_chain :
    (derives_within 199 (line 199) 199 any_type ≡ true)
    × (derives_within 198 (line 199) 199 any_type ≡ false)
    × (type_verdict (line 199) 199 2 ≡ 0)
    × (type_verdict (line 199) 2 199 ≡ 148)
unfolding derives_within counted
longest_chain = (refl, refl, refl, refl)

-- 'no more links than the row's number' is not 'fewer': row 1 is one link below row 0
pub one_link : (derives_within 1 (line 1) 1 any_type ≡ true) × (derives_within 0 (line 1) 1 any_type ≡ false)
unfolding derives_within counted
one_link = (refl, refl)

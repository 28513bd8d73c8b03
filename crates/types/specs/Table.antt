-- A table of types that is loaded in place of the built-in list: which ones are accepted (document 02 §7). Assumes nothing: these are definitions.
use Rattle.std.specs.Prelude.{Bool, true, ◌&&◌, List, [], ◌∷◌, ◌≡◌, ℕ, zero, suc, ◌≤◌, ◌<◌, eqb, leb, ltb, length}
use Rattle.types.specs.Derives.{any_type, any_simple_type, parent_of}

-- a table has at most so many rows
abbrev pub most_types : ℕ
most_types = 200

-- Row 0 is its own parent, row 1 has parent 0, and every later row's parent is an earlier row.
abbrev pub row_ok : (row parent : ℕ) → Bool
row_ok zero p = eqb p any_type
row_ok (suc zero) p = eqb p any_type
row_ok (suc (suc r)) p = ltb p (suc (suc r))

-- the rows from this number on
unfoldable pub rows_ok : (row : ℕ) → List ℕ → Bool
rows_ok row [] = true
rows_ok row (p ∷ ps) = row_ok row p && rows_ok (suc row) ps

-- 1 to 200 rows, and each is in order
unfoldable pub table_ok : (parents : List ℕ) → Bool
table_ok parents = leb 1 (length parents) && (leb (length parents) most_types && rows_ok 0 parents)

-- the same, said of each row by its number
pub record TypeTable (parents : List ℕ) : Type 0 where
  pub least : 1 ≤ length parents
  pub most : length parents ≤ most_types
  pub root : parent_of parents any_type ≡ any_type
  pub simple : any_simple_type < length parents → parent_of parents any_simple_type ≡ any_type
  pub later : (row : ℕ) → any_simple_type < row → row < length parents → parent_of parents row < row

-- A sheet's second table filled in from the types of its elements (document 02 §6). Assumes nothing: these are definitions.
use Rattle.std.specs.Prelude.{Bool, true, false, cond, not, ◌&&◌, ◌||◌, List, [], ◌∷◌, ◌++◌, ℕ, zero, suc, eqb, get_or, take, drop}
use Rattle.sheet.specs.Layout.{leaf_count, second_at, derived_at, second_part, leaf_list}
use Rattle.sheet.specs.Refused.{kinds_of}
use Rattle.types.specs.Derives.{has_type, type_verdict}

-- a leaf's kind is that of an element
abbrev pub is_element : (kind : ℕ) → Bool
is_element k = eqb k 0

-- One type number for each leaf, and an element's is in the table; a wildcard's is not read.
unfoldable pub types_ok : (parents kinds types : List ℕ) → Bool
types_ok parents [] [] = true
types_ok parents [] (t ∷ ts) = false
types_ok parents (k ∷ ks) [] = false
types_ok parents (k ∷ ks) (t ∷ ts) = (not (is_element k) || has_type parents t) && types_ok parents ks ts

-- the verdict v of the row l and the column m: where it is 1 and both leaves are elements, that of their types, the row's as derived and the column's as base
abbrev pub fill_verdict : (parents kinds types : List ℕ) (l m v : ℕ) → ℕ
fill_verdict parents kinds types l m v =
    cond (eqb v 1 && (is_element (get_or kinds l 0) && is_element (get_or kinds m 0)))
    (type_verdict parents (get_or types l 0) (get_or types m 0))
    v

-- a row from the column m on, each verdict changed by f
unfoldable pub fill_row : (f : (m v : ℕ) → ℕ) (m : ℕ) → List ℕ → List ℕ
fill_row f m [] = []
fill_row f m (v ∷ vs) = f m v ∷ fill_row f (suc m) vs

-- k rows of n verdicts, from the row l on
unfoldable pub fill_rows : (f : (l m v : ℕ) → ℕ) (n l k : ℕ) → List ℕ → List ℕ
fill_rows f n l zero t = []
fill_rows f n l (suc k) t = fill_row (f l) 0 (take n t) ++ fill_rows f n (suc l) k (drop n t)

-- the kinds of a sheet's leaves
abbrev pub leaf_kinds : List ℕ → List ℕ
leaf_kinds s = kinds_of (leaf_list s)

abbrev pub fill_second : (parents s types : List ℕ) → List ℕ
fill_second parents s types = fill_rows (fill_verdict parents (leaf_kinds s) types) (leaf_count s) 0 (leaf_count s) (second_part s)

-- the whole sheet: every byte before the second table, the table, every byte after it
unfoldable pub fill_sheet : (parents s types : List ℕ) → List ℕ
fill_sheet parents s types = take (second_at (leaf_count s)) s ++ (fill_second parents s types ++ drop (derived_at (leaf_count s)) s)

-- What the code's tests say, one by one: a table of types, the type numbers, a verdict filled in. Assumes nothing.
use mathlib.Core.Path.{◌≡◌, refl, ap, sym, ◌∙◌}
use mathlib.Core.Bool.{Bool, false, not, ◌&&◌, ◌||◌, and-false}
use mathlib.Core.List.{List, [], ◌∷◌}
use Prim.Native.Nat.{ℕ, suc, ◌≤◌}
use native.Mathlib.Numerals.{add-one}
use native.Mathlib.Omega.{arith}
use lib.Dec.{eqb}
use Rattle.std.specs.List.{list_all, enumerate_from, zip}
use lib.ListN.{length, get_or, get_or-eq_default}
use borrow.Author.Tests.{eq-eqb, ne_eqb}
use Rattle.types.specs.Derives.{parent_of, has_type, type_verdict}
use Rattle.types.specs.Table.{row_ok, rows_ok}
use Rattle.types.specs.Fill.{is_element, types_ok, fill_verdict}

pub no_parent : (parents : List ℕ) (t : ℕ) → length parents ≤ t → 0 ≡ parent_of parents t
no_parent parents t h = sym (get_or-eq_default parents 0 h)

-- A table of types --------------------------------------------------------------

-- the rows from this number on, as the list of their numbers and parents
pub each_row : (row : ℕ) (parents : List ℕ) → list_all (λ (p : ℕ × ℕ). row_ok p.0 p.1) (enumerate_from row parents) ≡ rows_ok row parents
unfolding rows_ok
each_row row [] = refl
each_row row (p ∷ ps) = rw (add-one row) (ap (λ (x : Bool). row_ok row p && x) (each_row (suc row) ps))

-- The type numbers -------------------------------------------------------------

pub not_so_many : (parents kinds types : List ℕ) → (length types ≡ length kinds → ⊥) → false ≡ types_ok parents kinds types
unfolding types_ok
not_so_many parents [] [] h = absurd (h refl)
not_so_many parents [] (t ∷ ts) h = refl
not_so_many parents (k ∷ ks) [] h = refl
not_so_many parents (k ∷ ks) (t ∷ ts) h = sym (ap (λ (x : Bool). (not (is_element k) || has_type parents t) && x) (sym (not_so_many parents ks ts (λ e. h (ap suc e)))) ∙ and-false (not (is_element k) || has_type parents t))

-- one for each leaf, and each with its kind
pub each_type : (parents kinds types : List ℕ) → length types ≡ length kinds → list_all (λ (p : ℕ × ℕ). not (is_element p.0) || has_type parents p.1) (zip kinds types) ≡ types_ok parents kinds types
unfolding types_ok
each_type parents [] [] e = refl
each_type parents [] (t ∷ ts) e = absurd (omega arith)
each_type parents (k ∷ ks) [] e = absurd (omega arith)
each_type parents (k ∷ ks) (t ∷ ts) e = ap (λ (x : Bool). (not (is_element k) || has_type parents t) && x) (each_type parents ks ts (omega arith))

-- A verdict filled in ----------------------------------------------------------

module _ (parents kinds types : List ℕ) (l m v : ℕ) where
  pub decided : (v ≡ 1 → ⊥) → v ≡ fill_verdict parents kinds types l m v
  decided h = rw (ne_eqb v 1 h)

  pub row_wildcard : (get_or kinds l 0 ≡ 0 → ⊥) → v ≡ fill_verdict parents kinds types l m v
  row_wildcard h = rw (ne_eqb (get_or kinds l 0) 0 h, and-false (eqb v 1))

  pub column_wildcard : (get_or kinds m 0 ≡ 0 → ⊥) → v ≡ fill_verdict parents kinds types l m v
  column_wildcard h = rw (ne_eqb (get_or kinds m 0) 0 h, and-false (is_element (get_or kinds l 0)), and-false (eqb v 1))

  pub element_pair : v ≡ 1 → get_or kinds l 0 ≡ 0 → get_or kinds m 0 ≡ 0 → {d b : ℕ} → d ≡ get_or types l 0 → b ≡ get_or types m 0 → {r : ℕ} → r ≡ type_verdict parents d b → r ≡ fill_verdict parents kinds types l m v
  element_pair u k j d b e = rw (eq-eqb v 1 u, eq-eqb (get_or kinds l 0) 0 k, eq-eqb (get_or kinds m 0) 0 j, e, d, b)

-- Rows and tables of which each verdict is changed by its row and column: what the loops keep, and each verdict by its place. Assumes nothing.
use mathlib.Core.Path.{◌≡◌, refl, ap, sym, ◌∙◌}
use mathlib.Core.List.{List, [], ◌∷◌, ◌++◌, append-nil, append_assoc}
use Prim.Native.Nat.{ℕ, suc, ◌+◌, ◌*◌, ◌-◌, ◌≤◌, ◌<◌}
use native.Mathlib.Nat.{suc-mul, mul-le-mul_right, le_refl}
use native.Mathlib.Numerals.{add-one}
use native.Mathlib.Omega.{arith}
use lib.ListN.{length, get_or, take, drop, set, length-append, length-drop, drop_of_length-le}
use lib.Seq.{drop-cons, take-suc-set, append_snoc, drop-set-lt, take_all, take_at, drop_at, length-take-le}
use borrow.Rule.Slice.PartMut.{mid_of, put_mid}
use Rattle.types.specs.Fill.{fill_row, fill_rows}

pub length_row : (f : (m v : ℕ) → ℕ) (m : ℕ) (row : List ℕ) → length (fill_row f m row) ≡ length row
unfolding fill_row
length_row f m [] = refl
length_row f m (v ∷ vs) = ap suc (length_row f (suc m) vs)

-- A row ------------------------------------------------------------------------

-- the first m verdicts of the row are changed, and with the others changed it is the whole
pub record RowLeft (f : (m v : ℕ) → ℕ) (before row : List ℕ) (m : ℕ) : Type 0 where
  pub rest : take m row ++ fill_row f m (drop m row) ≡ fill_row f 0 before

module _ (f : (m v : ℕ) → ℕ) (before row : List ℕ) (m : ℕ) (r : RowLeft f before row m) where
  pub row_next : m < length row → {v : ℕ} → v ≡ f m (get_or row m 0) → RowLeft f before (set row m v) (m + 1)
  unfolding fill_row
  row_next h {v} e = record {
    rest =
        rw (add-one m, take-suc-set row m v h, drop-set-lt (suc m) row m v (omega arith), append_snoc (take m row) v (fill_row f (suc m) (drop (suc m) row)), e)
        (rw (drop-cons row m 0 h) at r.rest);
  }

  pub row_done : length row ≤ m → row ≡ fill_row f 0 before
  unfolding fill_row
  row_done h = sym (sym r.rest ∙ rw (take_all m row h, drop_of_length-le row h, append-nil row))

-- A table ----------------------------------------------------------------------

-- the first l rows of the table are changed, and with the others changed it is the whole
pub record TableLeft (f : (l m v : ℕ) → ℕ) (n : ℕ) (before table : List ℕ) (l : ℕ) : Type 0 where
  pub rest : take (l * n) table ++ fill_rows f n l (n - l) (drop (l * n) table) ≡ fill_rows f n 0 n before

-- where n rows of n verdicts lie in a table, so does the row l
row_ends : (l n : ℕ) → l < n → l * n + n ≤ n * n
row_ends l n h = omega (arith, mul-le-mul_right n h, suc-mul l n)

module _ (f : (l m v : ℕ) → ℕ) (n : ℕ) (before table : List ℕ) (l : ℕ) (t : TableLeft f n before table l) (size : length table ≡ n * n) where
  -- the row l was lent and is `row` now
  pub table_next : l < n → {row : List ℕ} → row ≡ fill_row (f l) 0 (mid_of (l * n) (l * n + n - l * n) table) → TableLeft f n before (put_mid (l * n) (l * n + n - l * n) table row) (l + 1)
  unfolding fill_rows
  table_next h {row} g =
      let next : (l + 1) * n ≡ l * n + n = omega (arith, suc-mul l n) in
      let in_table : l * n + n ≤ length table = omega (arith, row_ends l n h) in
      let step : l * n + n - l * n ≡ n = omega arith in
      let q : row ≡ fill_row (f l) 0 (take n (drop (l * n) table)) = rw step at g in
      let front : length (take (l * n) table) ≡ l * n = length-take-le (l * n) table (omega arith) in
      let width : length row ≡ n = ap length q ∙ (length_row (f l) 0 (take n (drop (l * n) table)) ∙ length-take-le n (drop (l * n) table) (omega (arith, length-drop (l * n) table))) in
      let both : length (take (l * n) table ++ row) ≡ l * n + n = omega (arith, length-append (take (l * n) table) row) in
      let whole : put_mid (l * n) (l * n + n - l * n) table row ≡ (take (l * n) table ++ row) ++ drop n (drop (l * n) table) = rw step (sym (append_assoc (take (l * n) table) row (drop n (drop (l * n) table)))) in
      let left : n - l ≡ suc (n - (l + 1)) = omega arith in
      record {
        rest =
            rw (next, whole, take_at (take (l * n) table ++ row) (drop n (drop (l * n) table)) (l * n + n) both, drop_at (take (l * n) table ++ row) (drop n (drop (l * n) table)) (l * n + n) both, append_assoc (take (l * n) table) row, q, add-one l)
            (rw (left, add-one l) at t.rest);
      }

  pub table_done : n ≤ l → l ≤ n → table ≡ fill_rows f n 0 n before
  unfolding fill_rows
  table_done h g =
      let q : l ≡ n = omega arith in
      let z : n - l ≡ 0 = omega arith in
      let s : l * n ≡ length table = ap (λ (k : ℕ). k * n) q ∙ sym size in
      sym (sym t.rest ∙ rw (z, s, take_all (length table) table (le_refl (length table)), append-nil table))

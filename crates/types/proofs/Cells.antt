-- Tables of which each verdict is changed by its row and column: each verdict by its place, a change done twice, and what every change keeps. Assumes nothing.
use mathlib.Core.Path.{◌≡◌, refl, ap, sym, ◌∙◌}
use mathlib.Core.List.{List, [], ◌∷◌, ◌++◌}
use Prim.Native.Nat.{ℕ, zero, suc, ◌+◌, ◌*◌, ◌<◌}
use native.Mathlib.Nat.{add-zero, zero-add, add-suc, suc-add, suc-mul, zero-mul}
use native.Mathlib.Omega.{arith}
use lib.ListN.{length, get_or, take, drop, length-append, length-drop, get_or-append}
use lib.Seq.{get_or-take, get_or-drop, get_or-append-add, take_at, drop_at, length-take-le}
use Rattle.types.specs.Fill.{fill_row, fill_rows}
use Rattle.types.proofs.Rows.{length_row}

module _ (n k : ℕ) (t : List ℕ) (e : length t ≡ suc k * n) where
  pub later_size : length (drop n t) ≡ k * n
  later_size = omega (arith, length-drop n t, suc-mul k n)

  pub row_size : length (take n t) ≡ n
  row_size = length-take-le n t (omega (arith, suc-mul k n))

-- By place -----------------------------------------------------------------------

row_cell : (f : (m v : ℕ) → ℕ) (m : ℕ) (row : List ℕ) (j : ℕ) → j < length row → get_or (fill_row f m row) j 0 ≡ f (m + j) (get_or row j 0)
unfolding fill_row
row_cell f m [] j h = absurd (omega arith)
row_cell f m (v ∷ vs) zero h = ap (λ (i : ℕ). f i v) (sym (add-zero m))
row_cell f m (v ∷ vs) (suc j) h = row_cell f (suc m) vs j (omega arith) ∙ ap (λ (i : ℕ). f i (get_or vs j 0)) (suc-add m j ∙ sym (add-suc m j))

module _ (f : (l m v : ℕ) → ℕ) (n : ℕ) where
  pub rows_cell : (l k : ℕ) (t : List ℕ) → length t ≡ k * n → (j m : ℕ) → j < k → m < n → get_or (fill_rows f n l k t) (j * n + m) 0 ≡ f (l + j) m (get_or t (j * n + m) 0)
  unfolding fill_rows
  rows_cell l zero t e j m h g = absurd (omega arith)
  rows_cell l (suc k) t e zero m h g =
      let width : length (fill_row (f l) 0 (take n t)) ≡ n = length_row (f l) 0 (take n t) ∙ row_size n k t e in
      let place : 0 * n + m ≡ m = omega (arith, zero-mul n) in
      rw (place, add-zero l)
      (get_or-append (fill_row (f l) 0 (take n t)) _ 0 m (omega arith)
      ∙ (row_cell (f l) 0 (take n t) m (omega (arith, row_size n k t e)) ∙ rw (zero-add m, get_or-take n t m 0 g)))
  rows_cell l (suc k) t e (suc j) m h g =
      let width : length (fill_row (f l) 0 (take n t)) ≡ n = length_row (f l) 0 (take n t) ∙ row_size n k t e in
      let place : suc j * n + m ≡ n + (j * n + m) = omega (arith, suc-mul j n) in
      let behind : get_or (fill_row (f l) 0 (take n t) ++ fill_rows f n (suc l) k (drop n t)) (n + (j * n + m)) 0 ≡ get_or (fill_rows f n (suc l) k (drop n t)) (j * n + m) 0
      = ap (λ (i : ℕ). get_or (fill_row (f l) 0 (take n t) ++ fill_rows f n (suc l) k (drop n t)) (i + (j * n + m)) 0) (sym width) ∙ get_or-append-add (fill_row (f l) 0 (take n t)) _ (j * n + m) 0 in
      rw place
      (behind ∙ (rows_cell (suc l) k (drop n t) (later_size n k t e) j m (omega arith) g
      ∙ rw (get_or-drop n t (j * n + m) 0, suc-add l j, add-suc l j)))

  pub length_rows : (l k : ℕ) (t : List ℕ) → length t ≡ k * n → length (fill_rows f n l k t) ≡ k * n
  unfolding fill_rows
  length_rows l zero t e = sym (zero-mul n)
  length_rows l (suc k) t e =
      omega (
        arith,
        length-append (fill_row (f l) 0 (take n t)) (fill_rows f n (suc l) k (drop n t)),
        length_row (f l) 0 (take n t),
        row_size n k t e,
        length_rows (suc l) k (drop n t) (later_size n k t e),
        suc-mul k n,
      )

-- Twice --------------------------------------------------------------------------

row_twice : (f : (m v : ℕ) → ℕ) → ((m v : ℕ) → f m (f m v) ≡ f m v) → (m : ℕ) (row : List ℕ) → fill_row f m (fill_row f m row) ≡ fill_row f m row
unfolding fill_row
row_twice f g m [] = refl
row_twice f g m (v ∷ vs) = rw (g m v, row_twice f g (suc m) vs)

pub rows_twice : (f : (l m v : ℕ) → ℕ) → ((l m v : ℕ) → f l m (f l m v) ≡ f l m v) → (n l k : ℕ) (t : List ℕ) → length t ≡ k * n → fill_rows f n l k (fill_rows f n l k t) ≡ fill_rows f n l k t
unfolding fill_rows
rows_twice f g n l zero t e = refl
rows_twice f g n l (suc k) t e =
    let row = fill_row (f l) 0 (take n t) in
    let rest = fill_rows f n (suc l) k (drop n t) in
    let width : length row ≡ n = length_row (f l) 0 (take n t) ∙ row_size n k t e in
    rw (take_at row rest n width, drop_at row rest n width, row_twice (f l) (g l) 0 (take n t), rows_twice f g n (suc l) k (drop n t) (later_size n k t e))

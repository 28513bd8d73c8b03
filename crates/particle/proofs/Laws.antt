-- The laws by which callers read trees: the first tree of a row, its items, and the trees after it. Assumes nothing.
use mathlib.Core.Path.{◌≡◌, refl, ap, sym, ◌∙◌}
use mathlib.Core.List.{List, ◌∷◌}
use Prim.Native.Nat.{ℕ, suc, ◌+◌, ◌*◌, ◌-◌, ◌≤◌, ◌<◌}
use native.Mathlib.Nat.{le_of_eq}
use native.Mathlib.Omega.{arith}
use lib.ListN.{length, take, drop, length-drop}
use lib.Seq.{take_all}
use Rattle.particle.specs.Record.{record_size, record_at}
use Rattle.particle.specs.Tree.{item, single, take_i, drop_i, size_i, head_of, build, records, decode, tree}
use Rattle.particle.specs.Rows.{Complete, Row, row, run_size, items_part, later_part}
use Rattle.particle.proofs.Records.{records_cons, records_drop, length_records}
use Rattle.particle.proofs.Trees.{count_i_drop, count_i_le, size_i_build, size_i_split, build_drop, complete_drop}

-- `&t[at..]`, as the borrow checker gives it
pub part_is : (t : List ℕ) (at : ℕ) → take (length t - at) (drop at t) ≡ drop at t
part_is t at = take_all (length t - at) (drop at t) (le_of_eq (length-drop at t))

-- fewer trees
pub row_le : {m n : ℕ} {t : List ℕ} → m ≤ n → Row n t → Row m t
row_le l w = record { even = w.even; complete = w.complete; enough = omega (arith, w.enough) }

-- where there is a tree, there is a record
pub some_bytes : {n : ℕ} {t : List ℕ} → Row (suc n) t → record_size ≤ length t
unfolding decode
some_bytes {n} {t} w = omega (arith, w.enough, count_i_le (build (records t)), size_i_build (records t), length_records t)

pub run_is : (t : List ℕ) → run_size t ≡ record_size * size_i (row 1 t)
unfolding run_size
run_is t = refl

pub run_within : (t : List ℕ) → run_size t ≤ length t
unfolding run_size decode
run_within t = omega (arith, size_i_split 1 (build (records t)), size_i_build (records t), length_records t)

-- n bytes on, where the first tree ends
module _ (t : List ℕ) {n : ℕ} (e : n ≡ run_size t) where
  pub end_within : n ≤ length t
  end_within = rw e (run_within t)

  pub later_is : take (length t - n) (drop n t) ≡ later_part t
  later_is = part_is t n ∙ ap (λ (k : ℕ). drop k t) e

module _ {n : ℕ} {t : List ℕ} (w : Row (suc n) t) where
  split : records t ≡ record_at t ∷ records (items_part t)
  split = records_cons t (some_bytes w)

  -- the first tree is its record and its items
  pub tree_is : tree t ≡ record { head = head_of (record_at t); items = row (record_at t).count (items_part t) }
  unfolding tree decode build
  tree_is = rw split

  -- its items have their records
  pub items_row : Row (record_at t).count (items_part t)
  unfolding decode Complete
  items_row =
      let c : Complete (record_at t ∷ records (items_part t)) = rw split at w.complete in
      record { even = omega (arith, w.even, some_bytes w, length-drop record_size t); complete = c.1; enough = c.0 }

  -- the first tree and those after it
  pub later_decode : decode (later_part t) ≡ drop_i 1 (decode t)
  unfolding decode run_size
  later_decode = rw (records_drop (size_i (take_i 1 (build (records t)))) t, build_drop (records t) 1)

  pub row_is : row (suc n) t ≡ item (tree t).head (tree t).items (row n (later_part t))
  unfolding tree decode build take_i drop_i
  row_is = rw later_decode (rw split)

  pub later_row : Row n (later_part t)
  unfolding decode run_size
  later_row = record {
    even = omega (arith, w.even, run_within t, length-drop (run_size t) t);
    complete = rw (records_drop (size_i (take_i 1 (build (records t)))) t) (complete_drop (size_i (take_i 1 (build (records t)))) (records t) w.complete);
    enough = rw (later_decode, count_i_drop 1 (build (records t))) (omega (arith, w.enough));
  }

  -- both parts are shorter
  pub items_shorter : length (items_part t) < length t
  items_shorter = omega (arith, some_bytes w, length-drop record_size t)

  run_some : record_size ≤ run_size t
  unfolding run_size decode build take_i size_i
  run_some = rw split (omega arith)

  pub later_shorter : length (later_part t) < length t
  later_shorter = omega (arith, run_some, run_within t, length-drop (run_size t) t)

-- the first tree alone
pub row_one : {t : List ℕ} → Row 1 t → row 1 t ≡ single (tree t)
unfolding take_i
row_one w = row_is w

-- a record without items is a tree
pub bare_run : {t : List ℕ} → Row 1 t → (record_at t).count ≡ 0 → run_size t ≡ record_size
unfolding run_size take_i size_i
bare_run {t} w z = rw (row_one w, tree_is w, z)

-- the records of a row that is not empty: those of the first tree and those of the later ones
pub row_sizes : {n : ℕ} {t : List ℕ} → Row n t → 0 < n → size_i (row n t) ≡ size_i (row 1 t) + size_i (row (n - 1) (later_part t))
unfolding size_i
row_sizes {n} {t} w h =
    let e : n ≡ suc (n - 1) = omega arith in
    let some : Row (suc (n - 1)) t = row_le (omega arith) w in
    rw (ap (λ (k : ℕ). row k t) e, row_is some, row_one (row_le h w)) (omega arith)

-- one tree fewer, after the first
pub row_rest : {n k : ℕ} {t : List ℕ} → n ≡ suc k → Row n t → Row k (later_part t)
row_rest {n} {k} {t} e w = later_row (rw (sym e) w)

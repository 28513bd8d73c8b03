-- What the loop of `item_start` keeps: where the i-th item starts; and what `item` makes of the place of the k-th. Assumes nothing.
use mathlib.Core.Path.{◌≡◌, refl, ap, sym, ◌∙◌}
use mathlib.Core.List.{List}
use Prim.Native.Nat.{ℕ, suc, ◌+◌, ◌*◌, ◌-◌, ◌≤◌, ◌<◌}
use native.Mathlib.Omega.{arith}
use lib.ListN.{length, take, drop, length-drop}
use lib.Seq.{drop-drop}
use Rattle.particle.specs.Record.{record_size, record_at}
use Rattle.particle.specs.Tree.{Items, take_i, drop_i, size_i, decode}
use Rattle.particle.specs.Rows.{Row, run_size, items_part, later_part, item_start, item_run, ItemAt}
use Rattle.particle.proofs.Laws.{part_is, row_le, some_bytes, run_within, items_row, later_row, later_decode}
use Rattle.particle.proofs.Trees.{drop_i_add, size_i_add}

-- at the i-th of the items, on the way to the k-th
pub record Walk (t : List ℕ) (k at i : ℕ) : Type 0 where
  pub some : k < (record_at t).count
  pub upto : i ≤ k
  pub within : at ≤ length t
  pub start : at ≡ item_start i t
  pub trees : decode (drop at t) ≡ drop_i i (decode (items_part t))
  pub left : Row ((record_at t).count - i) (drop at t)

pub begin : {t : List ℕ} {k : ℕ} → Row 1 t → k < (record_at t).count → Walk t k record_size 0
unfolding item_start drop_i take_i size_i
begin {t} w h =
    let z : (record_at t).count ≡ (record_at t).count - 0 = omega arith in
    record { some = h; upto = omega arith; within = some_bytes w; start = omega arith; trees = refl; left = rw z at (items_row w) }

module _ {t : List ℕ} {k at i : ℕ} (g : Walk t k at i) where
  -- the run there, as `&t[at..]` hands it on
  pub run_whole : Row 1 (take (length t - at) (drop at t))
  run_whole = rw (part_is t at) (row_le (omega (arith, g.some, g.upto)) g.left)

  pub run_passed : {n : ℕ} → i < k → n ≡ run_size (take (length t - at) (drop at t)) → Walk t k (at + n) (i + 1)
  unfolding item_start run_size
  run_passed {n} h p =
      let e : n ≡ run_size (drop at t) = p ∙ ap run_size (part_is t at) in
      let d : drop (at + run_size (drop at t)) t ≡ later_part (drop at t) = sym (drop-drop (run_size (drop at t)) at t) in
      let r : run_size (drop at t) ≡ record_size * size_i (take_i 1 (drop_i i (decode (items_part t)))) = ap (λ (x : Items). record_size * size_i (take_i 1 x)) g.trees in
      let m : (record_at t).count - i ≡ suc ((record_at t).count - (i + 1)) = omega (arith, g.some) in
      let left = rw m at g.left in
      rw e
      (record {
        some = g.some;
        upto = omega arith;
        within = omega (arith, run_within (drop at t), length-drop at t, g.within);
        start = omega (arith, g.start, r, size_i_add i 1 (decode (items_part t)));
        trees = rw (d, later_decode left, g.trees) (drop_i_add i 1 (decode (items_part t)));
        left = rw d (later_row left);
      })

  pub arrived : k ≤ i → ItemAt k t at
  arrived h =
      let e : i ≡ k = omega (arith, g.upto) in
      record { start = g.start ∙ ap (λ (n : ℕ). item_start n t) e; within = g.within; whole = rw (part_is t at) at run_whole }

-- the k-th item starts at `at`, and n is the length of the run there
module _ {k : ℕ} {t : List ℕ} {at : ℕ} (a : ItemAt k t at) where
  pub item_whole : Row 1 (take (length t - at) (drop at t))
  item_whole = rw (part_is t at) a.whole

  module _ {n : ℕ} (p : n ≡ run_size (take (length t - at) (drop at t))) where
    size : n ≡ run_size (drop at t)
    size = p ∙ ap run_size (part_is t at)

    pub item_within : at + n ≤ length t
    item_within = omega (arith, size, run_within (drop at t), length-drop at t, a.within)

    pub item_is : take (at + n - at) (drop at t) ≡ item_run k t
    unfolding item_run
    item_is =
        let e : at + n - at ≡ run_size (drop at t) = omega (arith, size) in
        ap (λ (m : ℕ). take m (drop at t)) e ∙ ap (λ (m : ℕ). take (run_size (drop m t)) (drop m t)) a.start

-- What the filling of a sheet owes, from what the functions that it calls answer. Assumes nothing.
use Rattle.std.specs.Prelude.{Ok}
use mathlib.Core.Path.{◌≡◌, refl, ap, ◌∙◌}
use mathlib.Core.Bool.{true, not, ◌||◌}
use mathlib.Core.List.{List, [], ◌∷◌, ◌++◌}
use Prim.Native.Nat.{ℕ, suc, ◌*◌, ◌-◌, ◌≤◌}
use native.Mathlib.Omega.{arith}
use lib.ListN.{length, take, drop, length-drop}
use lib.Seq.{length-take-le}
use borrow.Rule.Slice.PartMut.{mid_of, put_mid, Post-is}
use Rattle.particle.proofs.Tests.{and-true}
use Rattle.sheet.specs.Layout.{contents_size, leaf_count, second_at, derived_at, leaves_in, leaves_part, second_part}
use Rattle.sheet.specs.Refused.{contents_ok, kinds_of, sheet_refusal}
use Rattle.sheet.proofs.AcceptedSheet.{passed}
use Rattle.sheet.proofs.Contents.{contents, derived_at_within}
use Rattle.sheet.proofs.Refusing as leaves
use Rattle.sheet.proofs.LeafBytes.{length_leaves_in, length_kinds}
use Rattle.types.specs.Derives.{has_type}
use Rattle.types.specs.Fill.{is_element, leaf_kinds, types_ok, fill_verdict, fill_rows, fill_sheet}

pub one_for_each : (parents kinds types : List ℕ) → types_ok parents kinds types ≡ true → length types ≡ length kinds
unfolding types_ok
one_for_each parents [] [] e = refl
one_for_each parents [] (t ∷ ts) e = cc
one_for_each parents (k ∷ ks) [] e = cc
one_for_each parents (k ∷ ks) (t ∷ ts) e = ap suc (one_for_each parents ks ts (and-true (not (is_element k) || has_type parents t) _ e).1)

-- The second table of a sheet whose contents are in order -------------------------

module _ (s : List ℕ) (ok : contents_ok s ≡ true) where
  abbrev n : ℕ
  n = leaf_count s

  pub second_within : derived_at n ≤ length s
  second_within = derived_at_within s ok refl refl

  second_lies : {start end : ℕ} → start ≡ second_at n → end ≡ derived_at n → take (end - start) (drop start s) ≡ second_part s
  second_lies {start} {end} e f =
      let g : end - start ≡ n * n = omega arith in
      rw (g, e)

  pub length_second : length (second_part s) ≡ n * n
  length_second = length-take-le (n * n) (drop (second_at n) s) (omega (arith, length-drop (second_at n) s, second_within))

-- The table: `kinds` are those of the leaves ----------------------------------------

module _ (parents s types : List ℕ) (ok : contents_ok s ≡ true) {kinds : List ℕ} (ke : kinds ≡ leaf_kinds s) where
  so_many : length kinds ≡ leaf_count s
  so_many = ap length ke ∙ (length_kinds _ ∙ length_leaves_in _ _)

  module _ {start end : ℕ} (se : start ≡ second_at (leaf_count s)) (ee : end ≡ derived_at (leaf_count s)) where
    pub second_square : length (mid_of start (end - start) s) ≡ length kinds * length kinds
    second_square = ap length (second_lies s ok se ee) ∙ (length_second s ok ∙ rw so_many)

    in_place : (table : List ℕ) → put_mid start (end - start) s table ≡ take start s ++ (table ++ drop end s)
    in_place table = ap (λ (after : List ℕ). take start s ++ (table ++ after)) (Post-is start end s (omega arith))

    -- the table was lent, and is filled in
    pub filled_whole : {table : List ℕ} → table ≡ fill_rows (fill_verdict parents kinds types) (length kinds) 0 (length kinds) (mid_of start (end - start) s)
        → put_mid start (end - start) s table ≡ fill_sheet parents s types
    unfolding fill_sheet
    filled_whole {table} e = in_place table ∙ rw (e, second_lies s ok se ee, so_many, ke, se, ee)

-- The entry ------------------------------------------------------------------------

-- an accepted sheet
module _ (s : List ℕ) (a : sheet_refusal s ≡ Ok tt) where
  pub contents_ok_lem : contents_ok s ≡ true
  contents_ok_lem = (passed s a).contents

  pub contents_whole : contents_size ≤ length s
  contents_whole = (contents s contents_ok_lem).start

-- the kinds of its n leaves were put down
module _ (s : List ℕ) {n : ℕ} (ne : n ≡ leaf_count s) (kinds : List ℕ) (k : take (leaf_count s) kinds ≡ leaf_kinds s) where
  put_down : take n kinds ≡ kinds_of (leaves_in n (leaves_part s))
  put_down = rw ne k

  pub kind_each : n ≡ length (take n kinds)
  kind_each = leaves.kind_each s ne refl kinds put_down

  pub kinds_within : n ≤ length kinds
  kinds_within = leaves.kinds_within s ne refl kinds put_down

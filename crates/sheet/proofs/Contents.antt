-- What sound contents say of a sheet, and where its parts lie. Assumes nothing.
use Rattle.std.proofs.lemmas.Bool.Decides.{nat_tests}
use mathlib.Core.Path.{◌≡◌}
use mathlib.Core.Bool.{true}
use mathlib.Core.List.{List}
use Prim.Native.Nat.{ℕ, ◌+◌, ◌*◌, ◌≤◌}
use native.Mathlib.Omega.{arith}
use lib.ListN.{length, take, drop, length-drop}
use lib.Seq.{length-take-le}
use borrow.Author.Tests.{le-leb, eq-eqb}
use Rattle.particle.specs.Record.{record_size, max_records}
use Rattle.intake.specs.Limits.{max_leaves}
use Rattle.verdicts.specs.Paper.{leaf_size}
use Rattle.sheet.specs.Layout.{contents_size, leaf_count, derived_count, base_count, zero_byte, total_field, tables_at, derived_at, base_at, whole_length, leaves_part, tables_part, derived_part, base_part}
use Rattle.sheet.specs.Refused.{in_range, contents_ok}

-- a number in its range
pub record Within (least most n : ℕ) : Type 0 where
  pub low : least ≤ n
  pub high : n ≤ most

-- the contents are in order, and the sheet is as long as they say
pub record Contents (s : List ℕ) : Type 0 where
  pub start : contents_size ≤ length s
  pub leaves : Within 1 max_leaves (leaf_count s)
  pub derived : Within 1 max_records (derived_count s)
  pub base : Within 1 max_records (base_count s)
  pub zero : zero_byte s ≡ 0
  pub field : total_field s ≡ whole_length s
  pub whole : length s ≡ whole_length s

pub contents : (s : List ℕ) → contents_ok s ≡ true → Contents s
contents s e = record {
  start = grind (arith, nat_tests);
  leaves = record { low = grind (arith, nat_tests); high = grind (arith, nat_tests) };
  derived = record { low = grind (arith, nat_tests); high = grind (arith, nat_tests) };
  base = record { low = grind (arith, nat_tests); high = grind (arith, nat_tests) };
  zero = grind (arith, nat_tests);
  field = grind (arith, nat_tests);
  whole = grind (arith, nat_tests);
}

in_range_lem : {least most n : ℕ} → Within least most n → in_range least most n ≡ true
in_range_lem w = rw (le-leb _ _ w.low, le-leb _ _ w.high)

pub sound : (s : List ℕ) → Contents s → contents_ok s ≡ true
sound s c = rw (le-leb _ _ c.start, in_range_lem c.leaves, in_range_lem c.derived, in_range_lem c.base, eq-eqb _ _ c.zero, eq-eqb _ _ c.field, eq-eqb _ _ c.whole)

module _ {s : List ℕ} (c : Contents s) where
  tables_within : tables_at (leaf_count s) ≤ length s
  tables_within = omega (arith, c.whole)

  derived_within : derived_at (leaf_count s) ≤ length s
  derived_within = omega (arith, c.whole)

  base_within : base_at (leaf_count s) (derived_count s) ≤ length s
  base_within = omega (arith, c.whole)

  length_part : (at size : ℕ) → at + size ≤ length s → length (take size (drop at s)) ≡ size
  length_part at size l = length-take-le size (drop at s) (omega (arith, length-drop at s))

  pub length_leaves : length (leaves_part s) ≡ leaf_size * leaf_count s
  length_leaves = length_part contents_size (leaf_size * leaf_count s) tables_within

  pub length_tables : length (tables_part s) ≡ 2 * (leaf_count s * leaf_count s)
  length_tables = length_part (tables_at (leaf_count s)) (2 * (leaf_count s * leaf_count s)) derived_within

  pub length_derived : length (derived_part s) ≡ record_size * derived_count s
  length_derived = length_part (derived_at (leaf_count s)) (record_size * derived_count s) base_within

  pub length_base : length (base_part s) ≡ record_size * base_count s
  length_base = length_part (base_at (leaf_count s) (derived_count s)) (record_size * base_count s) (omega (arith, c.whole))

-- where the contents end, and the tables, which were found from the count n
module _ (s : List ℕ) (ok : contents_ok s ≡ true) where
  pub start_within : contents_size ≤ length s
  start_within = (contents s ok).start

  pub derived_at_within : {n : ℕ} → n ≡ leaf_count s → {end : ℕ} → end ≡ derived_at n → end ≤ length s
  derived_at_within l e = rw (e, l) (derived_within (contents s ok))

-- The parts of a paper's sheet: counts and bodies read from its bytes are the paper's. Assumes nothing.
use mathlib.Core.Path.{◌≡◌, sym, ◌∙◌}
use mathlib.Core.List.{List, ◌++◌}
use Prim.Native.Nat.{ℕ, ◌+◌, ◌*◌}
use native.Mathlib.Nat.{le_of_eq}
use native.Mathlib.Omega.{arith}
use lib.ListN.{length, take, drop, length-append}
use lib.Seq.{drop-drop, take_at, drop_at, take_all}
use Rattle.particle.specs.Record.{record_size}
use Rattle.particle.specs.Tree.{single, size_i}
use Rattle.particle.specs.Encode.{encode}
use Rattle.particle.proofs.ItemEncodes.{length_encode}
use Rattle.verdicts.specs.Paper.{leaf_size}
use Rattle.sheet.specs.Layout.{contents_size, total_field, tables_at, derived_at, base_at, total_of, whole_length, tables_part, derived_part, base_part, leaves_bytes, leaf_list}
use Rattle.sheet.specs.Fits.{Paper, encode_sheet, PaperFits}
use Rattle.sheet.proofs.ContentsBytes.{Starts, contents_back}
use Rattle.sheet.proofs.LeafBytes.{length_leaves_bytes, leaves_back}

-- a part of s, and what follows it
part_read : (s part rest : List ℕ) (at size : ℕ) → drop at s ≡ part ++ rest → length part ≡ size → (take size (drop at s) ≡ part) × (drop (at + size) s ≡ rest)
part_read s part rest at size e l = (rw (e, take_at part rest size l), sym (drop-drop size at s) ∙ rw (e, drop_at part rest size l))

module _ (p : Paper) where
  abbrev n : ℕ
  n = length p.leaves

  abbrev d : ℕ
  d = size_i (single p.derived)

  abbrev b : ℕ
  b = size_i (single p.base)

  abbrev trees : List ℕ
  trees = encode (single p.derived) ++ encode (single p.base)

  pub starts : Starts (encode_sheet p) n d b (leaves_bytes p.leaves ++ ((p.first ++ p.second) ++ trees))
  unfolding encode_sheet
  starts = contents_back n d b _

  formula : whole_length (encode_sheet p) ≡ total_of n d b
  formula = rw (starts.leaves, starts.derived, starts.base)

  pub total_field_lem : total_field (encode_sheet p) ≡ whole_length (encode_sheet p)
  total_field_lem = starts.field ∙ sym formula

  module _ (f : PaperFits p) where
    length_tables : length (p.first ++ p.second) ≡ 2 * (n * n)
    length_tables = omega (arith, length-append p.first p.second, f.first.square, f.second.square)

    -- each body, and what follows it
    at_leaves : (take (leaf_size * n) (drop contents_size (encode_sheet p)) ≡ leaves_bytes p.leaves) × (drop (tables_at n) (encode_sheet p) ≡ (p.first ++ p.second) ++ trees)
    at_leaves = part_read (encode_sheet p) _ _ contents_size (leaf_size * n) starts.after (length_leaves_bytes p.leaves)

    at_tables : (take (2 * (n * n)) (drop (tables_at n) (encode_sheet p)) ≡ p.first ++ p.second) × (drop (derived_at n) (encode_sheet p) ≡ trees)
    at_tables = part_read (encode_sheet p) _ _ (tables_at n) (2 * (n * n)) at_leaves.1 length_tables

    at_derived : (take (record_size * d) (drop (derived_at n) (encode_sheet p)) ≡ encode (single p.derived)) × (drop (base_at n d) (encode_sheet p) ≡ encode (single p.base))
    at_derived = part_read (encode_sheet p) _ _ (derived_at n) (record_size * d) at_tables.1 (length_encode (single p.derived))

    pub sheet_leaves_lem : leaf_list (encode_sheet p) ≡ p.leaves
    sheet_leaves_lem = rw (starts.leaves, at_leaves.0) (leaves_back p.leaves)

    pub tables_part_lem : tables_part (encode_sheet p) ≡ p.first ++ p.second
    tables_part_lem = rw starts.leaves at_tables.0

    pub derived_part_lem : derived_part (encode_sheet p) ≡ encode (single p.derived)
    derived_part_lem = rw (starts.leaves, starts.derived) at_derived.0

    pub base_part_lem : base_part (encode_sheet p) ≡ encode (single p.base)
    base_part_lem = rw (starts.leaves, starts.derived, starts.base, at_derived.1) (take_all (record_size * b) _ (le_of_eq (length_encode (single p.base))))

    pub whole_length_lem : length (encode_sheet p) ≡ whole_length (encode_sheet p)
    whole_length_lem =
        omega (
          arith,
          formula,
          starts.size,
          length-append (leaves_bytes p.leaves) ((p.first ++ p.second) ++ trees),
          length-append (p.first ++ p.second) trees,
          length-append (encode (single p.derived)) (encode (single p.base)),
          length_leaves_bytes p.leaves,
          length_tables,
          length_encode (single p.derived),
          length_encode (single p.base),
        )

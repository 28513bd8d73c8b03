-- A sheet that is not refused is the sheet of a paper that fits. Assumes nothing.
use mathlib.Core.Path.{◌≡◌, ap, sym, ◌∙◌}
use mathlib.Core.List.{List, ◌++◌}
use Prim.Native.Nat.{ℕ, ◌+◌, ◌*◌}
use native.Mathlib.Omega.{arith}
use lib.ListN.{length, take, drop, take-append-drop, length-drop}
use lib.Seq.{drop-drop, take_all, length-take-le}
use Rattle.particle.specs.Record.{record_size}
use Rattle.particle.specs.Tree.{single, size_i, tree}
use Rattle.particle.specs.Encode.{encode, Bytes}
use Rattle.particle.proofs.RoundTrip.{bytes_drop, bytes_take}
use Rattle.particle.proofs.ItemEncodes.{length_encode}
use Rattle.intake.specs.Accepted.{TreeFits}
use Rattle.intake.proofs.AcceptedFits as trees
use Rattle.verdicts.specs.Paper.{leaf_size}
use Rattle.sheet.specs.Layout.{contents_size, leaf_count, derived_count, base_count, tables_at, derived_at, base_at, contents_bytes, leaves_part, tables_part, derived_part, base_part, leaf_list, leaves_bytes}
use Rattle.sheet.specs.Refused.{verdict_ok, known_in}
use Rattle.sheet.specs.Fits.{Paper, encode_sheet, Each, LeafFits, VerdictFits, TableFits, PaperFits}
use Rattle.sheet.proofs.Contents.{Contents, contents, length_leaves, length_tables, length_derived, length_base}
use Rattle.sheet.proofs.ContentsBytes.{contents_forth}
use Rattle.sheet.proofs.LeafBytes.{length_leaves_in, leaves_forth}
use Rattle.sheet.proofs.Fitting.{every_each, each_split, leaves_fit, verdict_fits, known_is}
use Rattle.sheet.proofs.AcceptedSheet.{Passed}

-- the paper that a sheet is
abbrev pub paper_of : List ℕ → Paper
paper_of s = record {
  leaves = leaf_list s;
  first = take (leaf_count s * leaf_count s) (tables_part s);
  second = drop (leaf_count s * leaf_count s) (tables_part s);
  derived = tree (derived_part s);
  base = tree (base_part s);
}

-- s from `at` on: a part and what follows it
part_then_rest : (s : List ℕ) (at size : ℕ) → drop at s ≡ take size (drop at s) ++ drop (at + size) s
part_then_rest s at size = sym (take-append-drop size (drop at s)) ∙ ap (λ (r : List ℕ). take size (drop at s) ++ r) (drop-drop size at s)

-- a tree's record count, from its bytes
tree_size : (t : List ℕ) (n : ℕ) → t ≡ encode (single (tree t)) → length t ≡ record_size * n → size_i (single (tree t)) ≡ n
tree_size t n e l = omega (arith, ap length e, length_encode (single (tree t)), l)

module _ (s : List ℕ) (b : Bytes s) (p : Passed s) where
  c : Contents s
  c = contents s p.contents

  abbrev n : ℕ
  n = leaf_count s

  bodies_are : drop contents_size s ≡ leaves_part s ++ (tables_part s ++ (derived_part s ++ base_part s))
  bodies_are =
      let last : drop (base_at n (derived_count s)) s ≡ base_part s = sym (take_all (record_size * base_count s) _ (omega (arith, length-drop (base_at n (derived_count s)) s, c.whole))) in
      part_then_rest s contents_size (leaf_size * n)
      ∙ ap (λ (x : List ℕ). leaves_part s ++ x) (part_then_rest s (tables_at n) (2 * (n * n))
      ∙ ap (λ (x : List ℕ). tables_part s ++ x) (part_then_rest s (derived_at n) (record_size * derived_count s)
      ∙ ap (λ (x : List ℕ). derived_part s ++ x) last))

  part_bytes : (at size : ℕ) → Bytes (take size (drop at s))
  part_bytes at size = bytes_take size (drop at s) (bytes_drop at s b)

  -- each body is the encoding of what is read from it
  count : n ≡ length (leaf_list s)
  count = sym (length_leaves_in n (leaves_part s))

  leaves : leaves_part s ≡ leaves_bytes (leaf_list s)
  leaves = sym (leaves_forth n (leaves_part s) (part_bytes contents_size (leaf_size * n)) (length_leaves c))

  tables : tables_part s ≡ take (n * n) (tables_part s) ++ drop (n * n) (tables_part s)
  tables = sym (take-append-drop (n * n) (tables_part s))

  derived : (derived_part s ≡ encode (single (tree (derived_part s)))) × TreeFits (known_in s) (tree (derived_part s))
  derived = trees.accepted_fits (known_in s) (derived_part s) (part_bytes (derived_at n) (record_size * derived_count s)) p.derived

  base : (base_part s ≡ encode (single (tree (base_part s)))) × TreeFits (known_in s) (tree (base_part s))
  base = trees.accepted_fits (known_in s) (base_part s) (part_bytes (base_at n (derived_count s)) (record_size * base_count s)) p.base

  pub paper_sheet : s ≡ encode_sheet (paper_of s)
  unfolding encode_sheet
  paper_sheet =
      let d = sym (tree_size (derived_part s) (derived_count s) derived.0 (length_derived c)) in
      let e = sym (tree_size (base_part s) (base_count s) base.0 (length_base c)) in
      contents_forth s b c
      ∙ (ap (λ (x : List ℕ). contents_bytes n (derived_count s) (base_count s) ++ x) bodies_are
      ∙ (λ i. contents_bytes (count i) (d i) (e i) ++ (leaves i ++ (tables i ++ (derived.0 i ++ base.0 i)))))

  leaves_in_lem : Each LeafFits (leaf_list s)
  leaves_in_lem = leaves_fit n (leaves_part s) (part_bytes contents_size (leaf_size * n)) p.leaves

  verdicts_in : Each VerdictFits (take (n * n) (tables_part s)) × Each VerdictFits (drop (n * n) (tables_part s))
  verdicts_in = each_split VerdictFits (take (n * n) (tables_part s)) (drop (n * n) (tables_part s)) (rw tables at (every_each verdict_ok VerdictFits verdict_fits (tables_part s) p.verdicts))

  square : (t : List ℕ) → length t ≡ n * n → Each VerdictFits t → TableFits (length (leaf_list s)) t
  square t l f = record { square = l ∙ ap (λ (k : ℕ). k * k) count; verdicts = f }

  pub paper_fits : PaperFits (paper_of s)
  paper_fits = record {
    some = rw (← count) c.leaves.low;
    few = rw (← count) c.leaves.high;
    leaves = leaves_in_lem;
    first = square _ (length-take-le (n * n) (tables_part s) (omega (arith, length_tables c))) verdicts_in.0;
    second = square _ (omega (arith, length-drop (n * n) (tables_part s), length_tables c)) verdicts_in.1;
    derived = rw (known_is (leaf_list s) leaves_in_lem) derived.1;
    base = rw (known_is (leaf_list s) leaves_in_lem) base.1;
  }

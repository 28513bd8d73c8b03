-- The sheet of a paper that meets document 01's conditions has the mark of the paper's leaves, tables and trees. Assumes nothing.
use mathlib.Core.List.{◌++◌}
use mathlib.Core.Path.{◌≡◌, ap, ◌∙◌}
use Prim.Native.Nat.{◌*◌}
use lib.ListN.{length}
use lib.Seq.{take_at}
use Rattle.particle.specs.Tree.{tree}
use Rattle.particle.proofs.Encoded.{encoded_tree}
use Rattle.rules.specs.Mark.{mark}
use Rattle.verdicts.specs.Paper.{leaf_size, leaves_of, tables_of}
use Rattle.entries.specs.Answer.{gives}
use Rattle.sheet.specs.Layout.{leaf_count, leaves_part, leaves_bytes}
use Rattle.sheet.specs.Fits.{Paper, encode_sheet, PaperFits}
use Rattle.sheet.proofs.LeafBytes.{length_leaves_bytes}
use Rattle.sheet.proofs.PaperParts as parts
use Rattle.sheet.proofs.FitsAccepted.{fits_accepted}
use Rattle.marking.specs.Answer.{derived_tree, base_tree, mark_of_sheet, mark_sheet}

module _ (p : Paper) (f : PaperFits p) where
  leaves_part_lem : leaves_part (encode_sheet p) ≡ leaves_bytes p.leaves
  unfolding encode_sheet
  leaves_part_lem = take_at (leaves_bytes p.leaves) _ (leaf_size * length p.leaves) (length_leaves_bytes p.leaves)

  leaf_count_lem : leaf_count (encode_sheet p) ≡ length p.leaves
  leaf_count_lem = (parts.starts p).leaves

  derived_tree_lem : derived_tree (encode_sheet p) ≡ p.derived
  derived_tree_lem = ap tree (parts.derived_part_lem p f) ∙ encoded_tree p.derived

  base_tree_lem : base_tree (encode_sheet p) ≡ p.base
  base_tree_lem = ap tree (parts.base_part_lem p f) ∙ encoded_tree p.base

  pub paper_mark : mark_sheet (encode_sheet p) ≡ gives (mark (leaves_of (leaves_bytes p.leaves)) (tables_of (length p.leaves) (p.first ++ p.second)) p.derived p.base)
  unfolding mark_sheet mark_of_sheet
  paper_mark = rw (fits_accepted p f, leaves_part_lem, parts.tables_part_lem p f, derived_tree_lem, base_tree_lem, leaf_count_lem)

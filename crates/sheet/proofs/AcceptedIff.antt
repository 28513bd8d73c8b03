-- A sheet is not refused exactly where it is the sheet of a paper that meets document 01's conditions, and of one such paper only. Assumes nothing.
use Rattle.std.specs.Prelude.{Ok}
use mathlib.Core.Path.{◌≡◌, ap, sym, ◌∙◌}
use mathlib.Core.List.{List}
use mathlib.Core.Logic.{◌↔◌}
use Prim.Native.Nat.{ℕ, ◌*◌}
use lib.ListN.{take, drop}
use lib.Seq.{take_at, drop_at}
use Rattle.particle.specs.Tree.{Particle, single, first_of, tree}
use Rattle.particle.specs.Encode.{encode, Bytes}
use Rattle.particle.proofs.RoundTrip.{decode_encode}
use Rattle.sheet.specs.Layout.{leaf_count, tables_part}
use Rattle.sheet.specs.Refused.{sheet_refusal}
use Rattle.sheet.specs.Fits.{Paper, encode_sheet, PaperFits}
use Rattle.sheet.proofs.AcceptedSheet.{passed}
use Rattle.sheet.proofs.PaperParts as parts
use Rattle.sheet.proofs.FitsAccepted.{fits_accepted}
use Rattle.sheet.proofs.AcceptedFits.{paper_of, paper_sheet, paper_fits}

pub accepted_iff : (s : List ℕ) → Bytes s → (sheet_refusal s ≡ Ok tt) ↔ ((p : Paper) × (s ≡ encode_sheet p) × PaperFits p)
accepted_iff s b = (
  λ e. (paper_of s, paper_sheet s b (passed s e), paper_fits s b (passed s e)),
  λ x. ap sheet_refusal x.1 ∙ fits_accepted x.0 x.2,
)

tree_back : (t : List ℕ) (x : Particle) → t ≡ encode (single x) → tree t ≡ x
unfolding tree
tree_back t x e = ap tree e ∙ ap first_of (decode_encode (single x))

-- what is read from a paper's sheet is the paper
pub paper_back : (p : Paper) → PaperFits p → paper_of (encode_sheet p) ≡ p
paper_back p f =
    let s : List ℕ = encode_sheet p in
    let leaves = parts.sheet_leaves_lem p f in
    let first : take (leaf_count s * leaf_count s) (tables_part s) ≡ p.first = rw (parts.tables_part_lem p f, (parts.starts p).leaves) (take_at p.first p.second _ f.first.square) in
    let second : drop (leaf_count s * leaf_count s) (tables_part s) ≡ p.second = rw (parts.tables_part_lem p f, (parts.starts p).leaves) (drop_at p.first p.second _ f.first.square) in
    let derived = tree_back _ p.derived (parts.derived_part_lem p f) in
    let base = tree_back _ p.base (parts.base_part_lem p f) in
    λ i. record { leaves = leaves i; first = first i; second = second i; derived = derived i; base = base i }

-- no sheet is of two papers
pub one_paper : (p q : Paper) → PaperFits p → PaperFits q → encode_sheet p ≡ encode_sheet q → p ≡ q
one_paper p q f g e = sym (paper_back p f) ∙ (ap paper_of e ∙ paper_back q g)

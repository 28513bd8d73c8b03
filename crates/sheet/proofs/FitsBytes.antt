-- The sheet of a paper that fits is bytes. Assumes nothing.
use mathlib.Core.Path.{◌≡◌}
use mathlib.Core.Bool.{true}
use mathlib.Core.List.{List, [], ◌∷◌}
use mathlib.Core.Logic.{inl, inr}
use Prim.Native.Nat.{ℕ, ◌<◌}
use native.Mathlib.Omega.{arith}
use Rattle.particle.specs.Tree.{Particle, single}
use Rattle.particle.specs.Encode.{encode, Bytes}
use Rattle.particle.proofs.Widths.{bytes_append}
use Rattle.intake.specs.Accepted.{TreeFits}
use Rattle.intake.proofs.FitsBytes as trees
use Rattle.sheet.specs.declared.bodies.Leaf.{Leaf}
use Rattle.sheet.specs.Layout.{leaf_bytes, leaves_bytes}
use Rattle.sheet.specs.Refused.{kinds_of}
use Rattle.sheet.specs.Fits.{Paper, encode_sheet, LeafFits, VerdictFits, Each, known_by, PaperFits}
use Rattle.sheet.proofs.ContentsBytes.{contents_bytes_lem}
use Rattle.sheet.proofs.LeafBytes.{length_kinds}
use Rattle.sheet.proofs.Fitting.{known_is}

leaf_bytes_lem : (l : Leaf) → LeafFits l → Bytes (leaf_bytes l)
unfolding Bytes
leaf_bytes_lem l (inl f) = (omega (arith, f.0), (omega (arith, f.1), (omega arith, (omega (arith, f.2), tt))))
leaf_bytes_lem l (inr f) = (omega (arith, f.0), (omega (arith, f.1), (omega arith, (omega (arith, f.2), tt))))

leaves_bytes_lem : (ls : List Leaf) → Each LeafFits ls → Bytes (leaves_bytes ls)
unfolding Bytes Each leaves_bytes
leaves_bytes_lem [] f = tt
leaves_bytes_lem (l ∷ ls) f = bytes_append (leaf_bytes l) (leaves_bytes ls) (leaf_bytes_lem l f.0) (leaves_bytes_lem ls f.1)

verdict_byte : (v : ℕ) → VerdictFits v → v < 256
verdict_byte v (inl h) = omega arith
verdict_byte v (inr h) = omega (arith, h.1)

verdicts_bytes : (vs : List ℕ) → Each VerdictFits vs → Bytes vs
unfolding Bytes Each
verdicts_bytes [] f = tt
verdicts_bytes (v ∷ vs) f = (verdict_byte v f.0, verdicts_bytes vs f.1)

module _ (p : Paper) (f : PaperFits p) where
  low : (kind leaf : ℕ) → known_by p.leaves kind leaf ≡ true → leaf < 256
  low kind leaf e = trees.listed_low (kinds_of p.leaves) (omega (arith, length_kinds p.leaves, f.few)) kind leaf (rw (known_is p.leaves f.leaves) at e)

  tree_bytes : (x : Particle) → TreeFits (known_by p.leaves) x → Bytes (encode (single x))
  tree_bytes = trees.fits_bytes (known_by p.leaves) low

  pub fits_bytes : Bytes (encode_sheet p)
  unfolding encode_sheet
  fits_bytes =
      bytes_append _ _ (contents_bytes_lem _ _ _ f.few f.derived.few f.base.few)
      (bytes_append _ _ (leaves_bytes_lem p.leaves f.leaves)
      (bytes_append _ _ (bytes_append _ _ (verdicts_bytes p.first f.first.verdicts) (verdicts_bytes p.second f.second.verdicts))
      (bytes_append _ _ (tree_bytes p.derived f.derived) (tree_bytes p.base f.base))))

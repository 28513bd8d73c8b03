-- Every sheet of a paper that fits is accepted. Assumes nothing.
use Rattle.std.specs.Prelude.{Ok}
use mathlib.Core.Path.{◌≡◌, ap, sym, ◌∙◌}
use mathlib.Core.List.{List, ◌++◌}
use Prim.Native.Nat.{ℕ}
use native.Mathlib.Omega.{arith}
use Rattle.particle.specs.Record.{max_records}
use Rattle.particle.specs.Tree.{Particle, single, size_i}
use Rattle.particle.specs.Encode.{encode}
use Rattle.intake.specs.Faults.{Known}
use Rattle.intake.specs.Scan.{refusal_in, listed}
use Rattle.intake.specs.Accepted.{TreeFits}
use Rattle.intake.proofs.FitsAccepted as trees
use Rattle.sheet.specs.declared.bodies.Leaf.{Leaf}
use Rattle.sheet.specs.Layout.{derived_part, base_part}
use Rattle.sheet.specs.Refused.{leaf_ok, verdict_ok, kinds_of, known_in, sheet_refusal}
use Rattle.sheet.specs.Fits.{Paper, encode_sheet, VerdictFits, LeafFits, known_by, PaperFits}
use Rattle.sheet.proofs.Contents.{Contents, Within, sound}
use Rattle.sheet.proofs.Fitting.{each_every, each_append, fits_leaf, fits_verdict, known_is}
use Rattle.sheet.proofs.AcceptedSheet.{not_refused}
use Rattle.sheet.proofs.PaperParts as parts

-- a tree has a record
tree_range : {known : Known} (x : Particle) → TreeFits known x → Within 1 max_records (size_i (single x))
unfolding size_i
tree_range x f = record { low = omega arith; high = f.few }

module _ (p : Paper) (f : PaperFits p) where
  s : List ℕ
  s = encode_sheet p

  contents : Contents s
  unfolding s
  contents = record {
    start = omega (arith, parts.whole_length_lem p f);
    leaves = rw (parts.starts p).leaves (record { low = f.some; high = f.few });
    derived = rw (parts.starts p).derived (tree_range p.derived f.derived);
    base = rw (parts.starts p).base (tree_range p.base f.base);
    zero = (parts.starts p).zero;
    field = parts.total_field_lem p;
    whole = parts.whole_length_lem p f;
  }

  known : known_in s ≡ known_by p.leaves
  unfolding s
  known = ap (λ (ls : List Leaf). listed (kinds_of ls)) (parts.sheet_leaves_lem p f) ∙ sym (known_is p.leaves f.leaves)

  accepted : (x : Particle) (t : List ℕ) → t ≡ encode (single x) → TreeFits (known_by p.leaves) x → refusal_in (known_in s) t ≡ Ok tt
  accepted x t e fits = ap (λ (k : Known). refusal_in k t) known ∙ (ap (refusal_in (known_by p.leaves)) e ∙ trees.fits_accepted (known_by p.leaves) x fits)

  pub fits_accepted : sheet_refusal (encode_sheet p) ≡ Ok tt
  unfolding s
  fits_accepted =
      not_refused s (record {
        contents = sound s contents;
        leaves = rw (parts.sheet_leaves_lem p f) (each_every leaf_ok LeafFits fits_leaf p.leaves f.leaves);
        verdicts = rw (parts.tables_part_lem p f) (each_every verdict_ok VerdictFits fits_verdict (p.first ++ p.second) (each_append VerdictFits p.first p.second f.first.verdicts f.second.verdicts));
        base = accepted p.base (base_part s) (parts.base_part_lem p f) f.base;
        derived = accepted p.derived (derived_part s) (parts.derived_part_lem p f) f.derived;
      })

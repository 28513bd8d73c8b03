-- The encoding of a tree that fits is bytes, where the known leaf numbers are. Assumes nothing.
use mathlib.Core.Path.{◌≡◌}
use mathlib.Core.Bool.{Bool, true}
use mathlib.Core.List.{List}
use Prim.Native.Nat.{ℕ, suc, ◌^◌, ◌≤◌, ◌<◌}
use native.Mathlib.Omega.{arith}
use lib.Dec.{ltb}
use lib.ListN.{length}
use borrow.Author.Tests.{ltb-true}
use Rattle.particle.specs.declared.MaxOccurs.{MaxOccurs}
use Rattle.particle.specs.declared.MaxOccurs.TheVariants.{Bounded, Unbounded}
use Rattle.particle.specs.Record.{max_records}
use Rattle.particle.specs.Tree.{Head, element, wildcard, sequence, choice, all, Items, none, item, Particle, single, pair_of, size_i}
use Rattle.particle.specs.Encode.{kind_number, leaf_number, mark_number, max_number, flat, encode, Bytes}
use Rattle.particle.proofs.Trees.{count_i_le}
use Rattle.particle.proofs.Widths.{Widths, widths_append, widths_joined}
use Rattle.particle.proofs.Tests.{and-true}
use Rattle.intake.specs.Faults.{Known}
use Rattle.intake.specs.Scan.{listed}
use Rattle.intake.specs.Accepted.{LeafFits, MaxFits, TreesFit, TreeFits, is_all}

kind_width : (h : Head) → kind_number h < 256
kind_width (element l p) = omega arith
kind_width (wildcard l p) = omega arith
kind_width (sequence p) = omega arith
kind_width (choice p) = omega arith
kind_width (all p) = omega arith

max_widths : (n : ℕ) (m : MaxOccurs) → MaxFits n m → (mark_number m < 256) × (n < 2 ^ 32) × (max_number m < 2 ^ 32)
max_widths n (Bounded m) f = (omega arith, omega (arith, f.0, f.1), f.0)
max_widths n Unbounded f = (omega arith, f, omega arith)

module _ (known : Known) (low : (kind leaf : ℕ) → known kind leaf ≡ true → leaf < 256) where
  leaf_width : (h : Head) (k : Items) → LeafFits known h k → leaf_number h < 256
  leaf_width (element l p) k f = low 0 l f.0
  leaf_width (wildcard l p) k f = low 1 l f.0
  leaf_width (sequence p) k f = omega arith
  leaf_width (choice p) k f = omega arith
  leaf_width (all p) k f = omega arith

  widths_flat : (x : Items) (d : ℕ) (a : Bool) → size_i x ≤ max_records → TreesFit known x d a → Widths (flat x)
  unfolding Widths flat size_i TreesFit
  widths_flat none d a s f = tt
  widths_flat (item h k r) d a s f =
      let m = max_widths (pair_of h).min (pair_of h).max f.0.pair in (
        record { kind = kind_width h; leaf = leaf_width h k f.0.leaf; count = omega (arith, count_i_le k); unbounded = m.0; zero = omega arith; size = omega arith; min = m.1; max = m.2 },
        widths_append (flat k) (flat r) (widths_flat k (suc d) (is_all h) (omega arith) f.1) (widths_flat r d a (omega arith) f.2),
      )

  pub fits_bytes : (x : Particle) → TreeFits known x → Bytes (encode (single x))
  unfolding encode
  fits_bytes x f = widths_joined (flat (single x)) (widths_flat (single x) 1 _ f.few f.each)

-- so it is with a leaf list
pub listed_low : (kinds : List ℕ) → length kinds ≤ 256 → (kind leaf : ℕ) → listed kinds kind leaf ≡ true → leaf < 256
listed_low kinds l kind leaf e = omega (arith, ltb-true leaf (length kinds) (and-true (ltb leaf (length kinds)) _ e).0)

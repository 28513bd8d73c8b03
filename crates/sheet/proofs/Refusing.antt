-- The leaves' kinds, as they are put down for the check and for a caller. Assumes nothing.
use mathlib.Core.Path.{◌≡◌, ap, sym, ◌∙◌}
use mathlib.Core.List.{List}
use Prim.Native.Nat.{ℕ, ◌≤◌}
use native.Mathlib.Omega.{arith}
use lib.ListN.{length, take, length-take}
use Rattle.sheet.specs.Layout.{leaf_count, leaves_in, leaves_part}
use Rattle.sheet.specs.Refused.{kinds_of}
use Rattle.sheet.proofs.LeafBytes.{length_leaves_in, length_kinds}

-- The leaves: n of them in `part`, and their kinds were put down in `kinds`
module _ (s : List ℕ) {n : ℕ} (ne : n ≡ leaf_count s) {part : List ℕ} (pe : part ≡ leaves_part s) (kinds : List ℕ) (k : take n kinds ≡ kinds_of (leaves_in n part)) where
  pub kind_each : n ≡ length (take n kinds)
  kind_each = sym (ap length k ∙ (length_kinds _ ∙ length_leaves_in _ _))

  pub kinds_within : n ≤ length kinds
  kinds_within = omega (arith, kind_each, length-take n kinds)

-- The verdict for two types is one of two bytes. Assumes nothing.
use mathlib.Core.Path.{◌≡◌, refl}
use mathlib.Core.Bool.{Bool, true, false, cond, ◌||◌}
use mathlib.Core.List.{List}
use mathlib.Core.Logic.{◌⊎◌, inl, inr}
use Prim.Native.Nat.{ℕ}
use lib.Dec.{leb}
use Rattle.types.specs.Derives.{any_simple_type, derives, not_derived, type_verdict}

pub two_verdicts : (parents : List ℕ) (d b : ℕ) → (type_verdict parents d b ≡ 0) ⊎ (type_verdict parents d b ≡ not_derived)
two_verdicts parents d b = go (leb b any_simple_type || derives parents d b)
  where
    go : (x : Bool) → (cond x 0 not_derived ≡ 0) ⊎ (cond x 0 not_derived ≡ not_derived)
    go true = inl refl
    go false = inr refl

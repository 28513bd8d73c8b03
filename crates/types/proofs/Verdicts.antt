-- The verdict for two types is ok just where document 02 §6 says; a verdict filled in is one that demand 3 may fill in, and stays where it is filled in again. Assumes nothing.
use mathlib.Core.Path.{◌≡◌, refl}
use mathlib.Core.Bool.{Bool, true, false, cond, ◌&&◌, ◌||◌, or-true}
use mathlib.Core.List.{List}
use mathlib.Core.Logic.{◌⊎◌, inl, inr}
use Prim.Native.Nat.{ℕ, zero, suc, ◌≤◌}
use native.Mathlib.Omega.{arith}
use lib.Dec.{eqb, leb}
use lib.ListN.{get_or}
use borrow.Author.Tests.{leb-true, le-leb, eqb-true}
use Rattle.particle.proofs.Tests.{and-true}
use Rattle.marking.specs.Demand.{FilledByte, unchanged, filled_ok, filled_reason}
use Rattle.types.specs.Derives.{any_type, any_simple_type, Derives, derives, Ordered, not_derived, type_verdict}
use Rattle.types.specs.Fill.{fill_verdict}
use Rattle.types.specs.Facts.{OkExactly}
use Rattle.types.proofs.Chains.{derives_iff}
use Rattle.types.proofs.Answers.{two_verdicts}

-- Ok exactly -----------------------------------------------------------------------

low : (b : ℕ) → b ≤ any_simple_type → (b ≡ any_type) ⊎ (b ≡ any_simple_type)
low zero h = inl refl
low (suc zero) h = inr refl
low (suc (suc b)) h = absurd (omega arith)

module _ (parents : List ℕ) (o : Ordered parents) (d b : ℕ) where
  Allowed : Type 0
  Allowed = (b ≡ any_type) ⊎ ((b ≡ any_simple_type) ⊎ Derives parents d b)

  ok_if : (x y : Bool) → leb b any_simple_type ≡ x → derives parents d b ≡ y → cond (x || y) 0 not_derived ≡ 0 → Allowed
  unfolding Allowed
  ok_if true y p q e = by (low b (leb-true b any_simple_type p))
    where
      by : (b ≡ any_type) ⊎ (b ≡ any_simple_type) → (b ≡ any_type) ⊎ ((b ≡ any_simple_type) ⊎ Derives parents d b)
      by (inl z) = inl z
      by (inr z) = inr (inl z)
  ok_if false true p q e = inr (inr ((derives_iff parents o d b).0 q))
  ok_if false false p q e = absurd (omega arith)

  low_ok : b ≤ any_simple_type → type_verdict parents d b ≡ 0
  low_ok h = rw (le-leb b any_simple_type h)

  if_ok : Allowed → type_verdict parents d b ≡ 0
  unfolding Allowed
  if_ok (inl z) = low_ok (omega arith)
  if_ok (inr (inl z)) = low_ok (omega arith)
  if_ok (inr (inr x)) = rw ((derives_iff parents o d b).1 x, or-true (leb b any_simple_type))

pub ok_exactly : (parents : List ℕ) → Ordered parents → OkExactly parents
unfolding Allowed
ok_exactly parents o d b = (ok_if parents o d b (leb b any_simple_type) (derives parents d b) refl refl, if_ok parents o d b)

-- A verdict filled in --------------------------------------------------------------

verdict_byte : {v : ℕ} → (v ≡ 0) ⊎ (v ≡ not_derived) → FilledByte 1 v
verdict_byte (inl e) = rw e filled_ok
verdict_byte (inr e) = rw e (filled_reason {r = not_derived} (omega arith) (omega arith))

-- a verdict v becomes w, one of two types, where it is 1 and the pair is one of elements
module _ {w : ℕ} (z : (w ≡ 0) ⊎ (w ≡ not_derived)) where
  -- it is not undecided
  pub not_undecided : eqb w 1 ≡ false
  not_undecided = go z
    where
      go : (w ≡ 0) ⊎ (w ≡ not_derived) → eqb w 1 ≡ false
      go (inl e) = rw e
      go (inr e) = rw e

  module _ (pair : Bool) (v : ℕ) where
    becomes : (x : Bool) → (eqb v 1 && pair) ≡ x → FilledByte v (cond x w v)
    becomes true e = rw (eqb-true v 1 (and-true (eqb v 1) pair e).0) (verdict_byte z)
    becomes false e = unchanged

    again : (x : Bool) → (eqb v 1 && pair) ≡ x → cond (eqb (cond x w v) 1 && pair) w (cond x w v) ≡ cond x w v
    again true e = rw not_undecided
    again false e = rw e

module _ (parents kinds types : List ℕ) (l m v : ℕ) where
  pub fill_byte : FilledByte v (fill_verdict parents kinds types l m v)
  fill_byte = becomes (two_verdicts parents (get_or types l 0) (get_or types m 0)) _ v _ refl

  pub fill_twice : fill_verdict parents kinds types l m (fill_verdict parents kinds types l m v) ≡ fill_verdict parents kinds types l m v
  fill_twice = again (two_verdicts parents (get_or types l 0) (get_or types m 0)) _ v _ refl

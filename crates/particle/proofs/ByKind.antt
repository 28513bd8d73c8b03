-- What holds of a head of each kind holds of the head that a kind number gives. Assumes nothing.
use mathlib.Core.Path.{◌≡◌, refl}
use Prim.Native.Nat.{ℕ, zero, suc, ◌≤◌}
use native.Mathlib.Omega.{arith}
use Rattle.particle.specs.declared.Occurs.{Occurs}
use Rattle.particle.specs.Tree.{Head, element, wildcard, sequence, choice, all, head_from}

module _ (P : Head → Type 0) (l : ℕ) (p : Occurs) where
  -- every group
  pub group_kind : P (sequence p) → P (choice p) → P (all p) → (k : ℕ) → 2 ≤ k → P (head_from k l p)
  group_kind s c a zero h = absurd (omega arith)
  group_kind s c a (suc zero) h = absurd (omega arith)
  group_kind s c a (suc (suc zero)) h = s
  group_kind s c a (suc (suc (suc zero))) h = c
  group_kind s c a (suc (suc (suc (suc k)))) h = a

  -- every kind but an element
  pub other_kind : P (wildcard l p) → P (sequence p) → P (choice p) → P (all p) → (k : ℕ) → (k ≡ 0 → ⊥) → P (head_from k l p)
  other_kind w s c a zero z = absurd (z refl)
  other_kind w s c a (suc zero) z = w
  other_kind w s c a (suc (suc k)) z = group_kind s c a (suc (suc k)) (omega arith)

  pub any_kind : P (element l p) → P (wildcard l p) → P (sequence p) → P (choice p) → P (all p) → (k : ℕ) → P (head_from k l p)
  any_kind e w s c a zero = e
  any_kind e w s c a (suc k) = other_kind w s c a (suc k) (λ z. omega arith)

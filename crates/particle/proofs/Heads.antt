-- Which maximum a mark gives, and which head a kind number gives, for functions that treat both leaves alike, or a sequence and an all-group. Assumes nothing.
use mathlib.Core.Path.{◌≡◌, refl}
use Prim.Native.Nat.{ℕ, zero, suc, min, ◌≤◌, ◌<◌}
use native.Mathlib.Omega.{arith}
use Rattle.particle.specs.declared.MaxOccurs.TheVariants.{Unbounded}
use Rattle.particle.specs.declared.Occurs.{Occurs}
use Rattle.particle.specs.declared.Record.{Record}
use Rattle.particle.specs.Record.{max_of, range_of}
use Rattle.particle.specs.Tree.{Head, element, wildcard, sequence, choice, all, pair_of, head_from, head_of}
use Rattle.particle.specs.Encode.{kind_number}
use Rattle.particle.proofs.ByKind.{any_kind}

-- a mark that is not 0 is unbounded
pub marked : (mark n : ℕ) → (mark ≡ 0 → ⊥) → max_of mark n ≡ Unbounded
marked zero n z = absurd (z refl)
marked (suc mark) n z = refl

-- every head has the pair that it was made with
pub pair_kind : (k l : ℕ) (p : Occurs) → pair_of (head_from k l p) ≡ p
pair_kind k l p = any_kind (λ h. pair_of h ≡ p) l p refl refl refl refl refl k

-- a head's kind number is the number that it was made with; above 4 it is 4
pub kind_capped : (k l : ℕ) (p : Occurs) → kind_number (head_from k l p) ≡ min k 4
kind_capped zero l p = refl
kind_capped (suc zero) l p = refl
kind_capped (suc (suc zero)) l p = refl
kind_capped (suc (suc (suc zero))) l p = refl
kind_capped (suc (suc (suc (suc k)))) l p = omega arith

-- the pair of a record is that of its head
pub pair_record : (r : Record) → pair_of (head_of r) ≡ range_of r
pair_record r = pair_kind r.kind r.leaf (range_of r)

module _ {ℓ} {A : Type ℓ} (f : Head → A) (l : ℕ) (p : Occurs) where
  pub leaf_kind : f (wildcard l p) ≡ f (element l p) → (k : ℕ) → k < 2 → f (head_from k l p) ≡ f (element l p)
  leaf_kind e zero h = refl
  leaf_kind e (suc zero) h = e
  leaf_kind e (suc (suc k)) h = absurd (omega arith)

  pub choice_kind : (k : ℕ) → k ≡ 3 → f (head_from k l p) ≡ f (choice p)
  choice_kind k e = rw e

  -- every group but a choice
  pub ordered_kind : f (all p) ≡ f (sequence p) → (k : ℕ) → 2 ≤ k → (k ≡ 3 → ⊥) → f (head_from k l p) ≡ f (sequence p)
  ordered_kind e zero h z = absurd (omega arith)
  ordered_kind e (suc zero) h z = absurd (omega arith)
  ordered_kind e (suc (suc zero)) h z = refl
  ordered_kind e (suc (suc (suc zero))) h z = absurd (z refl)
  ordered_kind e (suc (suc (suc (suc k)))) h z = e

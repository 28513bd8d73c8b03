-- Sums, products and spans of ranges that are cut are those of the exact ranges, cut: nothing is lost before the cut. Assumes nothing.
use mathlib.Core.Path.{◌≡◌, refl, ap, sym, ◌∙◌}
use Prim.Native.Nat.{ℕ, zero, suc, ◌+◌, ◌*◌, ◌≤◌, ◌<◌, min, max}
use native.Mathlib.Nat.{zero-mul}
use native.Mathlib.Omega.{arith}
use Rattle.particle.specs.declared.MaxOccurs.{MaxOccurs}
use Rattle.particle.specs.declared.MaxOccurs.TheVariants as occurs
use Rattle.particle.specs.declared.Occurs.{Occurs}
use Rattle.totals.specs.declared.ranges.TotalMin.TheVariants.{Exact, TooLarge}
use Rattle.totals.specs.declared.ranges.TotalMax.{TotalMax}
use Rattle.totals.specs.declared.ranges.TotalMax.TheVariants as most
use Rattle.totals.specs.Exact.{add_max, times_unbounded, mul_max, max_max, add_range, mul_range, span_range}
use Rattle.totals.specs.Total.{largest, cut_min, cut_bounded, cut_max, cut}
use Rattle.totals.specs.Cut.{add_cut_min, mul_cut_min, min_cut_min, with_too_large, of_both, add_cut_max, max_cut_max, times_open, times_cut_max, unbounded_times, mul_cut_max, add_cut, mul_cut, span_cut}
use Rattle.totals.proofs.Cuts.{min_cases, bounded_cases, min_within, min_above, bounded_within, bounded_above, same_range}

-- Minima -------------------------------------------------------------------------

add_min : (a b : ℕ) → add_cut_min (cut_min a) (cut_min b) ≡ cut_min (a + b)
add_min a b =
    min_cases (λ x. add_cut_min x (cut_min b) ≡ cut_min (a + b)) a
    (λ l. min_cases (λ y. add_cut_min (Exact a) y ≡ cut_min (a + b)) b (λ m. refl) (λ m. sym (min_above (a + b) (omega arith))))
    (λ l. sym (min_above (a + b) (omega arith)))

mul_min : (a b : ℕ) → mul_cut_min a (cut_min b) ≡ cut_min (a * b)
mul_min a b = min_cases (λ y. mul_cut_min a y ≡ cut_min (a * b)) b (λ l. refl) (too_large a)
  where
    too_large : (a : ℕ) → largest < b → mul_cut_min a TooLarge ≡ cut_min (a * b)
    too_large zero l = rw (zero-mul b)
    too_large (suc a) l = sym (min_above (suc a * b) (omega arith))

min_min : (a b : ℕ) → min_cut_min (cut_min a) (cut_min b) ≡ cut_min (min a b)
min_min a b =
    min_cases (λ x. min_cut_min x (cut_min b) ≡ cut_min (min a b)) a
    (λ l. min_cases (λ y. min_cut_min (Exact a) y ≡ cut_min (min a b)) b (λ m. sym (min_within (min a b) (omega arith))) (λ m. lesser a l (omega arith)))
    (λ l. min_cases (λ y. y ≡ cut_min (min a b)) b (λ m. lesser b m (omega arith)) (λ m. sym (min_above (min a b) (omega arith))))
  where
    lesser : (n : ℕ) → n ≤ largest → n ≡ min a b → Exact n ≡ cut_min (min a b)
    lesser n l e = sym (min_within n l) ∙ ap cut_min e

-- Maxima -------------------------------------------------------------------------

with_bounded : (b : ℕ) → with_too_large (cut_bounded b) ≡ most.TooLarge
with_bounded b = bounded_cases (λ y. with_too_large y ≡ most.TooLarge) b (λ l. refl) (λ l. refl)

one_open : (f : ℕ → ℕ → TotalMax) (x : TotalMax) → of_both f x most.Unbounded ≡ most.Unbounded
one_open f (most.Bounded a) = refl
one_open f most.TooLarge = refl
one_open f most.Unbounded = refl

-- One law for the sum and the greater, f of cut numbers and g of exact ones: where an operand is too large, so is the result.
module _ (f : ℕ → ℕ → TotalMax) (g : ℕ → ℕ → ℕ) (left : (a b : ℕ) → a ≤ g a b) (right : (a b : ℕ) → b ≤ g a b) (same : (a b : ℕ) → a ≤ largest → b ≤ largest → f a b ≡ cut_bounded (g a b)) where
  both_bounded : (a b : ℕ) → of_both f (cut_bounded a) (cut_bounded b) ≡ cut_bounded (g a b)
  both_bounded a b =
      bounded_cases (λ x. of_both f x (cut_bounded b) ≡ cut_bounded (g a b)) a
      (λ h. bounded_cases (λ y. of_both f (most.Bounded a) y ≡ cut_bounded (g a b)) b (same a b h) (λ k. sym (bounded_above (g a b) (omega (arith, right a b)))))
      (λ h. with_bounded b ∙ sym (bounded_above (g a b) (omega (arith, left a b))))

add_max_lem : (x y : MaxOccurs) → add_cut_max (cut_max x) (cut_max y) ≡ cut_max (add_max x y)
add_max_lem (occurs.Bounded a) (occurs.Bounded b) = both_bounded _ ◌+◌ (λ m n. omega arith) (λ m n. omega arith) (λ m n h k. refl) a b
add_max_lem (occurs.Bounded a) occurs.Unbounded = one_open _ (cut_bounded a)
add_max_lem occurs.Unbounded y = refl

max_max_lem : (x y : MaxOccurs) → max_cut_max (cut_max x) (cut_max y) ≡ cut_max (max_max x y)
max_max_lem (occurs.Bounded a) (occurs.Bounded b) = both_bounded _ max (λ m n. omega arith) (λ m n. omega arith) (λ m n h k. sym (bounded_within (max m n) (omega arith))) a b
max_max_lem (occurs.Bounded a) occurs.Unbounded = one_open _ (cut_bounded a)
max_max_lem occurs.Unbounded y = refl

times_unbounded_lem : (a : ℕ) → times_open a most.Unbounded ≡ cut_max (times_unbounded a)
times_unbounded_lem zero = refl
times_unbounded_lem (suc a) = refl

mul_max_lem : (x y : MaxOccurs) → mul_cut_max x (cut_max y) ≡ cut_max (mul_max x y)
mul_max_lem (occurs.Bounded a) (occurs.Bounded b) = bounded_cases (λ y. times_cut_max a y ≡ cut_bounded (a * b)) b (λ l. refl) (too_large a)
  where
    too_large : (a : ℕ) → largest < b → times_open a most.TooLarge ≡ cut_bounded (a * b)
    too_large zero l = rw (zero-mul b)
    too_large (suc a) l = sym (bounded_above (suc a * b) (omega arith))
mul_max_lem (occurs.Bounded a) occurs.Unbounded = times_unbounded_lem a
mul_max_lem occurs.Unbounded (occurs.Bounded b) = bounded_cases (λ y. unbounded_times y ≡ cut_max (times_unbounded b)) b (λ l. times_unbounded_lem b) (too_large b)
  where
    too_large : (b : ℕ) → largest < b → most.Unbounded ≡ cut_max (times_unbounded b)
    too_large zero l = absurd (omega arith)
    too_large (suc b) l = refl
mul_max_lem occurs.Unbounded occurs.Unbounded = refl

-- Ranges -------------------------------------------------------------------------

pub add_cut_lem : (a b : Occurs) → add_cut (cut a) (cut b) ≡ cut (add_range a b)
add_cut_lem a b = same_range (add_min a.min b.min) (add_max_lem a.max b.max)

pub mul_cut_lem : (a b : Occurs) → mul_cut a (cut b) ≡ cut (mul_range a b)
mul_cut_lem a b = same_range (mul_min a.min b.min) (mul_max_lem a.max b.max)

pub span_cut_lem : (a b : Occurs) → span_cut (cut a) (cut b) ≡ cut (span_range a b)
span_cut_lem a b = same_range (min_min a.min b.min) (max_max_lem a.max b.max)

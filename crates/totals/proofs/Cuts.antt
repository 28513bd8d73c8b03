-- What the cut is on either side of 4294967295. Assumes nothing.
use mathlib.Core.Bool.{cond}
use mathlib.Core.Path.{◌≡◌, ap, ap₂, sym, ◌∙◌}
use Prim.Native.Nat.{ℕ, ◌≤◌, ◌<◌}
use native.Mathlib.Decide.{dec_le}
use native.Mathlib.Omega.{arith}
use lib.Dec.{leb}
use borrow.Author.Tests.{le-leb, lt-leb}
use Rattle.particle.specs.declared.MaxOccurs.{MaxOccurs}
use Rattle.particle.specs.declared.Occurs.{Occurs}
use Rattle.totals.specs.declared.ranges.TotalMin.{TotalMin}
use Rattle.totals.specs.declared.ranges.TotalMin.TheVariants.{Exact, TooLarge}
use Rattle.totals.specs.declared.ranges.TotalMax.{TotalMax}
use Rattle.totals.specs.declared.ranges.TotalMax.TheVariants as most
use Rattle.totals.specs.declared.ranges.TotalRange.{TotalRange}
use Rattle.totals.specs.Total.{largest, cut_min, cut_bounded}

-- what holds of both that a cut may choose, each on its side, holds of the one that it chooses
pub cut_cases : {A : Type 0} (P : A → Type 0) (x y : A) (n : ℕ) → (n ≤ largest → P x) → (largest < n → P y) → P (cond (leb n largest) x y)
cut_cases P x y n f g = go (dec_le n largest)
  where
    go : Dec (n ≤ largest) → P (cond (leb n largest) x y)
    go (yes l) = rw (le-leb n largest l) (f l)
    go (no l) =
        let m : largest < n = omega arith in
        rw (lt-leb n largest m) (g m)

pub min_cases : (P : TotalMin → Type 0) (n : ℕ) → (n ≤ largest → P (Exact n)) → (largest < n → P TooLarge) → P (cut_min n)
min_cases P n = cut_cases P (Exact n) TooLarge n

pub bounded_cases : (P : TotalMax → Type 0) (n : ℕ) → (n ≤ largest → P (most.Bounded n)) → (largest < n → P most.TooLarge) → P (cut_bounded n)
bounded_cases P n = cut_cases P (most.Bounded n) most.TooLarge n

pub within : {A : Type 0} (x y : A) (n : ℕ) → n ≤ largest → cond (leb n largest) x y ≡ x
within x y n l = rw (le-leb n largest l)

pub above : {A : Type 0} (x y : A) (n : ℕ) → largest < n → cond (leb n largest) x y ≡ y
above x y n l = rw (lt-leb n largest l)

pub min_within : (n : ℕ) → n ≤ largest → cut_min n ≡ Exact n
min_within n = within (Exact n) TooLarge n

pub min_above : (n : ℕ) → largest < n → cut_min n ≡ TooLarge
min_above n = above (Exact n) TooLarge n

pub bounded_within : (n : ℕ) → n ≤ largest → cut_bounded n ≡ most.Bounded n
bounded_within n = within (most.Bounded n) most.TooLarge n

pub bounded_above : (n : ℕ) → largest < n → cut_bounded n ≡ most.TooLarge
bounded_above n = above (most.Bounded n) most.TooLarge n

-- f of operands of which something is known, the first or both
module _ {A B C : Type 0} (f : A → B → C) {r : C} where
  pub of_left : {a x : A} (b : B) → a ≡ x → r ≡ f x b → r ≡ f a b
  of_left b e p = p ∙ ap (λ (z : A). f z b) (sym e)

  pub of_both_lem : {a x : A} {b y : B} → a ≡ x → b ≡ y → r ≡ f x y → r ≡ f a b
  of_both_lem e g p = p ∙ ap₂ f (sym e) (sym g)

-- a pair and a range, number by number
pub same_pair : {m n : ℕ} {a b : MaxOccurs} → m ≡ n → a ≡ b → ◌≡◌ {A = Occurs} (record { min = m; max = a }) (record { min = n; max = b })
same_pair e f = λ i. record { min = e i; max = f i }

pub same_range : {m n : TotalMin} {a b : TotalMax} → m ≡ n → a ≡ b → ◌≡◌ {A = TotalRange} (record { min = m; max = a }) (record { min = n; max = b })
same_range e f = λ i. record { min = e i; max = f i }

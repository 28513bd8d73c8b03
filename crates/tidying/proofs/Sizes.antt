-- Tidying adds no record, and makes no tree deeper. Assumes nothing.
use mathlib.Core.Path.{◌≡◌, refl}
use Prim.Native.Nat.{ℕ, suc, ◌+◌, ◌≤◌, max}
use native.Mathlib.Nat.{le_refl, le_trans}
use native.Mathlib.Omega.{arith}
use Rattle.particle.specs.Tree.{Head, Items, none, item, Particle, single, size_i, ◌then◌}
use Rattle.tidying.specs.Tidy.{keep, closed, settle, tidy_items, tidy}
use Rattle.tidying.specs.Depth.{depth_of}
use Rattle.tidying.proofs.Steps.{settle_cases, closed_cases, keep_cases}

-- a measure of rows, that c makes of the first tree's items and of the later trees, and that does not grow where a tree's items stand in its place
pub record Measure (m : Items → ℕ) (c : ℕ → ℕ → ℕ) : Type 0 where
  pub first : (h : Head) (k r : Items) → m (item h k r) ≡ c (m k) (m r)
  pub both : (x y : Items) → m (x then y) ≤ c (m x) (m y)
  pub left : (a b : ℕ) → a ≤ c a b
  pub right : (a b : ℕ) → b ≤ c a b
  pub grows : {a a' b b' : ℕ} → a ≤ a' → b ≤ b' → c a b ≤ c a' b'

module _ {m : Items → ℕ} {c : ℕ → ℕ → ℕ} (M : Measure m c) where
  keep_least : (g : Head) (x : Particle) (rest : Items) → m (keep g x rest) ≤ c (m x.items) (m rest)
  keep_least g x rest =
      keep_cases (λ (y : Items). m y ≤ c (m x.items) (m rest)) g x rest (λ _. M.right (m x.items) (m rest)) (λ _. M.both x.items rest) (λ _ _. rw (M.first x.head x.items rest) (le_refl _))

  closed_least : (g : Head) (t : Items) → m (closed g t).items ≤ m t
  closed_least g t =
      let inner : (h : Head) (k : Items) → t ≡ item h k none → m k ≤ m t = λ h k e. rw (e, M.first h k none) (M.left (m k) (m none)) in
      closed_cases (λ (x : Particle). m x.items ≤ m t) g t (le_refl _) (λ h k e _. inner h k e) (λ h k e _. inner h k e)

  settle_least : (h : Head) (k t : Items) → m t ≤ m k → m (settle h k t).items ≤ m k
  settle_least h k t e = settle_cases (λ (x : Particle). m x.items ≤ m k) h k t (λ _. le_refl _) (λ _. le_trans (closed_least h t) e)

  items_least : (g : Head) (k : Items) → m (tidy_items g k) ≤ m k
  unfolding tidy_items
  items_least g none = le_refl _
  items_least g (item h k r) =
      rw (M.first h k r) (le_trans (keep_least g (settle h k (tidy_items h k)) (tidy_items g r)) (M.grows (settle_least h k (tidy_items h k) (items_least h k)) (items_least g r)))

  tidy_least : (x : Particle) → m (single (tidy x)) ≤ m (single x)
  unfolding tidy
  tidy_least x =
      rw (M.first (tidy x).head (tidy x).items none, M.first x.head x.items none)
      (M.grows (settle_least x.head x.items (tidy_items x.head x.items) (items_least x.head x.items)) (le_refl _))

then_size : (x y : Items) → size_i (x then y) ≤ suc (size_i x + size_i y)
unfolding size_i ◌then◌
then_size none y = omega arith
then_size (item h k r) y = omega (arith, then_size r y)

by_size : Measure size_i (λ a b. suc (a + b))
unfolding size_i
by_size = record { first = λ h k r. refl; both = then_size; left = λ a b. omega arith; right = λ a b. omega arith; grows = λ p q. omega arith }

then_depth : (x y : Items) → depth_of (x then y) ≤ max (suc (depth_of x)) (depth_of y)
unfolding depth_of ◌then◌
then_depth none y = omega arith
then_depth (item h k r) y = omega (arith, then_depth r y)

by_depth : Measure depth_of (λ a b. max (suc a) b)
unfolding depth_of
by_depth = record { first = λ h k r. refl; both = then_depth; left = λ a b. omega arith; right = λ a b. omega arith; grows = λ p q. omega arith }

pub keep_smaller : (g : Head) (x : Particle) → size_i (keep g x none) ≤ size_i (single x)
unfolding size_i
keep_smaller g x = keep_least by_size g x none

pub tidy_smaller : (x : Particle) → size_i (single (tidy x)) ≤ size_i (single x)
tidy_smaller = tidy_least by_size

pub tidy_shallower : (x : Particle) → depth_of (single (tidy x)) ≤ depth_of (single x)
tidy_shallower = tidy_least by_depth

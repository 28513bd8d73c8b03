-- The test of a total range against a pair: of pairs of 32 bits it answers as the exact numbers do, and as the range with the caps did. Assumes nothing.
use mathlib.Core.Bool.{true, ◌&&◌, false≢true}
use mathlib.Core.Path.{◌≡◌, refl, ap₂, sym, ◌∙◌}
use Prim.Native.Nat.{ℕ, ◌≤◌}
use native.Mathlib.Omega.{arith}
use lib.Dec.{leb}
use borrow.Author.Tests.{leb-true, le-leb, lt-leb}
use Rattle.particle.specs.declared.MaxOccurs.{MaxOccurs}
use Rattle.particle.specs.declared.MaxOccurs.TheVariants as occurs
use Rattle.particle.specs.declared.Occurs.{Occurs}
use Rattle.particle.specs.Occurs.{max_ok, range_ok}
use Rattle.std.proofs.lemmas.Bool.{and_parts}
use Rattle.totals.specs.declared.ranges.TotalMin.{TotalMin}
use Rattle.totals.specs.declared.ranges.TotalMin.TheVariants as least
use Rattle.totals.specs.declared.ranges.TotalMax.{TotalMax}
use Rattle.totals.specs.declared.ranges.TotalMax.TheVariants as most
use Rattle.totals.specs.declared.ranges.TotalRange.{TotalRange}
use Rattle.totals.specs.Total.{largest, cut_min, cut_max, cut, total_min_ok, total_max_ok, total_ok}
use Rattle.totals.proofs.Cuts.{min_cases, bounded_cases}
use Rattle.totals.proofs.Caps.{min_with_cap, max_with_cap, with_caps, Max32, Pair32}

-- a minimum that passes the test is not below b, and a maximum not above
min_exact : (n b : ℕ) → total_min_ok (cut_min n) b ≡ true → b ≤ n
min_exact n b = min_cases (λ m. total_min_ok m b ≡ true → b ≤ n) n (λ l t. leb-true b n t) (λ l t. omega (arith, leb-true b largest t))

max_exact : (m b : MaxOccurs) → total_max_ok (cut_max m) b ≡ true → max_ok m b ≡ true
max_exact (occurs.Bounded n) (occurs.Bounded b) t = bounded_cases (λ m. total_max_ok m (occurs.Bounded b) ≡ true → leb n b ≡ true) n (λ l e. e) (λ l e. absurd (false≢true e)) t
max_exact (occurs.Bounded n) occurs.Unbounded t = refl
max_exact occurs.Unbounded (occurs.Bounded b) t = t
max_exact occurs.Unbounded occurs.Unbounded t = refl

-- what passes is within by its exact numbers
pub ok_exact : (e q : Occurs) → total_ok (cut e) q ≡ true → range_ok e q ≡ true
ok_exact e q t =
    let (l, m) = and_parts (total_min_ok (cut_min e.min) q.min) (total_max_ok (cut_max e.max) q.max) t in
    ap₂ ◌&&◌ (le-leb q.min e.min (min_exact e.min q.min l)) (max_exact e.max q.max m)

-- the other way round too, where the pair's numbers have 32 bits: the test answers as the exact numbers do
min_same : (n b : ℕ) → b ≤ largest → total_min_ok (cut_min n) b ≡ leb b n
min_same n b h = min_cases (λ m. total_min_ok m b ≡ leb b n) n (λ l. refl) (λ l. le-leb b largest h ∙ sym (le-leb b n (omega arith)))

max_same : (m b : MaxOccurs) → Max32 b → total_max_ok (cut_max m) b ≡ max_ok m b
max_same (occurs.Bounded n) (occurs.Bounded b) h = bounded_cases (λ m. total_max_ok m (occurs.Bounded b) ≡ leb n b) n (λ l. refl) (λ l. sym (lt-leb n b (omega arith)))
max_same (occurs.Bounded n) occurs.Unbounded h = refl
max_same occurs.Unbounded (occurs.Bounded b) h = refl
max_same occurs.Unbounded occurs.Unbounded h = refl

pub ok_is_exact : (e q : Occurs) → Pair32 q → total_ok (cut e) q ≡ range_ok e q
ok_is_exact e q (l, m) = ap₂ ◌&&◌ (min_same e.min q.min l) (max_same e.max q.max m)

-- every total range is within (0, unbounded)
pub any_number_lem : (t : TotalRange) (q : Occurs) → q.min ≡ 0 → q.max ≡ occurs.Unbounded → true ≡ total_ok t q
any_number_lem t q z u = rw (z, u) (low t.min)
  where
    low : (m : TotalMin) → true ≡ (total_min_ok m 0 && true)
    low (least.Exact n) = rw (le-leb 0 n (omega arith))
    low least.TooLarge = refl

-- the test answers what it answered of the range with the caps
pub ok_with_caps : (t : TotalRange) (q : Occurs) → total_ok t q ≡ range_ok (with_caps t) q
ok_with_caps t q = ap₂ ◌&&◌ (low t.min) (high t.max q.max)
  where
    low : (m : TotalMin) → total_min_ok m q.min ≡ leb q.min (min_with_cap m)
    low (least.Exact n) = refl
    low least.TooLarge = refl

    high : (m : TotalMax) (b : MaxOccurs) → total_max_ok m b ≡ max_ok (max_with_cap m) b
    high (most.Bounded n) (occurs.Bounded b) = refl
    high (most.Bounded n) occurs.Unbounded = refl
    high most.TooLarge (occurs.Bounded b) = refl
    high most.TooLarge occurs.Unbounded = refl
    high most.Unbounded (occurs.Bounded b) = refl
    high most.Unbounded occurs.Unbounded = refl

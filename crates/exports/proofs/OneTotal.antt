-- The two exported numbers of a total range tell the answer: exact or bounded, too large, unbounded, and each refusal have numbers of their own. Assumes nothing.
use Rattle.std.specs.Prelude.{Result, Ok, Err}
use mathlib.Core.List.{List}
use mathlib.Core.Path.{◌≡◌, refl, ap, sym, ◌∙◌}
use Prim.Native.Nat.{ℕ, ◌+◌, ◌≤◌, ◌<◌}
use native.Mathlib.Omega.{arith}
use Rattle.particle.specs.declared.MaxOccurs.{MaxOccurs}
use Rattle.particle.specs.declared.MaxOccurs.TheVariants.{Bounded, Unbounded}
use Rattle.particle.specs.declared.Occurs.{Occurs}
use Rattle.particle.specs.Tree.{tree}
use Rattle.totals.specs.declared.ranges.TotalRange.{TotalRange}
use Rattle.totals.specs.Exact.{exact_total}
use Rattle.totals.specs.Total.{largest, cut_min, cut_bounded, cut_max, cut, total}
use Rattle.totals.proofs.Cuts.{min_cases, bounded_cases, min_above, bounded_above, same_range}
use Rattle.intake.specs.declared.Fault.{Fault}
use Rattle.intake.specs.declared.Fault.TheVariants.{Fields, Pair, AllGroup, Depth, Counts}
use Rattle.intake.specs.declared.Refusal.TheVariants.{Derived}
use Rattle.intake.specs.Number.{fault_place, refusal_number}
use Rattle.entries.specs.Answer.{Answer, gives, refused, answer, refusal_alone}
use Rattle.exports.specs.Numbers.{beyond, too_large, total_min_number, total_max_number, min_number, max_number}

-- what the entry answers
abbrev pub total_answer : List ℕ → Answer TotalRange
total_answer t = answer (refusal_alone t) (total (tree t))

-- a minimum's number, and a bounded maximum's, on either side of the cut
data Number (n : ℕ) (number : ℕ) : Type 0 where
  itself : n ≤ largest → number ≡ n → Number n number
  over : largest < n → number ≡ too_large → Number n number

min_number_lem : (n : ℕ) → Number n (total_min_number (cut_min n))
min_number_lem n = min_cases (λ m. Number n (total_min_number m)) n (λ l. itself l refl) (λ l. over l refl)

bounded_number : (n : ℕ) → Number n (total_max_number (cut_bounded n))
bounded_number n = bounded_cases (λ m. Number n (total_max_number m)) n (λ l. itself l refl) (λ l. over l refl)

-- two numbers with one exported number are the same or both too large
module _ {A : Type 0} (f : ℕ → A) (same : (m n : ℕ) → largest < m → largest < n → f m ≡ f n) where
  one_number : (m n : ℕ) {k : ℕ} → Number m k → Number n k → f m ≡ f n
  one_number m n (itself l e) (itself l' e') = ap f (sym e ∙ e')
  one_number m n (itself l e) (over l' e') = absurd (omega arith)
  one_number m n (over l e) (itself l' e') = absurd (omega arith)
  one_number m n (over l e) (over l' e') = same m n l l'

-- none of them is 2^32, or a refusal's
apart : (n k : ℕ) {number : ℕ} → Number n number → k < beyond → number ≡ beyond + k → ⊥
apart n k (itself l e) h f = omega arith
apart n k (over l e) h f = omega arith

one_min : (m n : ℕ) → total_min_number (cut_min m) ≡ total_min_number (cut_min n) → cut_min m ≡ cut_min n
one_min m n e = one_number cut_min (λ a b h k. min_above a h ∙ sym (min_above b k)) m n (min_number_lem m) (rw e (min_number_lem n))

one_max : (x y : MaxOccurs) → total_max_number (cut_max x) ≡ total_max_number (cut_max y) → cut_max x ≡ cut_max y
one_max (Bounded m) (Bounded n) e = one_number cut_bounded (λ a b h k. bounded_above a h ∙ sym (bounded_above b k)) m n (bounded_number m) (rw e (bounded_number n))
one_max (Bounded m) Unbounded e = absurd (apart m 0 (bounded_number m) (omega arith) (e ∙ omega arith))
one_max Unbounded (Bounded n) e = absurd (apart n 0 (bounded_number n) (omega arith) (sym e ∙ omega arith))
one_max Unbounded Unbounded e = refl

place_low : (f : Fault) → fault_place f ≤ 4
place_low Fields = omega arith
place_low Pair = omega arith
place_low AllGroup = omega arith
place_low Depth = omega arith
place_low Counts = omega arith

refusal_low : (f : Fault) → refusal_number (Derived f) < beyond
refusal_low f = omega (arith, place_low f)

pub one_total : (t u : List ℕ) → min_number (total_answer t) ≡ min_number (total_answer u) → max_number (total_answer t) ≡ max_number (total_answer u) → total_answer t ≡ total_answer u
unfolding total
one_total t u = go (refusal_alone t) (refusal_alone u) (exact_total (tree t)) (exact_total (tree u))
  where
    go : (c d : Result (Unit {0}) Fault) (x y : Occurs) → min_number (answer c (cut x)) ≡ min_number (answer d (cut y)) → max_number (answer c (cut x)) ≡ max_number (answer d (cut y)) → answer c (cut x) ≡ answer d (cut y)
    go (Ok _) (Ok _) x y e f = ap gives (same_range (one_min x.min y.min e) (one_max x.max y.max f))
    go (Ok _) (Err b) x y e f = absurd (apart x.min (refusal_number (Derived b)) (min_number_lem x.min) (refusal_low b) e)
    go (Err a) (Ok _) x y e f = absurd (apart y.min (refusal_number (Derived a)) (min_number_lem y.min) (refusal_low a) (sym e))
    go (Err a) (Err b) x y e f = ap refused (omega arith)

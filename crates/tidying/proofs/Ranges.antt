-- Sums and spans of ranges: what they are where some of the ranges are replaced. A law on maxima or minima is said once, of whatever joins ranges so. Assumes nothing.
use mathlib.Core.List.{List, [], ◌∷◌, ◌++◌}
use mathlib.Core.Path.{◌≡◌, refl, ap, sym, ◌∙◌}
use Prim.Native.Nat.{ℕ, ◌+◌, ◌≤◌, min, max}
use native.Mathlib.Nat.{le_of_eq}
use native.Mathlib.Omega.{arith}
use Rattle.particle.specs.declared.MaxOccurs.{MaxOccurs}
use Rattle.particle.specs.declared.MaxOccurs.TheVariants.{Bounded, Unbounded}
use Rattle.particle.specs.declared.Occurs.{Occurs}
use Rattle.particle.specs.Occurs.{exactly}
use Rattle.totals.specs.Exact.{add_max, mul_max, max_max, add_range, mul_range, sum, span}

-- two ranges of one minimum and one maximum
pub same_range : {a b : Occurs} → a.min ≡ b.min → a.max ≡ b.max → a ≡ b
same_range e f = λ i. record { min = e i; max = f i }

-- Maxima ------------------------------------------------------------------------------------

-- two maxima as one: 0 adds nothing, and the order of brackets does not matter
pub record Joins (join : MaxOccurs → MaxOccurs → MaxOccurs) : Type 0 where
  pub none : (m : MaxOccurs) → join (Bounded 0) m ≡ m
  pub last : (m : MaxOccurs) → join m (Bounded 0) ≡ m
  pub assoc : (a b c : MaxOccurs) → join (join a b) c ≡ join a (join b c)

-- so it is where numbers are joined by such an f, and unbounded stays unbounded
module _ (join : MaxOccurs → MaxOccurs → MaxOccurs) (f : ℕ → ℕ → ℕ) (bounded : (a b : ℕ) → join (Bounded a) (Bounded b) ≡ Bounded (f a b))
    (over : (a : ℕ) → join (Bounded a) Unbounded ≡ Unbounded) (unbounded : (m : MaxOccurs) → join Unbounded m ≡ Unbounded) where
  joined_by : ((n : ℕ) → f 0 n ≡ n) → ((n : ℕ) → f n 0 ≡ n) → ((a b c : ℕ) → f (f a b) c ≡ f a (f b c)) → Joins join
  joined_by z y e = record { none = none; last = last; assoc = assoc }
    where
      none : (m : MaxOccurs) → join (Bounded 0) m ≡ m
      none (Bounded n) = bounded 0 n ∙ ap Bounded (z n)
      none Unbounded = over 0

      last : (m : MaxOccurs) → join m (Bounded 0) ≡ m
      last (Bounded n) = bounded n 0 ∙ ap Bounded (y n)
      last Unbounded = unbounded (Bounded 0)

      assoc : (a b c : MaxOccurs) → join (join a b) c ≡ join a (join b c)
      assoc Unbounded b c = rw (unbounded b, unbounded c, unbounded (join b c))
      assoc (Bounded a) Unbounded c = rw (over a, unbounded c, over a)
      assoc (Bounded a) (Bounded b) Unbounded = rw (bounded a b, over (f a b), over b, over a)
      assoc (Bounded a) (Bounded b) (Bounded c) = rw (bounded a b, bounded (f a b) c, bounded b c, bounded a (f b c)) (ap Bounded (e a b c))

pub joins_sum : Joins add_max
joins_sum = joined_by add_max ◌+◌ (λ a b. refl) (λ a. refl) (λ m. refl) (λ n. omega arith) (λ n. omega arith) (λ a b c. omega arith)

pub joins_span : Joins max_max
joins_span = joined_by max_max max (λ a b. refl) (λ a. refl) (λ m. refl) (λ n. omega arith) (λ n. omega arith) (λ a b c. omega arith)

-- the maxima of some ranges, as one
abbrev pub all_max : (MaxOccurs → MaxOccurs → MaxOccurs) → List Occurs → MaxOccurs
all_max join [] = Bounded 0
all_max join (t ∷ ts) = join t.max (all_max join ts)

module _ {join : MaxOccurs → MaxOccurs → MaxOccurs} (J : Joins join) where
  all_append : (xs ys : List Occurs) → all_max join (xs ++ ys) ≡ join (all_max join xs) (all_max join ys)
  all_append [] ys = sym (J.none (all_max join ys))
  all_append (x ∷ xs) ys = ap (join x.max) (all_append xs ys) ∙ sym (J.assoc x.max (all_max join xs) (all_max join ys))

  -- after the same ranges
  pub max_after : (before xs ys : List Occurs) → all_max join xs ≡ all_max join ys → all_max join (before ++ xs) ≡ all_max join (before ++ ys)
  max_after [] xs ys e = e
  max_after (t ∷ before) xs ys e = ap (join t.max) (max_after before xs ys e)

  -- without a range of maximum 0
  pub max_without : (t : Occurs) (ts : List Occurs) → t.max ≡ Bounded 0 → all_max join ts ≡ all_max join (t ∷ ts)
  max_without t ts e = sym (ap (λ (m : MaxOccurs). join m (all_max join ts)) e ∙ J.none (all_max join ts))

  -- some ranges in the place of one with their maxima
  pub max_joined : (t : Occurs) (xs ys : List Occurs) → t.max ≡ all_max join xs → all_max join (xs ++ ys) ≡ all_max join (t ∷ ys)
  max_joined t xs ys e = all_append xs ys ∙ ap (λ (m : MaxOccurs). join m (all_max join ys)) (sym e)

pub sum_max : (ts : List Occurs) → (sum ts).max ≡ all_max add_max ts
unfolding sum
sum_max [] = refl
sum_max (t ∷ ts) = ap (add_max t.max) (sum_max ts)

pub span_max : (ts : List Occurs) → (span ts).max ≡ all_max max_max ts
unfolding span
span_max [] = refl
span_max (t ∷ []) = sym (joins_span.last t.max)
span_max (t ∷ u ∷ ts) = ap (max_max t.max) (span_max (u ∷ ts))

-- Minima ------------------------------------------------------------------------------------

-- what some ranges come to at least
pub record Least (least : List Occurs → ℕ) : Type 0 where
  -- after the same ranges, the first of some others
  pub after : (before xs : List Occurs) (y : Occurs) (ys : List Occurs) → least (y ∷ ys) ≤ least xs → least (before ++ y ∷ ys) ≤ least (before ++ xs)
  -- without a range of minimum 0
  pub without : (t : Occurs) (ts : List Occurs) → t.min ≡ 0 → least (t ∷ ts) ≤ least ts
  -- a lesser minimum in the place of another
  pub lesser : (a b : Occurs) (ts : List Occurs) → b.min ≤ a.min → least (b ∷ ts) ≤ least (a ∷ ts)

pub sum_min_after : (before xs ys : List Occurs) → (sum ys).min ≤ (sum xs).min → (sum (before ++ ys)).min ≤ (sum (before ++ xs)).min
unfolding sum
sum_min_after [] xs ys l = l
sum_min_after (t ∷ before) xs ys l = let i = sum_min_after before xs ys l in omega arith

pub least_sum : Least (λ ts. (sum ts).min)
unfolding sum
least_sum = record { after = λ before xs y ys. sum_min_after before xs (y ∷ ys); without = λ t ts e. omega arith; lesser = λ a b ts l. omega arith }

pub least_span : Least (λ ts. (span ts).min)
unfolding span
least_span = record { after = after; without = without; lesser = lesser }
  where
    after : (before xs : List Occurs) (y : Occurs) (ys : List Occurs) → (span (y ∷ ys)).min ≤ (span xs).min → (span (before ++ y ∷ ys)).min ≤ (span (before ++ xs)).min
    after [] xs y ys l = l
    after (t ∷ []) [] y ys l = omega arith
    after (t ∷ []) (x ∷ xs) y ys l = omega arith
    after (t ∷ u ∷ before) xs y ys l = let i = after (u ∷ before) xs y ys l in omega arith

    without : (t : Occurs) (ts : List Occurs) → t.min ≡ 0 → (span (t ∷ ts)).min ≤ (span ts).min
    without t [] e = omega arith
    without t (u ∷ ts) e = omega arith

    lesser : (a b : Occurs) (ts : List Occurs) → b.min ≤ a.min → (span (b ∷ ts)).min ≤ (span (a ∷ ts)).min
    lesser a b [] l = l
    lesser a b (t ∷ ts) l = omega arith

-- the minimum of ranges in the place of their sum
pub sum_min_joined : (xs ys : List Occurs) → (sum (xs ++ ys)).min ≡ (sum (sum xs ∷ ys)).min
unfolding sum
sum_min_joined [] ys = omega arith
sum_min_joined (x ∷ xs) ys = let i = sum_min_joined xs ys in omega arith

-- of ranges in the place of their span, where there are some
pub span_min_joined : (x : Occurs) (xs ys : List Occurs) → (span (x ∷ (xs ++ ys))).min ≡ (span (span (x ∷ xs) ∷ ys)).min
unfolding span
span_min_joined x [] ys = refl
span_min_joined x (y ∷ xs) [] = ap (min x.min) (span_min_joined y xs [])
span_min_joined x (y ∷ xs) (z ∷ ys) = let i = span_min_joined y xs (z ∷ ys) in omega arith

-- there or not
pub span_min_first : (ts ys : List Occurs) → (span (span ts ∷ ys)).min ≤ (span (ts ++ ys)).min
unfolding span
span_min_first [] ys = least_span.without (exactly 0) ys refl
span_min_first (t ∷ ts) ys = le_of_eq (sym (span_min_joined t ts ys))

-- Ranges ------------------------------------------------------------------------------------

-- (1,1) times a range, and a range and nothing more
pub once_range : (t : Occurs) → mul_range (exactly 1) t ≡ t
once_range t = same_range (omega arith) (once_mul t.max)
  where
    once_mul : (m : MaxOccurs) → mul_max (Bounded 1) m ≡ m
    once_mul (Bounded n) = ap Bounded (omega arith)
    once_mul Unbounded = refl

pub alone_range : (t : Occurs) → add_range t (exactly 0) ≡ t
alone_range t = same_range (omega arith) (joins_sum.last t.max)

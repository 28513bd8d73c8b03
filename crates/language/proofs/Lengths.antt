-- The number of names of every word that a tree allows lies within the tree's total range. Assumes nothing.
use mathlib.Core.List.{List, ◌∷◌}
use mathlib.Core.Logic.{inl, inr}
use mathlib.Core.Path.{◌≡◌, refl, ap, ◌∙◌, subst}
use Prim.Native.Nat.{ℕ, zero, suc, ◌+◌, ◌*◌, ◌≤◌, ◌<◌}
use native.Mathlib.Nat.{le_trans, mul-le-mul_right}
use native.Mathlib.Omega.{arith}
use lib.ListN.{length, length-append}
use Rattle.particle.specs.declared.MaxOccurs.{MaxOccurs}
use Rattle.particle.specs.declared.MaxOccurs.TheVariants.{Bounded, Unbounded}
use Rattle.particle.specs.declared.Occurs.{Occurs}
use Rattle.particle.specs.Tree.{Head, element, wildcard, sequence, choice, all, Particle, fold}
use Rattle.particle.proofs.Folds.{Matches, ended, next, fold_matches}
use Rattle.totals.specs.declared.ranges.TotalMin.{TotalMin}
use Rattle.totals.specs.declared.ranges.TotalMin.TheVariants as least
use Rattle.totals.specs.declared.ranges.TotalMax.{TotalMax}
use Rattle.totals.specs.declared.ranges.TotalMax.TheVariants as most
use Rattle.totals.specs.declared.ranges.TotalRange.{TotalRange}
use Rattle.totals.specs.Exact.{add_max, mul_max, max_max, add_range, mul_range, span_range, sum, span, exact_from, exact_total}
use Rattle.totals.specs.Total.{largest, cut_max, cut, total}
use Rattle.totals.proofs.Cuts.{min_cases, bounded_cases}
use Rattle.language.specs.Language.{Words, InOrder, OneOf, Inserted, here, later, Blocks, joined, AnyOrder, AtMost, Rounds, Name, Names, words_from, Allows}
use Rattle.language.proofs.Rounds.{Many, names_length}

-- the number n lies within the pair p
abbrev pub Within : ℕ → Occurs → Type 0
Within n p = (p.min ≤ n) × AtMost n p.max

-- the number n lies within a total range: above 4294967295 where the minimum is too large; a maximum that is too large bounds it by no number of 32 bits
abbrev pub AtLeastTotal : ℕ → TotalMin → Type 0
AtLeastTotal n (least.Exact m) = m ≤ n
AtLeastTotal n least.TooLarge = largest < n

abbrev pub AtMostTotal : ℕ → TotalMax → Type 0
AtMostTotal n (most.Bounded m) = n ≤ m
AtMostTotal n most.TooLarge = Unit {0}
AtMostTotal n most.Unbounded = Unit {0}

abbrev pub WithinTotal : ℕ → TotalRange → Type 0
WithinTotal n t = AtLeastTotal n t.min × AtMostTotal n t.max

-- the words of W have lengths within t
abbrev pub Measured : Words → Occurs → Type 0
Measured W t = (w : List ℕ) → W w → Within (length w) t

-- Ranges -------------------------------------------------------------------------

add_most : (x y : MaxOccurs) (a b : ℕ) → AtMost a x → AtMost b y → AtMost (a + b) (add_max x y)
add_most (Bounded m) (Bounded n) a b h k = omega arith
add_most (Bounded m) Unbounded a b h k = tt
add_most Unbounded y a b h k = tt

add_within : (a b : ℕ) (t s : Occurs) → Within a t → Within b s → Within (a + b) (add_range t s)
add_within a b t s (l, h) (l', h') = (omega arith, add_most t.max s.max a b h h')

max_left : (x y : MaxOccurs) (a : ℕ) → AtMost a x → AtMost a (max_max x y)
max_left (Bounded m) (Bounded n) a h = omega arith
max_left (Bounded m) Unbounded a h = tt
max_left Unbounded y a h = tt

max_right : (x y : MaxOccurs) (a : ℕ) → AtMost a y → AtMost a (max_max x y)
max_right (Bounded m) (Bounded n) a h = omega arith
max_right (Bounded m) Unbounded a h = tt
max_right Unbounded y a h = tt

span_left : (a : ℕ) (t s : Occurs) → Within a t → Within a (span_range t s)
span_left a t s (l, h) = (omega arith, max_left t.max s.max a h)

span_right : (a : ℕ) (t s : Occurs) → Within a s → Within a (span_range t s)
span_right a t s (l, h) = (omega arith, max_right t.max s.max a h)

-- n rounds of len names in all
mul_most : (x y : MaxOccurs) (n len : ℕ) → AtMost n x → ((b : ℕ) → y ≡ Bounded b → len ≤ n * b) → (n ≡ 0 → len ≡ 0) → AtMost len (mul_max x y)
mul_most (Bounded a) (Bounded b) n len h k z = le_trans (k b refl) (mul-le-mul_right b h)
mul_most (Bounded zero) Unbounded n len h k z = omega (arith, z (omega arith))
mul_most (Bounded (suc a)) Unbounded n len h k z = tt
mul_most Unbounded (Bounded zero) n len h k z = omega (arith, k 0 refl)
mul_most Unbounded (Bounded (suc b)) n len h k z = tt
mul_most Unbounded Unbounded n len h k z = tt

-- Lengths ------------------------------------------------------------------------

in_order_length : {Ws : List Words} {ts : List Occurs} → Matches Measured Ws ts → Measured (InOrder Ws) (sum ts)
unfolding sum
in_order_length ended w p = rw p (omega arith, omega arith)
in_order_length (next {b = t} {ys = ts} m ms) w p =
    rw (ap length p.whole ∙ length-append p.front p.back)
    (add_within (length p.front) (length p.back) t (sum ts) (m p.front p.left) (in_order_length ms p.back p.right))

one_of_length : {Ws : List Words} {ts : List Occurs} → Matches Measured Ws ts → Measured (OneOf Ws) (span ts)
unfolding span
one_of_length ended w p = absurd p
one_of_length (next m ended) w (inl x) = m w x
one_of_length (next m ended) w (inr x) = absurd x
one_of_length (next {b = t} m (next {b = u} {ys = ts} m' ms)) w (inl x) = span_left (length w) t (span (u ∷ ts)) (m w x)
one_of_length (next {b = t} m (next {b = u} {ys = ts} m' ms)) w (inr x) = span_right (length w) t (span (u ∷ ts)) (one_of_length (next m' ms) w x)

inserted_length : {u : List ℕ} {r s : List (List ℕ)} → Inserted u r s → length (joined s) ≡ length u + length (joined r)
inserted_length {u} {r} here = length-append u (joined r)
inserted_length {u} (later {y} {xs} {ys} i) = length-append y (joined ys) ∙ omega (arith, inserted_length i, length-append y (joined xs))

blocks_length : {Ws : List Words} {ts : List Occurs} → Matches Measured Ws ts → (bs : List (List ℕ)) → Blocks Ws bs → Within (length (joined bs)) (sum ts)
unfolding sum
blocks_length ended bs e = rw e (omega arith, omega arith)
blocks_length (next {b = t} {ys = ts} m ms) bs (u, others, i, x, rest) =
    rw (inserted_length i) (add_within (length u) (length (joined others)) t (sum ts) (m u x) (blocks_length ms others rest))

many_least : (n : ℕ) (W : Words) (t : Occurs) → Measured W t → (w : List ℕ) → Many n W w → n * t.min ≤ length w
many_least zero W t m w p = omega arith
many_least (suc n) W t m w p = omega (arith, ap length p.whole, length-append p.front p.back, (m p.front p.left).0, many_least n W t m p.back p.right)

many_most : (n : ℕ) (W : Words) (t : Occurs) (b : ℕ) → t.max ≡ Bounded b → Measured W t → (w : List ℕ) → Many n W w → length w ≤ n * b
many_most zero W t b e m w p = omega (arith, ap length p)
many_most (suc n) W t b e m w p =
    let h : length p.front ≤ b = subst (AtMost (length p.front)) e (m p.front p.left).1 in
    omega (arith, ap length p.whole, length-append p.front p.back, many_most n W t b e m p.back p.right)

rounds_length : (p : Occurs) (W : Words) (t : Occurs) → Measured W t → Measured (Rounds p W) (mul_range p t)
rounds_length p W t m w r = (
  omega (arith, le_trans (mul-le-mul_right t.min r.least) (many_least r.number W t m w r.rounds)),
  mul_most p.max t.max r.number (length w) r.most (λ b e. many_most r.number W t b e m w r.rounds)
      (λ z. ap length (subst (λ (n : ℕ). Many n W w) z r.rounds)),
)

names_measured : (S : ℕ → Type 0) (p : Occurs) → Measured (Rounds p (Name S)) p
names_measured S p w r = rw (names_length S r.number w r.rounds) (r.least, r.most)

-- what lies within the exact range lies within the total range
cut_within : (n : ℕ) (e : Occurs) → Within n e → WithinTotal n (cut e)
cut_within n e (l, h) = (min_cases (AtLeastTotal n) e.min (λ m. l) (λ m. omega arith), high e.max h)
  where
    high : (x : MaxOccurs) → AtMost n x → AtMostTotal n (cut_max x)
    high (Bounded m) k = bounded_cases (AtMostTotal n) m (λ g. k) (λ g. tt)
    high Unbounded k = tt

module _ (names : Names) where
  record_length : (h : Head) (Ws : List Words) (ts : List Occurs) → Matches Measured Ws ts → Measured (words_from names h Ws) (exact_from h ts)
  record_length (element l p) Ws ts m = names_measured (names l) p
  record_length (wildcard l p) Ws ts m = names_measured (names l) p
  record_length (sequence p) Ws ts m = rounds_length p (InOrder Ws) (sum ts) (in_order_length m)
  record_length (choice p) Ws ts m = rounds_length p (OneOf Ws) (span ts) (one_of_length m)
  record_length (all p) Ws ts m = rounds_length p (AnyOrder Ws) (sum ts) (λ w (bs, e, b). rw e (blocks_length m bs b))

  pub exact_length : (x : Particle) (w : List ℕ) → Allows names x w → Within (length w) (exact_total x)
  unfolding Allows exact_total
  exact_length x = record_length x.head (fold (words_from names) x.items) (fold exact_from x.items) (fold_matches Measured (words_from names) exact_from record_length x.items)

  pub total_length : (x : Particle) (w : List ℕ) → Allows names x w → WithinTotal (length w) (total x)
  unfolding total
  total_length x w a = cut_within (length w) (exact_total x) (exact_length x w a)

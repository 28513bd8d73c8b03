-- What document 01's caps gave is known from the total range, whose exact numbers are cut once: it did not matter where in the tree a number grew too large. Assumes nothing.
use mathlib.Core.List.{List, ◌∷◌}
use mathlib.Core.Path.{◌≡◌, refl, ap, ap₂, sym, ◌∙◌}
use Prim.Native.Nat.{ℕ, zero, suc, ◌+◌, ◌*◌, ◌≤◌, ◌<◌, max}
use native.Mathlib.Decide.{dec_le}
use native.Mathlib.Nat.{zero-mul}
use native.Mathlib.Omega.{arith}
use Rattle.particle.specs.declared.MaxOccurs.{MaxOccurs}
use Rattle.particle.specs.declared.MaxOccurs.TheVariants.{Bounded, Unbounded}
use Rattle.particle.specs.declared.Occurs.{Occurs}
use Rattle.particle.specs.Tree.{Head, element, wildcard, sequence, choice, all, Items, none, item, Particle, single, fold}
use Rattle.particle.proofs.Folds.{Matches, ended, next}
use Rattle.particle.proofs.Every.{EachHead}
use Rattle.totals.specs.Exact.{add_max, times_unbounded, mul_max, max_max, add_range, mul_range, span_range, sum, span, exact_from, exact_total}
use Rattle.totals.specs.Total.{largest, cut_min, cut_bounded, cut_max, cut, total}
use Rattle.totals.proofs.Cuts.{cut_cases, min_cases, bounded_cases, within, above, same_pair}
use Rattle.totals.proofs.Caps.{cap_min, cap_max, capped_add_max, capped_mul_max, capped_add, capped_mul, capped_sum, capped_from, capped_total, min_with_cap, max_with_cap, with_caps, Max32, Pair32, Leaf32}

cap_cases : (P : MaxOccurs → Type 0) (n : ℕ) → (n ≤ largest → P (Bounded n)) → (largest < n → P Unbounded) → P (cap_max n)
cap_cases P n = cut_cases P (Bounded n) Unbounded n

cap_within : (n : ℕ) → n ≤ largest → cap_max n ≡ Bounded n
cap_within n = within (Bounded n) Unbounded n

cap_above : (n : ℕ) → largest < n → cap_max n ≡ Unbounded
cap_above n = above (Bounded n) Unbounded n

-- an exact number, cut, with the cap
pub min_with_cap_lem : (n : ℕ) → min_with_cap (cut_min n) ≡ cap_min n
min_with_cap_lem n = min_cases (λ m. min_with_cap m ≡ cap_min n) n (λ l. omega arith) (λ l. omega arith)

pub bounded_with_cap : (n : ℕ) → max_with_cap (cut_bounded n) ≡ cap_max n
bounded_with_cap n = bounded_cases (λ m. max_with_cap m ≡ cap_max n) n (λ l. sym (cap_within n l)) (λ l. sym (cap_above n l))

-- the exact range, capped
abbrev capped_max : MaxOccurs → MaxOccurs
capped_max (Bounded n) = cap_max n
capped_max Unbounded = Unbounded

abbrev capped : Occurs → Occurs
capped o = record { min = cap_min o.min; max = capped_max o.max }

-- Maxima: to cap the operands first alters nothing. One law for the sum and the greater: where an operand is unbounded, so is the result.
module _ (op : MaxOccurs → MaxOccurs → MaxOccurs) (left : (y : MaxOccurs) → op Unbounded y ≡ Unbounded) (right : (x : MaxOccurs) → op x Unbounded ≡ Unbounded)
    (a b n : ℕ) (l : a ≤ n) (m : b ≤ n) (both : a ≤ largest → b ≤ largest → op (Bounded a) (Bounded b) ≡ cap_max n) where
  bounded_capped : op (cap_max a) (cap_max b) ≡ cap_max n
  bounded_capped =
      cap_cases (λ x. op x (cap_max b) ≡ cap_max n) a
      (λ h. cap_cases (λ y. op (Bounded a) y ≡ cap_max n) b (both h) (λ k. right (Bounded a) ∙ sym (cap_above n (omega arith))))
      (λ h. left (cap_max b) ∙ sym (cap_above n (omega arith)))

add_open : (x : MaxOccurs) → capped_add_max x Unbounded ≡ Unbounded
add_open (Bounded a) = refl
add_open Unbounded = refl

max_open : (x : MaxOccurs) → max_max x Unbounded ≡ Unbounded
max_open (Bounded a) = refl
max_open Unbounded = refl

add_max_lem : (x y : MaxOccurs) → capped_add_max (capped_max x) (capped_max y) ≡ capped_max (add_max x y)
add_max_lem (Bounded a) (Bounded b) = bounded_capped capped_add_max (λ y. refl) add_open a b (a + b) (omega arith) (omega arith) (λ h k. refl)
add_max_lem (Bounded a) Unbounded = add_open (cap_max a)
add_max_lem Unbounded y = refl

max_max_lem : (x y : MaxOccurs) → max_max (capped_max x) (capped_max y) ≡ capped_max (max_max x y)
max_max_lem (Bounded a) (Bounded b) = bounded_capped max_max (λ y. refl) max_open a b (max a b) (omega arith) (omega arith) (λ h k. sym (cap_within (max a b) (omega arith)))
max_max_lem (Bounded a) Unbounded = max_open (cap_max a)
max_max_lem Unbounded y = refl

times_capped : (n : ℕ) → times_unbounded n ≡ capped_max (times_unbounded n)
times_capped zero = refl
times_capped (suc n) = refl

times_above : (a b : ℕ) → largest < b → times_unbounded a ≡ cap_max (a * b)
times_above zero b l = rw (zero-mul b)
times_above (suc a) b l = sym (cap_above (suc a * b) (omega arith))

unbounded_above : (b : ℕ) → largest < b → Unbounded ≡ capped_max (times_unbounded b)
unbounded_above zero l = absurd (omega arith)
unbounded_above (suc b) l = refl

mul_max_lem : (x y : MaxOccurs) → capped_mul_max x (capped_max y) ≡ capped_max (mul_max x y)
mul_max_lem (Bounded a) (Bounded b) = cap_cases (λ y. capped_mul_max (Bounded a) y ≡ cap_max (a * b)) b (λ l. refl) (times_above a b)
mul_max_lem (Bounded a) Unbounded = times_capped a
mul_max_lem Unbounded (Bounded b) = cap_cases (λ y. capped_mul_max Unbounded y ≡ capped_max (times_unbounded b)) b (λ l. times_capped b) (unbounded_above b)
mul_max_lem Unbounded Unbounded = refl

-- minima
mul_min : (a b : ℕ) → cap_min (a * cap_min b) ≡ cap_min (a * b)
mul_min zero b = rw (zero-mul (cap_min b), zero-mul b)
mul_min (suc a) b = go (dec_le b largest)
  where
    go : Dec (b ≤ largest) → cap_min (suc a * cap_min b) ≡ cap_min (suc a * b)
    go (yes l) = let e : cap_min b ≡ b = omega arith in rw e
    go (no l) = let e : cap_min b ≡ largest = omega arith in rw e (omega arith)

-- ranges
add_capped : (a b : Occurs) → capped_add (capped a) (capped b) ≡ capped (add_range a b)
add_capped a b = same_pair (omega arith) (add_max_lem a.max b.max)

span_capped : (a b : Occurs) → span_range (capped a) (capped b) ≡ capped (span_range a b)
span_capped a b = same_pair (omega arith) (max_max_lem a.max b.max)

mul_capped : (a b : Occurs) → capped_mul a (capped b) ≡ capped (mul_range a b)
mul_capped a b = same_pair (mul_min a.min b.min) (mul_max_lem a.max b.max)

cut_capped : (e : Occurs) → capped e ≡ with_caps (cut e)
cut_capped e = same_pair (sym (min_with_cap_lem e.min)) (go e.max)
  where
    go : (m : MaxOccurs) → capped_max m ≡ max_with_cap (cut_max m)
    go (Bounded n) = sym (bounded_with_cap n)
    go Unbounded = refl

-- t is e, capped
abbrev IsCapped : Occurs → Occurs → Type 0
IsCapped t e = t ≡ capped e

sums_capped : {ts es : List Occurs} → Matches IsCapped ts es → IsCapped (capped_sum ts) (sum es)
unfolding capped_sum sum
sums_capped ended = refl
sums_capped (next {b = e} {ys = es} p m) = ap₂ capped_add p (sums_capped m) ∙ add_capped e (sum es)

spans_capped : {ts es : List Occurs} → Matches IsCapped ts es → IsCapped (span ts) (span es)
unfolding span
spans_capped ended = refl
spans_capped (next p ended) = p
spans_capped (next {b = e} p (next {b = d} {ys = es} q m)) = ap₂ span_range p (spans_capped (next q m)) ∙ span_capped e (span (d ∷ es))

pair_capped : (p : Occurs) → Pair32 p → IsCapped p p
pair_capped p f = same_pair (omega arith) (high p.max f.1)
  where
    high : (x : MaxOccurs) → Max32 x → x ≡ capped_max x
    high (Bounded n) l = sym (cap_within n l)
    high Unbounded l = refl

from_capped : (h : Head) → Leaf32 h → {ts es : List Occurs} → Matches IsCapped ts es → IsCapped (capped_from h ts) (exact_from h es)
from_capped (element l p) f m = pair_capped p f
from_capped (wildcard l p) f m = pair_capped p f
from_capped (sequence p) f {es = es} m = ap (capped_mul p) (sums_capped m) ∙ mul_capped p (sum es)
from_capped (choice p) f {es = es} m = ap (capped_mul p) (spans_capped m) ∙ mul_capped p (span es)
from_capped (all p) f {es = es} m = ap (capped_mul p) (sums_capped m) ∙ mul_capped p (sum es)

items_capped : (x : Items) → EachHead Leaf32 x → Matches IsCapped (fold capped_from x) (fold exact_from x)
unfolding fold EachHead
items_capped none f = ended
items_capped (item h k r) f = next (from_capped h f.0 (items_capped k f.1)) (items_capped r f.2)

pub capped_told : (x : Particle) → EachHead Leaf32 (single x) → capped_total x ≡ with_caps (total x)
unfolding capped_total exact_total total EachHead
capped_told x f = from_capped x.head f.0 (items_capped x.items f.1) ∙ cut_capped (exact_total x)

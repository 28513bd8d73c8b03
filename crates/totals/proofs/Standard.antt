-- Emptiness as the standard words it (3.9.6, Particle Emptiable): a tree is emptiable exactly where the least number of its total range is 0. Assumes nothing.
use mathlib.Core.Bool.{Bool, true, false, ◌&&◌, ◌||◌, or-false}
use mathlib.Core.List.{List, ◌∷◌}
use mathlib.Core.Logic.{◌↔◌}
use mathlib.Core.Path.{◌≡◌, refl, ap, ap₂, sym, ◌∙◌}
use Prim.Native.Nat.{ℕ, zero, suc, ◌+◌, ◌*◌, ◌<◌, min}
use native.Mathlib.Nat.{zero-mul, mul-zero}
use native.Mathlib.Omega.{arith}
use lib.Dec.{eqb, eqb-suc-zero}
use borrow.Author.Tests.{eqb-true, ne_eqb}
use Rattle.particle.specs.declared.Occurs.{Occurs}
use Rattle.particle.specs.Tree.{Head, element, wildcard, sequence, choice, all, Particle, fold}
use Rattle.particle.specs.Empty.{every, some, is_empty, optional, emptiable_from, emptiable}
use Rattle.particle.proofs.Folds.{Matches, ended, next, fold_matches}
use Rattle.totals.specs.declared.ranges.TotalMin.TheVariants.{Exact}
use Rattle.totals.specs.Exact.{sum, span, exact_from, exact_total}
use Rattle.totals.specs.Total.{cut_min, total}
use Rattle.totals.proofs.Cuts.{min_cases}

pos_test : (n : ℕ) → 0 < n → eqb n 0 ≡ false
pos_test n h = ne_eqb n 0 (λ z. omega arith)

zero_test : (n : ℕ) → n ≡ 0 → eqb n 0 ≡ true
zero_test n z = rw z

-- when a product, a sum and the lesser of two are 0
mul_test : (a b : ℕ) → eqb (a * b) 0 ≡ (eqb a 0 || eqb b 0)
mul_test zero b = rw (zero-mul b)
mul_test (suc a) zero = rw (mul-zero (suc a), eqb-suc-zero a)
mul_test (suc a) (suc b) = pos_test (suc a * suc b) (omega arith) ∙ sym (ap₂ ◌||◌ (eqb-suc-zero a) (eqb-suc-zero b))

add_test : (a b : ℕ) → eqb (a + b) 0 ≡ (eqb a 0 && eqb b 0)
add_test zero zero = refl
add_test zero (suc b) = pos_test (zero + suc b) (omega arith) ∙ sym (eqb-suc-zero b)
add_test (suc a) b = pos_test (suc a + b) (omega arith) ∙ sym (ap (λ (c : Bool). c && eqb b 0) (eqb-suc-zero a))

min_test : (a b : ℕ) → eqb (min a b) 0 ≡ (eqb a 0 || eqb b 0)
min_test zero b = zero_test (min zero b) (omega arith)
min_test (suc a) zero = zero_test (min (suc a) zero) (omega arith) ∙ sym (ap (λ (c : Bool). c || true) (eqb-suc-zero a))
min_test (suc a) (suc b) = pos_test (min (suc a) (suc b)) (omega arith) ∙ sym (ap₂ ◌||◌ (eqb-suc-zero a) (eqb-suc-zero b))

-- e is whether the least number of t is 0
abbrev Agrees : Bool → Occurs → Type 0
Agrees e t = e ≡ optional t

every_sum : {es : List Bool} {ts : List Occurs} → Matches Agrees es ts → every es ≡ optional (sum ts)
unfolding sum
every_sum ended = refl
every_sum (next {b = t} {ys = ts} e m) = ap₂ ◌&&◌ e (every_sum m) ∙ sym (add_test t.min (sum ts).min)

some_span : {es : List Bool} {ts : List Occurs} → Matches Agrees es ts → (is_empty es || some es) ≡ optional (span ts)
unfolding span
some_span ended = refl
some_span (next {a = c} e ended) = or-false c ∙ e
some_span (next {b = t} e (next {b = u} {ys = ts} e' m)) = ap₂ ◌||◌ e (some_span (next e' m)) ∙ sym (min_test t.min (span (u ∷ ts)).min)

-- a group, of which e is decided by the items as their range t is
group_agrees : (p : Occurs) {e : Bool} (t : Occurs) → e ≡ optional t → (optional p || e) ≡ eqb (p.min * t.min) 0
group_agrees p t e = ap (λ (c : Bool). optional p || c) e ∙ sym (mul_test p.min t.min)

from_agrees : (h : Head) (es : List Bool) (ts : List Occurs) → Matches Agrees es ts → Agrees (emptiable_from h es) (exact_from h ts)
from_agrees (element l p) es ts m = refl
from_agrees (wildcard l p) es ts m = refl
from_agrees (sequence p) es ts m = group_agrees p (sum ts) (every_sum m)
from_agrees (choice p) es ts m = group_agrees p (span ts) (some_span m)
from_agrees (all p) es ts m = group_agrees p (sum ts) (every_sum m)

pub emptiable_exact : (x : Particle) → emptiable x ≡ eqb (exact_total x).min 0
unfolding emptiable exact_total
emptiable_exact x =
    from_agrees x.head (fold emptiable_from x.items) (fold exact_from x.items) (fold_matches Agrees emptiable_from exact_from from_agrees x.items)

-- the cut makes no other number 0
cut_zero : (n : ℕ) → cut_min n ≡ Exact 0 → n ≡ 0
cut_zero n = min_cases (λ m. m ≡ Exact 0 → n ≡ 0) n (λ l e. cc) (λ l e. cc)

pub emptiable_is_standard : (x : Particle) → (emptiable x ≡ true) ↔ ((total x).min ≡ Exact 0)
unfolding total
emptiable_is_standard x = (
  λ e. ap cut_min (eqb-true (exact_total x).min 0 (sym (emptiable_exact x) ∙ e)),
  λ e. emptiable_exact x ∙ zero_test (exact_total x).min (cut_zero (exact_total x).min e),
)

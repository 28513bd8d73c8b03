-- How few records a tree can have that tidying alters, or whose total range or emptiness it alters. Assumes nothing.
use mathlib.Core.Bool.{true}
use mathlib.Core.List.{[], ◌∷◌}
use mathlib.Core.Path.{◌≡◌, refl, ap, sym, ◌∙◌}
use Prim.Native.Nat.{ℕ, ◌*◌, ◌≤◌}
use native.Mathlib.Nat.{mul-zero}
use native.Mathlib.Omega.{arith}
use Rattle.particle.specs.declared.Occurs.{Occurs}
use Rattle.particle.specs.Tree.{Head, Items, none, item, Particle, pair_of, single, size_i, fold, ◌then◌}
use Rattle.particle.specs.Empty.{optional, emptiable}
use Rattle.totals.specs.Exact.{sum, span, exact_from, exact_total}
use Rattle.totals.proofs.Standard.{emptiable_exact}
use Rattle.language.specs.Premises.{BelowRoot, Ordered}
use Rattle.tidying.specs.Tidy.{splices, keep, closed, settle, tidy_items, tidy}
use Rattle.tidying.specs.TidyTree.{Group}
use Rattle.tidying.proofs.Steps.{group_cases, settle_cases, closed_cases, keep_cases, splices_cases, zero_min}
use Rattle.tidying.proofs.Ranges.{same_range}
use Rattle.tidying.proofs.TotalsKept.{placed, paired, never_min, tidy_exact_max}

-- a record without items is left as it is
alone : (h : Head) → settle h none (tidy_items h none) ≡ record { head = h; items = none }
unfolding tidy_items
alone h = settle_cases (λ (x : Particle). x ≡ record { head = h; items = none }) h none none (λ _. refl) (λ _. refl)

-- Tidying leaves a tree of one record as it is.
pub one_record : (x : Particle) → size_i (single x) ≤ 1 → tidy x ≡ x
unfolding size_i tidy
one_record x l = go x.head x.items (omega arith)
  where
    go : (h : Head) (k : Items) → size_i k ≤ 0 → tidy (record { head = h; items = k }) ≡ record { head = h; items = k }
    go h none m = alone h
    go h (item h' k r) m = absurd (omega arith)

-- an item whose least number is 0, and no item
no_least : (g : Head) → Group g → (t : Occurs) → t.min ≡ 0 → (exact_from g []).min ≡ (exact_from g (t ∷ [])).min
unfolding sum span
no_least g s t e = group_cases (λ (g : Head). (exact_from g []).min ≡ (exact_from g (t ∷ [])).min) (λ p. ap (λ (n : ℕ). p.min * n) (omega arith)) (λ p. ap (λ (n : ℕ). p.min * n) (omega arith)) g s

-- an item without items, of the group's own kind
own_least : (g h : Head) → splices g h ≡ true → (exact_from h []).min ≡ 0
unfolding sum span
own_least = splices_cases (λ (g h : Head). (exact_from h []).min ≡ 0) (λ q p o. mul-zero p.min) (λ q p o. mul-zero p.min)

module _ (g : Head) (s : Group g) (h : Head) where
  abbrev Same : Particle → Type 0
  Same x = (exact_total x).min ≡ (exact_from g (exact_from h [] ∷ [])).min

  closed_one : Same (closed g (item h none none))
  unfolding exact_total fold
  closed_one =
      closed_cases Same g (item h none none) refl
      (λ h' k e o. ap (λ (t : Occurs). t.min) (sym (placed g s o (exact_from h' (fold exact_from k)))) ∙ over e)
      (λ h' k e p. ap (λ (t : Occurs). t.min) (sym (paired (fold exact_from k) g h' p)) ∙ over e)
    where
      over : {x : Items} → item h none none ≡ x → (exact_from g (fold exact_from x)).min ≡ (exact_from g (exact_from h [] ∷ [])).min
      over e = ap (λ (x : Items). (exact_from g (fold exact_from x)).min) (sym e)

  one_item : Ordered h none → Same (closed g (keep g (record { head = h; items = none }) none))
  unfolding exact_total fold ◌then◌
  one_item o =
      keep_cases (λ (y : Items). Same (closed g y)) g (record { head = h; items = none }) none
      (λ z. no_least g s (exact_from h []) (never_min h [] (zero_min (pair_of h) o z)))
      (λ e. no_least g s (exact_from h []) (own_least g h e))
      (λ _ _. closed_one)

two_least : (h : Head) (k : Items) → size_i k ≤ 1 → BelowRoot Ordered (record { head = h; items = k }) → (exact_total (tidy (record { head = h; items = k }))).min ≡ (exact_total (record { head = h; items = k })).min
unfolding size_i tidy tidy_items exact_total fold
two_least h none l o = ap (λ (x : Particle). (exact_total x).min) (alone h)
two_least h (item h' none none) l ((o, _), _) =
    settle_cases (λ (x : Particle). (exact_total x).min ≡ (exact_from h (exact_from h' [] ∷ [])).min) h (item h' none none) (keep h (settle h' none none) none) (λ _. refl)
    (λ s. ap (λ (x : Particle). (exact_total (closed h (keep h x none))).min) (alone h') ∙ one_item h s h' o)
two_least h (item h' none (item h'' k r)) l o = absurd (omega arith)
two_least h (item h' (item h'' k r) t) l o = absurd (omega arith)

-- Of a tree of two records whose pairs are in order it keeps the total range, and so emptiness.
pub two_records : (x : Particle) → size_i (single x) ≤ 2 → BelowRoot Ordered x → (exact_total (tidy x) ≡ exact_total x) × (emptiable (tidy x) ≡ emptiable x)
unfolding size_i
two_records x l o =
    let e : exact_total (tidy x) ≡ exact_total x = same_range (two_least x.head x.items (omega arith) o) (tidy_exact_max x) in
    (e, emptiable_exact (tidy x) ∙ (ap optional e ∙ sym (emptiable_exact x)))

-- What the total range is of the first tree, by its record. Assumes nothing.
use mathlib.Core.List.{List}
use mathlib.Core.Path.{◌≡◌, refl, ap, ap₂, sym, ◌∙◌}
use Prim.Native.Nat.{ℕ, ◌≤◌, ◌<◌}
use Rattle.particle.specs.declared.Occurs.{Occurs}
use Rattle.particle.specs.declared.Record.{Record}
use Rattle.particle.specs.Record.{record_at, range_of}
use Rattle.particle.specs.Tree.{fold, tree}
use Rattle.particle.specs.Rows.{Row, row, items_part}
use Rattle.particle.proofs.Folds.{first_leaf, first_choice, first_ordered}
use Rattle.totals.specs.declared.ranges.TotalRange.{TotalRange}
use Rattle.totals.specs.Exact.{mul_range, sum, span, exact_from, exact_total}
use Rattle.totals.specs.Total.{cut, total}
use Rattle.totals.specs.Cut.{mul_cut}
use Rattle.totals.proofs.CutSums.{mul_cut_lem}

-- the exact totals of the first n trees of t
abbrev pub totals : ℕ → List ℕ → List Occurs
totals n t = fold exact_from (row n t)

-- r is the first tree's record, own its pair
module _ {t : List ℕ} {r : Record} {own : Occurs} (w : Row 1 t) (e : r ≡ record_at t) (o : own ≡ range_of r) where
  pub leaf_total : {v : TotalRange} → v ≡ cut own → r.kind < 2 → v ≡ total (tree t)
  unfolding total exact_total
  leaf_total c k = c ∙ ap cut (o ∙ sym (first_leaf exact_from w e (λ l p ts. refl) k))

  -- v is the pair times u, which is the items' span or sum
  module _ {s : List ℕ} (p : s ≡ items_part t) {u v : TotalRange} (m : v ≡ mul_cut own u) where
    group_total : (x : Occurs) → u ≡ cut x → v ≡ cut (mul_range (range_of r) x)
    group_total x q = m ∙ (ap₂ mul_cut o q ∙ mul_cut_lem (range_of r) x)

    pub choice_total : {n : ℕ} → n ≡ r.count → r.kind ≡ 3 → u ≡ cut (span (totals n s)) → v ≡ total (tree t)
    unfolding total exact_total
    choice_total c k q = group_total _ (q ∙ ap (λ n. cut (span (totals n s))) c) ∙ ap cut (ap (λ (x : List ℕ). mul_range (range_of r) (span (totals r.count x))) p ∙ sym (first_choice exact_from w e k))

    pub ordered_total : {n : ℕ} → n ≡ r.count → 2 ≤ r.kind → (r.kind ≡ 3 → ⊥) → u ≡ cut (sum (totals n s)) → v ≡ total (tree t)
    unfolding total exact_total
    ordered_total c k k' q = group_total _ (q ∙ ap (λ n. cut (sum (totals n s))) c) ∙ ap cut (ap (λ (x : List ℕ). mul_range (range_of r) (sum (totals r.count x))) p ∙ sym (first_ordered exact_from w e (λ p ts. refl) k k'))

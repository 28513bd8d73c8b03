-- The loops over a group's items, their sum and their span: what the items so far give, with what is left, says the whole. Assumes nothing.
use mathlib.Core.List.{List, [], ◌∷◌}
use mathlib.Core.Path.{◌≡◌, refl, ap, ap₂, sym, ◌∙◌}
use Prim.Native.Nat.{ℕ, ◌-◌, ◌≤◌, ◌<◌}
use native.Mathlib.Omega.{arith}
use Rattle.particle.specs.declared.MaxOccurs.{MaxOccurs}
use Rattle.particle.specs.declared.MaxOccurs.TheVariants.{Bounded, Unbounded}
use Rattle.particle.specs.declared.Occurs.{Occurs}
use Rattle.particle.specs.declared.Record.{Record}
use Rattle.particle.specs.Occurs.{exactly}
use Rattle.particle.specs.Record.{record_at, range_of}
use Rattle.particle.specs.Tree.{tree}
use Rattle.particle.specs.Rows.{Row, later_part}
use Rattle.particle.proofs.Folds.{fold_none, fold_some}
use Rattle.totals.specs.declared.ranges.TotalRange.{TotalRange}
use Rattle.totals.specs.Exact.{add_max, max_max, add_range, span_range, sum, span, exact_from, exact_total}
use Rattle.totals.specs.Total.{cut, total}
use Rattle.totals.specs.Cut.{add_cut, span_cut}
use Rattle.totals.proofs.Cuts.{same_pair}
use Rattle.totals.proofs.CutSums.{add_cut_lem, span_cut_lem}
use Rattle.particle.proofs.Falls.{Part, part_start, part_first, part_next}
use Rattle.totals.proofs.FirstTotal.{totals, leaf_total}

-- The first two of a list may be taken together: sums and spans are associative.
add_max_together : (a b c : MaxOccurs) → add_max a (add_max b c) ≡ add_max (add_max a b) c
add_max_together (Bounded a) (Bounded b) (Bounded c) = ap Bounded (omega arith)
add_max_together (Bounded a) (Bounded b) Unbounded = refl
add_max_together (Bounded a) Unbounded c = refl
add_max_together Unbounded b c = refl

max_max_together : (a b c : MaxOccurs) → max_max a (max_max b c) ≡ max_max (max_max a b) c
max_max_together (Bounded a) (Bounded b) (Bounded c) = ap Bounded (omega arith)
max_max_together (Bounded a) (Bounded b) Unbounded = refl
max_max_together (Bounded a) Unbounded c = refl
max_max_together Unbounded b c = refl

sum_together : (x y : Occurs) (ts : List Occurs) → sum (x ∷ y ∷ ts) ≡ sum (add_range x y ∷ ts)
unfolding sum
sum_together x y ts = same_pair (omega arith) (add_max_together x.max y.max (sum ts).max)

span_together : (x y : Occurs) (ts : List Occurs) → span (x ∷ y ∷ ts) ≡ span (span_range x y ∷ ts)
unfolding span
span_together x y [] = refl
span_together x y (z ∷ ts) = same_pair (omega arith) (max_max_together x.max y.max (span (z ∷ ts)).max)

add_none : (a : MaxOccurs) → add_max a (Bounded 0) ≡ a
add_none (Bounded a) = ap Bounded (omega arith)
add_none Unbounded = refl

none_add : (a : MaxOccurs) → add_max (Bounded 0) a ≡ a
none_add (Bounded a) = ap Bounded (omega arith)
none_add Unbounded = refl

sum_alone : (x : Occurs) → sum (x ∷ []) ≡ x
unfolding sum
sum_alone x = same_pair (omega arith) (add_none x.max)

span_alone : (x : Occurs) → span (x ∷ []) ≡ x
unfolding span
span_alone x = refl

sum_from_none : (ts : List Occurs) → sum (exactly 0 ∷ ts) ≡ sum ts
unfolding sum
sum_from_none ts = same_pair (omega arith) (none_add (sum ts).max)

-- One law for both: `both` takes the first two together, `of` does the same with what is cut, and one alone is the whole.
pub record Gathers (whole : List Occurs → Occurs) (of : TotalRange → TotalRange → TotalRange) (both : Occurs → Occurs → Occurs) : Type 0 where
  pub cuts : (a b : Occurs) → of (cut a) (cut b) ≡ cut (both a b)
  pub together : (a b : Occurs) (ts : List Occurs) → whole (a ∷ b ∷ ts) ≡ whole (both a b ∷ ts)
  pub alone : (a : Occurs) → whole (a ∷ []) ≡ a

pub sums : Gathers sum add_cut add_range
sums = record { cuts = add_cut_lem; together = sum_together; alone = sum_alone }

pub spans : Gathers span span_cut span_range
spans = record { cuts = span_cut_lem; together = span_together; alone = span_alone }

-- `whole` (sum or span) of the n items of t, of which i are left, from s on: r is what those before s give
pub record Gathered (whole : List Occurs → Occurs) (n : ℕ) (t : List ℕ) (r : TotalRange) (s : List ℕ) (i : ℕ) : Type 0 where
  pub part : Part i s t
  pub exact : Occurs
  pub cut_is : r ≡ cut exact
  pub rest_says : whole (totals n t) ≡ whole (exact ∷ totals i s)

-- a choice without items
pub span_none : {n : ℕ} {r : TotalRange} (t : List ℕ) → r ≡ cut (exactly 0) → n ≡ 0 → r ≡ cut (span (totals n t))
unfolding span
span_none {n} t e z = e ∙ sym (ap (λ (ts : List Occurs). cut (span ts)) (fold_none exact_from n t z))

module _ {n : ℕ} {t : List ℕ} (w : Row n t) {r : TotalRange} where
  -- no item gives (0,0)
  pub sum_start : r ≡ cut (exactly 0) → Gathered sum n t r t n
  sum_start e = record { part = part_start w; exact = exactly 0; cut_is = e; rest_says = sym (sum_from_none _) }

  -- the first item of a choice gives its own total range
  pub span_start : (n ≡ 0 → ⊥) → r ≡ total (tree t) → {s : List ℕ} → s ≡ later_part t → Gathered span n t r s (n - 1)
  unfolding total exact_total
  span_start z e p = record {
    part = part_next {m = 0} (part_start w) (omega arith) p;
    exact = exact_total (tree t);
    cut_is = e;
    rest_says = ap span (fold_some exact_from n t w z refl p);
  }

-- the next item, where it is a leaf: its total range is its pair
pub leaf_item : {m i : ℕ} {s t : List ℕ} → Part i s t → m < i → {r : Record} → r ≡ record_at s → {own : Occurs} → own ≡ range_of r → {v : TotalRange} → v ≡ cut own → r.kind < 2 → v ≡ total (tree s)
leaf_item w some e o = leaf_total (part_first w some) e o

module _ {whole : List Occurs → Occurs} {of : TotalRange → TotalRange → TotalRange} {both : Occurs → Occurs → Occurs} (g : Gathers whole of both)
    {n : ℕ} {t : List ℕ} {r : TotalRange} {s : List ℕ} {i : ℕ} (w : Gathered whole n t r s i) where
  -- x is the next item's total range, s' the part after it
  pub gathered_next : {m : ℕ} → m < i → {x : TotalRange} → x ≡ total (tree s) → {r' : TotalRange} → r' ≡ of r x → {s' : List ℕ} → s' ≡ later_part s → Gathered whole n t r' s' (i - 1)
  unfolding total exact_total
  gathered_next some a b p = record {
    part = part_next w.part some p;
    exact = both w.exact (exact_total (tree s));
    cut_is = b ∙ (ap₂ of w.cut_is a ∙ g.cuts w.exact (exact_total (tree s)));
    rest_says = w.rest_says ∙ (ap (λ (ts : List Occurs). whole (w.exact ∷ ts)) (fold_some exact_from i s w.part.trees (λ z. omega arith) refl p) ∙ g.together _ _ _);
  }

  pub gathered_end : i ≤ 0 → r ≡ cut (whole (totals n t))
  gathered_end z =
      w.cut_is ∙ ap cut (sym (w.rest_says ∙ (ap (λ (ts : List Occurs). whole (w.exact ∷ ts)) (fold_none exact_from i s (omega arith)) ∙ g.alone w.exact)))

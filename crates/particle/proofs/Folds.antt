-- Folds over rows of trees: the first tree by its record, a row tree by tree, and two folds side by side. Assumes nothing.
use mathlib.Core.Path.{◌≡◌, ap, ◌∙◌}
use mathlib.Core.List.{List, [], ◌∷◌}
use Prim.Native.Nat.{ℕ, suc, ◌-◌, ◌≤◌, ◌<◌}
use native.Mathlib.Omega.{arith}
use Rattle.particle.specs.declared.Occurs.{Occurs}
use Rattle.particle.specs.declared.Record.{Record}
use Rattle.particle.specs.Record.{record_at, range_of}
use Rattle.particle.specs.Tree.{Head, element, wildcard, sequence, choice, all, Items, none, item, take_i, fold, head_of, tree}
use Rattle.particle.specs.Rows.{Row, row, items_part, later_part}
use Rattle.particle.proofs.Heads.{leaf_kind, choice_kind, ordered_kind}
use Rattle.particle.proofs.Laws.{row_le, tree_is, items_row, row_is}

-- what f makes of the tree that t starts with
abbrev pub fold_first {ℓ} : {A : Type ℓ} → (Head → List A → A) → List ℕ → A
fold_first f t = f (tree t).head (fold f (tree t).items)

-- r is the first tree's record
pub items_are : {t : List ℕ} {r : Record} → Row 1 t → r ≡ record_at t → Row r.count (items_part t)
items_are w e = rw e (items_row w)

module _ {ℓ} {A : Type ℓ} (f : Head → List A → A) {t : List ℕ} {r : Record} (w : Row 1 t) (e : r ≡ record_at t) where
  pub first_is : fold_first f t ≡ f (head_of r) (fold f (row r.count (items_part t)))
  first_is = rw (tree_is w, e)

  pub first_leaf : ((l : ℕ) (p : Occurs) (xs : List A) → f (wildcard l p) xs ≡ f (element l p) xs) → r.kind < 2
      → fold_first f t ≡ f (element r.leaf (range_of r)) (fold f (row r.count (items_part t)))
  first_leaf s k = first_is ∙ leaf_kind (λ h. f h (fold f (row r.count (items_part t)))) r.leaf (range_of r) (s r.leaf (range_of r) _) r.kind k

  pub first_choice : r.kind ≡ 3 → fold_first f t ≡ f (choice (range_of r)) (fold f (row r.count (items_part t)))
  first_choice k = first_is ∙ choice_kind (λ h. f h (fold f (row r.count (items_part t)))) r.leaf (range_of r) r.kind k

  pub first_ordered : ((p : Occurs) (xs : List A) → f (all p) xs ≡ f (sequence p) xs) → 2 ≤ r.kind → (r.kind ≡ 3 → ⊥)
      → fold_first f t ≡ f (sequence (range_of r)) (fold f (row r.count (items_part t)))
  first_ordered s k z = first_is ∙ ordered_kind (λ h. f h (fold f (row r.count (items_part t)))) r.leaf (range_of r) (s (range_of r) _) r.kind k z

-- a row that is not empty, as the laws on rows take it
pub row_some : {n : ℕ} {t : List ℕ} → Row n t → (n ≡ 0 → ⊥) → Row (suc (n - 1)) t
row_some w z = row_le (omega arith) w

module _ {ℓ} {A : Type ℓ} (f : Head → List A → A) (n : ℕ) (t : List ℕ) where
  pub fold_none : n ≡ 0 → fold f (row n t) ≡ []
  unfolding take_i fold
  fold_none z = rw z

  -- x is what f makes of the first tree, s the part after it
  pub fold_some : Row n t → (n ≡ 0 → ⊥) → {x : A} → x ≡ fold_first f t → {s : List ℕ} → s ≡ later_part t → fold f (row n t) ≡ x ∷ fold f (row (n - 1) s)
  unfolding fold
  fold_some w z a b =
      let e : n ≡ suc (n - 1) = omega arith in
      ap (λ (k : ℕ). fold f (row k t)) e ∙ (ap (fold f) (row_is (row_some w z)) ∙ rw (a, b))

-- two lists, item by item
pub data Matches {ℓ κ} {A : Type ℓ} {B : Type κ} (R : A → B → Type 0) : List A → List B → Type (ℓ ⊔ κ) where
  ended : Matches R [] []
  next : {a : A} {b : B} {xs : List A} {ys : List B} → R a b → Matches R xs ys → Matches R (a ∷ xs) (b ∷ ys)

-- what passes from a record's items to the record holds of every tree
module _ {ℓ κ} {A : Type ℓ} {B : Type κ} (R : A → B → Type 0) (f : Head → List A → A) (g : Head → List B → B)
    (passes : (h : Head) (xs : List A) (ys : List B) → Matches R xs ys → R (f h xs) (g h ys)) where
  pub fold_matches : (x : Items) → Matches R (fold f x) (fold g x)
  unfolding fold
  fold_matches none = ended
  fold_matches (item h k r) = next (passes h (fold f k) (fold g k) (fold_matches k)) (fold_matches r)

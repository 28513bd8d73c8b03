-- What `emptiable` is of the first tree, by its record, and of a row, tree by tree. Assumes nothing.
use mathlib.Core.Bool.{Bool, true, false, ◌||◌, beq, true≢false, false≢true}
use mathlib.Core.List.{List, [], ◌∷◌}
use mathlib.Core.Path.{◌≡◌, refl, ap, sym, ◌∙◌}
use Prim.Native.Nat.{ℕ, suc, ◌-◌, ◌≤◌, ◌<◌}
use native.Mathlib.Omega.{arith}
use borrow.Author.Tests.{ne_eqb}
use lib.Dec.{eqb}
use Rattle.particle.specs.declared.Occurs.{Occurs}
use Rattle.particle.specs.declared.Record.{Record}
use Rattle.particle.specs.Record.{record_at, range_of}
use Rattle.particle.specs.Tree.{head_from, fold, tree}
use Rattle.particle.specs.Rows.{Row, row, items_part, later_part}
use Rattle.particle.specs.Empty.{every, some, every_or_some, is_empty, optional, emptiable_from, emptiable}
use Rattle.particle.proofs.ByKind.{any_kind}
use Rattle.particle.proofs.Folds.{first_is, items_are, first_leaf, first_choice, first_ordered, fold_none, fold_some}

optional_from : (k l : ℕ) (p : Occurs) (es : List Bool) → p.min ≡ 0 → emptiable_from (head_from k l p) es ≡ true
optional_from k l p es z = any_kind (λ h. emptiable_from h es ≡ true) l p (rw z) (rw z) (rw z) (rw z) (rw z) k

-- a minimum above 0 leaves the rest to decide
required : (p : Occurs) (e : Bool) → (p.min ≡ 0 → ⊥) → (optional p || e) ≡ e
required p e z = ap (λ (o : Bool). o || e) (ne_eqb p.min 0 z)

-- r is the first tree's record
module _ {t : List ℕ} {r : Record} (w : Row 1 t) (e : r ≡ record_at t) where
  pub optional_tree : r.min ≡ 0 → true ≡ emptiable (tree t)
  unfolding emptiable
  optional_tree z = sym (first_is emptiable_from w e ∙ optional_from r.kind r.leaf (range_of r) _ z)

  by_minimum : r.kind < 2 → eqb r.min 0 ≡ emptiable (tree t)
  unfolding emptiable
  by_minimum k = sym (first_leaf emptiable_from w e (λ l p es. refl) k)

  module _ (z : r.min ≡ 0 → ⊥) where
    pub leaf_tree : r.kind < 2 → false ≡ emptiable (tree t)
    leaf_tree k = sym (ne_eqb r.min 0 z) ∙ by_minimum k

    pub empty_choice_lem : r.kind ≡ 3 → r.count ≡ 0 → true ≡ emptiable (tree t)
    unfolding emptiable
    empty_choice_lem k n =
        sym (first_choice emptiable_from w e k
        ∙ (required (range_of r) _ z ∙ ap (λ (es : List Bool). is_empty es || some es) (fold_none emptiable_from r.count (items_part t) n)))

    -- the n trees of s are its items, and u says of them what the group asks
    module _ {s : List ℕ} (i : s ≡ items_part t) {n : ℕ} (all : n ≡ (record_at t).count) {u : Bool} where
      pub choice_tree : r.kind ≡ 3 → (r.count ≡ 0 → ⊥) → u ≡ some (fold emptiable_from (row n s)) → u ≡ emptiable (tree t)
      unfolding emptiable
      choice_tree k n q =
          let es = fold emptiable_from (row r.count (items_part t)) in
          q ∙ rw (i, all ∙ sym (ap (λ (x : Record). x.count) e)) (sym (first_choice emptiable_from w e k
          ∙ (required (range_of r) _ z ∙ ap (λ (xs : List Bool). is_empty xs || some es) (fold_some emptiable_from r.count (items_part t) (items_are w e) n refl refl))))

      pub ordered_tree : 2 ≤ r.kind → (r.kind ≡ 3 → ⊥) → u ≡ every (fold emptiable_from (row n s)) → u ≡ emptiable (tree t)
      unfolding emptiable
      ordered_tree k k' q = q ∙ rw (i, all ∙ sym (ap (λ (x : Record). x.count) e)) (sym (first_ordered emptiable_from w e (λ p es. refl) k k' ∙ required (range_of r) _ z))

-- the items of a group, one after the other: the first that is not as `each` asks decides
none_decides : (each : Bool) → each ≡ every_or_some each []
none_decides true = refl
none_decides false = refl

later_decide : (each e : Bool) (fs : List Bool) → beq e each ≡ true → every_or_some each fs ≡ every_or_some each (e ∷ fs)
later_decide true true fs s = refl
later_decide true false fs s = absurd (false≢true s)
later_decide false true fs s = absurd (false≢true s)
later_decide false false fs s = refl

first_decides : (each e : Bool) (fs : List Bool) → beq e each ≡ false → e ≡ every_or_some each (e ∷ fs)
first_decides true true fs s = absurd (true≢false s)
first_decides true false fs s = refl
first_decides false true fs s = refl
first_decides false false fs s = absurd (true≢false s)

-- The loop over the items: each of those before s is as `each` asks, so what is left, i items from s on, decides.
pub record ItemsLeft (each : Bool) (n : ℕ) (t s : List ℕ) (i : ℕ) : Type 0 where
  pub rest_says : every_or_some each (fold emptiable_from (row n t)) ≡ every_or_some each (fold emptiable_from (row i s))

module _ {each : Bool} {n : ℕ} {t : List ℕ} where
  pub items_start : ItemsLeft each n t t n
  items_start = record { rest_says = refl }

  module _ {s : List ℕ} {i : ℕ} (w : ItemsLeft each n t s i) where
    pub items_end : i ≤ 0 → each ≡ every_or_some each (fold emptiable_from (row n t))
    items_end z = none_decides each ∙ sym (w.rest_says ∙ ap (every_or_some each) (fold_none emptiable_from i s (omega arith)))

    -- e: whether the next item is emptiable; j items come after it
    module _ (trees : Row i s) {j : ℕ} (some : i ≡ suc j) {e : Bool} (q : e ≡ emptiable (tree s)) where
      first_then_later : {u : List ℕ} → u ≡ later_part s → every_or_some each (fold emptiable_from (row n t)) ≡ every_or_some each (e ∷ fold emptiable_from (row j u))
      unfolding emptiable
      first_then_later {u} p =
          let one_fewer : i - 1 ≡ j = omega (arith, some) in
          w.rest_says ∙ ap (every_or_some each) (fold_some emptiable_from i s trees (λ z. omega (arith, some, z)) q p ∙ ap (λ (k : ℕ). e ∷ fold emptiable_from (row k u)) one_fewer)

      pub item_decides : beq e each ≡ false → e ≡ every_or_some each (fold emptiable_from (row n t))
      item_decides b = first_decides each e _ b ∙ sym (first_then_later refl)

      pub items_next : {u : List ℕ} → u ≡ later_part s → beq e each ≡ true → ItemsLeft each n t u j
      items_next p b = record { rest_says = first_then_later p ∙ sym (later_decide each e _ b) }

-- What the trees of a row are found to be, one after the other, and what a record tells by them. Assumes nothing.
use mathlib.Core.Bool.{Bool, true, false, ◌&&◌, ◌||◌, and-true, or-false, and_assoc, or_assoc}
use mathlib.Core.List.{List, [], ◌∷◌}
use mathlib.Core.Logic.{◌⊎◌, ⊎_elim}
use mathlib.Core.Path.{◌≡◌, refl, ap, sym, ◌∙◌}
use Prim.Native.Nat.{ℕ, zero, suc, ◌-◌, ◌≤◌, ◌<◌}
use native.Mathlib.Omega.{arith}
use borrow.Author.Tests.{le-leb}
use mir.Val.{bool_byte}
use lib.Dec.{eqb, leb}
use lib.ListN.{length}
use Rattle.particle.specs.declared.Occurs.{Occurs}
use Rattle.particle.specs.declared.Record.{Record}
use Rattle.particle.specs.declared.measured.Found.{Found}
use Rattle.particle.specs.Record.{record_at, range_of}
use Rattle.particle.specs.Tree.{head_from, head_of, fold, tree}
use Rattle.particle.specs.Rows.{Row, row, items_part, later_part}
use Rattle.particle.specs.Empty.{every, some, is_empty, optional, emptiable_from, emptiable}
use Rattle.particle.specs.Runs.{note_of, Run, RowFound}
use Rattle.particle.proofs.Folds.{first_is, items_are, fold_none, fold_some}
use Rattle.particle.proofs.Runs.{RowLeft, row_start, row_next, row_done, told}

-- without items
bare_from : (k l : ℕ) (p : Occurs) → (optional p || leb 2 k) ≡ emptiable_from (head_from k l p) []
bare_from zero l p = or-false (optional p)
bare_from (suc zero) l p = or-false (optional p)
bare_from (suc (suc zero)) l p = refl
bare_from (suc (suc (suc zero))) l p = refl
bare_from (suc (suc (suc (suc k)))) l p = rw (le-leb 2 (suc (suc (suc (suc k)))) (omega arith)) refl

-- with items: u says of them what the kind asks
some_from : (k l : ℕ) (p : Occurs) (es : List Bool) → is_empty es ≡ false → (u : Bool) → (k ≡ 3 → u ≡ some es) → ((k ≡ 3 → ⊥) → u ≡ every es)
    → (optional p || (leb 2 k && u)) ≡ emptiable_from (head_from k l p) es
some_from zero l p es z u c o = or-false (optional p)
some_from (suc zero) l p es z u c o = or-false (optional p)
some_from (suc (suc zero)) l p es z u c o = ap (λ (b : Bool). optional p || b) (o (λ q. omega arith))
some_from (suc (suc (suc zero))) l p es z u c o = ap (λ (b : Bool). optional p || b) (c refl ∙ ap (λ (b : Bool). b || some es) (sym z))
some_from (suc (suc (suc (suc k)))) l p es z u c o = rw (le-leb 2 (suc (suc (suc (suc k)))) (omega arith)) (ap (λ (b : Bool). optional p || b) (o (λ q. omega arith)))

note_told : (e : Bool) {k : ℕ} → k ≡ note_of e → eqb k 1 ≡ e
note_told true q = rw q refl
note_told false q = rw q refl

-- the note as `u8::from` makes it
pub note_made : (e : Bool) {k : ℕ} → k ≡ bool_byte e → k ≡ note_of e
note_made true q = q
note_made false q = q

-- some items, as the laws on rows take them
some_items : (n : ℕ) (t : List ℕ) → Row n t → 0 < n → is_empty (fold emptiable_from (row n t)) ≡ false
some_items n t w h = ap is_empty (fold_some emptiable_from n t w (λ z. omega arith) refl refl)

-- r is the first tree's record
module _ {t : List ℕ} {r : Record} (w : Row 1 t) (e : r ≡ record_at t) where
  pub bare_tree : r.count ≡ 0 → (eqb r.min 0 || leb 2 r.kind) ≡ emptiable (tree t)
  unfolding emptiable
  bare_tree z = bare_from r.kind r.leaf (range_of r) ∙ sym (first_is emptiable_from w e ∙ ap (emptiable_from (head_of r)) (fold_none emptiable_from r.count (items_part t) z))

  -- x is what its items are found to be, and u what the kind asks of them
  pub found_tree : {x : Found} → 0 < (record_at t).count → RowFound (record_at t).count (items_part t) x
      → {u : Bool} → ((r.kind ≡ 3) × (u ≡ x.some)) ⊎ ((r.kind ≡ 3 → ⊥) × (u ≡ x.every)) → (eqb r.min 0 || (leb 2 r.kind && u)) ≡ emptiable (tree t)
  unfolding emptiable
  found_tree {x} h f {u} a =
      let g : RowFound r.count (items_part t) x = rw e f in
      let n : 0 < r.count = rw e h in
      some_from r.kind r.leaf (range_of r) _ (some_items r.count (items_part t) (items_are w e) n) u
      (λ k. ⊎_elim (λ c. c.1 ∙ g.some_is) (λ o. absurd (o.0 k)) a) (λ k. ⊎_elim (λ c. absurd (k c.0)) (λ o. o.1 ∙ g.every_is) a)
      ∙ sym (first_is emptiable_from w e)

-- by its note
pub told_tree : {t : List ℕ} {r : Record} → Run 1 t → r ≡ record_at t → (r.count ≡ 0 → ⊥) → eqb r.zero 1 ≡ emptiable (tree t)
told_tree {t} w e g = note_told (emptiable (tree t)) (told w e g)

-- Walking over n trees of t: `each` and `one` say of the trees before `rest` what `every` and `some` do.
pub record Walked (n : ℕ) (t : List ℕ) (each one : Bool) (rest : List ℕ) (left : ℕ) : Type 0 where
  pub ahead : RowLeft n t rest left
  pub every_left : every (fold emptiable_from (row n t)) ≡ (each && every (fold emptiable_from (row left rest)))
  pub some_left : some (fold emptiable_from (row n t)) ≡ (one || some (fold emptiable_from (row left rest)))

pub walk_start : {n : ℕ} {t : List ℕ} → Run n t → Walked n t true false t n
walk_start w = record { ahead = row_start w; every_left = refl; some_left = refl }

module _ {n : ℕ} {t : List ℕ} {each one : Bool} {rest : List ℕ} {left : ℕ} (a : Walked n t each one rest left) where
  -- e: whether the next tree is emptiable
  pub walk_next : 0 < left → {e : Bool} → e ≡ emptiable (tree rest) → {after : List ℕ} → after ≡ later_part rest → Walked n t (each && e) (one || e) after (left - 1)
  unfolding emptiable
  walk_next h {e} q {after} p =
      let es = fold emptiable_from (row (left - 1) after) in
      let s : fold emptiable_from (row left rest) ≡ e ∷ es = fold_some emptiable_from left rest a.ahead.trees.row (λ z. omega arith) q p in
      record {
        ahead = row_next a.ahead h p;
        every_left = a.every_left ∙ (ap (λ (xs : List Bool). each && every xs) s ∙ sym (and_assoc each e (every es)));
        some_left = a.some_left ∙ (ap (λ (xs : List Bool). one || some xs) s ∙ sym (or_assoc one e (some es)));
      }

  module _ (h : left ≤ 0) where
    none_left : fold emptiable_from (row left rest) ≡ []
    none_left = fold_none emptiable_from left rest (omega arith)

    pub walk_done : RowFound n t (record { len = length t - length rest; every = each; some = one })
    walk_done = record {
      len = omega (arith, row_done a.ahead h);
      every_is = sym (a.every_left ∙ (ap (λ (xs : List Bool). each && every xs) none_left ∙ and-true each));
      some_is = sym (a.some_left ∙ (ap (λ (xs : List Bool). one || some xs) none_left ∙ or-false one));
    }

-- What each call inside the two cycles asks: a row of trees, and a smaller measure. The measure of a tree is twice its part's length, that of a row one more. Assumes nothing.
use mathlib.Core.List.{List}
use mathlib.Core.Path.{◌≡◌, sym}
use Prim.Native.Nat.{ℕ, suc, ◌+◌, ◌*◌, ◌-◌, ◌≤◌, ◌<◌}
use native.Mathlib.Nat.{le_refl}
use native.Mathlib.Omega.{arith}
use lib.ListN.{length}
use Rattle.std.specs.Prelude.{Option, None, Some}
use Rattle.particle.specs.declared.Record.{Record}
use Rattle.particle.specs.declared.subtrees.Subtree.{Subtree}
use Rattle.particle.specs.declared.subtrees.Subtrees.{Subtrees}
use Rattle.particle.specs.Record.{record_at}
use Rattle.particle.specs.Rows.{Row, items_part, later_part}
use Rattle.particle.specs.Subtrees.{GivesFirst}
use Rattle.particle.proofs.Laws.{row_le, later_row, items_shorter, later_shorter}
use Rattle.particle.proofs.Folds.{items_are}

abbrev pub of_tree : List ℕ → ℕ
of_tree t = 2 * length t

abbrev pub of_row : List ℕ → ℕ
of_row t = 2 * length t + 1

-- the first tree of a row
pub first_row : {n : ℕ} {t : List ℕ} → Row n t → (n ≡ 0 → ⊥) → Row 1 t
first_row w z = row_le (omega arith) w

-- s starts at one of the trees of the row that t is, i trees before its end
pub record Part (i : ℕ) (s t : List ℕ) : Type 0 where
  pub trees : Row i s
  pub within : length s ≤ length t

pub part_start : {n : ℕ} {t : List ℕ} → Row n t → Part n t t
part_start w = record { trees = w; within = le_refl _ }

-- more than m trees are left
module _ {m i : ℕ} {s t : List ℕ} (w : Part i s t) (some : m < i) where
  pub part_first : Row 1 s
  part_first = row_le (omega arith) w.trees

  pub part_falls : {k : ℕ} → of_row t ≡ k → of_tree s < k
  part_falls e = omega (arith, w.within)

  -- the trees after the first
  pub part_next : {u : List ℕ} → u ≡ later_part s → Part (i - 1) u t
  part_next e =
      let from : Row (suc (i - 1)) s = row_le (omega arith) w.trees in
      rw e (record { trees = later_row from; within = omega (arith, w.within, later_shorter from) })

-- one tree further on, with j trees left
pub part_after : {i j : ℕ} {s t u : List ℕ} → Part i s t → i ≡ suc j → u ≡ later_part s → Part j u t
part_after {j = j} {s = s} w e p =
    let from : Row (suc j) s = rw (sym e) w.trees in
    rw p (record { trees = later_row from; within = omega (arith, w.within, later_shorter from) })

-- a step where a tree is left, whatever is done with it, leaves those after it
pub steps_on : (s rest : Subtrees) (r : Option Subtree) → GivesFirst s r rest → 0 < s.count → (rest.bytes.now ≡ later_part s.bytes.now) × (s.count ≡ suc rest.count)
steps_on s rest None g l = absurd (omega (arith, g.0))
steps_on s rest (Some first) g l = (g.1, omega (arith, g.2))

-- the items of a tree
module _ {t : List ℕ} (w : Row 1 t) {s : List ℕ} (p : s ≡ items_part t) where
  pub items_trees : {r : Record} → r ≡ record_at t → Row r.count s
  items_trees q = rw p (items_are w q)

  pub items_fall : {m : ℕ} → of_tree t ≡ m → of_row s < m
  items_fall e = rw p (omega (arith, items_shorter w))

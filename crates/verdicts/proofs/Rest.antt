-- What a loop over the first n trees of a part keeps: i trees are passed, and k are left, the next of which starts `rest`. Assumes nothing.
use mathlib.Core.Path.{◌≡◌, refl, ap, ◌∙◌}
use mathlib.Core.List.{List}
use Prim.Native.Nat.{ℕ, suc, ◌+◌, ◌-◌, ◌<◌}
use native.Mathlib.Omega.{arith}
use Rattle.std.specs.Prelude.{Option, None, Some}
use Rattle.particle.specs.declared.Record.{Record}
use Rattle.particle.specs.declared.subtrees.Subtree.{Subtree}
use Rattle.particle.specs.declared.subtrees.Subtrees.{Subtrees}
use Rattle.particle.specs.Record.{record_at}
use Rattle.particle.specs.Tree.{none, item, take_i, head_of}
use Rattle.particle.specs.Rows.{Row, row, items_part, later_part}
use Rattle.particle.specs.Subtrees.{GivesFirst}
use Rattle.particle.proofs.Laws.{tree_is, row_is, row_rest}

pub record Rest (n i k : ℕ) (rest : List ℕ) : Type 0 where
  pub passed : i + k ≡ n
  pub left : Row k rest

pub begin : {n : ℕ} {t : List ℕ} → Row n t → Rest n 0 n t
begin w = record { passed = omega arith; left = w }

pub row_none : (k : ℕ) (t : List ℕ) → k ≡ 0 → row k t ≡ none
unfolding take_i
row_none k t e = rw e

-- A step over the first n trees of t: it gives the tree that `first` starts with, and leaves the first k trees of `rest`.
pub record Step (n : ℕ) (t first rest : List ℕ) (k : ℕ) : Type 0 where
  pub here : first ≡ t
  pub after : rest ≡ later_part t
  pub fewer : n ≡ suc k

pub step : {n k : ℕ} {t first rest : List ℕ} → (first ≡ t) × (rest ≡ later_part t) × (n ≡ k + 1) → Step n t first rest k
step g = record { here = g.0; after = g.1; fewer = omega (arith, g.2) }

-- the same where a tree is left, whatever is done with it
pub stepped : (s rest : Subtrees) (r : Option Subtree) → GivesFirst s r rest → 0 < s.count → Step s.count s.bytes.now s.bytes.now rest.bytes.now rest.count
stepped s rest None g l = absurd (omega (arith, g.0))
stepped s rest (Some first) g l = record { here = refl; after = g.1; fewer = omega (arith, g.2) }

-- the step that there will be, where a tree is left
pub ahead : (s : Subtrees) → 0 < s.count → Step s.count s.bytes.now s.bytes.now (later_part s.bytes.now) (s.count - 1)
ahead s l = record { here = refl; after = refl; fewer = omega (arith, l) }

module _ {k j : ℕ} {t first rest : List ℕ} (g : Step k t first rest j) where
  pub rest_row : Row k t → Row j rest
  rest_row w = rw g.after (row_rest g.fewer w)

  pub next : {n i : ℕ} → Rest n i k t → Rest n (i + 1) j rest
  next w = record { passed = omega (arith, w.passed, g.fewer); left = rest_row w.left }

  -- r is its record
  pub row_here : {r : Record} → Row k t → r ≡ record_at first → row k t ≡ item (head_of r) (row r.count (items_part t)) (row j rest)
  row_here w q =
      let more : Row (suc j) t = rw g.fewer at w in
      ap (λ (n : ℕ). row n t) g.fewer ∙ (row_is more ∙ rw (tree_is more, q, g.here, g.after))

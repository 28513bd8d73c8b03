-- Base items left over in an ordered walk. What is left of the row says the mark. Assumes nothing.
use mathlib.Core.Bool.{Bool, true, false}
use mathlib.Core.List.{List}
use mathlib.Core.Path.{◌≡◌, refl, ap, sym, ◌∙◌}
use Prim.Native.Nat.{ℕ}
use Rattle.particle.specs.Tree.{tree}
use Rattle.particle.specs.Rows.{row}
use Rattle.particle.specs.Empty.{emptiable}
use Rattle.particle.specs.Runs.{Run}
use Rattle.rules.specs.Verdicts.{passes, fails}
use Rattle.rules.specs.Walk.{left_over}
use Rattle.verdicts.proofs.Rest.{Step, row_none}
use Rattle.restriction.proofs.Parts.{Part, part_start, part_next, row_cons}

-- t is the part at which the next item starts, j of them before the end
pub record LeftOver (bn : ℕ) (bs t : List ℕ) (j : ℕ) : Type 0 where
  pub part : Part j t bs
  pub rest_says : left_over (row bn bs) ≡ left_over (row j t)

module _ {bn : ℕ} {bs : List ℕ} where
  pub left_start : Run bn bs → LeftOver bn bs bs bn
  left_start w = record { part = part_start w; rest_says = refl }

  module _ {t : List ℕ} {j : ℕ} (w : LeftOver bn bs t j) where
    pub left_end : j ≡ 0 → passes ≡ left_over (row bn bs)
    unfolding left_over
    left_end z = sym (w.rest_says ∙ ap left_over (row_none j t z))

    -- a turn: m says whether the item is emptiable
    module _ {b s : List ℕ} {k : ℕ} (g : Step j t b s k) {m : Bool} (empty : m ≡ emptiable (tree b)) where
      pub left_emptiable : m ≡ true → LeftOver bn bs s k
      unfolding left_over
      left_emptiable h = record {
        part = part_next g w.part;
        rest_says = w.rest_says ∙ ap left_over (row_cons g w.part.trees) ∙ rw (left_over, ← empty, h);
      }

      pub left_fails : m ≡ false → fails 121 ≡ left_over (row bn bs)
      unfolding left_over
      left_fails h = sym (w.rest_says ∙ ap left_over (row_cons g w.part.trees) ∙ rw (left_over, ← empty, h))

-- A base that may not occur (document 02 §5): a base sequence or choice of maximum 0 lets no element through, and where its clause stands in the second reading makes no difference. Assumes nothing.
use mathlib.Core.Bool.{Bool, true, false, not, and-false, false≢true}
use mathlib.Core.Path.{◌≡◌, refl, sym}
use Prim.Native.Nat.{ℕ, zero, suc}
use native.Mathlib.Omega.{arith}
use lib.Dec.{leb}
use borrow.Author.Tests.{lt-leb, eqb-true}
use Rattle.particle.specs.declared.MaxOccurs.{MaxOccurs}
use Rattle.particle.specs.declared.MaxOccurs.TheVariants.{Bounded, Unbounded}
use Rattle.particle.specs.declared.Occurs.{Occurs}
use Rattle.particle.specs.Occurs.{max_ok, range_ok, exactly, is_zero}
use Rattle.particle.specs.Tree.{element, sequence, choice, Items, none, item}
use Rattle.rules.specs.Verdicts.{Mark, passes, undecided, fails, Leaves, Tables}
use Rattle.rules.specs.Combine.{◌or_fails◌, ◌and_then◌, combine_readings}
use Rattle.rules.specs.Walk.{◌⟦◌⟧}
use Rattle.rules.specs.Rule.{base_once, rule}
use Rattle.rules.specs.Mark.{mark_tidied}
use Rattle.rules.proofs.Unfolds.{mark_unfolds}

-- The clause -------------------------------------------------------------------------------

-- of a second reading that fails the reason does not matter
reason_hidden : (m : Mark) (r s : ℕ) → combine_readings m (fails r) ≡ combine_readings m (fails s)
reason_hidden passes r s = refl
reason_hidden undecided r s = refl
reason_hidden (fails q) r s = refl

-- Asked before the base minimum, the clause gives the same mark: no sheet tells the two apart.
pub clause_order : (m : Mark) (q : Occurs) (k : ℕ) (items : Mark)
    → combine_readings m (base_once q k and_then items) ≡ combine_readings m (not (is_zero q.max) or_fails 125 and_then leb q.min 1 or_fails k and_then items)
clause_order m q k items = go (leb q.min 1) (not (is_zero q.max))
  where
    go : (low some : Bool) → combine_readings m ((low or_fails k and_then some or_fails 125) and_then items) ≡ combine_readings m (some or_fails 125 and_then low or_fails k and_then items)
    go true true = refl
    go true false = refl
    go false true = refl
    go false false = reason_hidden m k 125

-- The ruling -------------------------------------------------------------------------------

-- a maximum above 0 is not within one of 0
above_zero : (m n : MaxOccurs) → is_zero m ≡ false → is_zero n ≡ true → max_ok m n ≡ false
above_zero m Unbounded e f = absurd (false≢true f)
above_zero Unbounded (Bounded n) e f = refl
above_zero (Bounded zero) (Bounded n) e f = absurd (false≢true (sym e))
above_zero (Bounded (suc m)) (Bounded n) e f = lt-leb (suc m) n (omega (arith, eqb-true n 0 f))

-- the second reading fails for one or the other
both_fail : (low : Bool) (r k : ℕ) (items : Mark) → combine_readings (fails r) ((low or_fails k and_then fails 125) and_then items) ≡ fails r
both_fail true r k items = refl
both_fail false r k items = refl

module _ (L : Leaves) (T : Tables) (l : ℕ) (p q : Occurs) (k bi : Items) (e : is_zero p.max ≡ false) (f : is_zero q.max ≡ true) where
  outside : range_ok p q ≡ false
  outside = rw (above_zero p.max q.max e f, and-false (leb q.min p.min))

  -- A tidied derived root that is an element of maximum above 0, against a tidied base root of maximum 0.
  pub may_not_occur : (mark_tidied L T (element l p ⟦ k ⟧) (sequence q ⟦ bi ⟧) ≡ fails 105) × (mark_tidied L T (element l p ⟦ k ⟧) (choice q ⟦ bi ⟧) ≡ fails 106)
  unfolding mark_tidied rule
  may_not_occur = (
    rw (e, mark_unfolds L T (element l p) k (sequence q) bi, mark_unfolds L T (sequence p) (item (element l (exactly 1)) k none) (sequence q) bi, outside, f) (both_fail (leb q.min 1) 105 110 _),
    rw (e, mark_unfolds L T (element l p) k (choice q) bi, mark_unfolds L T (choice p) (item (element l (exactly 1)) k none) (choice q) bi, outside, f) (both_fail (leb q.min 1) 106 112 _),
  )

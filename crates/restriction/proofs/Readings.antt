-- The two readings of an element that counts once: both ask the same of the base's pair and of its items. Assumes nothing.
use mathlib.Core.Bool.{Bool, true, false, not, ◌&&◌}
use mathlib.Core.Path.{◌≡◌, refl, ap, sym, ◌∙◌}
use Prim.Native.Nat.{ℕ, zero, suc}
use native.Mathlib.Omega.{arith}
use lib.Dec.{leb}
use borrow.Author.Tests.{le-leb, ne_eqb}
use Rattle.particle.specs.declared.MaxOccurs.{MaxOccurs}
use Rattle.particle.specs.declared.MaxOccurs.TheVariants.{Bounded, Unbounded}
use Rattle.particle.specs.declared.Occurs.{Occurs}
use Rattle.particle.specs.Occurs.{max_ok, range_ok, exactly, is_zero}
use Rattle.particle.specs.Tree.{Items, none, item, Particle, single}
use Rattle.rules.specs.Verdicts.{Mark, passes, undecided, fails}
use Rattle.rules.specs.Combine.{◌or_fails◌, ◌and_then◌, ◌or_else◌, combine_readings}
use Rattle.rules.specs.Walk.{◌⟦◌⟧, Judge, recurse_ordered, alternatives}
use Rattle.rules.specs.Rule.{base_once}
use Rattle.verdicts.specs.declared.Verdict.{Verdict}
use Rattle.verdicts.specs.declared.Verdict.TheVariants.{Ok, Unknown, Violation}
use Rattle.verdicts.specs.Reasons.{mark_of}
use Rattle.verdicts.proofs.Marks.{NotOk, ended}
use Rattle.restriction.specs.Marks.{sequence_mark, sequence_once, choice_mark, choice_once}
use Rattle.restriction.proofs.Parts.{cons}

-- two readings that agree
pub read_twice : (m : Mark) → combine_readings m m ≡ m
read_twice passes = refl
read_twice undecided = refl
read_twice (fails r) = refl

-- after an undecided one it does not matter why others fail
module _ (J : Judge) (x : Particle) where
  alike : (r s : ℕ) (b : Items) → undecided or_else alternatives J r x b ≡ undecided or_else alternatives J s x b
  unfolding alternatives
  alike r s none = refl
  alike r s (item h k b) = go (J x (h ⟦ k ⟧)) (alternatives J r x b) (alternatives J s x b) (alike r s b)
    where
      go : (m n n' : Mark) → undecided or_else n ≡ undecided or_else n' → undecided or_else (m or_else n) ≡ undecided or_else (m or_else n')
      go passes n n' e = refl
      go undecided n n' e = ap (λ (z : Mark). undecided or_else z) e
      go (fails q) n n' e = e

  open_read : (n : Mark) → combine_readings undecided (undecided or_else n) ≡ undecided or_else n
  open_read passes = refl
  open_read undecided = refl
  open_read (fails q) = refl

  -- the lax walk over x alone, and the alternatives
  all_read : (b : Items) → recurse_ordered J true none b ≡ passes
  unfolding recurse_ordered
  all_read none = refl
  all_read (item h k b) = refl

  pub walk_and_alternatives : (s : ℕ) (b : Items) → combine_readings (recurse_ordered J true (cons x none) b) (alternatives J s x b) ≡ alternatives J 120 x b
  unfolding recurse_ordered alternatives
  walk_and_alternatives s none = refl
  walk_and_alternatives s (item h k b) = go (J x (h ⟦ k ⟧)) (walk_and_alternatives s b)
    where
      go : (m : Mark) → combine_readings (recurse_ordered J true (cons x none) b) (alternatives J s x b) ≡ alternatives J 120 x b
          → combine_readings (elim m as (λ _. Mark) [ passes ↦ recurse_ordered J true none b | undecided ↦ undecided | fails r ↦ recurse_ordered J true (cons x none) b ]) (m or_else alternatives J s x b) ≡ m or_else alternatives J 120 x b
      go passes e = rw (all_read b)
      go undecided e = open_read (alternatives J s x b) ∙ alike s 120 b
      go (fails r) e = e

-- (1,1) is within a pair just where the second reading finds nothing in the pair
one_within : (q : Occurs) → range_ok (exactly 1) q ≡ (leb q.min 1 && not (is_zero q.max))
one_within q = ap (λ (c : Bool). leb q.min 1 && c) (go q.max)
  where
    go : (m : MaxOccurs) → max_ok (Bounded 1) m ≡ not (is_zero m)
    go (Bounded zero) = refl
    go (Bounded (suc m)) = le-leb 1 (suc m) (omega arith) ∙ sym (ap not (ne_eqb (suc m) 0 (λ e. omega arith)))
    go Unbounded = refl

-- So an element that counts once has one range for both readings.
pub once_readings : (q : Occurs) (r k : ℕ) (m n : Mark) → combine_readings (range_ok (exactly 1) q or_fails r and_then m) (base_once q k and_then n) ≡ range_ok (exactly 1) q or_fails r and_then combine_readings m n
once_readings q r k m n = rw (one_within q) (go (leb q.min 1) (not (is_zero q.max)))
  where
    go : (low some : Bool) → combine_readings ((low && some) or_fails r and_then m) ((low or_fails k and_then some or_fails 125) and_then n) ≡ (low && some) or_fails r and_then combine_readings m n
    go true true = refl
    go true false = refl
    go false true = refl
    go false false = refl

-- the same as the rule has it: an element that counts once has one mark
module _ (J : Judge) (q : Occurs) (x : Particle) (b : Items) where
  pub once_sequence : sequence_mark J (exactly 1) q x x b ≡ sequence_once J q x b
  once_sequence =
      let walk = recurse_ordered J false (single x) b in
      once_readings q 105 110 walk walk ∙ ap (λ (m : Mark). range_ok (exactly 1) q or_fails 105 and_then m) (read_twice walk)

  pub once_choice : choice_mark J (exactly 1) q x x b ≡ choice_once J q x b
  once_choice =
      once_readings q 106 112 (recurse_ordered J true (single x) b) (alternatives J 111 x b)
      ∙ ap (λ (m : Mark). range_ok (exactly 1) q or_fails 106 and_then m) (walk_and_alternatives J x 111 b)

-- what an element that counts once comes to, by the base's own pair: m where that passes
abbrev if_passes : Mark → (m : Mark) (r : ℕ) → Mark
if_passes passes m r = m
if_passes undecided m r = fails r
if_passes (fails k) m r = fails r

once_range : (q : Occurs) (r k : ℕ) (m : Mark) → range_ok (exactly 1) q or_fails r and_then m ≡ if_passes (base_once q k) m r
once_range q r k m = rw (one_within q) (go (leb q.min 1) (not (is_zero q.max)))
  where
    go : (low some : Bool) → (low && some) or_fails r and_then m ≡ if_passes (low or_fails k and_then some or_fails 125) m r
    go true true = refl
    go true false = refl
    go false true = refl
    go false false = refl

-- v is what the base's own pair says: it passes, or it rules out the second reading and the element that counts once
module _ (q : Occurs) (r k : ℕ) (v : Verdict) (g : mark_of v ≡ base_once q k) where
  pub base_passes : v ≡ Ok → (m n : Mark) → (range_ok (exactly 1) q or_fails r and_then m ≡ m) × (base_once q k and_then n ≡ n)
  base_passes o m n = (once_range q r k m ∙ rw (← g, o), rw (← g, o))

  pub base_fails : NotOk v → (m n : Mark) → (range_ok (exactly 1) q or_fails r and_then m ≡ fails r) × (base_once q k and_then n ≡ mark_of v)
  base_fails t m n = (once_range q r k m ∙ (rw (← g) (go v t)), sym (ended n v g t))
    where
      go : (v : Verdict) → NotOk v → if_passes (mark_of v) m r ≡ fails r
      go Ok t = absurd (t refl)
      go Unknown t = refl
      go (Violation x) t = refl

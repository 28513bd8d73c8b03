-- The facts on tidy trees (document 02 §8) over the bytes that the entry `tidy` writes: their shape, what tidying keeps, and what it changes in one direction only. Assumes nothing.
use mathlib.Core.Bool.{true}
use mathlib.Core.List.{List}
use mathlib.Core.Logic.{◌↔◌}
use mathlib.Core.Path.{◌≡◌, ap, ap₂, sym, ◌∙◌, subst}
use Prim.Native.Nat.{ℕ, ◌≤◌}
use native.Mathlib.Omega.{arith}
use lib.ListN.{length}
use Rattle.particle.specs.declared.Occurs.{Occurs}
use Rattle.particle.specs.Tree.{Head, element, sequence, Items, Particle, single, tree}
use Rattle.particle.specs.Encode.{kind_number}
use Rattle.particle.specs.Empty.{emptiable}
use Rattle.particle.proofs.ItemEncodes.{length_encode}
use Rattle.totals.specs.Exact.{exact_total}
use Rattle.totals.specs.Total.{total}
use Rattle.language.specs.Language.{Names, Allows}
use Rattle.language.specs.Premises.{BelowRoot, Throughout, NoZeroMaximum, NoEmptyChoice, Ordered}
use Rattle.tidying.specs.Tidy.{tidy}
use Rattle.tidying.specs.Depth.{depth_of}
use Rattle.tidying.specs.TidyTree.{BelowOutside, Outside, NoOwnKind, NoLoneItem, NoLoneChoice}
use Rattle.tidying.proofs.Shape.{no_zero_maximum_lem, no_own_kind_lem, no_lone_item_lem, no_lone_choice_lem}
use Rattle.tidying.proofs.Sizes.{tidy_smaller, tidy_shallower}
use Rattle.tidying.proofs.TotalsKept.{tidy_exact_min, tidy_total_max}
use Rattle.tidying.proofs.Stated.{tidy_total}
use Rattle.tidying.proofs.Emptiness.{tidy_emptiable, tidied_emptiable}
use Rattle.tidying.proofs.Allowed.{tidy_allows, tidy_allows_no_more}
use Rattle.intake.specs.Scan.{alone}
use Rattle.entries.specs.Answer.{answer, refusal_alone}
use Rattle.entries.specs.TidyFacts.{Tidies, tidied_bytes}
use Rattle.entries.proofs.TidiedFits.{tidy_fits, fits_ordered, outside_everywhere}
use Rattle.entries.proofs.TidiedAgain.{taken, bytes_are, tree_is, handed_in, tidied_accepted}

-- no element is a sequence
not_sequence : (l : ℕ) (p q : Occurs) → ¬ (element l p ≡ sequence q)
not_sequence l p q e = let z : ◌≡◌ {A = ℕ} 0 2 = ap kind_number e in omega arith

module _ {t out : List ℕ} {n : ℕ} (a : Tidies t out n) where
  -- what is so of the tidied tree is so of the tree that was written
  on_tidied : (P : Particle → Type 0) → P (tidy (tree t)) → P (tree (tidied_bytes t out n))
  on_tidied P = subst P (sym (tree_is a))

  -- Its shape ------------------------------------------------------------------------------------

  -- a sentence holds inside all-groups too: there are elements only
  shaped : (P : Head → Items → Type 0) → ((l : ℕ) (p : Occurs) (k : Items) → P (element l p) k) → Outside P (tidy (tree t)) → Throughout P (tree (tidied_bytes t out n))
  shaped P e o = on_tidied (Throughout P) (outside_everywhere alone P e (tidy (tree t)) (tidy_fits alone (tree t) (handed_in a).1) o)

  pub written_no_zero_maximum : BelowOutside NoZeroMaximum (tree (tidied_bytes t out n))
  written_no_zero_maximum = on_tidied (BelowOutside NoZeroMaximum) (no_zero_maximum_lem (tree t))

  pub written_no_own_kind : Throughout NoOwnKind (tree (tidied_bytes t out n))
  written_no_own_kind = shaped NoOwnKind (λ l p k s. absurd s) (no_own_kind_lem (tree t))

  pub written_no_lone_item : Throughout NoLoneItem (tree (tidied_bytes t out n))
  written_no_lone_item = shaped NoLoneItem (λ l p k s. absurd s) (no_lone_item_lem (tree t))

  pub written_no_lone_choice : Throughout NoLoneChoice (tree (tidied_bytes t out n))
  written_no_lone_choice = shaped NoLoneChoice (λ l p k q i e. absurd (not_sequence l p q e)) (no_lone_choice_lem (tree t))

  -- Of every accepted tree -----------------------------------------------------------------------

  ordered : BelowRoot Ordered (tree t)
  ordered = (fits_ordered alone (tree t) (handed_in a).1).1

  pub written_no_longer : length (tidied_bytes t out n) ≤ length t
  written_no_longer =
      omega (arith, ap length (bytes_are a), length_encode (single (tidy (tree t))), tidy_smaller (tree t), ap length (handed_in a).0, length_encode (single (tree t)))

  pub written_no_deeper : depth_of (single (tree (tidied_bytes t out n))) ≤ depth_of (single (tree t))
  written_no_deeper = on_tidied (λ x. depth_of (single x) ≤ depth_of (single (tree t))) (tidy_shallower (tree t))

  pub written_maximum : (total (tree (tidied_bytes t out n))).max ≡ (total (tree t)).max
  written_maximum = on_tidied (λ x. (total x).max ≡ (total (tree t)).max) (tidy_total_max (tree t))

  pub written_minimum : (exact_total (tree t)).min ≤ (exact_total (tree (tidied_bytes t out n))).min
  written_minimum = on_tidied (λ x. (exact_total (tree t)).min ≤ (exact_total x).min) (tidy_exact_min (tree t) ordered)

  pub written_emptiable : emptiable (tree (tidied_bytes t out n)) ≡ true → emptiable (tree t) ≡ true
  written_emptiable = on_tidied (λ x. emptiable x ≡ true → emptiable (tree t) ≡ true) (tidied_emptiable (tree t) ordered)

  pub written_allows_no_more : (names : Names) (w : List ℕ) → Allows names (tree (tidied_bytes t out n)) w → Allows names (tree t) w
  written_allows_no_more names w = on_tidied (λ x. Allows names x w → Allows names (tree t) w) (tidy_allows_no_more names (tree t) ordered w)

  -- Where the tree handed in has no zero maximum and no empty choice below its root ------------------

  -- an entry for one tree answers alike
  alike : {A : Type 0} (f : Particle → A) → f (tidy (tree t)) ≡ f (tree t) → answer (refusal_alone (tidied_bytes t out n)) (f (tree (tidied_bytes t out n))) ≡ answer (refusal_alone t) (f (tree t))
  alike f e = ap₂ answer ((tidied_accepted t out n a).0 ∙ sym (taken a).accepted) (ap f (tree_is a) ∙ e)

  pub kept_allows : BelowRoot NoZeroMaximum (tree t) → (names : Names) (w : List ℕ) → Allows names (tree (tidied_bytes t out n)) w ↔ Allows names (tree t) w
  kept_allows z names w = on_tidied (λ x. Allows names x w ↔ Allows names (tree t) w) (tidy_allows names (tree t) z w)

  module _ (z : BelowRoot NoZeroMaximum (tree t)) (e : BelowRoot NoEmptyChoice (tree t)) where
    pub kept_emptiable : answer (refusal_alone (tidied_bytes t out n)) (emptiable (tree (tidied_bytes t out n))) ≡ answer (refusal_alone t) (emptiable (tree t))
    kept_emptiable = alike emptiable (tidy_emptiable (tree t) z e)

    pub kept_total : answer (refusal_alone (tidied_bytes t out n)) (total (tree (tidied_bytes t out n))) ≡ answer (refusal_alone t) (total (tree t))
    kept_total = alike total (tidy_total (tree t) z e)

-- No mark differs from the one that document 01's caps gave: the two tests that read a total range answer the same, and so does the rule, and so the mark. Assumes nothing.
use mathlib.Core.Bool.{Bool, true, false}
use mathlib.Core.List.{List}
use mathlib.Core.Path.{◌≡◌, refl, ap, sym, ◌∙◌, subst}
use Prim.Native.Nat.{ℕ, zero, suc, ◌*◌}
use native.Mathlib.Omega.{arith}
use Rattle.particle.specs.declared.MaxOccurs.{MaxOccurs}
use Rattle.particle.specs.declared.MaxOccurs.TheVariants.{Bounded, Unbounded}
use Rattle.particle.specs.declared.Occurs.{Occurs}
use Rattle.particle.specs.Occurs.{range_ok}
use Rattle.particle.specs.Tree.{Head, element, wildcard, sequence, choice, all, Items, Particle, single, count_i, tree}
use Rattle.particle.specs.Rows.{Row}
use Rattle.particle.specs.Encode.{Bytes}
use Rattle.particle.proofs.Every.{EachHead}
use Rattle.totals.specs.Total.{cut_max, total, total_ok}
use Rattle.totals.proofs.Caps.{cap_min, cap_max, capped_total, max_with_cap, Leaf32}
use Rattle.totals.proofs.Capped.{min_with_cap_lem, bounded_with_cap, capped_told}
use Rattle.totals.proofs.InBytes.{capped_of_bytes}
use Rattle.totals.proofs.Within.{ok_with_caps}
use Rattle.language.proofs.Premises.{throughout_heads, heads_each}
use Rattle.tidying.specs.Tidy.{tidy}
use Rattle.tidying.proofs.Premises.{tidy_heads}
use Rattle.rules.specs.Verdicts.{Mark, passes, undecided, Leaves, Tables}
use Rattle.rules.specs.Combine.{◌or_fails◌, ◌and_then◌}
use Rattle.rules.specs.Walk.{◌⟦◌⟧, Judge, alternatives, each_member}
use Rattle.rules.specs.Rule.{any_number, times_count_max, times_count, group_wildcard, rule}
use Rattle.rules.specs.Mark.{early_pass, steps, restrict_to, restrict, mark_tidied, mark}
use Rattle.rules.proofs.Settles.{◌⊑◌, stays, antisym}
use Rattle.rules.proofs.RuleSettles.{Kept, Of, rule_settles}
use Rattle.rules.proofs.Unfolds.{tables_stay}

-- The rule and the mark with the caps --------------------------------------------

-- a pair times an item count, capped
abbrev pub capped_times_max : MaxOccurs → ℕ → MaxOccurs
capped_times_max (Bounded m) n = cap_max (m * n)
capped_times_max Unbounded n = Unbounded

abbrev pub capped_times_count : Occurs → ℕ → Occurs
capped_times_count p n = record { min = cap_min (p.min * n); max = capped_times_max p.max n }

module _ (L : Leaves) (T : Tables) where
  module _ (J : Judge) where
    abbrev pub capped_group_wildcard : (d : Head) → Items → (m : ℕ) → Occurs → Items → Mark
    capped_group_wildcard d di m q bi = range_ok (capped_total (d ⟦ di ⟧)) q or_fails 113 and_then each_member (λ x. J x (wildcard m any_number ⟦ bi ⟧)) di

    -- the rule, with its two tests of a total range as they were
    unfoldable pub capped_rule : (d : Head) → Items → (b : Head) → Items → Mark
    capped_rule (sequence p) di (wildcard m q) bi = capped_group_wildcard (sequence p) di m q bi
    capped_rule (choice p) di (wildcard m q) bi = capped_group_wildcard (choice p) di m q bi
    capped_rule (all p) di (wildcard m q) bi = capped_group_wildcard (all p) di m q bi
    capped_rule (sequence p) di (choice q) bi = range_ok (capped_times_count p (count_i di)) q or_fails 116 and_then each_member (λ x. alternatives J 117 x bi) di
    -- all others as they are
    capped_rule (element l p) di (wildcard m q) bi = rule L T J (element l p) di (wildcard m q) bi
    capped_rule (wildcard l p) di (wildcard m q) bi = rule L T J (wildcard l p) di (wildcard m q) bi
    capped_rule (element l p) di (choice q) bi = rule L T J (element l p) di (choice q) bi
    capped_rule (wildcard l p) di (choice q) bi = rule L T J (wildcard l p) di (choice q) bi
    capped_rule (choice p) di (choice q) bi = rule L T J (choice p) di (choice q) bi
    capped_rule (all p) di (choice q) bi = rule L T J (all p) di (choice q) bi
    capped_rule d di (element m q) bi = rule L T J d di (element m q) bi
    capped_rule d di (sequence q) bi = rule L T J d di (sequence q) bi
    capped_rule d di (all q) bi = rule L T J d di (all q) bi

  -- the mark by that rule
  unfoldable pub capped_restrict_to : ℕ → Judge
  capped_restrict_to zero = λ d b. undecided
  capped_restrict_to (suc n) = λ d b. capped_rule (capped_restrict_to n) d.head d.items b.head b.items

  unfoldable pub capped_mark_tidied : (derived base : Particle) → Mark
  capped_mark_tidied d b = elim (early_pass d b) [ true ↦ passes | false ↦ capped_restrict_to (steps d b) d b ]

  unfoldable pub capped_mark : (derived base : Particle) → Mark
  capped_mark d b = capped_mark_tidied (tidy d) (tidy b)

-- The two tests --------------------------------------------------------------------

-- group against wildcard (113): of every tree in bytes and every pair
pub total_test_same : {t : List ℕ} → Row 1 t → Bytes t → (q : Occurs) → total_ok (total (tree t)) q ≡ range_ok (capped_total (tree t)) q
total_test_same {t} w b q = ok_with_caps (total (tree t)) q ∙ sym (ap (λ (o : Occurs). range_ok o q) (capped_of_bytes w b))

-- sequence against choice (116): of every pair, item count and base pair
pub count_test_same : (p : Occurs) (n : ℕ) (q : Occurs) → total_ok (times_count p n) q ≡ range_ok (capped_times_count p n) q
count_test_same p n q = ok_with_caps (times_count p n) q ∙ ap (λ (o : Occurs). range_ok o q) (λ i. record { min = min_with_cap_lem (p.min * n) i; max = high p.max i })
  where
    high : (m : MaxOccurs) → max_with_cap (cut_max (times_count_max m n)) ≡ capped_times_max m n
    high (Bounded m) = bounded_with_cap (m * n)
    high Unbounded = refl

-- The mark ---------------------------------------------------------------------------

-- each leaf of a derived tree has a pair of 32 bits; of groups nothing is asked, so wrapping keeps it
leaf_kept : Kept Leaf32
leaf_kept = record { counted = λ l p o. (omega arith, omega arith); in_sequence = λ p. tt; in_choice = λ p. tt }

module _ (L : Leaves) (T : Tables) where
  module _ (J : Judge) where
    group_same : (d : Head) (di : Items) (m : ℕ) (q : Occurs) (bi : Items) → Of Leaf32 (d ⟦ di ⟧) → capped_group_wildcard L T J d di m q bi ≡ group_wildcard L T J d di m q bi
    group_same d di m q bi o =
        ap (λ (c : Bool). c or_fails 113 and_then each_member (λ x. J x (wildcard m any_number ⟦ bi ⟧)) di)
        (sym (ok_with_caps (total (d ⟦ di ⟧)) q ∙ sym (ap (λ (e : Occurs). range_ok e q) (capped_told (d ⟦ di ⟧) (heads_each Leaf32 (d ⟦ di ⟧) o)))))

    rule_same : (d : Head) (di : Items) (b : Head) (bi : Items) → Of Leaf32 (d ⟦ di ⟧) → capped_rule L T J d di b bi ≡ rule L T J d di b bi
    unfolding capped_rule rule
    rule_same (sequence p) di (wildcard m q) bi o = group_same (sequence p) di m q bi o
    rule_same (choice p) di (wildcard m q) bi o = group_same (choice p) di m q bi o
    rule_same (all p) di (wildcard m q) bi o = group_same (all p) di m q bi o
    rule_same (sequence p) di (choice q) bi o = ap (λ (c : Bool). c or_fails 116 and_then each_member (λ x. alternatives J 117 x bi) di) (sym (count_test_same p (count_i di) q))
    rule_same (element l p) di (wildcard m q) bi o = refl
    rule_same (wildcard l p) di (wildcard m q) bi o = refl
    rule_same (element l p) di (choice q) bi o = refl
    rule_same (wildcard l p) di (choice q) bi o = refl
    rule_same (choice p) di (choice q) bi o = refl
    rule_same (all p) di (choice q) bi o = refl
    rule_same d di (element m q) bi o = refl
    rule_same d di (sequence q) bi o = refl
    rule_same d di (all q) bi o = refl

  settles_of : {m n : Mark} → m ≡ n → m ⊑ n
  settles_of {m} e = subst (λ (n : Mark). m ⊑ n) e stays

  restrict_same : (n : ℕ) (d b : Particle) → Of Leaf32 d → capped_restrict_to L T n d b ≡ restrict_to L T n d b
  unfolding capped_restrict_to restrict_to
  restrict_same zero d b o = refl
  restrict_same (suc n) d b o =
      let J = capped_restrict_to L T n in
      let J' = restrict_to L T n in
      rule_same J d.head d.items b.head b.items o
      ∙ antisym
      (rule_settles L T T (tables_stay T) Leaf32 leaf_kept J J' d.head d.items b.head b.items o (λ x y f g. settles_of (restrict_same n x y f)))
      (rule_settles L T T (tables_stay T) Leaf32 leaf_kept J' J d.head d.items b.head b.items o (λ x y f g. settles_of (sym (restrict_same n x y f))))

  -- where the derived tree's leaves have pairs of 32 bits, the mark is the one with the caps
  pub no_mark_differs : (d b : Particle) → EachHead Leaf32 (single d) → capped_mark L T d b ≡ mark L T d b
  unfolding capped_mark capped_mark_tidied mark mark_tidied restrict
  no_mark_differs d b e =
      let o = tidy_heads Leaf32 (λ p a c. tt) d (throughout_heads Leaf32 d e) in
      ap (λ (m : Mark). elim (early_pass (tidy d) (tidy b)) as (λ _. Mark) [ true ↦ passes | false ↦ m ]) (restrict_same (steps (tidy d) (tidy b)) (tidy d) (tidy b) o)

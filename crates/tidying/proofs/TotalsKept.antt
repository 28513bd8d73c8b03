-- What tidying makes of the total range: the maximum stays; the minimum does not fall, where pairs are in order, and stays, where the tree has no zero maximum and no empty choice below its root. Assumes nothing.
use mathlib.Core.Bool.{true}
use mathlib.Core.List.{List, [], ◌∷◌, ◌++◌}
use mathlib.Core.Path.{◌≡◌, refl, ap, sym, ◌∙◌}
use Prim.Native.Nat.{ℕ, ◌*◌, ◌≤◌}
use native.Mathlib.Nat.{le_refl, le_trans, le_of_eq, le_antisymm, zero-mul, mul-le-mul_left}
use Rattle.particle.specs.declared.MaxOccurs.{MaxOccurs}
use Rattle.particle.specs.declared.MaxOccurs.TheVariants.{Bounded, Unbounded}
use Rattle.particle.specs.declared.Occurs.{Occurs}
use Rattle.particle.specs.Occurs.{is_once}
use Rattle.particle.specs.Tree.{Head, element, wildcard, sequence, choice, all, Items, none, item, Particle, pair_of, fold}
use Rattle.totals.specs.Exact.{add_max, max_max, mul_max, mul_range, sum, span, exact_from, exact_total}
use Rattle.totals.specs.Total.{cut_max, total}
use Rattle.language.specs.Premises.{Every, BelowRoot, NoEmptyChoice, Ordered, NoZeroMaximum}
use Rattle.language.proofs.Premises.{every_both}
use Rattle.language.proofs.Rounds.{once_is}
use Rattle.tidying.specs.Tidy.{splices, takes_pair, tidy}
use Rattle.tidying.specs.TidyTree.{Group}
use Rattle.tidying.proofs.Steps.{group_cases, splices_cases, takes_cases, zero_is, zero_min}
use Rattle.tidying.proofs.Premises.{Plain, tidy_heads, tidy_ordered, tidy_plain}
use Rattle.tidying.proofs.FoldsKept.{StepsKept, tidy_keeps}
use Rattle.tidying.proofs.Ranges.{same_range, Joins, all_max, joins_sum, joins_span, max_after, max_without, max_joined, sum_max, span_max, Least, sum_min_after, least_sum, least_span, sum_min_joined, span_min_joined, span_min_first, once_range, alone_range}

-- The steps that keep a range whole ----------------------------------------------------------

once_total : (p t : Occurs) → is_once p ≡ true → mul_range p t ≡ t
once_total p t o = rw (once_is p o) (once_range t)

pub placed : (g : Head) → Group g → is_once (pair_of g) ≡ true → (t : Occurs) → exact_from g (t ∷ []) ≡ t
unfolding sum span
placed g s o t = group_cases (λ (g : Head). is_once (pair_of g) ≡ true → exact_from g (t ∷ []) ≡ t) (λ p o. ap (mul_range p) (alone_range t) ∙ once_total p t o) (λ p o. once_total p t o) g s o

pub paired : (ts : List Occurs) (g h : Head) → takes_pair g h ≡ true → exact_from g (exact_from h ts ∷ []) ≡ exact_from (choice (pair_of g)) ts
unfolding sum
paired ts = takes_cases (λ (g h : Head). exact_from g (exact_from h ts ∷ []) ≡ exact_from (choice (pair_of g)) ts) (λ q p o. ap (mul_range q) (alone_range (mul_range p (span ts)) ∙ once_total p (span ts) o))

-- The maximum ---------------------------------------------------------------------------------

-- a group's maximum comes of its items' maxima, joined as they are in a sum or in a span
group_max : (g : Head) → Group g → (xs ys : List Occurs) → ((join : MaxOccurs → MaxOccurs → MaxOccurs) → Joins join → all_max join xs ≡ all_max join ys) → (exact_from g xs).max ≡ (exact_from g ys).max
group_max g s xs ys e = group_cases (λ (g : Head). (exact_from g xs).max ≡ (exact_from g ys).max)
    (λ p. ap (mul_max p.max) (sum_max xs ∙ (e add_max joins_sum ∙ sym (sum_max ys))))
    (λ p. ap (mul_max p.max) (span_max xs ∙ (e max_max joins_span ∙ sym (span_max ys)))) g s

never_mul : (m : MaxOccurs) → mul_max (Bounded 0) m ≡ Bounded 0
never_mul (Bounded n) = ap Bounded (zero-mul n)
never_mul Unbounded = refl

-- the total of a record of maximum 0
never_max : (h : Head) (ts : List Occurs) → (pair_of h).max ≡ Bounded 0 → (exact_from h ts).max ≡ Bounded 0
never_max (element l p) ts e = e
never_max (wildcard l p) ts e = e
never_max (sequence p) ts e = ap (λ (m : MaxOccurs). mul_max m (sum ts).max) e ∙ never_mul (sum ts).max
never_max (choice p) ts e = ap (λ (m : MaxOccurs). mul_max m (span ts).max) e ∙ never_mul (span ts).max
never_max (all p) ts e = ap (λ (m : MaxOccurs). mul_max m (sum ts).max) e ∙ never_mul (sum ts).max

-- an item of the same maximum
tidied_max : (g : Head) → Group g → (before : List Occurs) (a b : Occurs) (after : List Occurs) → a.max ≡ b.max → (exact_from g (before ++ a ∷ after)).max ≡ (exact_from g (before ++ b ∷ after)).max
tidied_max g s before a b after e = group_max g s (before ++ a ∷ after) (before ++ b ∷ after) (λ join J. max_after J before (a ∷ after) (b ∷ after) (rw e))

dropped_max : (g : Head) → Group g → (before : List Occurs) (t : Occurs) (after : List Occurs) → t.max ≡ Bounded 0 → (exact_from g (before ++ after)).max ≡ (exact_from g (before ++ t ∷ after)).max
dropped_max g s before t after e = group_max g s (before ++ after) (before ++ t ∷ after) (λ join J. max_after J before after (t ∷ after) (max_without J t after e))

spliced_max : (ts : List Occurs) (g h : Head) → splices g h ≡ true → (before after : List Occurs) → (exact_from g (before ++ (ts ++ after))).max ≡ (exact_from g (before ++ exact_from h ts ∷ after)).max
spliced_max ts = splices_cases (λ (g h : Head). (before after : List Occurs) → (exact_from g (before ++ (ts ++ after))).max ≡ (exact_from g (before ++ exact_from h ts ∷ after)).max)
    (λ q p o before after. rw (once_total p (sum ts) o, sum_max (before ++ (ts ++ after))) (ap (mul_max q.max) (max_after joins_sum before (ts ++ after) (sum ts ∷ after) (max_joined joins_sum (sum ts) ts after (sum_max ts)) ∙ sym (sum_max (before ++ sum ts ∷ after)))))
    (λ q p o before after. rw (once_total p (span ts) o, span_max (before ++ (ts ++ after))) (ap (mul_max q.max) (max_after joins_span before (ts ++ after) (span ts ∷ after) (max_joined joins_span (span ts) ts after (span_max ts)) ∙ sym (span_max (before ++ span ts ∷ after)))))

-- of the records nothing is asked
abbrev Any : Head → Items → Type 0
Any h k = Unit {0}

max_kept : StepsKept Any exact_from (λ a b. a.max ≡ b.max)
max_kept = record {
  itself = λ a. refl;
  chained = λ a b c d e. d ∙ e;
  tidied = tidied_max;
  dropped = λ g s h k z _ before after. dropped_max g s before (exact_from h (fold exact_from k)) after (never_max h (fold exact_from k) (zero_is (pair_of h).max z));
  spliced = λ g h k e _ before after. spliced_max (fold exact_from k) g h e before after;
  placed = λ g s o t. ap (λ (t : Occurs). t.max) (sym (placed g s o t));
  paired = λ g h e ts. ap (λ (t : Occurs). t.max) (sym (paired ts g h e));
}

-- The minimum ---------------------------------------------------------------------------------

-- a group's minimum comes of its items' minima, by a sum or by a span
group_min : (g : Head) → Group g → (xs ys : List Occurs) → ((least : List Occurs → ℕ) → Least least → least ys ≤ least xs) → (exact_from g ys).min ≤ (exact_from g xs).min
group_min g s xs ys l = group_cases (λ (g : Head). (exact_from g ys).min ≤ (exact_from g xs).min) (λ p. mul-le-mul_left p.min (l _ least_sum)) (λ p. mul-le-mul_left p.min (l _ least_span)) g s

-- the total of a record of minimum 0
pub never_min : (h : Head) (ts : List Occurs) → (pair_of h).min ≡ 0 → (exact_from h ts).min ≡ 0
never_min (element l p) ts e = e
never_min (wildcard l p) ts e = e
never_min (sequence p) ts e = ap (λ (n : ℕ). n * (sum ts).min) e ∙ zero-mul (sum ts).min
never_min (choice p) ts e = ap (λ (n : ℕ). n * (span ts).min) e ∙ zero-mul (span ts).min
never_min (all p) ts e = ap (λ (n : ℕ). n * (sum ts).min) e ∙ zero-mul (sum ts).min

-- an item of no lesser minimum
tidied_min : (g : Head) → Group g → (before : List Occurs) (a b : Occurs) (after : List Occurs) → b.min ≤ a.min → (exact_from g (before ++ b ∷ after)).min ≤ (exact_from g (before ++ a ∷ after)).min
tidied_min g s before a b after l = group_min g s (before ++ a ∷ after) (before ++ b ∷ after) (λ least L. L.after before (a ∷ after) b after (L.lesser a b after l))

dropped_min : (g : Head) → Group g → (before : List Occurs) (t : Occurs) (after : List Occurs) → t.min ≡ 0 → (exact_from g (before ++ t ∷ after)).min ≤ (exact_from g (before ++ after)).min
dropped_min g s before t after e = group_min g s (before ++ after) (before ++ t ∷ after) (λ least L. L.after before after t after (L.without t after e))

-- the items of an item of the group's own kind, in its place
spliced_min : (ts : List Occurs) (g h : Head) → splices g h ≡ true → (before after : List Occurs) → (exact_from g (before ++ exact_from h ts ∷ after)).min ≤ (exact_from g (before ++ (ts ++ after))).min
spliced_min ts = splices_cases (λ (g h : Head). (before after : List Occurs) → (exact_from g (before ++ exact_from h ts ∷ after)).min ≤ (exact_from g (before ++ (ts ++ after))).min)
    (λ q p o before after. rw (once_total p (sum ts) o) (mul-le-mul_left q.min (least_sum.after before (ts ++ after) (sum ts) after (le_of_eq (sym (sum_min_joined ts after))))))
    (λ q p o before after. rw (once_total p (span ts) o) (mul-le-mul_left q.min (least_span.after before (ts ++ after) (span ts) after (span_min_first ts after))))

-- and where there are some, the minimum stays
spliced_some : (k : Items) (g h : Head) → splices g h ≡ true → NoEmptyChoice h k → (before after : List Occurs)
    → (exact_from g (before ++ (fold exact_from k ++ after))).min ≤ (exact_from g (before ++ exact_from h (fold exact_from k) ∷ after)).min
unfolding fold
spliced_some k = splices_cases
    (λ (g h : Head). NoEmptyChoice h k → (before after : List Occurs) → (exact_from g (before ++ (fold exact_from k ++ after))).min ≤ (exact_from g (before ++ exact_from h (fold exact_from k) ∷ after)).min)
    (λ q p o n before after. rw (once_total p (sum (fold exact_from k)) o) (mul-le-mul_left q.min (sum_min_after before (sum (fold exact_from k) ∷ after) (fold exact_from k ++ after) (le_of_eq (sum_min_joined (fold exact_from k) after)))))
    (λ q p o n before after. rw (once_total p (span (fold exact_from k)) o) (mul-le-mul_left q.min (some k n before after)))
  where
    some : (k : Items) → ¬ (k ≡ none) → (before after : List Occurs) → (span (before ++ (fold exact_from k ++ after))).min ≤ (span (before ++ span (fold exact_from k) ∷ after)).min
    some none n before after = absurd (n refl)
    some (item h k r) n before after =
        let t = exact_from h (fold exact_from k) in
        let ts = fold exact_from r in
        least_span.after before (span (t ∷ ts) ∷ after) t (ts ++ after) (le_of_eq (span_min_joined t ts after))

min_rises : StepsKept Ordered exact_from (λ a b. b.min ≤ a.min)
min_rises = record {
  itself = λ a. le_refl a.min;
  chained = λ a b c d e. le_trans e d;
  tidied = tidied_min;
  dropped = λ g s h k z o before after. dropped_min g s before (exact_from h (fold exact_from k)) after (never_min h (fold exact_from k) (zero_min (pair_of h) o z));
  spliced = λ g h k e o before after. spliced_min (fold exact_from k) g h e before after;
  placed = λ g s o t. le_of_eq (ap (λ (t : Occurs). t.min) (placed g s o t));
  paired = λ g h e ts. le_of_eq (ap (λ (t : Occurs). t.min) (paired ts g h e));
}

min_kept : StepsKept Plain exact_from (λ a b. a.min ≡ b.min)
min_kept = record {
  itself = λ a. refl;
  chained = λ a b c d e. d ∙ e;
  tidied = λ g s before a b after e. le_antisymm (tidied_min g s before b a after (le_of_eq e)) (tidied_min g s before a b after (le_of_eq (sym e)));
  dropped = λ g s h k z p before after. absurd (p.0 (zero_is (pair_of h).max z));
  spliced = λ g h k e p before after. le_antisymm (spliced_some k g h e p.1 before after) (spliced_min (fold exact_from k) g h e before after);
  placed = λ g s o t. ap (λ (t : Occurs). t.min) (sym (placed g s o t));
  paired = λ g h e ts. ap (λ (t : Occurs). t.min) (sym (paired ts g h e));
}

-- The theorems ----------------------------------------------------------------------------------

every_any : (x : Items) → Every Any x
every_any none = tt
every_any (item h k r) = ((tt, every_any k), every_any r)

pub tidy_exact_max : (x : Particle) → (exact_total (tidy x)).max ≡ (exact_total x).max
unfolding exact_total
tidy_exact_max x = tidy_keeps max_kept (tidy_heads (λ h. Unit {0}) (λ p a b. tt)) x (every_any x.items)

pub tidy_exact_min : (x : Particle) → BelowRoot Ordered x → (exact_total x).min ≤ (exact_total (tidy x)).min
unfolding exact_total
tidy_exact_min = tidy_keeps min_rises tidy_ordered

pub tidy_total_max : (x : Particle) → (total (tidy x)).max ≡ (total x).max
unfolding total
tidy_total_max x = ap cut_max (tidy_exact_max x)

pub tidy_exact_total : (x : Particle) → BelowRoot NoZeroMaximum x → BelowRoot NoEmptyChoice x → exact_total (tidy x) ≡ exact_total x
unfolding exact_total
tidy_exact_total x z n = same_range (tidy_keeps min_kept tidy_plain x (every_both (λ h k a b. (a, b)) x.items z n)) (tidy_exact_max x)

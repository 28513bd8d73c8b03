-- The rule of the mark: a decision over the two kinds, derived first, with document 01's reason numbers. Assumes nothing: these are definitions.
use Rattle.std.specs.Prelude.{true, false, not, ℕ, ◌*◌, leb}
use Rattle.particle.specs.declared.MaxOccurs.{MaxOccurs}
use Rattle.particle.specs.declared.MaxOccurs.TheVariants.{Bounded, Unbounded}
use Rattle.particle.specs.declared.Occurs.{Occurs}
use Rattle.particle.specs.Occurs.{range_ok, exactly, is_zero}
use Rattle.particle.specs.Tree.{Head, element, wildcard, sequence, choice, all, Items, none, item, count_i}
use Rattle.totals.specs.declared.ranges.TotalRange.{TotalRange}
use Rattle.totals.specs.Total.{cut, total, total_ok}
use Rattle.rules.specs.Verdicts.{Mark, undecided, fails, Leaves, Tables}
use Rattle.rules.specs.Combine.{◌or_fails◌, ◌and_then◌, combine_readings}
use Rattle.rules.specs.Element.{element_restrict}
use Rattle.rules.specs.Walk.{◌⟦◌⟧, Judge, recurse_ordered, alternatives, each_member, recurse_unordered}

-- the pair (0, unbounded)
abbrev pub any_number : Occurs
any_number = record { min = 0; max = Unbounded }

-- a pair times an item count, exact and then cut as a total range is; here unbounded stays unbounded even for 0 items
abbrev pub times_count_max : MaxOccurs → ℕ → MaxOccurs
times_count_max (Bounded m) n = Bounded (m * n)
times_count_max Unbounded n = Unbounded

abbrev pub exact_times_count : Occurs → ℕ → Occurs
exact_times_count p n = record { min = p.min * n; max = times_count_max p.max n }

abbrev pub times_count : Occurs → ℕ → TotalRange
times_count p n = cut (exact_times_count p n)

-- What the second reading of an element asks of the pair of a base sequence or choice: base minimum above 1 gives 110 or 112; 'a base maximum of 0 now fails with reason 125' (document 02 §5).
abbrev pub base_once : (q : Occurs) (required : ℕ) → Mark
base_once q required = leb q.min 1 or_fails required and_then not (is_zero q.max) or_fails 125

-- One entry of the rule (`restrict` of the Rust): a derived tree of head d and items di against a base tree of head b and items bi.
-- J marks what is below: items, and the groups in which an element is wrapped. The comments are document 01's list, and document 02 §5.
module _ (L : Leaves) (T : Tables) (J : Judge) where
  -- group, wildcard: the same for every kind of group
  abbrev pub group_wildcard : (d : Head) → Items → (m : ℕ) → Occurs → Items → Mark
  group_wildcard d di m q bi = total_ok (total (d ⟦ di ⟧)) q or_fails 113 and_then each_member (λ x. J x (wildcard m any_number ⟦ bi ⟧)) di

  unfoldable pub rule : (d : Head) → Items → (b : Head) → Items → Mark
  -- Element, element: the element verdict.
  rule (element l p) di (element m q) bi = element_restrict T l p m q
  -- Element, wildcard: range (101), second table. Wildcard, wildcard: range (103), weaker process contents (104), second table.
  rule (element l p) di (wildcard m q) bi = range_ok p q or_fails 101 and_then T.second l m
  rule (wildcard l p) di (wildcard m q) bi = range_ok p q or_fails 103 and_then leb (L.strength m) (L.strength l) or_fails 104 and_then T.second l m
  -- Wildcard, element: 102. Wildcard, group: 114.
  rule (wildcard l p) di (element m q) bi = fails 102
  rule (wildcard l p) di (sequence q) bi = fails 114
  rule (wildcard l p) di (choice q) bi = fails 114
  rule (wildcard l p) di (all q) bi = fails 114
  -- Sequence, sequence: range (105), ordered walk. Choice, choice: range (106), lax walk.
  rule (sequence p) di (sequence q) bi = range_ok p q or_fails 105 and_then recurse_ordered J false di bi
  rule (choice p) di (choice q) bi = range_ok p q or_fails 106 and_then recurse_ordered J true di bi
  -- All, all (range 107) and sequence, all (118): base elements taken by local name number.
  rule (all p) di (all q) bi = range_ok p q or_fails 107 and_then recurse_unordered L T di bi
  rule (sequence p) di (all q) bi = range_ok p q or_fails 118 and_then recurse_unordered L T di bi
  -- Element, sequence or choice: first reading, the element's pair moved to a group of the base's kind holding it once.
  -- Second reading: base minimum above 1 gives 110 (sequence) or 112 (choice), base maximum 0 gives 125 (document 02 §5); otherwise the ordered walk over the one element, or any alternative (none 111).
  rule (element l p) di (sequence q) bi =
      combine_readings (J (sequence p ⟦ item (element l (exactly 1)) di none ⟧) (sequence q ⟦ bi ⟧))
      (base_once q 110 and_then recurse_ordered J false (item (element l p) di none) bi)
  rule (element l p) di (choice q) bi =
      combine_readings (J (choice p ⟦ item (element l (exactly 1)) di none ⟧) (choice q ⟦ bi ⟧))
      (base_once q 112 and_then alternatives J 111 (element l p ⟦ di ⟧) bi)
  -- Sequence or choice, element: the base wrapped as one item of a (1,1) group of the derived kind.
  rule (sequence p) di (element m q) bi = J (sequence p ⟦ di ⟧) (sequence (exactly 1) ⟦ item (element m q) bi none ⟧)
  rule (choice p) di (element m q) bi = J (choice p ⟦ di ⟧) (choice (exactly 1) ⟦ item (element m q) bi none ⟧)
  -- Group, wildcard: total range (113), then each member against the wildcard with pair (0, unbounded).
  rule (sequence p) di (wildcard m q) bi = group_wildcard (sequence p) di m q bi
  rule (choice p) di (wildcard m q) bi = group_wildcard (choice p) di m q bi
  rule (all p) di (wildcard m q) bi = group_wildcard (all p) di m q bi
  -- Sequence, choice: pair times item count within the base pair (116); each member against the alternatives in order, none 117.
  rule (sequence p) di (choice q) bi = total_ok (times_count p (count_i di)) q or_fails 116 and_then each_member (λ x. alternatives J 117 x bi) di
  -- All against sequence or choice, choice against sequence or all: 115.
  rule (all p) di (sequence q) bi = fails 115
  rule (all p) di (choice q) bi = fails 115
  rule (choice p) di (sequence q) bi = fails 115
  rule (choice p) di (all q) bi = fails 115
  -- Element against all, all against element: undecided.
  rule (element l p) di (all q) bi = undecided
  rule (all p) di (element m q) bi = undecided

-- The rules that `restriction::restrict` selects meet their contracts: a cycle of calls. Assumes nothing.
use mathlib.Core.Bool.{true, false}
use mathlib.Core.Path.{refl}
use Prim.Native.Nat.{ℕ}
use native.Mathlib.Omega.{arith}
use borrow.Author.Rules.{rules}
use Rattle.particle.specs.Occurs.{range_ok}
use Rattle.particle.proofs.Runs.{run_few}
use Rattle.totals.specs.Total.{total_ok}
use Rattle.rules.specs.Rule.{rule}
use Rattle.verdicts.specs.declared.Verdict.TheVariants.{Ok, Unknown}
use Rattle.restriction.specs.Views.{range_reason}
use Rattle.verdicts.proofs.Rest.{step}
use Rattle.restriction.proofs.Parts.{first_within}
use Rattle.restriction.proofs.Members.{alternatives_start, alternatives_end, alternative_passes, alternative_undecided, alternative_fails, members_start, members_end, member_passes, member_undecided, member_fails}
use Rattle.restriction.proofs.OrderedWalk.{walk_start, walk_try, lax_end, strict_end, used_up_lem, both_advance, seen_advance, skip_lax, skip_emptiable, item_fails}
use Rattle.restriction.proofs.Walks.{choice_ruled_out, readings_start, readings_next, readings_end, readings_pass, sequence_ruled_out, walks_start, walks_next, walks_end, walks_settled}
use Rattle.restriction.proofs.Once.{choice_counts_once, choice_out, own_is_element, own_choice_mark, sequence_counts_once, own_sequence_mark}
use Rattle.restriction.proofs.Ranges.{check_fails, check_holds, reason_is}
use Rattle.restriction.proofs.Arms.{Sides, both, to_readings, to_derived, to_members, to_both, arm, other_arm, element_sequence_arm, element_choice_arm, sequence_element_arm, choice_element_arm, sequences_arm, choices_arm, group_wildcard_arm, sequence_choice_arm, elements_apart}
use Rattle.restriction.proofs.ElementArms.{below_items, element_both, wildcard_both, sequence_both, choice_both, all_both}
use Rattle.restriction.proofs.+restrict.Goals as goal
use Rattle.restriction.proofs.+restrict.Goals.{by_kinds-After-kind_of-2}

-- `any_alternative` meets its contract: the alternatives left say the mark.

pub any_alternative-loop-b-init : goal.any_alternative-loop-b-init
any_alternative-loop-b-init t c = rw c.into_iter-b-iterator.ensures.into_iter_gives (alternatives_start c.args.bs.run)

pub any_alternative-restrict-requires : goal.any_alternative-restrict-requires
any_alternative-restrict-requires t c = (omega (arith, c.decreases, first_within (step c.in-Some.ensures.steps) c.loop-b.invariant.part), search rules)

pub any_alternative-returns-in-Ok : goal.any_alternative-returns-in-Ok
any_alternative-returns-in-Ok t c = search (alternative_passes, step c.in-Some.ensures.steps)

pub any_alternative-loop-b-preserved-in-Unknown : goal.any_alternative-loop-b-preserved-in-Unknown
any_alternative-loop-b-preserved-in-Unknown t c = search (alternative_undecided, step c.in-Some.ensures.steps)

pub any_alternative-loop-b-preserved : goal.any_alternative-loop-b-preserved
any_alternative-loop-b-preserved t c = search (alternative_fails, step c.in-Some.ensures.steps)

pub any_alternative-returns : goal.any_alternative-returns
any_alternative-returns t c = search (alternatives_end, c.in-None.ensures.steps)

-- `by_kinds` meets its contract: an arm of the match answers by a clause of the rule, at the two kinds that its key is.

-- what has been read of both trees before the match
read : (t : ℕ) (c : by_kinds-After-kind_of-2 t)
    → Sides c.args.once c.args.any c.args.d.bytes.now c.args.b.bytes.now c.record-dr.result c.record-br.result c.derived_range-p.result c.base_range-q.result c.items-ds.result.bytes.now c.items-bs.result.bytes.now c.items-ds.result.count c.items-bs.result.count c.kind_of.result c.kind_of-2.result t
read t c = both c.args.d.run c.args.b.run c.record-dr.ensures c.record-br.ensures c.derived_range-p.ensures c.base_range-q.ensures c.items-ds.ensures.bytes c.items-ds.ensures.count c.items-bs.ensures.bytes c.items-bs.ensures.count c.kind_of.ensures c.kind_of-2.ensures c.decreases

pub by_kinds-element_sequence-requires : goal.by_kinds-element_sequence-requires
by_kinds-element_sequence-requires t c = to_readings (read t (goal.at.by_kinds-element_sequence-requires t c).After-kind_of-2) (omega arith)

pub by_kinds-element_choice-requires : goal.by_kinds-element_choice-requires
by_kinds-element_choice-requires t c = to_readings (read t (goal.at.by_kinds-element_choice-requires t c).After-kind_of-2) (omega arith)

pub by_kinds-same_kind-requires : goal.by_kinds-same_kind-requires
by_kinds-same_kind-requires t c = (rw c.alone.ensures.bytes (to_derived (read t (goal.at.by_kinds-same_kind-requires t c).After-kind_of-2)), search rules)

pub by_kinds-same_kind-requires-in-12 : goal.by_kinds-same_kind-requires-in-12
by_kinds-same_kind-requires-in-12 t c = (to_both (read t (goal.at.by_kinds-same_kind-requires-in-12 t c).After-kind_of-2), search rules)

pub by_kinds-same_kind-requires-in-15 : goal.by_kinds-same_kind-requires-in-15
by_kinds-same_kind-requires-in-15 t c = (rw c.alone-in-15.ensures.bytes (to_derived (read t (goal.at.by_kinds-same_kind-requires-in-15 t c).After-kind_of-2)), search rules)

pub by_kinds-same_kind-requires-in-18 : goal.by_kinds-same_kind-requires-in-18
by_kinds-same_kind-requires-in-18 t c = (to_both (read t (goal.at.by_kinds-same_kind-requires-in-18 t c).After-kind_of-2), search rules)

pub by_kinds-sequence_choice-requires : goal.by_kinds-sequence_choice-requires
by_kinds-sequence_choice-requires t c = (to_both (read t (goal.at.by_kinds-sequence_choice-requires t c).After-kind_of-2), search rules)

pub by_kinds-group_wildcard-mark-requires : goal.by_kinds-group_wildcard-mark-requires
by_kinds-group_wildcard-mark-requires t c = (to_members (read t (goal.at.by_kinds-group_wildcard-mark-requires t c).After-kind_of-2), search rules)

pub by_kinds-group_wildcard-mark-requires-in-16 : goal.by_kinds-group_wildcard-mark-requires-in-16
by_kinds-group_wildcard-mark-requires-in-16 t c = (to_members (read t (goal.at.by_kinds-group_wildcard-mark-requires-in-16 t c).After-kind_of-2), search rules)

pub by_kinds-group_wildcard-mark-requires-in-21 : goal.by_kinds-group_wildcard-mark-requires-in-21
by_kinds-group_wildcard-mark-requires-in-21 t c = (to_members (read t (goal.at.by_kinds-group_wildcard-mark-requires-in-21 t c).After-kind_of-2), search rules)

pub by_kinds-returns-in-0 : goal.by_kinds-returns-in-0
unfolding rule
by_kinds-returns-in-0 t c = arm c.args.paper.now 0 0 (omega arith) (read t (goal.at.by_kinds-returns-in-0 t c).After-kind_of-2) c.in-0.is c.element_restrict.ensures

pub by_kinds-returns-in-1 : goal.by_kinds-returns-in-1
unfolding rule
by_kinds-returns-in-1 t c = arm c.args.paper.now 0 1 (omega arith) (read t (goal.at.by_kinds-returns-in-1 t c).After-kind_of-2) c.in-1.is c.element_wildcard.ensures

pub by_kinds-returns-in-2 : goal.by_kinds-returns-in-2
by_kinds-returns-in-2 t c = element_sequence_arm c.args.paper.now (read t (goal.at.by_kinds-returns-in-2 t c).After-kind_of-2) c.in-2.is c.element_sequence.ensures

pub by_kinds-returns-in-3 : goal.by_kinds-returns-in-3
by_kinds-returns-in-3 t c = element_choice_arm c.args.paper.now (read t (goal.at.by_kinds-returns-in-3 t c).After-kind_of-2) c.in-3.is c.element_choice.ensures

pub by_kinds-returns-in-4 : goal.by_kinds-returns-in-4
unfolding rule
by_kinds-returns-in-4 t c = arm c.args.paper.now 0 4 (omega arith) (read t (goal.at.by_kinds-returns-in-4 t c).After-kind_of-2) c.in-4.is refl

pub by_kinds-returns-in-5 : goal.by_kinds-returns-in-5
unfolding rule
by_kinds-returns-in-5 t c = arm c.args.paper.now 1 0 (omega arith) (read t (goal.at.by_kinds-returns-in-5 t c).After-kind_of-2) c.in-5.is refl

pub by_kinds-returns-in-6 : goal.by_kinds-returns-in-6
unfolding rule
by_kinds-returns-in-6 t c = arm c.args.paper.now 1 1 (omega arith) (read t (goal.at.by_kinds-returns-in-6 t c).After-kind_of-2) c.in-6.is c.wildcard_wildcard.ensures

pub by_kinds-returns-in-7 : goal.by_kinds-returns-in-7
unfolding rule
by_kinds-returns-in-7 t c = arm c.args.paper.now 1 2 (omega arith) (read t (goal.at.by_kinds-returns-in-7 t c).After-kind_of-2) c.in-7.is refl

pub by_kinds-returns-in-8 : goal.by_kinds-returns-in-8
unfolding rule
by_kinds-returns-in-8 t c = arm c.args.paper.now 1 3 (omega arith) (read t (goal.at.by_kinds-returns-in-8 t c).After-kind_of-2) c.in-8.is refl

pub by_kinds-returns-in-9 : goal.by_kinds-returns-in-9
unfolding rule
by_kinds-returns-in-9 t c = arm c.args.paper.now 1 4 (omega arith) (read t (goal.at.by_kinds-returns-in-9 t c).After-kind_of-2) c.in-9.is refl

pub by_kinds-returns-in-10 : goal.by_kinds-returns-in-10
by_kinds-returns-in-10 t c = sequence_element_arm c.args.paper.now (read t (goal.at.by_kinds-returns-in-10 t c).After-kind_of-2) c.exactly_one-one.ensures c.in-10.is (rw (c.alone.ensures.bytes, c.alone.ensures.count) at c.same_kind.ensures)

pub by_kinds-returns-in-11 : goal.by_kinds-returns-in-11
by_kinds-returns-in-11 t c = group_wildcard_arm c.args.paper.now 2 (omega arith) (read t (goal.at.by_kinds-returns-in-11 t c).After-kind_of-2) c.in-11.is c.group_wildcard-mark.ensures

pub by_kinds-returns-in-12 : goal.by_kinds-returns-in-12
by_kinds-returns-in-12 t c = sequences_arm c.args.paper.now (read t (goal.at.by_kinds-returns-in-12 t c).After-kind_of-2) c.in-12.is c.same_kind-in-12.ensures

pub by_kinds-returns-in-13 : goal.by_kinds-returns-in-13
by_kinds-returns-in-13 t c = sequence_choice_arm c.args.paper.now (read t (goal.at.by_kinds-returns-in-13 t c).After-kind_of-2) c.in-13.is c.sequence_choice.ensures

pub by_kinds-returns-in-14 : goal.by_kinds-returns-in-14
unfolding rule
by_kinds-returns-in-14 t c =
    let s = read t (goal.at.by_kinds-returns-in-14 t c).After-kind_of-2 in
    arm c.args.paper.now 2 4 (omega arith) s c.in-14.is (rw (s.derived.below, s.derived.many, s.base.below, s.base.many) c.group_all-mark.ensures)

pub by_kinds-returns-in-15 : goal.by_kinds-returns-in-15
by_kinds-returns-in-15 t c = choice_element_arm c.args.paper.now (read t (goal.at.by_kinds-returns-in-15 t c).After-kind_of-2) c.exactly_one-one.ensures c.in-15.is (rw (c.alone-in-15.ensures.bytes, c.alone-in-15.ensures.count) at c.same_kind-in-15.ensures)

pub by_kinds-returns-in-16 : goal.by_kinds-returns-in-16
by_kinds-returns-in-16 t c = group_wildcard_arm c.args.paper.now 3 (omega arith) (read t (goal.at.by_kinds-returns-in-16 t c).After-kind_of-2) c.in-16.is c.group_wildcard-mark-in-16.ensures

pub by_kinds-returns-in-18 : goal.by_kinds-returns-in-18
by_kinds-returns-in-18 t c = choices_arm c.args.paper.now (read t (goal.at.by_kinds-returns-in-18 t c).After-kind_of-2) c.in-18.is c.same_kind-in-18.ensures

pub by_kinds-returns-in-20 : goal.by_kinds-returns-in-20
unfolding rule
by_kinds-returns-in-20 t c = arm c.args.paper.now 4 0 (omega arith) (read t (goal.at.by_kinds-returns-in-20 t c).After-kind_of-2) c.in-20.is refl

pub by_kinds-returns-in-21 : goal.by_kinds-returns-in-21
by_kinds-returns-in-21 t c = group_wildcard_arm c.args.paper.now 4 (omega arith) (read t (goal.at.by_kinds-returns-in-21 t c).After-kind_of-2) c.in-21.is c.group_wildcard-mark-in-21.ensures

pub by_kinds-returns-in-24 : goal.by_kinds-returns-in-24
unfolding rule
by_kinds-returns-in-24 t c =
    let s = read t (goal.at.by_kinds-returns-in-24 t c).After-kind_of-2 in
    arm c.args.paper.now 4 4 (omega arith) s c.in-24.is (rw (s.derived.below, s.derived.many, s.base.below, s.base.many) c.group_all-mark-in-24.ensures)

pub by_kinds-returns-in_default : goal.by_kinds-returns-in_default
by_kinds-returns-in_default t c = other_arm c.args.paper.now (read t (goal.at.by_kinds-returns-in_default t c).After-kind_of-2) (search)

-- `choice_marks` meets its contract: three readings of the alternatives in one pass.

pub marks::choice_marks-returns-in_default : goal.marks::choice_marks-returns-in_default
marks::choice_marks-returns-in_default t c = search choice_ruled_out

pub marks::choice_marks-loop-b-init : goal.marks::choice_marks-loop-b-init
marks::choice_marks-loop-b-init t c = readings_start c.args.bs.run

pub marks::choice_marks-element_marks-item-requires : goal.marks::choice_marks-element_marks-item-requires
marks::choice_marks-element_marks-item-requires t c = (omega (arith, c.decreases, first_within (step c.in-Some.ensures.steps) c.loop-b.invariant.part), c.requires)

pub marks::choice_marks-returns-in-Ok-read : goal.marks::choice_marks-returns-in-Ok-read
marks::choice_marks-returns-in-Ok-read t c = readings_pass (readings_next c.loop-b.invariant (step c.in-Some.ensures.steps) c.element_marks-item.result c.element_marks-item.ensures {first' = c.walk_on-first.result} {once' = c.combine_readings-once.result} {own' = c.combine_readings-own.result} c.walk_on-first.ensures c.combine_readings-once.ensures c.combine_readings-own.ensures)
    c.args.p c.args.q c.range_ok-within.ensures c.base_once-choice_once.result c.base_once-choice_once.ensures (search) c.read.result c.read.ensures (record { once = Ok; own = Ok }) refl refl c.in-Ok-once.is c.in-Ok-read.is

pub marks::choice_marks-loop-b-preserved-in_default-read : goal.marks::choice_marks-loop-b-preserved-in_default-read
marks::choice_marks-loop-b-preserved-in_default-read t c = search (readings_next, step c.in-Some.ensures.steps)

pub marks::choice_marks-loop-b-preserved : goal.marks::choice_marks-loop-b-preserved
marks::choice_marks-loop-b-preserved t c = search (readings_next, step c.in-Some.ensures.steps)

pub marks::choice_marks-returns : goal.marks::choice_marks-returns
marks::choice_marks-returns t c = search (readings_end, c.in_default-next.ensures.steps)

-- `element_choice` meets its contract: an element that counts once has one mark, any other its own of two.

pub element_choice-returns-then-not-range_ok : goal.element_choice-returns-then-not-range_ok
element_choice-returns-then-not-range_ok t c = search (choice_out)

pub element_choice-returns-then-counts_once : goal.element_choice-returns-then-counts_once
element_choice-returns-then-counts_once t c = search (choice_counts_once)

pub element_choice-choice_marks-requires : goal.element_choice-choice_marks-requires
element_choice-choice_marks-requires t c = (omega arith, search own_is_element)

pub element_choice-returns : goal.element_choice-returns
element_choice-returns t c = search own_choice_mark

-- `element_marks` meets its contract: by the kind of the base.

pub marks::element_marks-sequence_marks-requires : goal.marks::element_marks-sequence_marks-requires
marks::element_marks-sequence_marks-requires t c = (below_items c.args.d.bytes.now c.args.b.run c.items.ensures.bytes c.decreases, c.requires)

pub marks::element_marks-choice_marks-requires : goal.marks::element_marks-choice_marks-requires
marks::element_marks-choice_marks-requires t c = (below_items c.args.d.bytes.now c.args.b.run c.items-in-3.ensures.bytes c.decreases, c.requires)

pub marks::element_marks-returns-in-0 : goal.marks::element_marks-returns-in-0
marks::element_marks-returns-in-0 t c = search (element_both c.args.paper.now c.args.d.bytes.now c.with_element.result)

pub marks::element_marks-returns-in-1 : goal.marks::element_marks-returns-in-1
marks::element_marks-returns-in-1 t c = search (wildcard_both c.args.paper.now c.args.d.bytes.now c.with_wildcard.result)

pub marks::element_marks-returns-in-2 : goal.marks::element_marks-returns-in-2
marks::element_marks-returns-in-2 t c = search (sequence_both c.args.paper.now c.args.d.bytes.now c.sequence_marks.result)

pub marks::element_marks-returns-in-3 : goal.marks::element_marks-returns-in-3
marks::element_marks-returns-in-3 t c = search (choice_both c.args.paper.now c.args.d.bytes.now c.choice_marks.result)

pub marks::element_marks-returns-in_default : goal.marks::element_marks-returns-in_default
marks::element_marks-returns-in_default t c = all_both c.args.paper.now c.args.d.bytes.now (record { once = Unknown; own = Unknown }) c.requires c.args.b.run c.record-br.ensures c.base_range-q.ensures c.kind_of.ensures (omega arith) (refl, refl)

-- `element_sequence` meets its contract: an element that counts once has one mark, any other its own of two.

pub element_sequence-returns-then-counts_once : goal.element_sequence-returns-then-counts_once
element_sequence-returns-then-counts_once t c = search sequence_counts_once

pub element_sequence-sequence_marks-requires : goal.element_sequence-sequence_marks-requires
element_sequence-sequence_marks-requires t c = (omega arith, search own_is_element)

pub element_sequence-returns : goal.element_sequence-returns
element_sequence-returns t c = search own_sequence_mark

-- `group_wildcard` meets its contract: the total range, then the members left say the mark.

pub group_wildcard-returns-then-not-total_within : goal.group_wildcard-returns-then-not-total_within
group_wildcard-returns-then-not-total_within t c = search (check_fails total_ok)

pub group_wildcard-loop-d-init : goal.group_wildcard-loop-d-init
group_wildcard-loop-d-init t c = rw c.into_iter-d-iterator.ensures.into_iter_gives (members_start c.items-d-items.result.run c.items-d-items.ensures.bytes c.items-d-items.ensures.count)

pub group_wildcard-by_kinds-requires : goal.group_wildcard-by_kinds-requires
group_wildcard-by_kinds-requires t c = (omega (arith, c.decreases, first_within (step c.in-Some.ensures.steps) c.loop-d.invariant.part), search rules)

pub group_wildcard-loop-d-preserved-in-Ok : goal.group_wildcard-loop-d-preserved-in-Ok
group_wildcard-loop-d-preserved-in-Ok t c = search (member_passes, step c.in-Some.ensures.steps)

pub group_wildcard-loop-d-preserved : goal.group_wildcard-loop-d-preserved
group_wildcard-loop-d-preserved t c = search (member_undecided, step c.in-Some.ensures.steps)

pub group_wildcard-returns-in-Violation : goal.group_wildcard-returns-in-Violation
group_wildcard-returns-in-Violation t c = search (check_holds total_ok, member_fails, step c.in-Some.ensures.steps)

pub group_wildcard-returns : goal.group_wildcard-returns
group_wildcard-returns t c = search (check_holds total_ok, members_end, c.in-None.ensures.steps)

-- `recurse_ordered` meets its contract: what is left of both rows says the mark.

pub recurse_ordered-derived-init : goal.recurse_ordered-derived-init
recurse_ordered-derived-init t c = rw c.into_iter-d-iterator.ensures.into_iter_gives (walk_start c.args.ds.run c.args.bs.run)

pub recurse_ordered-base-init : goal.recurse_ordered-base-init
recurse_ordered-base-init t c = search (walk_try, step c.in-Some.ensures.steps)

pub recurse_ordered-restrict-requires : goal.recurse_ordered-restrict-requires
recurse_ordered-restrict-requires t c = (omega (arith, c.decreases, c.base.invariant.tried, first_within (step c.in-Some-next.ensures.steps) c.base.invariant.base), search rules)

pub recurse_ordered-derived-preserved-in-Ok : goal.recurse_ordered-derived-preserved-in-Ok
recurse_ordered-derived-preserved-in-Ok t c = search (both_advance, step c.in-Some-next.ensures.steps)

pub recurse_ordered-derived-preserved : goal.recurse_ordered-derived-preserved
recurse_ordered-derived-preserved t c = search (seen_advance, step c.in-Some-next.ensures.steps)

pub recurse_ordered-base-preserved-then-lax : goal.recurse_ordered-base-preserved-then-lax
recurse_ordered-base-preserved-then-lax t c = search (skip_lax, step c.in-Some-next.ensures.steps)

pub recurse_ordered-base-preserved : goal.recurse_ordered-base-preserved
recurse_ordered-base-preserved t c = search (skip_emptiable, step c.in-Some-next.ensures.steps)

pub recurse_ordered-returns-in-Violation : goal.recurse_ordered-returns-in-Violation
recurse_ordered-returns-in-Violation t c = search (item_fails, step c.in-Some-next.ensures.steps)

pub recurse_ordered-returns-in-derived : goal.recurse_ordered-returns-in-derived
recurse_ordered-returns-in-derived t c = search (used_up_lem, c.in_default.ensures.steps)

pub recurse_ordered-returns-then-lax-2 : goal.recurse_ordered-returns-then-lax-2
recurse_ordered-returns-then-lax-2 t c = search (lax_end, c.in-None.ensures.steps)

pub recurse_ordered-returns : goal.recurse_ordered-returns
recurse_ordered-returns t c = search (strict_end, c.in-None.ensures.steps)

-- `restrict` meets its contract: two elements that the first table keeps apart are marked at once, any other pair by the two kinds.

pub restrict-returns-in_default : goal.restrict-returns-in_default
restrict-returns-in_default t c = search elements_apart

-- `same_kind` meets its contract.

pub same_kind-returns-then-range_ok : goal.same_kind-returns-then-range_ok
same_kind-returns-then-range_ok t c = search (check_holds range_ok)

pub same_kind-returns-then-lax : goal.same_kind-returns-then-lax
same_kind-returns-then-lax t c = search (check_fails range_ok, reason_is range_reason true)

pub same_kind-returns : goal.same_kind-returns
same_kind-returns t c = search (check_fails range_ok, reason_is range_reason false)

-- `sequence_choice` meets its contract: the pair times the item count, then the members left say the mark.

pub sequence_choice-overflow_cast-ds : goal.sequence_choice-overflow_cast-ds
sequence_choice-overflow_cast-ds t c = omega (arith, run_few c.args.ds.run)

pub sequence_choice-returns-then-not-total_ok : goal.sequence_choice-returns-then-not-total_ok
sequence_choice-returns-then-not-total_ok t c = search (check_fails total_ok)

pub sequence_choice-loop-d-init : goal.sequence_choice-loop-d-init
sequence_choice-loop-d-init t c = rw c.into_iter-d-iterator.ensures.into_iter_gives (members_start c.args.ds.run refl refl)

pub sequence_choice-any_alternative-requires : goal.sequence_choice-any_alternative-requires
sequence_choice-any_alternative-requires t c = (omega (arith, c.decreases, first_within (step c.in-Some.ensures.steps) c.loop-d.invariant.part), search rules)

pub sequence_choice-loop-d-preserved-in-Ok : goal.sequence_choice-loop-d-preserved-in-Ok
sequence_choice-loop-d-preserved-in-Ok t c = search (member_passes, step c.in-Some.ensures.steps)

pub sequence_choice-loop-d-preserved : goal.sequence_choice-loop-d-preserved
sequence_choice-loop-d-preserved t c = search (member_undecided, step c.in-Some.ensures.steps)

pub sequence_choice-returns-in-Violation : goal.sequence_choice-returns-in-Violation
sequence_choice-returns-in-Violation t c = search (check_holds total_ok, member_fails, step c.in-Some.ensures.steps)

pub sequence_choice-returns : goal.sequence_choice-returns
sequence_choice-returns t c = search (check_holds total_ok, members_end, c.in-None.ensures.steps)

-- `sequence_marks` meets its contract: two walks over the items in one pass.

pub marks::sequence_marks-returns-in_default : goal.marks::sequence_marks-returns-in_default
marks::sequence_marks-returns-in_default t c = search sequence_ruled_out

pub marks::sequence_marks-loop-b-init : goal.marks::sequence_marks-loop-b-init
marks::sequence_marks-loop-b-init t c = walks_start c.args.bs.run

pub marks::sequence_marks-element_marks-item-requires : goal.marks::sequence_marks-element_marks-item-requires
marks::sequence_marks-element_marks-item-requires t c = (omega (arith, c.decreases, first_within (step c.in-Some.ensures.steps) c.loop-b.invariant.part), c.requires)

pub marks::sequence_marks-returns-then-settled : goal.marks::sequence_marks-returns-then-settled
marks::sequence_marks-returns-then-settled t c = walks_settled (walks_next c.loop-b.invariant (step c.in-Some.ensures.steps) c.element_marks-item.result c.element_marks-item.ensures {once' = c.walk_on-once.result} {own' = c.walk_on-own.result} c.walk_on-once.ensures c.walk_on-own.ensures)
    c.args.p c.args.q c.range_ok-within.ensures c.base_once-sequence_once.result c.base_once-sequence_once.ensures (search) c.walked.result c.walked.ensures c.settled.ensures (search)

pub marks::sequence_marks-loop-b-preserved : goal.marks::sequence_marks-loop-b-preserved
marks::sequence_marks-loop-b-preserved t c = search (walks_next, step c.in-Some.ensures.steps)

pub marks::sequence_marks-returns : goal.marks::sequence_marks-returns
marks::sequence_marks-returns t c = search (walks_end, c.in_default-next.ensures.steps)

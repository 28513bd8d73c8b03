-- The rules that `restriction::restrict` selects meet their contracts: a cycle of calls. Assumes nothing.
use mathlib.Core.Bool.{true}
use Rattle.particle.specs.Record.{record_at}
use Rattle.particle.specs.Rows.{items_part}
use Rattle.particle.specs.MeasuredTrees.{tree_of, row_of}
use Rattle.rules.specs.Walk.{alternatives}
use Rattle.verdicts.specs.Reasons.{reason_number}
use Rattle.restriction.specs.Views.{as_once, as_any, paper_judge}
use Rattle.restriction.proofs.Parts.{weight}
use Rattle.restriction.proofs.Members.{Alternatives, Members}
use Rattle.restriction.proofs.OrderedWalk.{Between, Trying}
use Rattle.restriction.proofs.Walks.{ThreeReadings, TwoWalks}
use Rattle.restriction.proofs.+restrict.Given as goal

abbrev pub decreases-any_alternative : goal.decreases-any_alternative
decreases-any_alternative l = weight 2 l.d.bytes.now l.bs.bytes.now

abbrev pub decreases-by_kinds : goal.decreases-by_kinds
decreases-by_kinds l = weight 0 l.d.bytes.now l.b.bytes.now

abbrev pub decreases-element_choice : goal.decreases-element_choice
decreases-element_choice l = weight 5 l.d.bytes.now l.bs.bytes.now

abbrev pub decreases-element_sequence : goal.decreases-element_sequence
decreases-element_sequence l = weight 5 l.d.bytes.now l.bs.bytes.now

abbrev pub decreases-group_wildcard : goal.decreases-group_wildcard
decreases-group_wildcard l = weight 2 (items_part l.group.bytes.now) l.b.bytes.now

abbrev pub decreases-recurse_ordered : goal.decreases-recurse_ordered
decreases-recurse_ordered l = weight 2 l.ds.bytes.now l.bs.bytes.now

abbrev pub decreases-restrict : goal.decreases-restrict
decreases-restrict l = weight 1 l.d.bytes.now l.b.bytes.now

abbrev pub decreases-same_kind : goal.decreases-same_kind
decreases-same_kind l = weight 3 l.ds.bytes.now l.bs.bytes.now

abbrev pub decreases-sequence_choice : goal.decreases-sequence_choice
decreases-sequence_choice l = weight 3 l.ds.bytes.now l.bs.bytes.now

abbrev pub decreases-marks::choice_marks : goal.decreases-marks::choice_marks
decreases-marks::choice_marks l = weight 4 l.d.bytes.now l.bs.bytes.now

abbrev pub decreases-marks::element_marks : goal.decreases-marks::element_marks
decreases-marks::element_marks l = weight 1 l.d.bytes.now l.b.bytes.now

abbrev pub decreases-marks::sequence_marks : goal.decreases-marks::sequence_marks
decreases-marks::sequence_marks l = weight 4 l.d.bytes.now l.bs.bytes.now

abbrev pub invariant-any_alternative-loop-b : goal.invariant-any_alternative-loop-b
invariant-any_alternative-loop-b l = Alternatives (paper_judge l.paper) (reason_number l.reason) (as_once l.once (tree_of l.d)) l.bs.count l.bs.bytes.now l.seen l.b-iterator.bytes.now l.b-iterator.count

abbrev pub invariant-group_wildcard-loop-d : goal.invariant-group_wildcard-loop-d
invariant-group_wildcard-loop-d l = Members (λ x. paper_judge l.paper x (as_any true (tree_of l.b))) (record_at l.group.bytes.now).count (items_part l.group.bytes.now) l.seen l.d-iterator.bytes.now l.d-iterator.count

abbrev pub invariant-recurse_ordered-derived : goal.invariant-recurse_ordered-derived
invariant-recurse_ordered-derived l = Between (paper_judge l.paper) l.lax l.once l.ds.count l.ds.bytes.now l.bs.count l.bs.bytes.now l.seen l.d-iterator.bytes.now l.d-iterator.count l.left.bytes.now l.left.count

abbrev pub invariant-recurse_ordered-base : goal.invariant-recurse_ordered-base
invariant-recurse_ordered-base l = Trying (paper_judge l.paper) l.lax l.once l.ds.count l.ds.bytes.now l.bs.count l.bs.bytes.now l.d.bytes.now l.d-iterator.bytes.now l.d-iterator.count l.seen l.left.bytes.now l.left.count

abbrev pub invariant-sequence_choice-loop-d : goal.invariant-sequence_choice-loop-d
invariant-sequence_choice-loop-d l = Members (λ x. alternatives (paper_judge l.paper) 117 x (row_of l.bs)) l.ds.count l.ds.bytes.now l.seen l.d-iterator.bytes.now l.d-iterator.count

abbrev pub invariant-marks::choice_marks-loop-b : goal.invariant-marks::choice_marks-loop-b
invariant-marks::choice_marks-loop-b l = ThreeReadings (paper_judge l.paper) (as_once true (tree_of l.d)) (tree_of l.d) l.bs.count l.bs.bytes.now l.first l.once l.own l.left.bytes.now l.left.count

abbrev pub invariant-marks::sequence_marks-loop-b : goal.invariant-marks::sequence_marks-loop-b
invariant-marks::sequence_marks-loop-b l = TwoWalks (paper_judge l.paper) (as_once true (tree_of l.d)) (tree_of l.d) l.bs.count l.bs.bytes.now l.once l.own l.left.bytes.now l.left.count

-- `empty::emptiable` and `items_emptiable` meet their contracts. A call goes to a shorter part, or from a row to one of its trees. Assumes nothing.
use borrow.Author.Tests.{not-true, not-false}
use Prim.Native.Nat.{◌-◌}
use native.Mathlib.Omega.{arith}
use Rattle.particle.proofs.Emptiness.{optional_tree, leaf_tree, empty_choice_lem, choice_tree, ordered_tree, items_start, items_end, item_decides, items_next}
use Rattle.particle.proofs.Falls.{part_start, part_falls, part_after, steps_on}
use Rattle.particle.proofs.empty.+emptiable.Goals as goal

pub emptiable-returns-then-r-eq0 : goal.emptiable-returns-then-r-eq0
emptiable-returns-then-r-eq0 t c = search optional_tree

pub emptiable-returns-then-r-lt-SEQUENCE : goal.emptiable-returns-then-r-lt-SEQUENCE
emptiable-returns-then-r-lt-SEQUENCE t c = search leaf_tree

pub emptiable-returns-then-r-eq0-2 : goal.emptiable-returns-then-r-eq0-2
emptiable-returns-then-r-eq0-2 t c = search empty_choice_lem

pub emptiable-returns-then-r-eq-CHOICE : goal.emptiable-returns-then-r-eq-CHOICE
emptiable-returns-then-r-eq-CHOICE t c = search choice_tree

pub emptiable-returns : goal.emptiable-returns
emptiable-returns t c = search ordered_tree

pub items_emptiable-loop-rest-init : goal.items_emptiable-loop-rest-init
items_emptiable-loop-rest-init t c = search (part_start, items_start)

pub items_emptiable-emptiable-found-requires : goal.items_emptiable-emptiable-found-requires
items_emptiable-emptiable-found-requires t c = search part_falls

pub items_emptiable-returns-then-found-each : goal.items_emptiable-returns-then-found-each
items_emptiable-returns-then-found-each t c =
    let w = c.loop-rest.invariant in
    item_decides w.1 w.0.trees {j = c.loop-rest.rest.count - 1} (omega (arith, c.loop-rest-test.true)) c.emptiable-found.ensures (not-true _ c.if-found-each.true)

pub items_emptiable-loop-rest-preserved : goal.items_emptiable-loop-rest-preserved
items_emptiable-loop-rest-preserved t c =
    let w = c.loop-rest.invariant in
    let s = steps_on c.loop-rest.rest c.next.new.self c.next.result c.next.ensures.steps (omega (arith, c.loop-rest-test.true)) in
    (part_after w.0 s.1 s.0, items_next w.1 w.0.trees s.1 c.emptiable-found.ensures s.0 (not-false _ c.if-found-each.false))

pub items_emptiable-returns : goal.items_emptiable-returns
items_emptiable-returns t c = search items_end

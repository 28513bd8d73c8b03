-- `tidying::tidy_tree` and `tidy_items` meet their contracts. A call goes to a shorter part, or from a tree to its items. Each answer names its law;
use Prim.Native.Nat.{◌+◌, ◌*◌}
use lib.ListN.{length}
use Rattle.tidying.proofs.ItemsStep.{ItemsLeft}
use Rattle.tidying.proofs.+tidy.Given as goal

abbrev pub decreases-tidy_items : goal.decreases-tidy_items
decreases-tidy_items l = 2 * length l.t.now

abbrev pub decreases-tidy_tree : goal.decreases-tidy_tree
decreases-tidy_tree l = 2 * length l.t.now + 1

abbrev pub invariant-tidy_items-loop : goal.invariant-tidy_items-loop
invariant-tidy_items-loop l = ItemsLeft l.t l.initial.out l.at l.kept l.out l.read l.rest l.end l.counter

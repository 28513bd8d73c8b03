-- `bodies::read_leaves` meets its contract. Assumes nothing.
use Rattle.std.proofs.Common.{ap, ◌∙◌, ◌*◌}
use Rattle.verdicts.specs.Paper.{leaf_size}
use Rattle.sheet.specs.Layout.{leaf_at}
use Rattle.std.proofs.lemmas.List.{take_rest}
use Rattle.sheet.proofs.Loops.{leaf_next, leaves_done, kinds_done}
use Rattle.sheet.proofs.bodies.read_leaves.Goals as goal

pub loop-i-preserved : goal.loop-i-preserved
loop-i-preserved c = leaf_next _ _ _ _ _ c.loop-i.invariant c.requires.n_in_out c.loop-i-test.true _ (c.leaf_at-l.ensures ∙ ap leaf_at (take_rest c.args.leaves.now (leaf_size * c.loop-i.i))) _ c.leaf_ok-ok.ensures

pub returns : goal.returns
returns c = (search leaves_done, search kinds_done)

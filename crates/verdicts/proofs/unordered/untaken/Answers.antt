-- `unordered::untaken` meets its contract: an item that is taken or of minimum 0 is passed. Assumes nothing.
use mathlib.Core.Bool.{true, false}
use mathlib.Core.Logic.{◌⊎◌, inl, inr}
use mathlib.Core.Path.{◌≡◌}
use Prim.Native.Nat.{◌≤◌}
use lib.ListN.{get_or}
use Rattle.verdicts.proofs.Rest.{step}
use Rattle.verdicts.proofs.BaseLoops.{seek, seek_flagged, seek_on, untaken_here, none_required}
use Rattle.verdicts.proofs.unordered.untaken.Goals as goal
use Rattle.verdicts.proofs.unordered.untaken.Goals.{else-record-gt0-via-then-record-gt0+else-not-matched-i, else-record-gt0-via-else-record-gt0}

pub loop-b-init : goal.loop-b-init
loop-b-init c = rw c.into_iter-b-iterator.ensures.into_iter_gives (seek _ _ _ c.args.bs.row)

pub bounds-matched-i : goal.bounds-matched-i
bounds-matched-i c = search (seek_flagged, step c.in-Some.ensures.steps)

pub returns-then-not-matched-i : goal.returns-then-not-matched-i
returns-then-not-matched-i c = search (untaken_here, step c.in-Some.ensures.steps)

pub loop-b-preserved : goal.loop-b-preserved
loop-b-preserved c =
    let o : (c.record.result.min ≤ 0) ⊎ (get_or c.args.matched.now c.loop-b.i false ≡ true) =
    elim c.else-record-gt0.branch [
      | else-record-gt0-via-then-record-gt0+else-not-matched-i w ↦ inr w.if-not-matched-i.false
      | else-record-gt0-via-else-record-gt0 w ↦ inl w.if-record-gt0.false
    ] in
    search (seek_on, step c.in-Some.ensures.steps)

pub returns : goal.returns
returns c = search (none_required, c.in-None.ensures.steps)

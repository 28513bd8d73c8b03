-- `measured::found_emptiable` meets its contract. Assumes nothing.
use mathlib.Core.Logic.{inl, inr}
use Rattle.particle.proofs.Laws.{some_bytes}
use Rattle.particle.proofs.Found.{found_tree}
use Rattle.particle.proofs.measured.found_emptiable.Goals as goal
use Rattle.particle.proofs.measured.found_emptiable.Goals.{then-r-eq-CHOICE, else-r-eq-CHOICE}

pub record_at-r-requires : goal.record_at-r-requires
record_at-r-requires c = some_bytes c.requires.row

pub returns : goal.returns
returns c = found_tree c.requires.row c.record_at-r.ensures c.requires.count_nonzero c.requires.row_found
    (elim c.if-r-eq-CHOICE.branch [ then-r-eq-CHOICE w ↦ inl (w.if-r-eq-CHOICE.true, w.asked-is) | else-r-eq-CHOICE w ↦ inr (w.if-r-eq-CHOICE.false, w.asked-is) ])

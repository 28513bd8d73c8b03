-- `measured::measure` meets its contract. Assumes nothing.
use Prim.Native.Nat.{◌*◌}
use Rattle.particle.specs.Record.{record_size}
use Rattle.particle.proofs.MeasureStep.{MeasuredFrom}
use Rattle.particle.proofs.measured.measure.Given as goal

abbrev pub invariant-loop-i : goal.invariant-loop-i
invariant-loop-i l = MeasuredFrom l.initial.t l.t (record_size * l.i)

-- `particle::skip` meets its contract. Assumes nothing.
use mathlib.Core.Path.{ap, ◌∙◌}
use mathlib.Core.List.{List}
use Prim.Native.Nat.{ℕ, ◌*◌, ◌≤◌}
use native.Mathlib.Nat.{mul_comm}
use native.Mathlib.Omega.{arith}
use lib.ListN.{length, drop}
use Rattle.particle.specs.Record.{record_size}
use Rattle.particle.specs.Tree.{records}
use Rattle.particle.proofs.Laws.{part_is}
use Rattle.particle.proofs.Records.{length_records, records_drop}
use Rattle.particle.proofs.skip.Goals as goal

within : (n : ℕ) (s : List ℕ) → n ≤ length (records s) → n * record_size ≤ length s
within n s h = omega (arith, length_records s)

pub overflow_mul-at : goal.overflow_mul-at
overflow_mul-at c = omega (arith, within _ _ c.requires)

pub slice_bounds-result-count : goal.slice_bounds-result-count
slice_bounds-result-count c = within _ _ c.requires

pub slice_bounds-result-start : goal.slice_bounds-result-start
slice_bounds-result-start c = within _ _ c.requires

pub returns : goal.returns
returns c = let a = c.args in
    ap records (part_is a.t.now (a.n * record_size) ∙ ap (λ (k : ℕ). drop k a.t.now) (mul_comm a.n record_size)) ∙ records_drop a.n a.t.now

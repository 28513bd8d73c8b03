-- `particle::item` meets its contract. Assumes nothing.
use mathlib.Core.Path.{ap}
use Prim.Native.Nat.{ℕ, ◌+◌}
use native.Mathlib.Omega.{arith}
use Rattle.particle.proofs.ItemWalk.{item_whole, item_within, item_is}
use Rattle.particle.proofs.item.Goals as goal

pub run_len-requires : goal.run_len-requires
run_len-requires c = item_whole c.item_start-at.ensures

pub overflow_add-end : goal.overflow_add-end
overflow_add-end c = omega (arith, item_within c.item_start-at.ensures c.run_len.ensures)

pub slice_bounds-result-end : goal.slice_bounds-result-end
slice_bounds-result-end c = item_within c.item_start-at.ensures c.run_len.ensures

pub returns : goal.returns
returns c = let i = c.item_start-at.ensures in
    let t = c.args.t in
    record {
      holds = item_is i c.run_len.ensures;
      place = ap {B = ℕ × ℕ} (λ (n : ℕ). (t.ref_ptr.0, n + t.ref_ptr.1)) i.start;
    }

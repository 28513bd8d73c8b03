-- What the loop of `run_len` keeps. Assumes nothing.
use mathlib.Core.Path.{◌≡◌}
use mathlib.Core.List.{List, ◌∷◌}
use Prim.Native.Nat.{ℕ, suc, ◌+◌, ◌*◌, ◌-◌, ◌≤◌, ◌<◌}
use native.Mathlib.Nat.{add_comm}
use native.Mathlib.Omega.{arith}
use lib.ListN.{length, drop, length-drop}
use lib.Seq.{drop-drop}
use Rattle.particle.specs.declared.Record.{Record}
use Rattle.particle.specs.Record.{record_size, record_at}
use Rattle.particle.specs.Tree.{take_i, count_i, size_i, build, records, decode}
use Rattle.particle.specs.Rows.{Complete, Row, run_size}
use Rattle.particle.proofs.Records.{records_cons, length_records}
use Rattle.particle.proofs.Trees.{count_i_drop, count_i_le, size_i_build, size_i_add}

-- one record on, where p + 1 trees are awaited
more_awaited : (r : Record) (rs : List Record) (p : ℕ) → suc p ≤ count_i (build (r ∷ rs)) → r.count ≤ count_i (build rs) → p + r.count ≤ count_i (build rs)
unfolding build count_i
more_awaited r rs p e c = omega (arith, count_i_drop r.count (build rs))

awaited_size : (r : Record) (rs : List Record) (p : ℕ) → size_i (take_i (suc p) (build (r ∷ rs))) ≡ suc (size_i (take_i (p + r.count) (build rs)))
unfolding build take_i size_i
awaited_size r rs p = rw (size_i_add r.count p (build rs), add_comm r.count p)

-- at the byte `at`, p trees are awaited
pub record Running (t : List ℕ) (at p : ℕ) : Type 0 where
  pub within : at ≤ length t
  pub complete : Complete (records (drop at t))
  pub enough : p ≤ count_i (build (records (drop at t)))
  pub total : at + record_size * size_i (take_i p (build (records (drop at t)))) ≡ run_size t

pub start : {t : List ℕ} → Row 1 t → Running t 0 1
unfolding run_size decode
start w = record {
  within = omega arith;
  complete = w.complete;
  enough = w.enough;
  total = omega arith;
}

module _ {t : List ℕ} {at p : ℕ} (r : Running t at p) where
  -- at most as many trees are awaited as records are left
  pub room : at + record_size * p ≤ length t
  room = omega (arith, r.within, r.enough, count_i_le (build (records (drop at t))), size_i_build (records (drop at t)), length_records (drop at t), length-drop at t)

  -- in a turn, a whole record is left, and its n items are awaited next
  pub record_left : 0 < p → at + record_size ≤ length t
  record_left h = omega (arith, room)

  pub record_passed : {n : ℕ} → 0 < p → n ≡ (record_at (drop at t)).count → Running t (at + record_size) (p - 1 + n)
  unfolding Complete
  record_passed h i =
      let l : record_size ≤ length (drop at t) = omega (arith, room, length-drop at t) in
      let e : records (drop at t) ≡ record_at (drop at t) ∷ records (drop (at + record_size) t) = rw (← drop-drop record_size at t) (records_cons (drop at t) l) in
      let q : p ≡ suc (p - 1) = omega arith in
      let c : Complete (record_at (drop at t) ∷ records (drop (at + record_size) t)) = rw e at r.complete in
      let en : suc (p - 1) ≤ count_i (build (record_at (drop at t) ∷ records (drop (at + record_size) t))) = rw (← e, ← q) r.enough in
      let m = more_awaited (record_at (drop at t)) (records (drop (at + record_size) t)) (p - 1) en c.0 in
      let s = awaited_size (record_at (drop at t)) (records (drop (at + record_size) t)) (p - 1) in
      rw i
      (record {
        within = omega (arith, room);
        complete = c.1;
        enough = m;
        total = omega (arith, r.total, rw (← e, ← q) at s);
      })

  pub run_ended : p ≤ 0 → at ≡ run_size t
  unfolding take_i size_i
  run_ended h =
      let z : p ≡ 0 = omega arith in
      let total : at + record_size * 0 ≡ run_size t = rw z at r.total in
      omega arith

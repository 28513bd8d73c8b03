-- The laws of measured trees: fewer of them, their items, the trees after the first, and what the first one's record tells. Assumes nothing.
use mathlib.Core.Bool.{Bool, true, false, false≢true}
use mathlib.Core.Path.{◌≡◌, refl, ap, sym, ◌∙◌}
use mathlib.Core.List.{List, [], ◌∷◌}
use Prim.Native.Nat.{ℕ, zero, suc, ◌+◌, ◌*◌, ◌-◌, ◌≤◌, ◌<◌}
use native.Mathlib.Omega.{arith}
use lib.ListN.{length, drop, length-drop}
use Rattle.particle.specs.declared.Record.{Record}
use Rattle.particle.specs.Record.{record_size, max_records, record_at}
use Rattle.particle.specs.Tree.{take_i, size_i, build, records, decode, tree}
use Rattle.particle.specs.Rows.{row, run_size, items_part, later_part}
use Rattle.particle.specs.Empty.{emptiable}
use Rattle.particle.specs.Runs.{note_of, Noted, Measured, Run, RunIf}
use Rattle.particle.proofs.Records.{records_cons, records_drop, length_records}
use Rattle.particle.proofs.Trees.{count_i_le, size_i_build}
use Rattle.particle.proofs.Laws.{row_le, row_sizes, run_is, run_within, some_bytes, bare_run, items_row, later_row}

measured_drop : (k : ℕ) (rs : List Record) → Measured rs → Measured (drop k rs)
unfolding Measured
measured_drop zero rs m = m
measured_drop (suc k) [] m = m
measured_drop (suc k) (r ∷ rs) m = measured_drop k rs m.1

-- from record k on
measured_from : (k : ℕ) (t : List ℕ) → Measured (records t) → Measured (records (drop (record_size * k) t))
measured_from k t m = rw (records_drop k t) (measured_drop k (records t) m)

pub run_le : {m n : ℕ} {t : List ℕ} → m ≤ n → Run n t → Run m t
run_le l w = record { row = row_le l w.row; measured = w.measured; few = w.few }

-- there are no more trees than records
pub run_few : {n : ℕ} {t : List ℕ} → Run n t → n ≤ max_records
unfolding decode
run_few {n} {t} w = omega (arith, w.few, w.row.enough, count_i_le (build (records t)), size_i_build (records t), length_records t)

module _ {n : ℕ} {t : List ℕ} (w : Run (suc n) t) where
  pub items_run : Run (record_at t).count (items_part t)
  items_run = record { row = items_row w.row; measured = measured_from 1 t w.measured; few = omega (arith, w.few, length-drop record_size t) }

  pub later_run : Run n (later_part t)
  unfolding run_size
  later_run = record { row = later_row w.row; measured = measured_from (size_i (row 1 t)) t w.measured; few = omega (arith, w.few, length-drop (run_size t) t) }

  -- what a record that has items tells of its tree
  noted : 0 < (record_at t).count → Noted (record_at t) (decode t)
  unfolding Measured decode
  noted g =
      let m : Measured (record_at t ∷ records (items_part t)) = rw (records_cons t (some_bytes w.row)) at w.measured in
      rw (records_cons t (some_bytes w.row)) (m.0 g)

  -- where the next tree starts
  pub noted_end : 0 < (record_at t).count → record_size * (record_at t).size ≡ run_size t
  unfolding run_size
  noted_end g = ap (λ (k : ℕ). record_size * k) (noted g).size

  -- whether it is emptiable
  noted_empty : 0 < (record_at t).count → (record_at t).zero ≡ note_of (emptiable (tree t))
  unfolding tree
  noted_empty g = (noted g).empty

-- r is the first tree's record
pub bare_later : {t : List ℕ} {r : Record} → Run 1 t → r ≡ record_at t → r.count ≡ 0 → {s : List ℕ} → s ≡ items_part t → s ≡ later_part t
bare_later {t} w e z i = i ∙ ap (λ (k : ℕ). drop k t) (sym (bare_run w.row (rw e at z)))

pub told_end : {t : List ℕ} {r : Record} → Run 1 t → r ≡ record_at t → (r.count ≡ 0 → ⊥) → record_size * r.size ≡ run_size t
told_end {t} {r} w e g = rw e (noted_end w (let h : 0 < r.count = omega arith in rw e at h))

pub told : {t : List ℕ} {r : Record} → Run 1 t → r ≡ record_at t → (r.count ≡ 0 → ⊥) → r.zero ≡ note_of (emptiable (tree t))
told {t} {r} w e g = rw e (noted_empty w (let h : 0 < r.count = omega arith in rw e at h))

-- more than m trees
module _ {m n : ℕ} {t : List ℕ} (w : Run n t) (some : m < n) where
  pub first_run : Run 1 t
  first_run = run_le (omega arith) w

  pub rest_run : {s : List ℕ} → s ≡ later_part t → Run (n - 1) s
  rest_run e =
      let from : Run (suc (n - 1)) t = run_le (omega arith) w in
      rw e (later_run from)

-- the same where trees are said to be measured
module _ {k : Bool} where
  pub if_run : {n : ℕ} {t : List ℕ} → RunIf k n t → k ≡ true → Run n t
  if_run w = w.run

  pub items_if : {t : List ℕ} → RunIf k 1 t → {r : Record} → r ≡ record_at t → {s : List ℕ} → s ≡ items_part t → RunIf k r.count s
  items_if w q p = record { run = λ e. rw (q, p) (items_run (w.run e)) }

module _ {m : ℕ} {k : Bool} {n : ℕ} {t : List ℕ} (w : RunIf k n t) (some : m < n) where
  pub first_if : RunIf k 1 t
  first_if = record { run = λ e. first_run (w.run e) some }

  pub rest_if : {s : List ℕ} → s ≡ later_part t → RunIf k (n - 1) s
  rest_if p = record { run = λ e. rest_run (w.run e) some p }

-- nothing says so
pub none_if : {n : ℕ} {t : List ℕ} → RunIf false n t
none_if = record { run = λ e. absurd (false≢true e) }

-- Walking over n trees of t: of the bytes that they take, those of the trees in `rest` are left.
pub record RowLeft (n : ℕ) (t rest : List ℕ) (left : ℕ) : Type 0 where
  pub trees : Run left rest
  pub unread : length rest + record_size * size_i (row n t) ≡ length t + record_size * size_i (row left rest)

pub row_start : {n : ℕ} {t : List ℕ} → Run n t → RowLeft n t t n
row_start w = record { trees = w; unread = refl }

module _ {n : ℕ} {t rest : List ℕ} {left : ℕ} (a : RowLeft n t rest left) where
  pub row_next : {after : List ℕ} → 0 < left → after ≡ later_part rest → RowLeft n t after (left - 1)
  row_next h p =
      rw p (record { trees = rest_run a.trees h refl; unread = omega (arith, a.unread, row_sizes a.trees.row h, run_is rest, run_within rest, length-drop (run_size rest) rest) })

  pub row_done : left ≤ 0 → length rest + record_size * size_i (row n t) ≡ length t
  unfolding take_i size_i
  row_done h =
      let z : left ≡ 0 = omega arith in
      rw z at a.unread ∙ omega arith

-- one tree fewer, after the first
pub run_rest : {n k : ℕ} {t : List ℕ} → n ≡ suc k → Run n t → Run k (later_part t)
run_rest {n} {k} {t} e w = later_run (rw (sym e) w)

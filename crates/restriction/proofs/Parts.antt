-- Parts of a row's bytes, tree after tree, and the number by which the cycle of the rules ends. Assumes nothing.
use mathlib.Core.List.{List}
use mathlib.Core.Path.{◌≡◌, ap, ◌∙◌}
use Prim.Native.Nat.{ℕ, suc, ◌+◌, ◌*◌, ◌≤◌}
use native.Mathlib.Nat.{le_refl}
use native.Mathlib.Omega.{arith}
use lib.ListN.{length}
use Rattle.particle.specs.Tree.{Items, item, Particle, count_i, decode, tree}
use Rattle.particle.specs.Rows.{row}
use Rattle.particle.specs.Runs.{Run}
use Rattle.particle.proofs.Trees.{count_i_take}
use Rattle.particle.proofs.Laws.{row_is, later_shorter}
use Rattle.particle.proofs.Runs.{run_le, run_rest}
use Rattle.verdicts.proofs.Rest.{Step}

-- a tree in front of others
abbrev pub cons : Particle → Items → Items
cons x r = item x.head x.items r

-- t starts at a tree of the row that `whole` is, n trees before its end
pub record Part (n : ℕ) (t whole : List ℕ) : Type 0 where
  pub trees : Run n t
  pub within : length t ≤ length whole

pub part_start : {n : ℕ} {t : List ℕ} → Run n t → Part n t t
part_start w = record { trees = w; within = le_refl _ }

pub row_count : {n : ℕ} {t : List ℕ} → Run n t → count_i (row n t) ≡ n
row_count {n} {t} w = count_i_take n (decode t) w.row.enough

-- a step over the first n trees of t
module _ {n k : ℕ} {t first rest : List ℕ} (g : Step n t first rest k) where
  from_suc : Run n t → Run (suc k) t
  from_suc w = run_le (omega (arith, g.fewer)) w

  pub row_cons : Run n t → row n t ≡ cons (tree first) (row k rest)
  row_cons w = ap (λ (j : ℕ). row j t) g.fewer ∙ (row_is (from_suc w).row ∙ rw (g.here, g.after))

  pub first_within : {whole : List ℕ} → Part n t whole → length first ≤ length whole
  first_within w = rw g.here w.within

  pub part_next : {whole : List ℕ} → Part n t whole → Part k rest whole
  part_next w = record {
    trees = rw g.after (run_rest g.fewer w.trees);
    within = rw g.after (let l = later_shorter (from_suc w.trees).row in omega (arith, w.within, l));
  }

-- What falls with each call: six times the bytes left, and the steps to the next entry of the rule, five at most.
abbrev pub weight : ℕ → (d b : List ℕ) → ℕ
weight k d b = 6 * (length d + length b) + k

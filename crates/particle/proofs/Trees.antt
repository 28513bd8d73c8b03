-- Rows of trees, and the records that they are built from. Assumes nothing.
use mathlib.Core.Path.{◌≡◌, refl, ap}
use mathlib.Core.List.{List, [], ◌∷◌}
use Prim.Native.Nat.{ℕ, zero, suc, ◌+◌, ◌-◌, ◌≤◌, zero-le}
use native.Mathlib.Nat.{zero-add, suc-add}
use native.Mathlib.Omega.{arith}
use lib.ListN.{length, drop}
use Rattle.particle.specs.declared.Record.{Record}
use Rattle.particle.specs.Tree.{Items, none, item, take_i, drop_i, count_i, size_i, build}
use Rattle.particle.specs.Rows.{Complete}

pub drop_i_none : (n : ℕ) → drop_i n none ≡ none
unfolding drop_i
drop_i_none zero = refl
drop_i_none (suc n) = refl

pub take_i_none : (n : ℕ) → take_i n none ≡ none
unfolding take_i
take_i_none zero = refl
take_i_none (suc n) = refl

pub drop_i_add : (m n : ℕ) (x : Items) → drop_i n (drop_i m x) ≡ drop_i (m + n) x
unfolding drop_i
drop_i_add zero n x = rw zero-add
drop_i_add (suc m) n none = rw (drop_i_none n, drop_i_none (suc m + n))
drop_i_add (suc m) n (item h x y) = rw suc-add (drop_i_add m n y)

pub size_i_add : (m n : ℕ) (x : Items) → size_i (take_i m x) + size_i (take_i n (drop_i m x)) ≡ size_i (take_i (m + n) x)
unfolding take_i drop_i size_i
size_i_add zero n x = omega (arith, ap (λ (k : ℕ). size_i (take_i k x)) (zero-add n))
size_i_add (suc m) n none = rw (take_i_none n, take_i_none (suc m + n))
size_i_add (suc m) n (item h x y) = rw (suc-add m n) (omega (arith, size_i_add m n y))

pub size_i_split : (n : ℕ) (x : Items) → size_i (take_i n x) + size_i (drop_i n x) ≡ size_i x
unfolding take_i drop_i size_i
size_i_split zero x = zero-add (size_i x)
size_i_split (suc n) none = refl
size_i_split (suc n) (item h x y) = omega (arith, size_i_split n y)

pub count_i_drop : (n : ℕ) (x : Items) → count_i (drop_i n x) ≡ count_i x - n
unfolding drop_i count_i
count_i_drop zero x = omega arith
count_i_drop (suc n) none = omega arith
count_i_drop (suc n) (item h x y) = omega (arith, count_i_drop n y)

pub count_i_take : (n : ℕ) (x : Items) → n ≤ count_i x → count_i (take_i n x) ≡ n
unfolding take_i count_i
count_i_take zero x h = refl
count_i_take (suc n) none h = absurd (omega arith)
count_i_take (suc n) (item h x y) l = ap suc (count_i_take n y (omega arith))

pub count_i_le : (x : Items) → count_i x ≤ size_i x
unfolding count_i size_i
count_i_le none = zero-le
count_i_le (item h x y) = omega (arith, count_i_le y)

-- no record is lost
pub size_i_build : (rs : List Record) → size_i (build rs) ≡ length rs
unfolding build size_i
size_i_build [] = refl
size_i_build (r ∷ rs) = omega (arith, size_i_build rs, size_i_split r.count (build rs))

-- the records after those of the first n trees are those of the trees after them
pub build_drop : (rs : List Record) (n : ℕ) → build (drop (size_i (take_i n (build rs))) rs) ≡ drop_i n (build rs)
unfolding build take_i drop_i size_i
build_drop [] n = rw (take_i_none n, drop_i_none n)
build_drop (r ∷ rs) zero = refl
build_drop (r ∷ rs) (suc n) = rw (size_i_add r.count n (build rs), drop_i_add r.count n (build rs)) (build_drop rs (r.count + n))

pub complete_drop : (k : ℕ) (rs : List Record) → Complete rs → Complete (drop k rs)
unfolding Complete
complete_drop zero rs c = c
complete_drop (suc k) [] c = c
complete_drop (suc k) (r ∷ rs) c = complete_drop k rs c.1

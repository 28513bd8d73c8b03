-- The records of a list of bytes, one by one. Assumes nothing.
use mathlib.Core.Path.{◌≡◌, refl, ap}
use mathlib.Core.List.{List, [], ◌∷◌}
use Prim.Native.Nat.{ℕ, zero, suc, ◌+◌, ◌*◌, ◌/◌, ◌≤◌, ◌<◌}
use native.Mathlib.Omega.{arith}
use native.Mathlib.Decide.{dec_le}
use lib.ListN.{length, drop, length-drop}
use lib.Seq.{drop-drop, get_or-drop}
use Rattle.particle.specs.Record.{record_size, half, record_at}
use Rattle.particle.specs.Tree.{records, records_n}

-- the 16-bit number at byte i, counted from byte n on
pub half_drop : (n : ℕ) (t : List ℕ) (i : ℕ) → half (drop n t) i ≡ half t (n + i)
half_drop n t i =
    let e : n + (i + 1) ≡ n + i + 1 = omega arith in
    rw (get_or-drop n t i 0, get_or-drop n t (i + 1) 0, e)

pub records_cons : (t : List ℕ) → record_size ≤ length t → records t ≡ record_at t ∷ records (drop record_size t)
unfolding records records_n
records_cons t h =
    let e : length t / record_size ≡ suc (length (drop record_size t) / record_size) = omega (arith, length-drop record_size t) in
    ap (λ (n : ℕ). records_n n t) e

pub records_short : (t : List ℕ) → length t < record_size → records t ≡ []
unfolding records records_n
records_short t h =
    let e : length t / record_size ≡ 0 = omega arith in
    ap (λ (n : ℕ). records_n n t) e

length_records_n : (n : ℕ) (t : List ℕ) → length (records_n n t) ≡ n
unfolding records_n
length_records_n zero t = refl
length_records_n (suc n) t = ap suc (length_records_n n (drop record_size t))

pub length_records : (t : List ℕ) → length (records t) ≡ length t / record_size
unfolding records
length_records t = length_records_n (length t / record_size) t

drop_one : (t : List ℕ) → records (drop record_size t) ≡ drop 1 (records t)
drop_one t = go (dec_le record_size (length t))
  where
    go : Dec (record_size ≤ length t) → records (drop record_size t) ≡ drop 1 (records t)
    go (yes h) = rw (records_cons t h)
    go (no h) =
        let h₁ : length t < record_size = omega arith in
        let h₂ : length (drop record_size t) < record_size = omega (arith, length-drop record_size t) in
        rw (records_short t h₁, records_short (drop record_size t) h₂)

-- from record k on
pub records_drop : (k : ℕ) (t : List ℕ) → records (drop (record_size * k) t) ≡ drop k (records t)
records_drop zero t = refl
records_drop (suc k) t =
    let e : record_size * suc k ≡ record_size + record_size * k = omega arith in
    let e' : 1 + k ≡ suc k = omega arith in
    rw (e, ← drop-drop (record_size * k) record_size t, records_drop k (drop record_size t), drop_one t, drop-drop k 1 (records t), e')

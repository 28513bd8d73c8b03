-- Bytes stored one by one are the bytes of a number or a record, written over others. Assumes nothing.
use mathlib.Core.Path.{◌≡◌, ◌∙◌}
use mathlib.Core.List.{List, append_assoc}
use Prim.Native.Nat.{ℕ, ◌+◌, ◌/◌, ◌%◌, ◌^◌, ◌≤◌, ◌<◌}
use native.Mathlib.Numerals.{towards_suc}
use native.Mathlib.Omega.{arith}
use lib.ListN.{length, take, drop, set}
use Rattle.std.specs.Int.{w16, w32, to_le_bytes}
use lib.Seq.{sets, sets-eq}
use Rattle.particle.specs.declared.Record.{Record}
use Rattle.particle.specs.Record.{record_size, at_kind, at_leaf, at_count, at_unbounded, at_zero, at_size, at_min, at_max, half_bytes, word_bytes, record_bytes}
use Rattle.particle.specs.Write.{overwrite}

-- the bytes that std gives of a number of 16 bits and of 32
pub bytes_of_half : {n : ℕ} {bytes : List ℕ} → n < 2 ^ 16 → bytes ≡ to_le_bytes w16 n → bytes ≡ half_bytes n
bytes_of_half {n} l e =
    let high : n / 256 % 256 ≡ n / 256 = omega arith in
    e ∙ rw high

pub bytes_of_word : {n : ℕ} {bytes : List ℕ} → n < 2 ^ 32 → bytes ≡ to_le_bytes w32 n → bytes ≡ word_bytes n
bytes_of_word {n} l e =
    let high : n / 16777216 % 256 ≡ n / 16777216 = omega arith in
    e ∙ rw high

-- a record, as `write_record` stores it
pub record_stored : (out : List ℕ) {one two three four count size min max : List ℕ} (at : ℕ) (r : Record) → at + record_size ≤ length out
    → count ≡ half_bytes r.count → one ≡ sets (set (set out (at + at_kind) r.kind) (at + at_leaf) r.leaf) (at + at_count) count
    → size ≡ half_bytes r.size → two ≡ sets (set (set one (at + at_unbounded) r.unbounded) (at + at_zero) r.zero) (at + at_size) size
    → min ≡ word_bytes r.min → three ≡ sets two (at + at_min) min
    → max ≡ word_bytes r.max → four ≡ sets three (at + at_max) max
    → four ≡ overwrite at (record_bytes r) out
unfolding overwrite
record_stored out at r h count one size two min three max four =
    let e : sets out at (record_bytes r) ≡ overwrite at (record_bytes r) out = sets-eq (record_bytes r) out at h ∙ append_assoc (take at out) (record_bytes r) (drop (at + record_size) out) in
    let z : at + at_kind ≡ at = omega arith in
    let m : at + at_max ≡ at + at_min + 4 = omega arith in
    rw (four, max, three, min, two, size, one, count, z, m) (simp towards_suc e)

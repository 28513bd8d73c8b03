-- Bytes and the widths of a record's fields: records read from bytes have fields of their widths, and records with such fields are bytes. Assumes nothing.
use mathlib.Core.List.{List, [], ◌∷◌, ◌++◌}
use Prim.Native.Nat.{ℕ, zero, suc, ◌+◌, ◌/◌, ◌^◌, ◌<◌}
use native.Mathlib.Omega.{arith}
use lib.ListN.{length, drop}
use Rattle.particle.specs.declared.Record.{Record}
use Rattle.particle.specs.Record.{record_size, at_kind, at_leaf, at_count, at_unbounded, at_zero, at_size, at_min, at_max, record_bytes, half, half_bytes, word, word_bytes}
use Rattle.particle.specs.Tree.{records, records_n}
use Rattle.particle.specs.Encode.{joined, Bytes}
use Rattle.particle.proofs.RoundTrip.{byte_at, bytes_drop}

-- four bytes, two numbers of 16 bits and two of 32
pub record Wide (r : Record) : Type 0 where
  pub kind : r.kind < 256
  pub leaf : r.leaf < 256
  pub count : r.count < 2 ^ 16
  pub unbounded : r.unbounded < 256
  pub zero : r.zero < 256
  pub size : r.size < 2 ^ 16
  pub min : r.min < 2 ^ 32
  pub max : r.max < 2 ^ 32

unfoldable pub Widths : List Record → Type 0
Widths [] = Unit {0}
Widths (r ∷ rs) = Wide r × Widths rs

-- From bytes to records --------------------------------------------------------

half_width : (t : List ℕ) → Bytes t → (i : ℕ) → half t i < 2 ^ 16
half_width t b i = omega (arith, byte_at t b i, byte_at t b (i + 1))

word_width : (t : List ℕ) → Bytes t → (i : ℕ) → word t i < 2 ^ 32
word_width t b i = omega (arith, byte_at t b i, byte_at t b (i + 1), byte_at t b (i + 2), byte_at t b (i + 3))

widths_from : (n : ℕ) (t : List ℕ) → Bytes t → Widths (records_n n t)
unfolding Widths records_n
widths_from zero t b = tt
widths_from (suc n) t b = (
  record { kind = byte_at t b at_kind; leaf = byte_at t b at_leaf; count = half_width t b at_count; unbounded = byte_at t b at_unbounded; zero = byte_at t b at_zero; size = half_width t b at_size; min = word_width t b at_min; max = word_width t b at_max },
  widths_from n (drop record_size t) (bytes_drop record_size t b),
)

pub widths : (t : List ℕ) → Bytes t → Widths (records t)
unfolding records
widths t b = widths_from (length t / record_size) t b

-- From records to bytes --------------------------------------------------------

pub bytes_append : (s t : List ℕ) → Bytes s → Bytes t → Bytes (s ++ t)
unfolding Bytes
bytes_append [] t b c = c
bytes_append (x ∷ s) t b c = (b.0, bytes_append s t b.1 c)

pub half_bytes_lem : (n : ℕ) → n < 2 ^ 16 → Bytes (half_bytes n)
unfolding Bytes
half_bytes_lem n l = (omega arith, (omega arith, tt))

pub word_bytes_lem : (n : ℕ) → n < 2 ^ 32 → Bytes (word_bytes n)
unfolding Bytes
word_bytes_lem n l = (omega arith, (omega arith, (omega arith, (omega arith, tt))))

record_bytes_lem : (r : Record) → Wide r → Bytes (record_bytes r)
unfolding Bytes
record_bytes_lem r w =
    let pair = bytes_append (word_bytes r.min) (word_bytes r.max) (word_bytes_lem r.min w.min) (word_bytes_lem r.max w.max) in
    let size = bytes_append (half_bytes r.size) (word_bytes r.min ++ word_bytes r.max) (half_bytes_lem r.size w.size) pair in
    let mark : Bytes (r.unbounded ∷ r.zero ∷ (half_bytes r.size ++ (word_bytes r.min ++ word_bytes r.max))) = (w.unbounded, (w.zero, size)) in
    (w.kind, (w.leaf, bytes_append (half_bytes r.count) (r.unbounded ∷ r.zero ∷ (half_bytes r.size ++ (word_bytes r.min ++ word_bytes r.max))) (half_bytes_lem r.count w.count) mark))

pub widths_append : (rs ss : List Record) → Widths rs → Widths ss → Widths (rs ++ ss)
unfolding Widths
widths_append [] ss w v = v
widths_append (r ∷ rs) ss w v = (w.0, widths_append rs ss w.1 v)

pub widths_joined : (rs : List Record) → Widths rs → Bytes (joined rs)
unfolding Widths joined Bytes
widths_joined [] w = tt
widths_joined (r ∷ rs) w = bytes_append (record_bytes r) (joined rs) (record_bytes_lem r w.0) (widths_joined rs w.1)

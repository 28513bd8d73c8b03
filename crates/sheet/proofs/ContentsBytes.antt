-- The contents and their bytes: reading undoes writing, and writing undoes reading. No other file of proofs says how the contents lie. Assumes nothing.
use mathlib.Core.Path.{◌≡◌, refl, ap, sym, ◌∙◌}
use mathlib.Core.List.{List, ◌∷◌, ◌++◌}
use Prim.Native.Nat.{ℕ, ◌+◌, ◌≤◌, ◌<◌}
use native.Mathlib.Nat.{mul-le-mul}
use native.Mathlib.Omega.{arith}
use lib.ListN.{length, drop, get_or}
use Rattle.particle.specs.Record.{max_records, half, half_bytes}
use Rattle.particle.specs.Encode.{Bytes}
use Rattle.particle.proofs.RoundTrip.{from, from_drop, halves, half_from}
use Rattle.particle.proofs.Widths.{bytes_append, half_bytes_lem}
use Rattle.intake.specs.Limits.{max_leaves}
use Rattle.sheet.specs.Layout.{contents_size, leaf_count, derived_count, base_count, zero_byte, total_field, total_of, whole_length, contents_bytes}
use Rattle.sheet.proofs.Contents.{Contents}

-- s starts with the contents of n leaves, d derived and b base records, and these bodies follow
pub record Starts (s : List ℕ) (n d b : ℕ) (bodies : List ℕ) : Type 0 where
  pub leaves : leaf_count s ≡ n
  pub derived : derived_count s ≡ d
  pub base : base_count s ≡ b
  pub zero : zero_byte s ≡ 0
  pub field : total_field s ≡ total_of n d b
  pub after : drop contents_size s ≡ bodies
  pub size : length s ≡ contents_size + length bodies

pub contents_back : (n d b : ℕ) (bodies : List ℕ) → Starts (contents_bytes n d b ++ bodies) n d b bodies
contents_back n d b bodies = record {
  leaves = refl;
  derived = halves d;
  base = halves b;
  zero = refl;
  field = halves (total_of n d b);
  after = refl;
  size = omega arith;
}

pub contents_forth : (s : List ℕ) → Bytes s → Contents s → s ≡ contents_bytes (leaf_count s) (derived_count s) (base_count s) ++ drop contents_size s
unfolding from
contents_forth s b c =
    let total : half_bytes (whole_length s) ≡ from 2 6 s = ap half_bytes (sym c.field) ∙ half_from s b 6 in
    sym (from_drop contents_size 0 s c.start)
    ∙ sym (λ i. leaf_count s ∷ sym c.zero i ∷ ((half_from s b 2 i ++ (half_from s b 4 i ++ total i)) ++ drop contents_size s))

pub contents_bytes_lem : (n d b : ℕ) → n ≤ max_leaves → d ≤ max_records → b ≤ max_records → Bytes (contents_bytes n d b)
unfolding Bytes
contents_bytes_lem n d b hn hd hb =
    let total = half_bytes_lem (total_of n d b) (omega (arith, mul-le-mul hn hn)) in
    let base = bytes_append (half_bytes b) (half_bytes (total_of n d b)) (half_bytes_lem b (omega arith)) total in
    (omega arith, (omega arith, bytes_append (half_bytes d) (half_bytes b ++ half_bytes (total_of n d b)) (half_bytes_lem d (omega arith)) base))

-- two sheets with the same contents
pub record SameContents (s s' : List ℕ) : Type 0 where
  pub leaves : leaf_count s' ≡ leaf_count s
  pub zero : zero_byte s' ≡ zero_byte s
  pub derived : derived_count s' ≡ derived_count s
  pub base : base_count s' ≡ base_count s
  pub field : total_field s' ≡ total_field s

-- they start with the same bytes
pub same_contents : (s s' : List ℕ) → ((i : ℕ) → i < contents_size → get_or s' i 0 ≡ get_or s i 0) → SameContents s s'
same_contents s s' same =
    let same_half : (i : ℕ) → i + 1 < contents_size → half s' i ≡ half s i = λ i l. rw (same i (omega arith), same (i + 1) l) in
    record { leaves = same 0 (omega arith); zero = same 1 (omega arith); derived = same_half 2 (omega arith); base = same_half 4 (omega arith); field = same_half 6 (omega arith) }

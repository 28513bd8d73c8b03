-- How long a sheet is that is not refused 1: as long as the smallest, at least, and as the largest, at most. Assumes nothing.
use Rattle.std.specs.Prelude.{Err}
use mathlib.Core.Path.{◌≡◌, refl}
use mathlib.Core.Bool.{Bool, true, false}
use mathlib.Core.List.{List}
use Prim.Native.Nat.{ℕ, ◌≤◌, ◌<◌}
use native.Mathlib.Nat.{mul-le-mul}
use native.Mathlib.Omega.{arith}
use lib.ListN.{length}
use Rattle.particle.specs.Record.{max_records}
use Rattle.intake.specs.declared.Refusal.TheVariants as refusal
use Rattle.intake.specs.Limits.{max_leaves}
use Rattle.sheet.specs.Layout.{total_of}
use Rattle.sheet.specs.Refused.{contents_ok, sheet_refusal}
use Rattle.sheet.proofs.Contents.{contents}

pub smallest_is : total_of 1 1 1 ≡ 46
smallest_is = refl

pub largest_is : total_of max_leaves max_records max_records ≡ 40456
largest_is = refl

pub contents_length : (s : List ℕ) → contents_ok s ≡ true → (total_of 1 1 1 ≤ length s) × (length s ≤ total_of max_leaves max_records max_records)
contents_length s e =
    let c = contents s e in (
      omega (arith, c.whole, c.leaves.low, c.derived.low, c.base.low, mul-le-mul c.leaves.low c.leaves.low),
      omega (arith, c.whole, c.leaves.high, c.derived.high, c.base.high, mul-le-mul c.leaves.high c.leaves.high),
    )

-- a sheet that is longer than the largest is refused 1
pub longer_refused : (s : List ℕ) → total_of max_leaves max_records max_records < length s → sheet_refusal s ≡ Err refusal.Contents
unfolding sheet_refusal
longer_refused s l = go (contents_ok s) refl
  where
    go : (b : Bool) → contents_ok s ≡ b → sheet_refusal s ≡ Err refusal.Contents
    go true e = absurd (omega (arith, (contents_length s e).1))
    go false e = rw e

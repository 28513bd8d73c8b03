-- What holds of a sheet that is not refused: what the marking needs of its parts. Assumes nothing.
use Rattle.std.specs.Prelude.{Ok}
use mathlib.Core.Path.{◌≡◌}
use mathlib.Core.Bool.{true}
use mathlib.Core.List.{List}
use Prim.Native.Nat.{ℕ, ◌*◌, ◌≤◌}
use native.Mathlib.Omega.{arith}
use lib.ListN.{length}
use Rattle.particle.specs.Record.{record_size, max_records}
use Rattle.particle.specs.Tree.{records}
use Rattle.particle.specs.Rows.{Row}
use Rattle.particle.specs.Encode.{Faithful}
use Rattle.intake.specs.Scan.{refusal_in}
use Rattle.intake.proofs.AcceptedFits.{accepted_row, accepted_faithful}
use Rattle.verdicts.specs.Paper.{leaf_size, leaves_of}
use Rattle.sheet.specs.Layout.{leaf_count, leaf_list, leaves_part, tables_part, derived_part, base_part}
use Rattle.sheet.specs.Refused.{contents_ok, leaves_ok, verdicts_ok, known_in, sheet_refusal}
use Rattle.sheet.proofs.Contents as C
use Rattle.sheet.proofs.Contents.{contents}

-- each check passed
pub record Passed (s : List ℕ) : Type 0 where
  pub contents : contents_ok s ≡ true
  pub leaves : leaves_ok (leaf_list s) ≡ true
  pub verdicts : verdicts_ok (tables_part s) ≡ true
  pub base : refusal_in (known_in s) (base_part s) ≡ Ok tt
  pub derived : refusal_in (known_in s) (derived_part s) ≡ Ok tt

pub passed : (s : List ℕ) → sheet_refusal s ≡ Ok tt → Passed s
unfolding sheet_refusal
passed s e = record { contents = grind arith; leaves = grind arith; verdicts = grind arith; base = grind arith; derived = grind arith }

pub not_refused : (s : List ℕ) → Passed s → sheet_refusal s ≡ Ok tt
unfolding sheet_refusal
not_refused s p = rw (p.contents, p.leaves, p.verdicts, p.base, p.derived)

-- the trees, the tables and the leaves of a sheet that is not refused
module _ {s : List ℕ} (p : Passed s) where
  sound : C.Contents s
  sound = contents s p.contents

  pub derived_row : Row 1 (derived_part s)
  derived_row = accepted_row (known_in s) (derived_part s) p.derived

  pub base_row : Row 1 (base_part s)
  base_row = accepted_row (known_in s) (base_part s) p.base

  pub derived_faithful : Faithful (records (derived_part s))
  derived_faithful = accepted_faithful (known_in s) (derived_part s) p.derived

  pub base_faithful : Faithful (records (base_part s))
  base_faithful = accepted_faithful (known_in s) (base_part s) p.base

  pub derived_few : length (derived_part s) ≤ record_size * max_records
  derived_few = omega (arith, C.length_derived sound, sound.derived.high)

  pub base_few : length (base_part s) ≤ record_size * max_records
  base_few = omega (arith, C.length_base sound, sound.base.high)

  pub leaves_length : length (leaves_part s) ≡ leaf_size * leaf_count s
  leaves_length = C.length_leaves sound

  pub leaves_count : (leaves_of (leaves_part s)).count ≡ leaf_count s
  leaves_count = omega (arith, leaves_length)

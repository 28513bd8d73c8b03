-- A tree's first refusal, by the length of its bytes. Assumes nothing.
use Rattle.std.specs.Prelude.{Ok}
use mathlib.Core.Path.{◌≡◌}
use mathlib.Core.Bool.{false}
use mathlib.Core.List.{List, [], ◌∷◌}
use Prim.Native.Nat.{ℕ, ◌*◌, ◌%◌, ◌≤◌}
use native.Mathlib.Omega.{arith}
use lib.ListN.{length}
use Rattle.std.proofs.lemmas.Bool.Decides.{nat_tests}
use borrow.Author.Tests.{eq-eqb, ne_eqb, le-ltb}
use Rattle.particle.specs.Record.{record_size, max_records}
use Rattle.particle.specs.Tree.{records}
use Rattle.intake.specs.Faults.{Known}
use Rattle.intake.specs.Scan.{level, scan, refusal_in}

-- some whole records, and not too many
pub record Sized (t : List ℕ) : Type 0 where
  pub some : length t ≡ 0 → ⊥
  pub few : length t ≤ record_size * max_records
  pub even : length t % record_size ≡ 0

module _ (known : Known) (t : List ℕ) where
  pub scanned : Sized t → refusal_in known t ≡ scan known (records t) (level 1 false ∷ [])
  unfolding refusal_in
  scanned s = rw (ne_eqb _ _ s.some, le-ltb _ _ s.few, eq-eqb _ _ s.even)

  -- what is accepted is whole records
  pub sized : refusal_in known t ≡ Ok tt → Sized t
  unfolding refusal_in
  sized e = record { some = λ z. grind (arith, nat_tests); few = grind (arith, nat_tests); even = grind (arith, nat_tests) }

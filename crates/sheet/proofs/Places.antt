-- A byte is a verdict just if it is at most 152 and its place from 140 on at most 117; the greatest of many numbers tells of all. Assumes nothing.
use Rattle.std.proofs.lemmas.Bool.Decides.{nat_tests}
use mathlib.Core.Path.{◌≡◌}
use mathlib.Core.Bool.{◌&&◌, ◌||◌}
use Prim.Native.Nat.{ℕ, max}
use native.Mathlib.Omega.{arith}
use lib.Dec.{leb}
use Rattle.sheet.specs.Refused.{verdict_ok}

-- The greatest number ----------------------------------------------------------

leb_max : (a b m : ℕ) → leb (max a b) m ≡ (leb a m && leb b m)
leb_max a b m = grind (arith, nat_tests)

-- two greatest numbers, of a and of b and of more, each held to its bound
pub both_most : (x a m y b n : ℕ) → (leb (max x a) m && leb (max y b) n) ≡ (leb x m && leb y n && (leb a m && leb b n))
both_most x a m y b n = rw (leb_max x a m, leb_max y b n) (grind arith)

-- Places -----------------------------------------------------------------------

pub verdict_by_place : (v : ℕ) → (leb v 152 && (leb 140 v || leb v 1)) ≡ verdict_ok v
verdict_by_place v = grind (arith, nat_tests)

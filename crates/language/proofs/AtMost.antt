-- What `range_ok` says of a number of rounds. Assumes nothing.
use mathlib.Core.Bool.{true, false≢true}
use mathlib.Core.Path.{◌≡◌}
use Prim.Native.Nat.{ℕ}
use native.Mathlib.Nat.{le_trans}
use native.Mathlib.Omega.{arith}
use borrow.Author.Tests.{leb-true}
use Rattle.particle.specs.declared.MaxOccurs.{MaxOccurs}
use Rattle.particle.specs.declared.MaxOccurs.TheVariants.{Bounded, Unbounded}
use Rattle.particle.specs.Occurs.{max_ok}
use Rattle.language.specs.Language.{AtMost}

-- 0 rounds are within every maximum
pub zero_most : (m : MaxOccurs) → AtMost 0 m
zero_most (Bounded n) = omega arith
zero_most Unbounded = tt

pub at_most : (n : ℕ) (a b : MaxOccurs) → max_ok a b ≡ true → AtMost n a → AtMost n b
at_most n (Bounded a) (Bounded b) t h = le_trans h (leb-true a b t)
at_most n (Bounded a) Unbounded t h = tt
at_most n Unbounded (Bounded b) t h = absurd (false≢true t)
at_most n Unbounded Unbounded t h = tt

-- What a pass says of its parts. Assumes nothing.
use mathlib.Core.Bool.{Bool, true, false}
use mathlib.Core.Logic.{◌⊎◌, inl, inr, ⊎_elim}
use mathlib.Core.Path.{◌≡◌, refl, sym, subst}
use Prim.Native.Nat.{ℕ}
use lib.Dec.{leb}
use Rattle.particle.specs.declared.MaxOccurs.{MaxOccurs}
use Rattle.particle.specs.declared.MaxOccurs.TheVariants.{Bounded, Unbounded}
use Rattle.particle.specs.Occurs.{max_ok}
use Rattle.rules.specs.Verdicts.{Mark, passes, undecided, fails}
use Rattle.rules.specs.Combine.{◌or_fails◌, ◌and_then◌, ◌or_else◌, combine_readings}
use Rattle.rules.specs.Element.{max_restrict}
use Rattle.rules.proofs.Settles.{readings_or, step}

abbrev pub Passes : Mark → Type 0
Passes passes = Unit {0}
Passes undecided = ⊥
Passes (fails r) = ⊥

pub pass_is : (m : Mark) → Passes m → m ≡ passes
pass_is passes t = refl
pass_is undecided t = absurd t
pass_is (fails r) t = absurd t

pub is_pass : {m : Mark} → m ≡ passes → Passes m
is_pass e = subst Passes (sym e) tt

pub and_passes : (m n : Mark) → Passes (m and_then n) → Passes m × Passes n
and_passes passes n t = (tt, t)
and_passes undecided n t = absurd t
and_passes (fails r) n t = absurd t

pub or_passes : (m n : Mark) → Passes (m or_else n) → Passes m ⊎ Passes n
or_passes passes n t = inl tt
or_passes undecided passes t = inr tt
or_passes undecided undecided t = absurd t
or_passes undecided (fails s) t = absurd t
or_passes (fails r) n t = inr t

pub readings_pass : (m n : Mark) → Passes (combine_readings m n) → Passes m ⊎ Passes n
readings_pass m n t = ⊎_elim inr inl (or_passes n m (rw (readings_or m n) at t))

-- a test
pub test_passes : (c : Bool) (r : ℕ) → Passes (c or_fails r) → c ≡ true
test_passes true r t = refl
test_passes false r t = absurd t

-- a test, and then a mark
pub guard_passes : (c : Bool) (r : ℕ) (n : Mark) → Passes (c or_fails r and_then n) → (c ≡ true) × Passes n
guard_passes true r n t = (refl, t)
guard_passes false r n t = absurd t

-- a test whose failing ends it
pub skip_passes : (c : Bool) (r : ℕ) (n : Mark) → Passes (elim c as (λ _. Mark) [ true ↦ n | false ↦ fails r ]) → (c ≡ true) × Passes n
skip_passes true r n t = (refl, t)
skip_passes false r n t = absurd t

-- one step of the ordered walk: the two items passed, or the base item was skipped
pub step_passes : (m a b : Mark) (c : Bool) → Passes (step m a b c) → (Passes m × Passes a) ⊎ ((c ≡ true) × Passes b)
step_passes passes a b c t = inl (tt, t)
step_passes undecided a b c t = absurd t
step_passes (fails r) a b true t = inr (refl, t)
step_passes (fails r) a b false t = absurd t

pub max_passes : (a b : MaxOccurs) → Passes (max_restrict a b) → max_ok a b ≡ true
max_passes (Bounded a) (Bounded b) t = test_passes (leb a b) 124 t
max_passes (Bounded a) Unbounded t = refl
max_passes Unbounded (Bounded b) t = absurd t
max_passes Unbounded Unbounded t = refl

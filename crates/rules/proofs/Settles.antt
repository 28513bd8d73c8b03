-- The order of marks by which undecided may become anything and a definite mark stays as it is; whatever combines marks keeps it. Assumes nothing.
use mathlib.Core.Bool.{Bool, true, false}
use mathlib.Core.Path.{◌≡◌, refl}
use Rattle.rules.specs.Verdicts.{Mark, passes, undecided, fails}
use Rattle.rules.specs.Combine.{◌and_then◌, ◌or_else◌, combine_readings}

infix 20 ◌⊑◌
-- n is m, unless m is undecided
pub data ◌⊑◌ : Mark → Mark → Type 0 where
  stays : {m : Mark} → m ⊑ m
  settled : {n : Mark} → undecided ⊑ n

pub antisym : {m n : Mark} → m ⊑ n → n ⊑ m → m ≡ n
antisym stays q = refl
antisym settled q = least q
  where
    least : {n : Mark} → n ⊑ undecided → undecided ≡ n
    least stays = refl
    least settled = refl

pub and_settles : {m m' n n' : Mark} → m ⊑ m' → n ⊑ n' → m and_then n ⊑ m' and_then n'
and_settles settled q = settled
and_settles {m} {n} {n'} stays q = go m
  where
    go : (m : Mark) → m and_then n ⊑ m and_then n'
    go passes = q
    go undecided = settled
    go (fails r) = stays

pub or_settles : {m m' n n' : Mark} → m ⊑ m' → n ⊑ n' → m or_else n ⊑ m' or_else n'
or_settles stays stays = stays
or_settles {m} {n'} stays settled = go m n'
  where
    go : (m n : Mark) → m or_else undecided ⊑ m or_else n
    go passes n = stays
    go undecided n = settled
    go (fails r) n = settled
or_settles {m'} {n} settled stays = go m' n
  where
    go : (m n : Mark) → undecided or_else n ⊑ m or_else n
    go passes passes = stays
    go undecided passes = stays
    go (fails r) passes = stays
    go m undecided = settled
    go m (fails s) = settled
or_settles settled settled = settled

-- the two readings are alternatives, the second one first
pub readings_or : (m n : Mark) → combine_readings m n ≡ n or_else m
readings_or passes passes = refl
readings_or passes undecided = refl
readings_or passes (fails s) = refl
readings_or undecided passes = refl
readings_or undecided undecided = refl
readings_or undecided (fails s) = refl
readings_or (fails r) passes = refl
readings_or (fails r) undecided = refl
readings_or (fails r) (fails s) = refl

pub readings_settle : {m m' n n' : Mark} → m ⊑ m' → n ⊑ n' → combine_readings m n ⊑ combine_readings m' n'
readings_settle {m} {m'} {n} {n'} p q = rw (readings_or m n, readings_or m' n') (or_settles q p)

pub test_settles : (c : Bool) {m m' n n' : Mark} → m ⊑ m' → n ⊑ n' → elim c as (λ _. Mark) [ true ↦ m | false ↦ n ] ⊑ elim c as (λ _. Mark) [ true ↦ m' | false ↦ n' ]
test_settles true p q = p
test_settles false p q = q

-- one step of the ordered walk: m the mark of the two items, a where both advance, b where the base item is skipped, c whether it may be
abbrev pub step : (m a b : Mark) → Bool → Mark
step m a b c = elim m [ passes ↦ a | undecided ↦ undecided | fails r ↦ elim c [ true ↦ b | false ↦ fails r ] ]

pub step_settles : (c : Bool) {m m' a a' b b' : Mark} → m ⊑ m' → a ⊑ a' → b ⊑ b' → step m a b c ⊑ step m' a' b' c
step_settles c settled p q = settled
step_settles c {m} {a} {a'} {b} {b'} stays p q = go m
  where
    go : (m : Mark) → step m a b c ⊑ step m a' b' c
    go passes = p
    go undecided = settled
    go (fails r) = test_settles c q stays

-- Rows of verdicts filled in: they are in order as before, and each verdict is left or filled in. Assumes nothing.
use mathlib.Core.List.{List, [], ◌∷◌}
use mathlib.Core.Path.{◌≡◌, refl}
use Prim.Native.Nat.{ℕ, zero, suc, ◌≤◌, ◌<◌}
use native.Mathlib.Omega.{arith}
use lib.ListN.{length, get_or}
use borrow.Author.Tests.{lt-leb, le-leb}
use Rattle.rules.specs.Demand as rules
use Rattle.rules.specs.Demand.{FilledVerdict}
use Rattle.verdicts.specs.Paper.{verdict_of}
use Rattle.sheet.specs.Refused.{every, verdict_ok, verdicts_ok}
use Rattle.marking.specs.Demand.{FilledByte, unchanged, filled_ok, filled_reason}

-- two rows of verdicts, byte by byte
pub data FilledRow : (before after : List ℕ) → Type 0 where
  none : FilledRow [] []
  more : {v v' : ℕ} {vs vs' : List ℕ} → FilledByte v v' → FilledRow vs vs' → FilledRow (v ∷ vs) (v' ∷ vs')

pub filled_row : (t t' : List ℕ) → length t' ≡ length t → ((i : ℕ) → i < length t → FilledByte (get_or t i 0) (get_or t' i 0)) → FilledRow t t'
filled_row [] [] e f = none
filled_row [] (v ∷ t') e f = absurd (omega arith)
filled_row (v ∷ t) [] e f = absurd (omega arith)
filled_row (v ∷ t) (v' ∷ t') e f = more (f 0 (omega arith)) (filled_row t t' (omega arith) (λ i l. f (suc i) (omega arith)))

-- a verdict that is filled in is in order
reason_ok : (r : ℕ) → 140 ≤ r → r ≤ 152 → verdict_ok r ≡ verdict_ok 1
reason_ok r l h =
    let n : 1 < r = omega arith in
    rw (lt-leb r 1 n, le-leb 140 r l, le-leb r 152 h)

byte_ok : {v v' : ℕ} → FilledByte v v' → verdict_ok v' ≡ verdict_ok v
byte_ok unchanged = refl
byte_ok filled_ok = refl
byte_ok (filled_reason {r} l h) = reason_ok r l h

pub row_ok : {t t' : List ℕ} → FilledRow t t' → verdicts_ok t' ≡ verdicts_ok t
unfolding every
row_ok none = refl
row_ok (more b r) = rw (byte_ok b, row_ok r)

-- the verdict that a byte is
reason_verdict : (r : ℕ) → 140 ≤ r → r ≤ 152 → FilledVerdict (verdict_of 1) (verdict_of r)
reason_verdict zero l h = absurd (omega arith)
reason_verdict (suc zero) l h = absurd (omega arith)
reason_verdict (suc (suc r)) l h = rw (le-leb 140 (suc (suc r)) l, le-leb (suc (suc r)) 152 h) (rules.filled_reason l h)

byte_verdict : {v v' : ℕ} → FilledByte v v' → FilledVerdict (verdict_of v) (verdict_of v')
byte_verdict unchanged = rules.unchanged
byte_verdict filled_ok = rules.filled_ok
byte_verdict (filled_reason {r} l h) = reason_verdict r l h

-- past the row's end both are undecided
pub row_verdict : {t t' : List ℕ} → FilledRow t t' → (i : ℕ) → FilledVerdict (verdict_of (get_or t i 1)) (verdict_of (get_or t' i 1))
row_verdict none i = rules.unchanged
row_verdict (more b r) zero = byte_verdict b
row_verdict (more b r) (suc i) = row_verdict r i

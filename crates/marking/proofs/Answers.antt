-- What an answer that is a mark says: the sheet is accepted, and the mark is its mark. Assumes nothing.
use Rattle.std.specs.Prelude.{Result, Ok, Err}
use Rattle.intake.specs.declared.Refusal.{Refusal}
use mathlib.Core.Path.{◌≡◌, refl}
use Prim.Native.Nat.{ℕ}
use native.Mathlib.Omega.{arith}
use Rattle.rules.specs.Verdicts.{Mark}
use Rattle.entries.specs.Answer.{gives}
use Rattle.marking.specs.Answer.{answer_of}

pub answer_gives : (c : Result (Unit {0}) Refusal) (m : Mark) {n : Mark} → answer_of c m ≡ gives n → (c ≡ Ok tt) × (m ≡ n)
answer_gives (Ok _) m e = (refl, cc)
answer_gives (Err r) m e = absurd (let z : ◌≡◌ {A = ℕ} 0 1 = cc in omega arith)

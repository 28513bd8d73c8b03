-- What the rules of the mark answer and read: marks, the leaves of a sheet, its two verdict tables. Assumes nothing: these are definitions.
use Rattle.std.specs.Prelude.{Bool, ℕ}

-- A mark: passes, undecided, or fails with its reason's number. A verdict on two leaves is one too: ok is `passes`, a reason that the paper sets is `fails`.
pub data Mark : Type 0 where
  passes undecided : Mark
  fails : (reason : ℕ) → Mark

-- The leaves of a sheet: their count; then, by leaf number, the kind, process contents (`strength`: 0 skip, 1 lax, 2 strict) and local name number.
pub record Leaves : Type 0 where
  pub count : ℕ
  pub is_wildcard : ℕ → Bool
  pub strength : ℕ → ℕ
  pub local_name : ℕ → ℕ

-- The first and the second table of verdicts: row derived, column base, by leaf numbers. Filling in touches these only.
pub record Tables : Type 0 where
  pub first : ℕ → ℕ → Mark
  pub second : ℕ → ℕ → Mark

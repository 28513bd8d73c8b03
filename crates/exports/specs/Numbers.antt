-- What the exported numbers mean, and what is written to a lent buffer. Assumes nothing: these are definitions.
use Rattle.std.specs.Prelude.{Bool, true, false, cond, List, ℕ, ◌+◌, leb, length}
use Rattle.std.proofs.Math.Option.{Option, none, some}
use Rattle.totals.specs.declared.ranges.TotalMin.{TotalMin}
use Rattle.totals.specs.declared.ranges.TotalMin.TheVariants as least
use Rattle.totals.specs.declared.ranges.TotalMax.{TotalMax}
use Rattle.totals.specs.declared.ranges.TotalMax.TheVariants as most
use Rattle.totals.specs.declared.ranges.TotalRange.{TotalRange}
use Rattle.entries.specs.Answer.{Answer, gives, refused}
use Rattle.entries.specs.TidyAnswer.{starting_with}
use Rattle.rules.specs.Verdicts.{Mark, passes, undecided, fails}

-- 2 to the power 32
abbrev pub beyond : ℕ
beyond = 4294967296

-- 2 to the power 33: a minimum or a maximum that is too large
abbrev pub too_large : ℕ
too_large = 8589934592

abbrev pub total_min_number : TotalMin → ℕ
total_min_number (least.Exact n) = n
total_min_number least.TooLarge = too_large

abbrev pub total_max_number : TotalMax → ℕ
total_max_number (most.Bounded n) = n
total_max_number most.TooLarge = too_large
total_max_number most.Unbounded = beyond

abbrev pub min_number : Answer TotalRange → ℕ
min_number (gives o) = total_min_number o.min
min_number (refused n) = beyond + n

abbrev pub max_number : Answer TotalRange → ℕ
max_number (gives o) = total_max_number o.max
max_number (refused n) = beyond + n

abbrev pub emptiable_number : Answer Bool → ℕ
emptiable_number (gives true) = 1
emptiable_number (gives false) = 0
emptiable_number (refused n) = n

abbrev pub count_number : Answer ℕ → ℕ
count_number (gives n) = n
count_number (refused n) = beyond + n

-- the joined tree's record count, 0 where no level has content
abbrev pub joined_number : Answer (Option ℕ) → ℕ
joined_number (gives (some n)) = n
joined_number (gives none) = 0
joined_number (refused n) = beyond + n

-- 0 passes, 1 undecided, the reason's number, or 1000 + the refusal's
abbrev pub mark_number : Answer Mark → ℕ
mark_number (gives passes) = 0
mark_number (gives undecided) = 1
mark_number (gives (fails r)) = r
mark_number (refused n) = 1000 + n

-- a verdict's own number, or 1000 + the refusal's
abbrev pub verdict_number : Answer ℕ → ℕ
verdict_number (gives v) = v
verdict_number (refused n) = 1000 + n

-- 0 for a sheet that is filled in, or 1000 + the refusal's
abbrev pub filled_number : Answer (Unit {0}) → ℕ
filled_number (gives done) = 0
filled_number (refused n) = 1000 + n

-- the buffer with s at its start, where s fits; else the buffer
abbrev pub written : List ℕ → List ℕ → List ℕ
written s out = cond (leb (length s) (length out)) (starting_with s out) out

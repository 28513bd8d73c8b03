-- The reasons that Mark a sheet answers. Assumes nothing: these are definitions.
use Rattle.std.specs.Prelude.{true, List, ◌≡◌, ℕ}
use Rattle.rules.specs.Verdicts.{fails}
use Rattle.rules.specs.Shown.{can_show}
use Rattle.entries.specs.Answer.{gives}
use Rattle.marking.specs.Answer.{mark_sheet}

-- Where a sheet's mark is a failure, its reason is 101 to 109, 113 to 124 or 140 to 152.
abbrev pub SheetReasonsShown : Type 0
SheetReasonsShown = (s : List ℕ) (r : ℕ) → mark_sheet s ≡ gives (fails r) → can_show r ≡ true

-- No sheet's mark shows a reason of the second reading: base minimum above 1 (110, 112), no alternative (111), base maximum 0 ('125, which no sheet's mark ever shows', document 02 §5).
abbrev pub SecondReadingHidden : Type 0
SecondReadingHidden = (s : List ℕ) → ¬ (mark_sheet s ≡ gives (fails 110)) × ¬ (mark_sheet s ≡ gives (fails 111)) × ¬ (mark_sheet s ≡ gives (fails 112)) × ¬ (mark_sheet s ≡ gives (fails 125))

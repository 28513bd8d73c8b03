-- The text of the answer to a sheet. Assumes nothing: this is a definition.
use Rattle.std.specs.Prelude.{ℕ, List, ◌++◌, codes}
use Rattle.std.specs.Fmt.{decimal}
use Rattle.intake.specs.Text.{refusal_text}
use Rattle.verdicts.specs.Reasons.{reason_number}
use Rattle.marking.specs.declared.MarkAnswer.{MarkAnswer}
use Rattle.marking.specs.declared.MarkAnswer.TheVariants.{Passes, Undecided, Fails, Refused}

-- `passes`, `undecided`, `fails N` or `refused N`
abbrev pub answer_text : MarkAnswer → List ℕ
answer_text Passes = codes "passes"
answer_text Undecided = codes "undecided"
answer_text (Fails r) = codes "fails " ++ decimal (reason_number r)
answer_text (Refused r) = refusal_text r

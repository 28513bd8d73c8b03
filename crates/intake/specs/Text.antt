-- The text of a refusal. Assumes nothing: this is a definition.
use Rattle.std.specs.Prelude.{ℕ, List, ◌++◌, codes}
use Rattle.std.specs.Fmt.{decimal}
use Rattle.intake.specs.declared.Refusal.{Refusal}
use Rattle.intake.specs.Number.{refusal_number}

-- `refused N`
abbrev pub refusal_text : Refusal → List ℕ
refusal_text r = codes "refused " ++ decimal (refusal_number r)

-- What is marked: bytes that the input gave, and no others. Assumes nothing: these are definitions.
use Rattle.std.specs.Prelude.{◌≡◌, ℕ, ◌<◌, List, ◌++◌, Option, length}
use Rattle.std.specs.Io.KnownBytes.{Consumes, IsAtEnd}
use Rattle.particle.specs.Record.{half}
use Rattle.marking.specs.declared.MarkAnswer.{MarkAnswer}
use Rattle.marking.specs.Answer.{mark_meaning, mark_sheet}
use Rattle.marker.specs.declared.Outcome.{Outcome}
use Rattle.marker.specs.declared.Outcome.TheVariants.{Marked, CutOff, Ended}

-- m is the mark of all that the input gave, or of its first 65536 bytes
abbrev pub MarksRest : Option (List ℕ) → Option (List ℕ) → MarkAnswer → Type 0
MarksRest old new m = (sheet : List ℕ) × Consumes old new sheet × (length sheet < 65536 → IsAtEnd new) × (mark_meaning m ≡ mark_sheet sheet)

-- the input gave a length in two bytes and so many bytes more, whose mark it is; or it ended before, in or after these
abbrev pub MarksNext : Option (List ℕ) → Option (List ℕ) → Outcome → Type 0
MarksNext old new (Marked m) = (head : List ℕ) × (sheet : List ℕ) × (length head ≡ 2) × (length sheet ≡ half head 0)
    × Consumes old new (head ++ sheet) × (mark_meaning m ≡ mark_sheet sheet)
MarksNext old new CutOff = IsAtEnd new
MarksNext old new Ended = IsAtEnd old

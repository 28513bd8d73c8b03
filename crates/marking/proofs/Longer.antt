-- A sheet longer than the largest is refused 1, over what the entry answers. Assumes nothing.
use Rattle.std.specs.Prelude.{Result}
use Rattle.intake.specs.declared.Refusal.{Refusal}
use mathlib.Core.Path.{◌≡◌, ap}
use mathlib.Core.List.{List}
use Prim.Native.Nat.{ℕ, ◌<◌}
use lib.ListN.{length}
use Rattle.particle.specs.Record.{max_records}
use Rattle.intake.specs.Limits.{max_leaves}
use Rattle.entries.specs.Answer.{refused}
use Rattle.sheet.specs.Layout.{total_of}
use Rattle.sheet.proofs.Length.{longer_refused}
use Rattle.marking.specs.Answer.{answer_of, mark_of_sheet, mark_sheet}

pub longer_refused_1 : (s : List ℕ) → total_of max_leaves max_records max_records < length s → mark_sheet s ≡ refused 1
unfolding mark_sheet
longer_refused_1 s l = ap (λ (c : Result (Unit {0}) Refusal). answer_of c (mark_of_sheet s)) (longer_refused s l)

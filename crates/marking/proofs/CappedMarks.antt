-- Document 02 §2 over sheets: whatever mark Mark a sheet answers, the rule with document 01's caps gave the same. Assumes nothing.
use mathlib.Core.List.{List}
use mathlib.Core.Path.{◌≡◌, ◌∙◌}
use Prim.Native.Nat.{ℕ, ◌*◌}
use lib.ListN.{drop}
use Rattle.particle.specs.Record.{record_size}
use Rattle.particle.specs.Encode.{Bytes}
use Rattle.particle.proofs.RoundTrip.{bytes_drop, bytes_take}
use Rattle.totals.proofs.InBytes.{leaves_32}
use Rattle.rules.specs.Verdicts.{Mark}
use Rattle.rules.proofs.CappedMarks.{capped_mark, no_mark_differs}
use Rattle.intake.proofs.AcceptedFits.{accepted_row}
use Rattle.entries.specs.Answer.{gives}
use Rattle.sheet.specs.Layout.{leaf_count, derived_count, derived_at, derived_part}
use Rattle.sheet.specs.Refused.{known_in, sheet_refusal}
use Rattle.sheet.proofs.AcceptedSheet.{passed}
use Rattle.marking.specs.Answer.{sheet_leaves, sheet_tables, derived_tree, base_tree, mark_of_sheet, mark_sheet}
use Rattle.marking.proofs.Answers.{answer_gives}

pub sheet_no_mark_differs : (s : List ℕ) → Bytes s → (m : Mark) → mark_sheet s ≡ gives m → capped_mark (sheet_leaves s) (sheet_tables s) (derived_tree s) (base_tree s) ≡ m
unfolding mark_sheet mark_of_sheet
sheet_no_mark_differs s b m e =
    let given = answer_gives (sheet_refusal s) (mark_of_sheet s) e in
    let row = accepted_row (known_in s) (derived_part s) (passed s given.0).derived in
    let low = bytes_take (record_size * derived_count s) (drop (derived_at (leaf_count s)) s) (bytes_drop (derived_at (leaf_count s)) s b) in
    no_mark_differs (sheet_leaves s) (sheet_tables s) (derived_tree s) (base_tree s) (leaves_32 row low) ∙ given.1

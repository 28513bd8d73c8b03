-- What marking a sheet answers. Assumes nothing: these are definitions.
use Rattle.std.specs.Prelude.{List, ◌≡◌, ℕ, ◌≤◌, Result, Ok, Err}
use Rattle.particle.specs.Tree.{Particle, tree}
use Rattle.intake.specs.Number.{refusal_number}
use Rattle.rules.specs.Verdicts.{Mark, passes, undecided, fails, Leaves, Tables}
use Rattle.rules.specs.Mark.{mark}
use Rattle.verdicts.specs.Paper.{leaves_of, tables_of}
use Rattle.verdicts.specs.declared.Reason.TheVariants.{Set}
use Rattle.verdicts.specs.Reasons.{reason_number}
use Rattle.entries.specs.Answer.{Answer, gives, refused}
use Rattle.intake.specs.declared.Refusal.{Refusal}
use Rattle.marking.specs.declared.MarkAnswer.{MarkAnswer}
use Rattle.marking.specs.declared.MarkAnswer.TheVariants.{Passes, Undecided, Fails, Refused}
use Rattle.sheet.specs.Layout.{leaf_count, leaves_part, tables_part, derived_part, base_part}
use Rattle.sheet.specs.Refused.{sheet_refusal}

-- the leaves, the tables and the two trees of a sheet
abbrev pub sheet_leaves : List ℕ → Leaves
sheet_leaves s = leaves_of (leaves_part s)

abbrev pub sheet_tables : List ℕ → Tables
sheet_tables s = tables_of (leaf_count s) (tables_part s)

abbrev pub derived_tree : List ℕ → Particle
derived_tree s = tree (derived_part s)

abbrev pub base_tree : List ℕ → Particle
base_tree s = tree (base_part s)

-- the mark of an accepted sheet
unfoldable pub mark_of_sheet : List ℕ → Mark
mark_of_sheet s = mark (sheet_leaves s) (sheet_tables s) (derived_tree s) (base_tree s)

-- the mark, or the refusal's number
abbrev pub answer_of : Result (Unit {0}) Refusal → Mark → Answer Mark
answer_of (Ok _) m = gives m
answer_of (Err r) m = refused (refusal_number r)

unfoldable pub mark_sheet : List ℕ → Answer Mark
mark_sheet s = answer_of (sheet_refusal s) (mark_of_sheet s)

-- what each case of the answer stands for
abbrev pub mark_meaning : MarkAnswer → Answer Mark
mark_meaning Passes = gives passes
mark_meaning Undecided = gives undecided
mark_meaning (Fails r) = gives (fails (reason_number r))
mark_meaning (Refused r) = refused (refusal_number r)

-- The values that `Set` has in an answer: '140..=152 a reason that the paper sets'. So no reason of the rules, 101 to 125, is answered as `Set`.
abbrev pub SetInRange : MarkAnswer → Type 0
SetInRange r = (n : ℕ) → r ≡ Fails (Set n) → (140 ≤ n) × (n ≤ 152)

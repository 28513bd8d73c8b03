-- What the verdict for two types and the filling of a lent sheet answer by a table of types, and what the sheet then holds. Assumes nothing: these are definitions.
use Rattle.std.specs.Prelude.{Bool, true, false, cond, ◌&&◌, List, ℕ, Result, Ok, Err}
use Rattle.intake.specs.declared.Refusal.{Refusal}
use Rattle.intake.specs.declared.Refusal.TheVariants.{TypeNumber, TypeTable}
use Rattle.intake.specs.Number.{refusal_number}
use Rattle.entries.specs.Answer.{Answer, gives, refused, meaning}
use Rattle.sheet.specs.Refused.{sheet_refusal}
use Rattle.types.specs.Derives.{has_type, not_derived, type_verdict}
use Rattle.types.specs.Table.{table_ok}
use Rattle.types.specs.Fill.{leaf_kinds, types_ok, fill_sheet}

-- 18, before all the others: a table of types that is not accepted; else the answer by the table
abbrev pub by_table : {A : Type 0} (parents : List ℕ) → Answer A → Answer A
by_table parents a = cond (table_ok parents) a (refused (refusal_number TypeTable))

-- 17: a type number that the table does not have; else the verdict
abbrev pub type_or : (known : Bool) (verdict : ℕ) → Answer ℕ
type_or known v = cond known (gives v) (refused (refusal_number TypeNumber))

unfoldable pub type_answer : (parents : List ℕ) (derived base : ℕ) → Answer ℕ
type_answer parents d b = by_table parents (type_or (has_type parents d && has_type parents b) (type_verdict parents d b))

-- 1 to 14 by the sheet, then 17
abbrev pub fill_or : Result (Unit {0}) Refusal → (types_ok : Bool) → Answer (Unit {0})
fill_or (Err r) ok = refused (refusal_number r)
fill_or (Ok _) false = refused (refusal_number TypeNumber)
fill_or (Ok _) true = gives tt

unfoldable pub fill_answer : (parents s types : List ℕ) → Answer (Unit {0})
fill_answer parents s types = by_table parents (fill_or (sheet_refusal s) (types_ok parents (leaf_kinds s) types))

-- the sheet after this answer: a refusal writes nothing
abbrev pub sheet_after : Answer (Unit {0}) → (written before : List ℕ) → List ℕ
sheet_after (refused n) written before = before
sheet_after (gives done) written before = written

unfoldable pub filled_sheet : (parents s types : List ℕ) → List ℕ
filled_sheet parents s types = sheet_after (fill_answer parents s types) (fill_sheet parents s types) s

-- what each case of the entries' results stands for: of two types, `true` is ok, and `false` the reason 148
abbrev pub type_meaning : Result Bool Refusal → Answer ℕ
type_meaning (Ok true) = gives 0
type_meaning (Ok false) = gives not_derived
type_meaning (Err r) = refused (refusal_number r)

abbrev pub fill_meaning : Result (Unit {0}) Refusal → Answer (Unit {0})
fill_meaning r = meaning r

-- The theorems of document 02 §6 on filling: each verdict by row and column, twice is once, the filled sheet is accepted and filled in as demand 3 says it, and a definite mark stays. Assumes nothing.
use mathlib.Core.Path.{◌≡◌, refl, ap, sym, ◌∙◌}
use mathlib.Core.Bool.{Bool, true, false, cond}
use mathlib.Core.List.{List, ◌++◌}
use Prim.Native.Nat.{ℕ, ◌+◌, ◌*◌}
use native.Mathlib.Nat.{zero-add}
use lib.ListN.{length, get_or, take, drop}
use Rattle.entries.specs.Answer.{Answer, gives, refused}
use Rattle.intake.specs.declared.Refusal.{Refusal}
use Rattle.std.specs.Prelude.{Result, Ok, Err}
use Rattle.sheet.specs.Layout.{leaf_count, second_at, derived_at, leaves_in, second_part}
use Rattle.sheet.specs.Refused.{kinds_of, sheet_refusal}
use Rattle.marking.specs.Demand.{FilledSheet, unchanged}
use Rattle.marking.proofs.Filling.{same, same_leaves, same_refusal, sheet_filled_keeps}
use Rattle.types.specs.Table.{table_ok}
use Rattle.types.specs.Fill.{leaf_kinds, types_ok, fill_verdict, fill_rows, fill_second, fill_sheet}
use Rattle.types.specs.Answer.{fill_or, fill_answer, filled_sheet}
use Rattle.types.specs.Facts.{Fills, EachFilled, FilledTwice, FilledAccepted, FilledIsFilledIn, FilledKeepsMark}
use Rattle.types.proofs.Cells.{rows_cell, rows_twice}
use Rattle.types.proofs.Verdicts.{fill_twice}
use Rattle.types.proofs.Entry.{contents_ok_lem, length_second}
use Rattle.types.proofs.FilledIn.{front, middle, back, filled_in}

fills_accepted : (n : ℕ) (table : Bool) (c : Result (Unit {0}) Refusal) (ok : Bool) → cond table (fill_or c ok) (refused n) ≡ gives tt → c ≡ Ok tt
fills_accepted n table (Ok _) ok e = refl
fills_accepted n true (Err r) ok e = cc
fills_accepted n false (Err r) ok e = cc

written_by : (parents s types : List ℕ) → Fills parents s types → filled_sheet parents s types ≡ fill_sheet parents s types
unfolding filled_sheet
written_by parents s types e = rw e

module _ (parents s types : List ℕ) where
  -- the bytes t, filled in as those of a sheet of n leaves of these kinds
  abbrev filled_by : (n : ℕ) (kinds t : List ℕ) → List ℕ
  filled_by n kinds t = take (second_at n) t ++ (fill_rows (fill_verdict parents kinds types) n 0 n (take (n * n) (drop (second_at n) t)) ++ drop (derived_at n) t)

  abbrev after : List ℕ
  after = filled_sheet parents s types

  pub sheet_accepted : Fills parents s types → sheet_refusal s ≡ Ok tt
  unfolding fill_answer
  sheet_accepted e = fills_accepted _ (table_ok parents) (sheet_refusal s) (types_ok parents (leaf_kinds s) types) e

  pub written : Fills parents s types → after ≡ fill_sheet parents s types
  written e = written_by parents s types e

  pub kept : {r : ℕ} → fill_answer parents s types ≡ refused r → after ≡ s
  unfolding filled_sheet
  kept e = rw e

  -- a refusal leaves the sheet, and that is filled in too
  by_answer : (x : Answer (Unit {0})) → fill_answer parents s types ≡ x → FilledSheet s after
  by_answer (gives done) e = rw (written e) (filled_in parents s types (sheet_accepted e))
  by_answer (refused r) e = rw (kept e) (record { same_length = refl; verdicts = λ i v. unchanged; others = λ i h. refl })

  pub filling : FilledSheet s after
  filling = by_answer (fill_answer parents s types) refl

  pub same_count : leaf_count after ≡ leaf_count s
  same_count = (same filling).leaves

  same_kinds : leaf_kinds after ≡ leaf_kinds s
  same_kinds = λ i. kinds_of (leaves_in ((same filling).leaves i) (same_leaves filling i))

  same_answer : fill_answer parents after types ≡ fill_answer parents s types
  unfolding fill_answer
  same_answer = rw (same_refusal filling, same_kinds)

  -- The second table -----------------------------------------------------------------

  module _ (e : Fills parents s types) where
    size : length (second_part s) ≡ leaf_count s * leaf_count s
    size = length_second s (contents_ok_lem s (sheet_accepted e))

    abbrev f : (l m v : ℕ) → ℕ
    f = fill_verdict parents (leaf_kinds s) types

    -- the second table of the filled sheet
    pub second_is : second_part after ≡ fill_second parents s types
    second_is =
        let at_count_lem : second_part after ≡ take (leaf_count s * leaf_count s) (drop (second_at (leaf_count s)) after) = λ i. take (same_count i * same_count i) (drop (second_at (same_count i)) after) in
        at_count_lem ∙ (ap (λ (t : List ℕ). take (leaf_count s * leaf_count s) (drop (second_at (leaf_count s)) t)) (written e) ∙ middle parents s types (sheet_accepted e))

    -- the filled sheet, filled in by the counts and kinds of the sheet
    rebuilt : filled_by (leaf_count s) (leaf_kinds s) (fill_sheet parents s types) ≡ fill_sheet parents s types
    unfolding fill_sheet
    rebuilt =
        let a = sheet_accepted e in
        (λ i. front parents s types a i ++ (fill_rows f (leaf_count s) 0 (leaf_count s) (middle parents s types a i) ++ back parents s types a i))
        ∙ ap (λ (t : List ℕ). take (second_at (leaf_count s)) s ++ (t ++ drop (derived_at (leaf_count s)) s)) (rows_twice f (fill_twice parents (leaf_kinds s) types) (leaf_count s) 0 (leaf_count s) (second_part s) size)

    same_sheet : fill_sheet parents after types ≡ after
    unfolding fill_sheet
    same_sheet = (λ i. filled_by (same_count i) (same_kinds i) (written e i)) ∙ (rebuilt ∙ sym (written e))

  again : (x : Answer (Unit {0})) → fill_answer parents s types ≡ x → filled_sheet parents after types ≡ after
  again (gives done) e = written_by parents after types (same_answer ∙ e) ∙ same_sheet e
  again (refused r) e = ap (λ (t : List ℕ). filled_sheet parents t types) (kept e)

pub each_filled : EachFilled
each_filled parents s types e l m h g =
    ap (λ (t : List ℕ). get_or t (l * leaf_count s + m) 0) (second_is parents s types e)
    ∙ (rows_cell (f parents s types e) (leaf_count s) 0 (leaf_count s) (second_part s) (size parents s types e) l m h g
    ∙ ap (λ (k : ℕ). f parents s types e k m (get_or (second_part s) (l * leaf_count s + m) 0)) (zero-add l))

pub filled_twice : FilledTwice
filled_twice parents s types = (same_answer parents s types, again parents s types (fill_answer parents s types) refl)

pub filled_accepted : FilledAccepted
filled_accepted parents s types e = same_refusal (filling parents s types) ∙ sheet_accepted parents s types e

pub filled_is_filled_in : FilledIsFilledIn
filled_is_filled_in parents s types = filling parents s types

pub filled_keeps_mark : FilledKeepsMark
filled_keeps_mark parents s types m d e = sheet_filled_keeps s (filled_sheet parents s types) (filling parents s types) m d e

-- Demand 3 over sheets, first half: a sheet filled in is refused as before, and keeps a mark that is not undecided. Assumes nothing.
use mathlib.Core.List.{List}
use mathlib.Core.Path.{◌≡◌, refl, sym, ◌∙◌}
use Prim.Native.Nat.{ℕ, ◌+◌, ◌*◌, ◌≤◌, ◌<◌}
use native.Mathlib.Omega.{arith}
use lib.ListN.{length, take, drop, get_or, length-take, length-drop}
use lib.Seq.{get_or-take, get_or-drop, ext_get_or}
use Rattle.particle.specs.Record.{record_size}
use Rattle.rules.specs.Verdicts.{Mark, passes, undecided, fails}
use Rattle.rules.specs.Mark.{mark}
use Rattle.rules.specs.Demand.{FilledIn}
use Rattle.rules.proofs.Filling.{filled_keeps}
use Rattle.verdicts.specs.Paper.{leaf_size}
use Rattle.sheet.specs.Layout.{contents_size, leaf_count, derived_count, base_count, tables_at, derived_at, base_at, leaves_part, tables_part, derived_part, base_part}
use Rattle.sheet.specs.Refused.{contents_ok, verdicts_ok, sheet_refusal}
use Rattle.marking.specs.Answer.{sheet_leaves, sheet_tables, derived_tree, base_tree, mark_of_sheet, mark_sheet}
use Rattle.marking.specs.Demand.{FilledSheet, FillingKeepsSheetMarks}
use Rattle.sheet.proofs.ContentsBytes.{SameContents, same_contents}
use Rattle.marking.proofs.FilledRows.{FilledRow, filled_row, row_ok, row_verdict}
use Rattle.marking.proofs.Answers.{answer_gives}

module _ {s s' : List ℕ} (f : FilledSheet s s') where
  before : (i : ℕ) → i < tables_at (leaf_count s) → get_or s' i 0 ≡ get_or s i 0
  before i l = f.others i (λ v. omega (arith, v.0))

  after : (i : ℕ) → derived_at (leaf_count s) ≤ i → get_or s' i 0 ≡ get_or s i 0
  after i l = f.others i (λ v. omega (arith, v.1))

  pub same : SameContents s s'
  same = same_contents s s' (λ i l. before i (omega arith))

  same_contents_ok : contents_ok s' ≡ contents_ok s
  same_contents_ok = rw (f.same_length, same.leaves, same.derived, same.base, same.zero, same.field)

  -- The bodies -----------------------------------------------------------------

  same_size : (at size : ℕ) → length (take size (drop at s')) ≡ length (take size (drop at s))
  same_size at size = simp (length-take, length-drop, f.same_length)

  part_at : (t : List ℕ) (at size i : ℕ) → i < length (take size (drop at t)) → (i < size) × (get_or (take size (drop at t)) i 0 ≡ get_or t (at + i) 0)
  part_at t at size i l =
      let h : i < size = omega (arith, length-take size (drop at t)) in
      (h, get_or-take size (drop at t) i 0 h ∙ get_or-drop at t i 0)

  same_part : (at size : ℕ) → ((i : ℕ) → i < size → get_or s' (at + i) 0 ≡ get_or s (at + i) 0) → take size (drop at s') ≡ take size (drop at s)
  same_part at size g =
      ext_get_or 0 (take size (drop at s')) (take size (drop at s)) (same_size at size) (λ i l.
      let p = part_at s' at size i l in
      let l' : i < length (take size (drop at s)) = omega (arith, same_size at size) in
      p.1 ∙ (g i p.0 ∙ sym (part_at s at size i l').1))

  pub same_leaves : leaves_part s' ≡ leaves_part s
  same_leaves = rw same.leaves (same_part contents_size (leaf_size * leaf_count s) (λ i l. before (contents_size + i) (omega arith)))

  same_derived : derived_part s' ≡ derived_part s
  same_derived = rw (same.leaves, same.derived) (same_part (derived_at (leaf_count s)) (record_size * derived_count s) (λ i l. after (derived_at (leaf_count s) + i) (omega arith)))

  same_base : base_part s' ≡ base_part s
  same_base = rw (same.leaves, same.derived, same.base) (same_part (base_at (leaf_count s) (derived_count s)) (record_size * base_count s) (λ i l. after (base_at (leaf_count s) (derived_count s) + i) (omega arith)))

  -- the tables, as long as those of s
  filled_tables : FilledRow (tables_part s) (take (2 * (leaf_count s * leaf_count s)) (drop (tables_at (leaf_count s)) s'))
  filled_tables =
      let at = tables_at (leaf_count s) in
      let size = 2 * (leaf_count s * leaf_count s) in
      filled_row (take size (drop at s)) (take size (drop at s')) (same_size at size) (λ i l.
      let p = part_at s at size i l in
      let l' : i < length (take size (drop at s')) = omega (arith, same_size at size) in
      rw (p.1, (part_at s' at size i l').1) (f.verdicts (at + i) (omega arith, omega (arith, p.0))))

  same_verdicts : verdicts_ok (tables_part s') ≡ verdicts_ok (tables_part s)
  same_verdicts = rw same.leaves (row_ok filled_tables)

  -- What is read from them ------------------------------------------------------

  pub same_refusal : sheet_refusal s' ≡ sheet_refusal s
  unfolding sheet_refusal
  same_refusal = rw (same_contents_ok, same_verdicts, same_leaves, same_derived, same_base, same.leaves)

  tables_filled_in : FilledIn (sheet_tables s) (sheet_tables s')
  tables_filled_in =
      let n = leaf_count s in
      record {
        first = λ l m. rw same.leaves (row_verdict filled_tables (l * n + m));
        second = λ l m. rw same.leaves (row_verdict filled_tables (n * n + l * n + m));
      }

  same_mark : mark_of_sheet s' ≡ mark (sheet_leaves s) (sheet_tables s') (derived_tree s) (base_tree s)
  unfolding mark_of_sheet
  same_mark = rw (same_leaves, same_derived, same_base)

  keeps : (m : Mark) → ¬ (m ≡ undecided) → mark_of_sheet s ≡ m → mark_of_sheet s' ≡ m
  unfolding mark_of_sheet
  keeps passes d e = same_mark ∙ (filled_keeps (sheet_leaves s) (sheet_tables s) (sheet_tables s') tables_filled_in (derived_tree s) (base_tree s)).0 e
  keeps undecided d e = absurd (d refl)
  keeps (fails r) d e = same_mark ∙ (filled_keeps (sheet_leaves s) (sheet_tables s) (sheet_tables s') tables_filled_in (derived_tree s) (base_tree s)).1 r e

pub sheet_filled_keeps : FillingKeepsSheetMarks
unfolding mark_sheet
sheet_filled_keeps s s' f m d e =
    let a = answer_gives (sheet_refusal s) (mark_of_sheet s) e in
    rw (same_refusal f, a.0, keeps f m d a.1)

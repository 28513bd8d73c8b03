-- The filled sheet beside the sheet: what stands before and after the second table is the same, and so it is the sheet filled in as demand 3 says it. Assumes nothing.
use mathlib.Core.Path.{◌≡◌, refl, ap, sym, ◌∙◌, subst}
use mathlib.Core.Bool.{Bool, true, false}
use mathlib.Core.List.{List, [], ◌∷◌, ◌++◌}
use Prim.Native.Nat.{ℕ, zero, suc, ◌+◌, ◌*◌, ◌-◌, ◌≤◌, ◌<◌}
use native.Mathlib.Nat.{zero-mul}
use native.Mathlib.Omega.{arith}
use lib.Dec.{leb}
use lib.ListN.{length, get_or, take, drop, take-append-drop}
use lib.Seq.{get_or-take, get_or-drop, drop-drop, take_at, drop_at, length-take-le}
use borrow.Author.Tests.{leb-true, leb-false}
use Rattle.std.specs.Prelude.{Ok}
use Rattle.sheet.specs.Layout.{leaf_count, tables_at, second_at, derived_at, second_part}
use Rattle.sheet.specs.Refused.{sheet_refusal}
use Rattle.marking.specs.Demand.{FilledByte, unchanged, IsVerdict, FilledSheet}
use Rattle.marking.proofs.FilledRows.{FilledRow, none, more}
use Rattle.types.specs.Fill.{leaf_kinds, fill_verdict, fill_row, fill_rows, fill_second, fill_sheet}
use Rattle.types.proofs.Cells.{later_size, length_rows}
use Rattle.types.proofs.Verdicts.{fill_byte}
use Rattle.types.proofs.Entry.{contents_ok_lem, second_within, length_second}

-- Rows of bytes, before and after ----------------------------------------------------

same_row : (t : List ℕ) → FilledRow t t
same_row [] = none
same_row (v ∷ vs) = more unchanged (same_row vs)

rows_append : {a a' b b' : List ℕ} → FilledRow a a' → FilledRow b b' → FilledRow (a ++ b) (a' ++ b')
rows_append none q = q
rows_append (more x p) q = more x (rows_append p q)

row_at : {t t' : List ℕ} → FilledRow t t' → (i : ℕ) → FilledByte (get_or t i 0) (get_or t' i 0)
row_at none i = unchanged
row_at (more b r) zero = b
row_at (more b r) (suc i) = row_at r i

row_length : {t t' : List ℕ} → FilledRow t t' → length t' ≡ length t
row_length none = refl
row_length (more b r) = ap suc (row_length r)

row_filled : (f : (m v : ℕ) → ℕ) → ((m v : ℕ) → FilledByte v (f m v)) → (m : ℕ) (row : List ℕ) → FilledRow row (fill_row f m row)
unfolding fill_row
row_filled f g m [] = none
row_filled f g m (v ∷ vs) = more (g m v) (row_filled f g (suc m) vs)

rows_filled : (f : (l m v : ℕ) → ℕ) → ((l m v : ℕ) → FilledByte v (f l m v)) → (n l k : ℕ) (t : List ℕ) → length t ≡ k * n → FilledRow t (fill_rows f n l k t)
unfolding fill_rows
rows_filled f g n l zero [] e = none
rows_filled f g n l zero (v ∷ t) e = absurd (omega (arith, zero-mul n))
rows_filled f g n l (suc k) t e =
    subst (λ (x : List ℕ). FilledRow x (fill_row (f l) 0 (take n t) ++ fill_rows f n (suc l) k (drop n t))) (take-append-drop n t)
    (rows_append (row_filled (f l) (g l) 0 (take n t)) (rows_filled f g n (suc l) k (drop n t) (later_size n k t e)))

-- The sheet --------------------------------------------------------------------------

module _ (parents s types : List ℕ) (a : sheet_refusal s ≡ Ok tt) where
  abbrev n : ℕ
  n = leaf_count s

  abbrev table : List ℕ
  table = fill_second parents s types

  within : derived_at n ≤ length s
  within = second_within s (contents_ok_lem s a)

  pub length_table : length table ≡ n * n
  length_table = length_rows (fill_verdict parents (leaf_kinds s) types) n 0 n (second_part s) (length_second s (contents_ok_lem s a))

  front_size : length (take (second_at n) s) ≡ second_at n
  front_size = length-take-le (second_at n) s (omega (arith, within))

  -- the three parts of the filled sheet
  pub front : take (second_at n) (fill_sheet parents s types) ≡ take (second_at n) s
  unfolding fill_sheet
  front = take_at (take (second_at n) s) (table ++ drop (derived_at n) s) (second_at n) front_size

  after_front : drop (second_at n) (fill_sheet parents s types) ≡ table ++ drop (derived_at n) s
  unfolding fill_sheet
  after_front = drop_at (take (second_at n) s) (table ++ drop (derived_at n) s) (second_at n) front_size

  pub middle : take (n * n) (drop (second_at n) (fill_sheet parents s types)) ≡ table
  middle = ap (take (n * n)) after_front ∙ take_at table (drop (derived_at n) s) (n * n) length_table

  end_is : second_at n + n * n ≡ derived_at n
  end_is = omega arith

  pub back : drop (derived_at n) (fill_sheet parents s types) ≡ drop (derived_at n) s
  back =
      ap (λ (k : ℕ). drop k (fill_sheet parents s types)) (sym end_is)
      ∙ (sym (drop-drop (n * n) (second_at n) (fill_sheet parents s types))
      ∙ (ap (drop (n * n)) after_front ∙ drop_at table (drop (derived_at n) s) (n * n) length_table))

  -- those of the sheet itself
  parts : s ≡ take (second_at n) s ++ (second_part s ++ drop (derived_at n) s)
  parts =
      sym (take-append-drop (second_at n) s)
      ∙ ap (λ (x : List ℕ). take (second_at n) s ++ x) (sym (take-append-drop (n * n) (drop (second_at n) s))
      ∙ ap (λ (x : List ℕ). second_part s ++ x) (drop-drop (n * n) (second_at n) s ∙ ap (λ (k : ℕ). drop k s) end_is))

  whole : FilledRow s (fill_sheet parents s types)
  unfolding fill_sheet
  whole =
      subst (λ (x : List ℕ). FilledRow x (take (second_at n) s ++ (table ++ drop (derived_at n) s))) (sym parts)
      (rows_append (same_row (take (second_at n) s))
      (rows_append (rows_filled (fill_verdict parents (leaf_kinds s) types) (fill_byte parents (leaf_kinds s) types) n 0 n (second_part s) (length_second s (contents_ok_lem s a)))
      (same_row (drop (derived_at n) s))))

  pub before : (i : ℕ) → i < second_at n → get_or (fill_sheet parents s types) i 0 ≡ get_or s i 0
  before i h = sym (get_or-take (second_at n) (fill_sheet parents s types) i 0 h) ∙ (ap (λ (x : List ℕ). get_or x i 0) front ∙ get_or-take (second_at n) s i 0 h)

  pub after : (i : ℕ) → derived_at n ≤ i → get_or (fill_sheet parents s types) i 0 ≡ get_or s i 0
  after i h =
      let e : derived_at n + (i - derived_at n) ≡ i = omega arith in
      rw (sym e)
      (sym (get_or-drop (derived_at n) (fill_sheet parents s types) (i - derived_at n) 0) ∙ (ap (λ (x : List ℕ). get_or x (i - derived_at n) 0) back ∙ get_or-drop (derived_at n) s (i - derived_at n) 0))

  others : (i : ℕ) → ¬ (IsVerdict s i) → (x y : Bool) → leb (derived_at n) i ≡ x → leb (tables_at n) i ≡ y → get_or (fill_sheet parents s types) i 0 ≡ get_or s i 0
  others i h true y p q = after i (leb-true (derived_at n) i p)
  others i h false true p q = absurd (h (leb-true (tables_at n) i q, leb-false (derived_at n) i p))
  others i h false false p q = before i (omega (arith, leb-false (tables_at n) i q))

  pub filled_in : FilledSheet s (fill_sheet parents s types)
  filled_in = record { same_length = row_length whole; verdicts = λ i v. row_at whole i; others = λ i h. others i h (leb (derived_at n) i) (leb (tables_at n) i) refl refl }

-- Once a sheet is filled, no two elements are undecided in its second table, as the marking reads it. Assumes nothing.
use mathlib.Core.Path.{◌≡◌, refl, ap, sym, ◌∙◌}
use mathlib.Core.Bool.{Bool, true, false}
use mathlib.Core.List.{List}
use mathlib.Core.Logic.{inr}
use Prim.Native.Nat.{ℕ, zero, suc, ◌+◌, ◌*◌, ◌≤◌, ◌<◌}
use native.Mathlib.Nat.{mul-le-mul_right, suc-mul}
use native.Mathlib.Omega.{arith}
use lib.Dec.{eqb}
use lib.ListN.{length, get_or, drop}
use Rattle.std.proofs.lemmas.List.{get_or_default}
use lib.Seq.{get_or-take, get_or-drop}
use borrow.Author.Tests.{eqb-true, eqb-false}
use Rattle.rules.specs.Verdicts.{undecided}
use Rattle.verdicts.specs.Paper.{verdict_of}
use Rattle.sheet.specs.Layout.{leaf_count, tables_at, second_at, derived_at, tables_part, second_part}
use Rattle.marking.specs.Answer.{sheet_leaves, sheet_tables}
use Rattle.types.specs.Answer.{filled_sheet}
use Rattle.types.specs.Facts.{Fills, NoneUndecided}
use Rattle.types.proofs.Answers.{two_verdicts}
use Rattle.types.proofs.Verdicts.{not_undecided}
use Rattle.types.proofs.Entry.{contents_ok_lem, second_within}
use Rattle.types.proofs.Filled.{same_count, filled_accepted}
use Rattle.types.proofs.FilledExactly.{verdicts_stay, elements_filled}

-- The verdict of two leaves, as the marking reads it ---------------------------------------

cell_within : (n l m : ℕ) → l < n → m < n → l * n + m < n * n
cell_within n l m h g = omega (arith, mul-le-mul_right n h, suc-mul l n)

second_read : (s : List ℕ) → derived_at (leaf_count s) ≤ length s → (l m : ℕ) → l < leaf_count s → m < leaf_count s
    → get_or (tables_part s) (leaf_count s * leaf_count s + l * leaf_count s + m) 1 ≡ get_or (second_part s) (l * leaf_count s + m) 0
second_read s w l m h g =
    let n = leaf_count s in
    let c : l * n + m < n * n = cell_within n l m h g in
    let place : tables_at n + (n * n + l * n + m) ≡ second_at n + (l * n + m) = omega arith in
    get_or-take (2 * (n * n)) (drop (tables_at n) s) (n * n + l * n + m) 1 (omega arith)
    ∙ (get_or-drop (tables_at n) s (n * n + l * n + m) 1
    ∙ (ap (λ (i : ℕ). get_or s i 1) place
    ∙ (get_or_default s (second_at n + (l * n + m)) 1 0 (omega arith)
    ∙ sym (get_or-take (n * n) (drop (second_at n) s) (l * n + m) 0 c ∙ get_or-drop (second_at n) s (l * n + m) 0))))

undecided_is : (v : ℕ) → verdict_of v ≡ undecided → v ≡ 1
undecided_is zero e = cc
undecided_is (suc zero) e = refl
undecided_is (suc (suc v)) e = cc

module _ (parents s types : List ℕ) (e : Fills parents s types) (l m : ℕ) (h : l < leaf_count s) (g : m < leaf_count s) where
  abbrev after : List ℕ
  after = filled_sheet parents s types

  -- the verdict before
  abbrev v : ℕ
  v = get_or (second_part s) (l * leaf_count s + m) 0

  module _ (a : (sheet_leaves s).is_wildcard l ≡ false) (b : (sheet_leaves s).is_wildcard m ≡ false) (u : (sheet_tables after).second l m ≡ undecided) where
    one : get_or (second_part after) (l * leaf_count s + m) 0 ≡ 1
    one =
        let count : leaf_count after ≡ leaf_count s = same_count parents s types in
        let w = second_within after (contents_ok_lem after (filled_accepted parents s types e)) in
        ap (λ (k : ℕ). get_or (second_part after) (l * k + m) 0) (sym count) ∙ (sym (second_read after w l m (omega arith) (omega arith)) ∙ undecided_is _ u)

    -- a verdict 1 of two elements is filled in, and another stays
    neither : (x : Bool) → eqb v 1 ≡ x → ⊥
    neither true q = eqb-false _ 1 (not_undecided (two_verdicts parents (get_or types l 0) (get_or types m 0))) (sym (elements_filled parents s types e l m h g a b (eqb-true v 1 q)) ∙ one)
    neither false q = eqb-false v 1 q (sym (verdicts_stay parents s types l m h g (inr (inr (eqb-false v 1 q)))) ∙ one)

pub none_undecided : NoneUndecided
none_undecided parents s types e l m h g a b u = neither parents s types e l m h g a b u (eqb (v parents s types e l m h g) 1) refl

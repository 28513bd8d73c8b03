-- The reasons that Mark a sheet answers: those of the rules, since the verdicts of an accepted sheet are ok, undecided or 140 to 152. Assumes nothing.
use mathlib.Core.Bool.{Bool, true, false, cond, ◌&&◌, false≢true}
use mathlib.Core.List.{List, [], ◌∷◌}
use mathlib.Core.Path.{◌≡◌, refl, sym, ◌∙◌}
use Prim.Native.Nat.{ℕ, zero, suc, ◌+◌, ◌*◌, ◌≤◌}
use native.Mathlib.Omega.{arith}
use lib.Dec.{leb}
use lib.ListN.{get_or}
use borrow.Author.Tests.{leb-true, lt-leb}
use Rattle.particle.proofs.Tests.{and-true}
use Rattle.rules.specs.Verdicts.{fails}
use Rattle.rules.specs.Shown.{can_show, OfPaper, PaperVerdicts}
use Rattle.rules.proofs.Shown.{reasons_shown}
use Rattle.verdicts.specs.Paper.{paper_reason, verdict_of}
use Rattle.entries.specs.Answer.{gives}
use Rattle.sheet.specs.Layout.{leaf_count, tables_part}
use Rattle.sheet.specs.Refused.{every, verdict_ok, verdicts_ok, sheet_refusal}
use Rattle.sheet.proofs.AcceptedSheet.{Passed, passed}
use Rattle.marking.specs.declared.MarkAnswer.{MarkAnswer}
use Rattle.marking.specs.Answer.{sheet_leaves, sheet_tables, derived_tree, base_tree, mark_of_sheet, mark_sheet, mark_meaning, SetInRange}
use Rattle.marking.specs.Shown.{SheetReasonsShown, SecondReadingHidden}
use Rattle.marking.proofs.Answers.{answer_gives}

-- a verdict that is in order
paper_verdict : (v : ℕ) → verdict_ok v ≡ true → OfPaper (verdict_of v)
paper_verdict zero e = tt
paper_verdict (suc zero) e = tt
paper_verdict (suc (suc v)) e =
    let n = suc (suc v) in
    let low : leb n 1 ≡ false = lt-leb n 1 (omega arith) in
    let p = and-true (leb 140 n) (leb n 152) (rw low at e) in
    rw (p.0, p.1) (leb-true 140 n p.0, leb-true n 152 p.1)

-- past the tables' end a verdict is undecided
paper_row : (t : List ℕ) → verdicts_ok t ≡ true → (i : ℕ) → OfPaper (verdict_of (get_or t i 1))
unfolding every
paper_row [] e i = tt
paper_row (v ∷ t) e zero = paper_verdict v (and-true (verdict_ok v) (verdicts_ok t) e).0
paper_row (v ∷ t) e (suc i) = paper_row t (and-true (verdict_ok v) (verdicts_ok t) e).1 i

paper_verdicts : {s : List ℕ} → Passed s → PaperVerdicts (sheet_tables s)
paper_verdicts {s} a =
    let n = leaf_count s in
    record { first = λ l m. paper_row (tables_part s) a.verdicts (l * n + m); second = λ l m. paper_row (tables_part s) a.verdicts (n * n + l * n + m) }

pub sheet_reasons_shown : SheetReasonsShown
unfolding mark_sheet mark_of_sheet
sheet_reasons_shown s r e =
    let given = answer_gives (sheet_refusal s) (mark_of_sheet s) e in
    reasons_shown (sheet_leaves s) (sheet_tables s) (paper_verdicts (passed s given.0)) (derived_tree s) (base_tree s) r given.1

-- none of the four is among them
pub second_reading_hidden : SecondReadingHidden
second_reading_hidden s =
    let hidden : (r : ℕ) → can_show r ≡ false → ¬ (mark_sheet s ≡ gives (fails r)) = λ r h e. false≢true (sym h ∙ sheet_reasons_shown s r e) in
    (hidden 110 refl, hidden 111 refl, hidden 112 refl, hidden 125 refl)

-- The values of `Set` ----------------------------------------------------------------

-- 0 is shown by no mark
pub paper_range : (n : ℕ) → can_show (paper_reason n) ≡ true → (140 ≤ n) × (n ≤ 152)
paper_range n = go (leb 140 n) (leb n 152) refl refl
  where
    go : (a b : Bool) → leb 140 n ≡ a → leb n 152 ≡ b → can_show (cond (a && b) n 0) ≡ true → (140 ≤ n) × (n ≤ 152)
    go true true d e h = (leb-true 140 n d, leb-true n 152 e)
    go true false d e h = absurd (false≢true h)
    go false b d e h = absurd (false≢true h)

-- what an answer means fixes the values of its `Set`
pub in_range_lem : (s : List ℕ) (r : MarkAnswer) → mark_meaning r ≡ mark_sheet s → (mark_meaning r ≡ mark_sheet s) × SetInRange r
in_range_lem s r e = (e, λ n f. paper_range n (sheet_reasons_shown s (paper_reason n) (sym (rw f at e))))

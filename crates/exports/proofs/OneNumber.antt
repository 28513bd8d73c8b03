-- The exported number of a mark, of emptiness, of a record count, tidied or joined, of a verdict for two types and of a filling tells the answer: what is given has a number of its own, below a limit, and each refusal one of its own from the limit on. Assumes nothing.
use Rattle.std.specs.Prelude.{Result, Ok, Err}
use mathlib.Core.Bool.{Bool, true, false, cond, ◌&&◌, false≢true}
use mathlib.Core.List.{List}
use mathlib.Core.Logic.{◌⊎◌, inl, inr, ⊎_elim}
use mathlib.Core.Option.{Option, none, some}
use mathlib.Core.Path.{◌≡◌, refl, ap, sym, ◌∙◌}
use Prim.Native.Nat.{ℕ, zero, suc, ◌+◌, ◌≤◌, ◌<◌}
use native.Mathlib.Omega.{arith}
use lib.Dec.{eqb, leb}
use borrow.Author.Tests.{leb-true}
use Rattle.particle.specs.Record.{max_records}
use Rattle.particle.specs.Tree.{size_i, tree}
use Rattle.particle.specs.Empty.{emptiable}
use Rattle.particle.proofs.Tests.{and-true, or-true}
use Rattle.particle.proofs.Laws.{run_is, run_within, row_one}
use Rattle.tidying.proofs.Sizes.{tidy_smaller}
use Rattle.rules.specs.Verdicts.{Mark, passes, undecided, fails}
use Rattle.rules.specs.Shown.{can_show}
use Rattle.intake.specs.declared.Fault.{Fault}
use Rattle.intake.specs.declared.Refusal.TheVariants.{TypeTable}
use Rattle.intake.specs.Number.{refusal_number}
use Rattle.intake.specs.Scan.{alone}
use Rattle.intake.proofs.AcceptedFits.{accepted_row}
use Rattle.intake.proofs.Checking.{sized}
use Rattle.entries.specs.Answer.{Answer, gives, refused, answer, refusal_alone}
use Rattle.entries.specs.TidyAnswer.{tidied_tree, tidy_answer}
use Rattle.entries.proofs.TidiedAgain as tidied
use Rattle.chain.specs.Answer.{chain_answer}
use Rattle.chain.proofs.Written as joined
use Rattle.chain.proofs.Joined.{within}
use Rattle.marking.specs.Answer.{mark_sheet}
use Rattle.marking.proofs.Shown.{sheet_reasons_shown}
use Rattle.types.specs.Derives.{has_type, not_derived, type_verdict}
use Rattle.types.specs.Table.{table_ok}
use Rattle.types.specs.Answer.{type_or, type_answer, fill_answer}
use Rattle.types.proofs.Answers.{two_verdicts}
use Rattle.exports.specs.Numbers.{beyond, emptiable_number, count_number, joined_number, mark_number, verdict_number, filled_number}

-- Answers told by numbers: what is given below the limit, so that it can be read back; a refusal from the limit on, by its own number and what is added to it.
module _ {A : Type 0} (limit added : ℕ) (read : ℕ → A) (number : Answer A → ℕ) where
  abbrev Told : Answer A → Type 0
  Told (gives a) = (number (gives a) < limit) × (read (number (gives a)) ≡ a)
  Told (refused n) = (limit ≤ number (refused n)) × (number (refused n) ≡ added + n)

  -- two answers with one number are the same
  one_number : (x y : Answer A) → Told x → Told y → number x ≡ number y → x ≡ y
  one_number (gives a) (gives b) (l, e) (m, f) q = ap gives (sym e ∙ (ap read q ∙ f))
  one_number (gives a) (refused n) (l, e) (m, f) q = absurd (omega arith)
  one_number (refused n) (gives b) (l, e) (m, f) q = absurd (omega arith)
  one_number (refused n) (refused k) (l, e) (m, f) q = ap refused (omega arith)

-- a number that is told as it is
abbrev itself : ℕ → ℕ
itself k = k

-- The mark of a sheet -------------------------------------------------------------------

abbrev mark_from : ℕ → Mark
mark_from zero = passes
mark_from (suc zero) = undecided
mark_from (suc (suc n)) = fails (suc (suc n))

-- a reason that is shown is below 1000; it is neither 0 nor 1
shown_low : (r : ℕ) → can_show r ≡ true → r < 1000
shown_low r e =
    let low : (a b : ℕ) → b < 1000 → (leb a r && leb r b) ≡ true → r < 1000 = λ a b l f. omega (arith, leb-true r b (and-true (leb a r) (leb r b) f).1) in
    ⊎_elim (λ f. ⊎_elim (low 101 109 (omega arith)) (low 113 124 (omega arith)) (or-true _ _ f)) (low 140 152 (omega arith)) (or-true _ _ e)

fails_told : (r : ℕ) → can_show r ≡ true → Told 1000 1000 mark_from mark_number (gives (fails r))
fails_told zero e = absurd (false≢true e)
fails_told (suc zero) e = absurd (false≢true e)
fails_told (suc (suc n)) e = (shown_low (suc (suc n)) e, refl)

mark_told : (s : List ℕ) → Told 1000 1000 mark_from mark_number (mark_sheet s)
mark_told s = go (mark_sheet s) refl
  where
    go : (a : Answer Mark) → mark_sheet s ≡ a → Told 1000 1000 mark_from mark_number a
    go (gives passes) e = (omega arith, refl)
    go (gives undecided) e = (omega arith, refl)
    go (gives (fails r)) e = fails_told r (sheet_reasons_shown s r e)
    go (refused n) e = (omega arith, refl)

pub one_mark : (s u : List ℕ) → mark_number (mark_sheet s) ≡ mark_number (mark_sheet u) → mark_sheet s ≡ mark_sheet u
one_mark s u = one_number 1000 1000 mark_from mark_number (mark_sheet s) (mark_sheet u) (mark_told s) (mark_told u)

-- Emptiness of a tree alone -------------------------------------------------------------

-- what the entry answers
abbrev pub emptiable_answer : List ℕ → Answer Bool
emptiable_answer t = answer (refusal_alone t) (emptiable (tree t))

abbrev emptiable_from : ℕ → Bool
emptiable_from k = eqb k 1

-- a tree alone is refused by 10 to 14
emptiable_told : (c : Result (Unit {0}) Fault) (b : Bool) → Told 2 0 emptiable_from emptiable_number (answer c b)
emptiable_told (Ok _) true = (omega arith, refl)
emptiable_told (Ok _) false = (omega arith, refl)
emptiable_told (Err f) b = (omega arith, omega arith)

pub one_emptiable : (t u : List ℕ) → emptiable_number (emptiable_answer t) ≡ emptiable_number (emptiable_answer u) → emptiable_answer t ≡ emptiable_answer u
one_emptiable t u =
    one_number 2 0 emptiable_from emptiable_number (emptiable_answer t) (emptiable_answer u) (emptiable_told (refusal_alone t) (emptiable (tree t))) (emptiable_told (refusal_alone u) (emptiable (tree u)))

-- The record count of a tidied tree -----------------------------------------------------

-- an accepted tree has at most `max_records` records, and the tidied one no more
tidied_few : (t : List ℕ) → refusal_alone t ≡ Ok tt → size_i (tidied_tree t) ≤ max_records
tidied_few t e = omega (arith, tidy_smaller (tree t), ap size_i (row_one (accepted_row alone t e)), run_is t, run_within t, (sized alone t e).few)

count_told : (t out : List ℕ) → Told beyond beyond itself count_number (tidy_answer t out)
count_told t out = go (tidy_answer t out) refl
  where
    go : (a : Answer ℕ) → tidy_answer t out ≡ a → Told beyond beyond itself count_number a
    go (gives n) e = let g = tidied.given t out n e in (omega (arith, g.count, tidied_few t g.accepted), refl)
    go (refused n) e = (omega arith, refl)

pub one_count : (t out u buf : List ℕ) → count_number (tidy_answer t out) ≡ count_number (tidy_answer u buf) → tidy_answer t out ≡ tidy_answer u buf
one_count t out u buf = one_number beyond beyond itself count_number (tidy_answer t out) (tidy_answer u buf) (count_told t out) (count_told u buf)

-- The record count of a joined tree -----------------------------------------------------

abbrev content_from : ℕ → Option ℕ
content_from zero = none
content_from (suc n) = some (suc n)

-- a joined tree has 1 to `max_records` records
joined_range : (c out : List ℕ) (n : ℕ) → chain_answer c out ≡ gives (some n) → (1 ≤ n) × (n ≤ max_records)
unfolding size_i
joined_range c out n e = let (x, g) = joined.given c out n e in (omega (arith, g.count), omega (arith, g.count, (within x g.within).0))

joined_told : (c out : List ℕ) → Told beyond beyond content_from joined_number (chain_answer c out)
joined_told c out = go (chain_answer c out) refl
  where
    go : (a : Answer (Option ℕ)) → chain_answer c out ≡ a → Told beyond beyond content_from joined_number a
    go (gives none) e = (omega arith, refl)
    go (gives (some zero)) e = absurd (omega (arith, (joined_range c out 0 e).0))
    go (gives (some (suc n))) e = (omega (arith, (joined_range c out (suc n) e).1), refl)
    go (refused n) e = (omega arith, refl)

pub one_joined : (c out d buf : List ℕ) → joined_number (chain_answer c out) ≡ joined_number (chain_answer d buf) → chain_answer c out ≡ chain_answer d buf
one_joined c out d buf = one_number beyond beyond content_from joined_number (chain_answer c out) (chain_answer d buf) (joined_told c out) (joined_told d buf)

-- The verdict for two types -------------------------------------------------------------

verdict_told : (parents : List ℕ) (d b : ℕ) → Told 1000 1000 itself verdict_number (type_answer parents d b)
unfolding type_answer
verdict_told parents d b = go (table_ok parents) (has_type parents d && has_type parents b) (type_verdict parents d b) (two_verdicts parents d b)
  where
    go : (ok known : Bool) (v : ℕ) → (v ≡ 0) ⊎ (v ≡ not_derived) → Told 1000 1000 itself verdict_number (cond ok (type_or known v) (refused (refusal_number TypeTable)))
    go false known v w = (omega arith, refl)
    go true false v w = (omega arith, refl)
    go true true v (inl e) = (omega arith, refl)
    go true true v (inr e) = (omega arith, refl)

pub one_verdict : (parents : List ℕ) (d b : ℕ) (others : List ℕ) (e c : ℕ) → verdict_number (type_answer parents d b) ≡ verdict_number (type_answer others e c) → type_answer parents d b ≡ type_answer others e c
one_verdict parents d b others e c = one_number 1000 1000 itself verdict_number (type_answer parents d b) (type_answer others e c) (verdict_told parents d b) (verdict_told others e c)

-- Filling a sheet in --------------------------------------------------------------------

abbrev filled_from : ℕ → Unit {0}
filled_from k = tt

filled_told : (a : Answer (Unit {0})) → Told 1000 1000 filled_from filled_number a
filled_told (gives done) = (omega arith, refl)
filled_told (refused n) = (omega arith, refl)

pub one_filled : (parents s types others u numbers : List ℕ) → filled_number (fill_answer parents s types) ≡ filled_number (fill_answer others u numbers) → fill_answer parents s types ≡ fill_answer others u numbers
one_filled parents s types others u numbers =
    one_number 1000 1000 filled_from filled_number (fill_answer parents s types) (fill_answer others u numbers) (filled_told (fill_answer parents s types)) (filled_told (fill_answer others u numbers))

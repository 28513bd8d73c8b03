-- What the contracts of the two entries say of an answer fixes its case and the refusal that it holds: the case is found again from the numbers. Assumes nothing.
use mathlib.Core.Bool.{Bool, true, false}
use mathlib.Core.List.{List}
use mathlib.Core.Path.{◌≡◌, refl, ap, sym, ◌∙◌}
use Prim.Native.Nat.{ℕ}
use lib.Dec.{eqb}
use Rattle.intake.proofs.OneRefusal.{refusal_of, refusal_back}
use Rattle.entries.specs.Answer.{Answer, gives, refused}
use Rattle.std.specs.Prelude.{Result, Ok, Err}
use Rattle.intake.specs.declared.Refusal.{Refusal}
use Rattle.types.specs.Answer.{type_answer, type_meaning, fill_answer, fill_meaning}

-- the case that stands for this
abbrev verdict_case : Answer ℕ → Result Bool Refusal
verdict_case (gives v) = Ok (eqb v 0)
verdict_case (refused n) = Err (refusal_of n)

verdict_back : (r : Result Bool Refusal) → verdict_case (type_meaning r) ≡ r
verdict_back (Ok true) = refl
verdict_back (Ok false) = refl
verdict_back (Err r) = ap Err (refusal_back r)

abbrev filled_case : Answer (Unit {0}) → Result (Unit {0}) Refusal
filled_case (gives done) = Ok tt
filled_case (refused n) = Err (refusal_of n)

filled_back : (r : Result (Unit {0}) Refusal) → filled_case (fill_meaning r) ≡ r
filled_back (Ok _) = refl
filled_back (Err r) = ap Err (refusal_back r)

pub one_type_answer : (parents : List ℕ) (d b : ℕ) (r q : Result Bool Refusal) → type_meaning r ≡ type_answer parents d b → type_meaning q ≡ type_answer parents d b → r ≡ q
one_type_answer parents d b r q e f = sym (verdict_back r) ∙ (ap verdict_case (e ∙ sym f) ∙ verdict_back q)

pub one_filled_answer : (parents s types : List ℕ) (r q : Result (Unit {0}) Refusal) → fill_meaning r ≡ fill_answer parents s types → fill_meaning q ≡ fill_answer parents s types → r ≡ q
one_filled_answer parents s types r q e f = sym (filled_back r) ∙ (ap filled_case (e ∙ sym f) ∙ filled_back q)

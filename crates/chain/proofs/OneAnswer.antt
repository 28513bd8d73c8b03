-- What the contract of `effective_particle` says of an answer fixes its case and the values that it holds: the case is found again from the numbers. Assumes nothing.
use Rattle.std.specs.Prelude.{Result, Ok, Err, Some, None}
use Rattle.std.specs.Prelude as rust
use mathlib.Core.List.{List}
use mathlib.Core.Option.{Option, none, some}
use mathlib.Core.Path.{◌≡◌, refl, ap, sym, ◌∙◌}
use Prim.Native.Nat.{ℕ}
use Rattle.intake.specs.declared.Refusal.{Refusal}
use Rattle.intake.proofs.OneRefusal.{refusal_of, refusal_back}
use Rattle.entries.specs.Answer.{Answer, gives, refused}
use Rattle.chain.specs.Answer.{chain_answer, joined_meaning}

-- the case that stands for this
abbrev case_of : Answer (Option ℕ) → Result (rust.Option ℕ) Refusal
case_of (gives (some n)) = Ok (Some n)
case_of (gives none) = Ok None
case_of (refused n) = Err (refusal_of n)

case_back : (r : Result (rust.Option ℕ) Refusal) → case_of (joined_meaning r) ≡ r
case_back (Ok (Some n)) = refl
case_back (Ok None) = refl
case_back (Err r) = ap Err (refusal_back r)

pub one_joined_answer : (c out : List ℕ) (r q : Result (rust.Option ℕ) Refusal) → joined_meaning r ≡ chain_answer c out → joined_meaning q ≡ chain_answer c out → r ≡ q
one_joined_answer c out r q e f = sym (case_back r) ∙ (ap case_of (e ∙ sym f) ∙ case_back q)

-- What the entries for one tree answer: a value, or a refusal with document 01's number. Assumes nothing: these are definitions.
use Rattle.std.specs.Prelude.{List, ℕ, Result, Ok, Err}
use Rattle.intake.specs.declared.Fault.{Fault}
use Rattle.intake.specs.declared.Refusal.{Refusal}
use Rattle.intake.specs.declared.Refusal.TheVariants.{Derived}
use Rattle.intake.specs.Number.{refusal_number}
use Rattle.intake.specs.Scan.{refusal_in, alone}

-- an answer: a value, or a refusal's number
pub data Answer (A : Type 0) : Type 0 where
  gives : A → Answer A
  refused : ℕ → Answer A

-- the first refusal of the bytes as a tree alone: leaf numbers below `max_leaves`, refusals 10 to 14
abbrev pub refusal_alone : List ℕ → Result (Unit {0}) Fault
refusal_alone t = refusal_in alone t

-- the value, unless the tree is refused
abbrev pub answer : {A : Type 0} → Result (Unit {0}) Fault → A → Answer A
answer (Ok _) a = gives a
answer (Err f) a = refused (refusal_number (Derived f))

-- what an entry's result stands for
abbrev pub meaning : {A : Type 0} → Result A Refusal → Answer A
meaning (Ok a) = gives a
meaning (Err r) = refused (refusal_number r)

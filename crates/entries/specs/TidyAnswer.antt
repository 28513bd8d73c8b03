-- What tidying a tree into a lent buffer answers, and what the buffer then holds. Assumes nothing: these are definitions.
use Rattle.std.specs.Prelude.{Bool, true, false, List, ◌++◌, ℕ, ltb, length, drop, Result, Ok, Err}
use Rattle.particle.specs.Tree.{Items, single, size_i, tree}
use Rattle.particle.specs.Encode.{encode}
use Rattle.tidying.specs.Tidy.{tidy}
use Rattle.intake.specs.declared.Fault.{Fault}
use Rattle.intake.specs.declared.Refusal.TheVariants.{Buffer, Derived}
use Rattle.intake.specs.Number.{refusal_number}
use Rattle.entries.specs.Answer.{Answer, gives, refused, refusal_alone}

-- the tree that tidying the bytes t gives
abbrev pub tidied_tree : List ℕ → Items
tidied_tree t = single (tidy (tree t))

-- out with the bytes s at its start, every later byte as it was
abbrev pub starting_with : (s out : List ℕ) → List ℕ
starting_with s out = s ++ drop (length s) out

-- 10 to 14, then 2 for a buffer shorter than the tree handed in; else the new record count
abbrev pub tidy_or : Result (Unit {0}) Fault → (short : Bool) → ℕ → Answer ℕ
tidy_or (Err f) short n = refused (refusal_number (Derived f))
tidy_or (Ok _) true n = refused (refusal_number Buffer)
tidy_or (Ok _) false n = gives n

unfoldable pub tidy_answer : (t out : List ℕ) → Answer ℕ
tidy_answer t out = tidy_or (refusal_alone t) (ltb (length out) (length t)) (size_i (tidied_tree t))

-- a refusal writes nothing; else the tidied tree stands at the start
abbrev pub buffer_or : {A : Type 0} → Result (Unit {0}) Fault → (short : Bool) → A → A → A
buffer_or (Err f) short written before = before
buffer_or (Ok _) true written before = before
buffer_or (Ok _) false written before = written

unfoldable pub tidy_buffer : (t out : List ℕ) → List ℕ
tidy_buffer t out = buffer_or (refusal_alone t) (ltb (length out) (length t)) (starting_with (encode (tidied_tree t)) out) out

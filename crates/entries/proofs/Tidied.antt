-- What the tidy entry owes where it tidies. Assumes nothing.
use Rattle.std.specs.Prelude.{Ok}
use mathlib.Core.Path.{◌≡◌}
use mathlib.Core.List.{List}
use Prim.Native.Nat.{ℕ, ◌≤◌}
use borrow.Author.Tests.{le-ltb}
use lib.ListN.{length}
use Rattle.particle.specs.Tree.{size_i}
use Rattle.particle.specs.Encode.{encode}
use Rattle.entries.specs.Answer.{gives, refusal_alone}
use Rattle.entries.specs.TidyAnswer.{tidied_tree, starting_with, tidy_answer, tidy_buffer}

-- t is accepted, and the lent buffer out is long enough
module _ (t out : List ℕ) (e : refusal_alone t ≡ Ok tt) (l : length t ≤ length out) where
  pub tidied : {n : ℕ} → n ≡ size_i (tidied_tree t) → gives n ≡ tidy_answer t out
  unfolding tidy_answer
  tidied c = rw (e, le-ltb _ _ l, c)

  pub tidied_written : {after : List ℕ} → after ≡ starting_with (encode (tidied_tree t)) out → after ≡ tidy_buffer t out
  unfolding tidy_buffer
  tidied_written w = rw (e, le-ltb _ _ l) w

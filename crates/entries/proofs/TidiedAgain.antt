-- What the entry `tidy` writes is a tidy tree that is accepted alone, and that the entry gives back as it is (document 02 §8). Assumes nothing.
use Rattle.std.specs.Prelude.{Result, Ok, Err}
use Rattle.intake.specs.declared.Fault.{Fault}
use mathlib.Core.Bool.{Bool, true, false}
use mathlib.Core.List.{List}
use mathlib.Core.Path.{◌≡◌, refl, ap, sym, ◌∙◌}
use Prim.Native.Nat.{ℕ, ◌*◌, ◌≤◌}
use native.Mathlib.Omega.{arith}
use borrow.Author.Tests.{ltb-false}
use lib.Dec.{ltb}
use lib.ListN.{length, take, drop}
use lib.Seq.{take_at}
use Rattle.particle.specs.Record.{record_size}
use Rattle.particle.specs.Tree.{Particle, single, size_i, tree}
use Rattle.particle.specs.Encode.{encode}
use Rattle.particle.proofs.ItemEncodes.{length_encode}
use Rattle.particle.proofs.Encoded.{encoded_tree}
use Rattle.tidying.specs.Tidy.{tidy}
use Rattle.tidying.proofs.Shape.{left_alone}
use Rattle.tidying.proofs.TidyTrees.{tidy_twice}
use Rattle.tidying.proofs.Fewer.{count_tells}
use Rattle.intake.specs.Scan.{refusal_in, alone}
use Rattle.intake.specs.Accepted.{TreeFits}
use Rattle.intake.proofs.AcceptedFits.{accepted_fits}
use Rattle.intake.proofs.FitsAccepted.{fits_accepted}
use Rattle.entries.specs.Answer.{gives, refusal_alone}
use Rattle.entries.specs.TidyAnswer.{tidied_tree, starting_with, tidy_or, tidy_answer, tidy_buffer}
use Rattle.entries.specs.TidyFacts.{Tidies, tidied_bytes, AcceptedTidied, TidiedAccepted, TidiedFitsLeaves, TidiedAgain, CountTellsTidy, BytesTellTidy}
use Rattle.entries.proofs.Tidied.{tidied, tidied_written}
use Rattle.entries.proofs.TidiedFits.{tidy_fits}

pub accepted_tidied : AcceptedTidied
accepted_tidied t out a l = (size_i (tidied_tree t), sym (tidied t out a l refl))

-- t was accepted and the buffer long enough
pub record Given (t out : List ℕ) (n : ℕ) : Type 0 where
  pub accepted : refusal_alone t ≡ Ok tt
  pub long : length t ≤ length out
  pub count : n ≡ size_i (tidied_tree t)

pub given : (t out : List ℕ) (n : ℕ) → tidy_answer t out ≡ gives n → Given t out n
unfolding tidy_answer
given t out n e =
    let (a, l, c) = go (refusal_alone t) (ltb (length out) (length t)) (size_i (tidied_tree t)) e in
    record { accepted = a; long = ltb-false (length out) (length t) l; count = c }
  where
    go : (c : Result (Unit {0}) Fault) (short : Bool) (m : ℕ) → tidy_or c short m ≡ gives n → (c ≡ Ok tt) × (short ≡ false) × (n ≡ m)
    go (Err f) short m e = let z : ◌≡◌ {A = ℕ} 0 1 = cc in absurd (omega arith)
    go (Ok tt) true m e = let z : ◌≡◌ {A = ℕ} 0 1 = cc in absurd (omega arith)
    go (Ok tt) false m e = (refl, refl, cc)

-- the buffer then starts with the tidied tree
pub buffer_is : {t out : List ℕ} {n : ℕ} → Given t out n → tidy_buffer t out ≡ starting_with (encode (tidied_tree t)) out
buffer_is {t} {out} g = sym (tidied_written t out g.accepted g.long refl)

module _ {t out : List ℕ} {n : ℕ} (a : Tidies t out n) where
  pub taken : Given t out n
  taken = given t out n a.answered

  encoded_length : length (encode (tidied_tree t)) ≡ record_size * n
  encoded_length = omega (arith, length_encode (tidied_tree t), taken.count)

  pub bytes_are : tidied_bytes t out n ≡ encode (tidied_tree t)
  bytes_are = ap (take (record_size * n)) (buffer_is taken) ∙ take_at (encode (tidied_tree t)) (drop (length (encode (tidied_tree t))) out) (record_size * n) encoded_length

  pub tree_is : tree (tidied_bytes t out n) ≡ tidy (tree t)
  tree_is = ap tree bytes_are ∙ encoded_tree (tidy (tree t))

  pub handed_in : (t ≡ encode (single (tree t))) × TreeFits alone (tree t)
  handed_in = accepted_fits alone t a.bytes taken.accepted

pub tidied_fits_leaves : TidiedFitsLeaves
tidied_fits_leaves t out n a known k =
    let f = tidy_fits known (tree t) (accepted_fits known t a.bytes k).1 in
    ap (refusal_in known) (bytes_are a) ∙ fits_accepted known (tidy (tree t)) f

pub tidied_accepted : TidiedAccepted
tidied_accepted t out n a = (tidied_fits_leaves t out n a alone (taken a).accepted, tree_is a)

pub tidied_again : TidiedAgain
tidied_again t out n a again l =
    let s = tidied_bytes t out n in
    let twice : tidied_tree s ≡ tidied_tree t = ap (λ (x : Particle). single x) (ap tidy (tree_is a) ∙ tidy_twice (tree t)) in
    let answered : tidy_answer s again ≡ gives n = sym (tidied s again (tidied_accepted t out n a).0 l ((taken a).count ∙ ap size_i (sym twice))) in
    let g = given s again n answered in
    let whole : tidy_buffer s again ≡ starting_with s again = buffer_is g ∙ ap (λ (b : List ℕ). starting_with b again) (ap encode twice ∙ sym (bytes_are a)) in
    let size : length s ≡ record_size * n = ap length (bytes_are a) ∙ encoded_length a in
    (answered, ap (take (record_size * n)) whole ∙ take_at s (drop (length s) again) (record_size * n) size, whole)

-- Which trees the entry gives back as they are -----------------------------------------------------

pub count_tells_tidy : CountTellsTidy
count_tells_tidy t out n a =
    let x = tree t in
    let n_is : record_size * n ≡ record_size * size_i (single (tidy x)) = ap (λ (m : ℕ). record_size * m) (taken a).count in
    let t_is : length t ≡ record_size * size_i (single x) = ap length (handed_in a).0 ∙ length_encode (single x) in (
      λ e. (count_tells x).0 (omega arith),
      λ y. n_is ∙ (ap (λ (m : ℕ). record_size * m) ((count_tells x).1 y) ∙ sym t_is),
    )

pub bytes_tell_tidy : BytesTellTidy
bytes_tell_tidy t out n a = (
  λ e. (left_alone (tree t)).0 (sym (tree_is a) ∙ ap tree e),
  λ y. bytes_are a ∙ (ap (λ (x : Particle). encode (single x)) ((left_alone (tree t)).1 y) ∙ sym (handed_in a).0),
)

-- How a chain is answered: what was found before each answer. Assumes nothing.
use Rattle.std.specs.Prelude.{Result, Ok, Err}
use mathlib.Core.Bool.{Bool, true, false, cond}
use mathlib.Core.List.{List}
use mathlib.Core.Option.{Option, none, some}
use mathlib.Core.Path.{◌≡◌, refl}
use Prim.Native.Nat.{ℕ, ◌*◌, ◌≤◌}
use lib.Dec.{ltb}
use lib.ListN.{length}
use borrow.Author.Tests.{ltb-false}
use Rattle.particle.specs.Record.{record_size}
use Rattle.particle.specs.Tree.{Particle, single, size_i}
use Rattle.intake.specs.declared.Fault.{Fault}
use Rattle.intake.specs.declared.Refusal.TheVariants.{Buffer, Derived, Chain, Limit}
use Rattle.intake.specs.Number.{refusal_number}
use Rattle.entries.specs.Answer.{Answer, gives, refused}
use Rattle.chain.specs.Layout.{levels}
use Rattle.chain.specs.Answer.{chain_ok, levels_refusal, joined_tree, over_limits, content_answer, after_levels, chain_answer}

-- a chain whose trees are accepted
pub record Sound (c : List ℕ) : Type 0 where
  pub ok : chain_ok c ≡ true
  pub accepted : levels_refusal (levels c) ≡ Ok tt

-- every way to an answer, in the order of the checks
pub data Reached (c out : List ℕ) : Answer (Option ℕ) → Type 0 where
  no_chain : chain_ok c ≡ false → Reached c out (refused (refusal_number Chain))
  bad_tree : {f : Fault} → chain_ok c ≡ true → levels_refusal (levels c) ≡ Err f → Reached c out (refused (refusal_number (Derived f)))
  no_content : Sound c → joined_tree c ≡ none → Reached c out (gives none)
  too_large : {x : Particle} → Sound c → joined_tree c ≡ some x → over_limits x ≡ true → Reached c out (refused (refusal_number Limit))
  too_short : {x : Particle} → Sound c → joined_tree c ≡ some x → over_limits x ≡ false → Reached c out (refused (refusal_number Buffer))
  joins : {x : Particle} → Sound c → joined_tree c ≡ some x → over_limits x ≡ false → record_size * size_i (single x) ≤ length out → Reached c out (gives (some (size_i (single x))))

-- the answer by what the checks find; all others speak of it by these
module _ (c out : List ℕ) where
  pub not_chain : chain_ok c ≡ false → chain_answer c out ≡ refused (refusal_number Chain)
  unfolding chain_answer
  not_chain k = rw k

  pub of_levels : chain_ok c ≡ true → {f : Result (Unit {0}) Fault} → levels_refusal (levels c) ≡ f → chain_answer c out ≡ after_levels f (content_answer (joined_tree c) (length out))
  unfolding chain_answer
  of_levels k a = rw (k, a)

  sized : {x : Particle} → Sound c → joined_tree c ≡ some x → over_limits x ≡ false → (short : Bool) → ltb (length out) (record_size * size_i (single x)) ≡ short → Reached c out (cond short (refused (refusal_number Buffer)) (gives (some (size_i (single x)))))
  sized s i l true e = too_short s i l
  sized {x} s i l false e = joins s i l (ltb-false (length out) (record_size * size_i (single x)) e)

  limited : (x : Particle) → Sound c → joined_tree c ≡ some x → (over : Bool) → over_limits x ≡ over → Reached c out (content_answer (some x) (length out))
  limited x s i true l = rw l (too_large s i l)
  limited x s i false l = rw l (sized s i l (ltb (length out) (record_size * size_i (single x))) refl)

  joined : Sound c → (t : Option Particle) → joined_tree c ≡ t → Reached c out (content_answer t (length out))
  joined s none i = no_content s i
  joined s (some x) i = limited x s i (over_limits x) refl

  checked : chain_ok c ≡ true → (f : Result (Unit {0}) Fault) → levels_refusal (levels c) ≡ f → Reached c out (after_levels f (content_answer (joined_tree c) (length out)))
  checked k (Ok _) a = joined (record { ok = k; accepted = a }) (joined_tree c) refl
  checked k (Err f) a = bad_tree k a

  pub reached : Reached c out (chain_answer c out)
  reached = laid (chain_ok c) refl
    where
      laid : (ok : Bool) → chain_ok c ≡ ok → Reached c out (chain_answer c out)
      laid true k = rw (of_levels k refl) (checked k (levels_refusal (levels c)) refl)
      laid false k = rw (not_chain k) (no_chain k)

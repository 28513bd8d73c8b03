-- What is turned away, and when nothing is written. Assumes nothing.
use Rattle.std.specs.Prelude.{Ok}
use mathlib.Core.Bool.{true, false, false≢true}
use mathlib.Core.List.{List, [], ◌∷◌}
use mathlib.Core.Logic.{inl, inr, ⊎_elim, ◌↔◌}
use mathlib.Core.Option.{Option, none, some}
use mathlib.Core.Path.{◌≡◌, refl, sym, ◌∙◌}
use Prim.Native.Nat.{ℕ}
use lib.Dec.{ltb}
use borrow.Author.Tests.{ltb-true, lt-ltb}
use Rattle.particle.specs.Record.{max_records}
use Rattle.particle.specs.Tree.{Particle, single, size_i}
use Rattle.particle.proofs.Tests.{or-true, left_true, right_true}
use Rattle.tidying.specs.Depth.{depth_of}
use Rattle.intake.specs.declared.Refusal.{Refusal}
use Rattle.intake.specs.declared.Refusal.TheVariants.{Buffer, Derived, Chain, Limit}
use Rattle.intake.specs.Limits.{max_depth}
use Rattle.intake.specs.Number.{refusal_number}
use Rattle.intake.specs.Scan.{alone}
use Rattle.intake.proofs.OneRefusal.{one_refusal}
use Rattle.intake.proofs.FitsAccepted.{fits_accepted}
use Rattle.entries.specs.Answer.{Answer, gives, refused}
use Rattle.chain.specs.Layout.{levels}
use Rattle.chain.specs.Effective.{present}
use Rattle.chain.specs.Answer.{chain_ok, levels_refusal, joined_tree, over_limits, chain_answer, chain_buffer}
use Rattle.chain.specs.Facts.{OverALimit, LimitExactly, OverExactly, NoContentExactly, NothingWritten}
use Rattle.chain.proofs.Levels.{absent_accepted, accepted_levels}
use Rattle.chain.proofs.Joined.{one_broken, accepted_within, joined_is, joined_absent, tree_fits}
use Rattle.chain.proofs.Written.{not_given}
use Rattle.chain.proofs.Answered.{Reached, no_chain, bad_tree, no_content, too_large, too_short, joins, not_chain, of_levels, reached}

-- 16 -----------------------------------------------------------------------------------------

over_iff : (x : Particle) → (over_limits x ≡ true) ↔ OverALimit x
over_iff x =
    let r = ltb max_records (size_i (single x)) in
    let d = ltb max_depth (depth_of (single x)) in (
      λ e. ⊎_elim (λ t. inl (ltb-true max_records (size_i (single x)) t)) (λ t. inr (ltb-true max_depth (depth_of (single x)) t)) (or-true r d e),
      ⊎_elim (λ l. left_true r d (lt-ltb max_records (size_i (single x)) l)) (λ l. right_true r d (lt-ltb max_depth (depth_of (single x)) l)),
    )

chain_over : (c out : List ℕ) → chain_ok c ≡ true → levels_refusal (levels c) ≡ Ok tt → {x : Particle} → joined_tree c ≡ some x → over_limits x ≡ true → chain_answer c out ≡ refused (refusal_number Limit)
chain_over c out k a i l = of_levels c out k a ∙ rw (i, l)

all_absent : (c out : List ℕ) → chain_ok c ≡ true → present (levels c) ≡ [] → chain_answer c out ≡ gives none
all_absent c out k p = of_levels c out k (absent_accepted (levels c) p) ∙ rw (joined_absent c p)

-- two refusals are told apart by their numbers
apart : (r q : Refusal) → (r ≡ q → ⊥) → ◌≡◌ {A = Answer (Option ℕ)} (refused (refusal_number r)) (refused (refusal_number q)) → ⊥
apart r q d e = d (one_refusal r q cc)

pub limit_exactly : LimitExactly
limit_exactly c out = (go (reached c out), back)
  where
    Over : Type 0
    Over = (chain_ok c ≡ true) × (levels_refusal (levels c) ≡ Ok tt) × ((x : Particle) × (joined_tree c ≡ some x) × OverALimit x)

    go : {a : Answer (Option ℕ)} → Reached c out a → a ≡ refused (refusal_number Limit) → Over
    go (no_chain k) e = absurd (apart Chain Limit (λ z. cc) e)
    go (bad_tree {f} k g) e = absurd (apart (Derived f) Limit (λ z. cc) e)
    go (no_content s i) e = absurd (not_given (sym e))
    go (too_large {x} s i l) e = (s.ok, s.accepted, (x, i, (over_iff x).0 l))
    go (too_short s i l) e = absurd (apart Buffer Limit (λ z. cc) e)
    go (joins s i l r) e = absurd (not_given (sym e))

    back : Over → chain_answer c out ≡ refused (refusal_number Limit)
    back (k, a, o) = chain_over c out k a o.1 ((over_iff o.0).1 o.2)

pub over_exactly : OverExactly
over_exactly c b a x i = (
  λ o e. false≢true (sym (accepted_within alone x e) ∙ (over_iff x).1 o),
  λ n. (over_iff x).0 (one_broken x (λ l. n (fits_accepted alone x (tree_fits c b alone (accepted_levels (levels c) a) i l)))),
)

-- 15 -----------------------------------------------------------------------------------------

pub chain_refused : (c out : List ℕ) → (chain_answer c out ≡ refused (refusal_number Chain)) ↔ (chain_ok c ≡ false)
chain_refused c out = (go (reached c out), not_chain c out)
  where
    go : {a : Answer (Option ℕ)} → Reached c out a → a ≡ refused (refusal_number Chain) → chain_ok c ≡ false
    go (no_chain k) e = k
    go (bad_tree {f} k g) e = absurd (apart (Derived f) Chain (λ z. cc) e)
    go (no_content s i) e = absurd (not_given (sym e))
    go (too_large s i l) e = absurd (apart Limit Chain (λ z. cc) e)
    go (too_short s i l) e = absurd (apart Buffer Chain (λ z. cc) e)
    go (joins s i l r) e = absurd (not_given (sym e))

-- 'No content' -------------------------------------------------------------------------------

pub no_content_exactly : NoContentExactly
no_content_exactly c out = (go (reached c out), λ (k, p). all_absent c out k p)
  where
    none_present : joined_tree c ≡ none → (ts : List (List ℕ)) → present (levels c) ≡ ts → ts ≡ []
    none_present i [] p = refl
    none_present i (t ∷ ts) p =
        let j = joined_is c p in
        cc

    go : {a : Answer (Option ℕ)} → Reached c out a → a ≡ gives none → (chain_ok c ≡ true) × (present (levels c) ≡ [])
    go (no_chain k) e = absurd (not_given e)
    go (bad_tree k f) e = absurd (not_given e)
    go (no_content s i) e = (s.ok, none_present i (present (levels c)) refl)
    go (too_large s i l) e = absurd (not_given e)
    go (too_short s i l) e = absurd (not_given e)
    go (joins s i l r) e = cc

pub nothing_written : NothingWritten
unfolding chain_buffer
nothing_written c out = (λ n e. rw e, λ e. rw e)

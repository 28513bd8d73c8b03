-- Why demand 3 supposes what it does of names, of a zero maximum below the derived root, and of an empty choice in the base: pairs that pass where a sequence of names is allowed by the derived tree and not by the base. Assumes nothing.
use mathlib.Core.Bool.{Bool, true, false}
use mathlib.Core.List.{List, [], ◌∷◌}
use mathlib.Core.Logic.{inl}
use mathlib.Core.Path.{◌≡◌, refl, ◌∙◌}
use Prim.Native.Nat.{ℕ}
use native.Mathlib.Omega.{arith}
use lib.Dec.{eqb}
use borrow.Author.Tests.{eqb-true}
use Rattle.particle.specs.declared.MaxOccurs.TheVariants.{Bounded}
use Rattle.particle.specs.declared.Occurs.{Occurs}
use Rattle.particle.specs.Tree.{Particle, ◌then◌, count_i, size_i, fold}
use Rattle.particle.specs.Empty.{emptiable}
use Rattle.totals.specs.Exact.{sum, span, exact_total}
use Rattle.totals.specs.Total.{total}
use Rattle.language.specs.Language.{AtMost, Names, Allows}
use Rattle.language.specs.Premises.{BelowRoot, Throughout, NoZeroMaximum, NoEmptyChoice, Ordered}
use Rattle.language.proofs.Rounds.{one_round, no_round, only_round}
use Rattle.language.proofs.Lengths.{exact_length}
use Rattle.language.proofs.Examples.{own}
use Rattle.tidying.specs.Tidy.{tidy_items, tidy}
use Rattle.rules.specs.Verdicts.{Mark, passes}
use Rattle.rules.specs.Combine.{◌or_fails◌}
use Rattle.rules.specs.Walk.{left_over, recurse_ordered, alternatives, each_member}
use Rattle.rules.specs.Rule.{rule}
use Rattle.rules.specs.Mark.{restrict_to, restrict, mark_tidied, mark}
use Rattle.rules.specs.Demand.{AllOk, NamesAmong, LeafKnown, Supposed}
use Rattle.rules.specs.Examples.{pair, once, a, S, C, letters, equal_letters}

-- What demand 3 supposes of a tree, but that a zero maximum below its root, or an empty choice, may be there.
pub record ZeroBelowAllowed (x : Particle) : Type 0 where
  pub leaves_known : Throughout (λ h k. LeafKnown letters h) x
  pub ordered : Throughout Ordered x
  pub no_empty_choice : Throughout NoEmptyChoice x

pub record EmptyChoiceAllowed (x : Particle) : Type 0 where
  pub leaves_known : Throughout (λ h k. LeafKnown letters h) x
  pub ordered : Throughout Ordered x
  pub no_zero_below : BelowRoot NoZeroMaximum x

-- P holds of a tree, and no record of it, its root neither, has a zero maximum, as document 01 supposes.
abbrev pub NoZero : (P : Particle → Type 0) → Particle → Type 0
NoZero P x = P x × Throughout NoZeroMaximum x

-- no leaf has a name
abbrev pub nameless : Names
nameless l x = ⊥

-- demand 3's premise on names, each letter as derived being its own name
abbrev pub Among : (base : Names) → Type 0
Among = NamesAmong letters equal_letters own

abbrev pub NoPremise : (base : Names) → Type 0
NoPremise base = Unit {0}

-- N holds of the base's names, D of d and B of b; yet d | b passes where d allows a sequence of names that b does not.
module _ (N : Names → Type 0) (base : Names) (D B : Particle → Type 0) (d b : Particle) where
  abbrev pub Counterexample : Type 0
  Counterexample = N base × D d × B b × (mark letters equal_letters d b ≡ passes) × ((w : List ℕ) × Allows own d w × ¬ (Allows base b w))

second_ok : (c c' : Bool) (f s : Mark) → AllOk c c' f s → s ≡ passes
second_ok false false f s o = o.1
second_ok false true f s o = o
second_ok true false f s o = absurd o
second_ok true true f s o = o

-- demand 3's premise on names, where each letter has its own name
pub own_among : NamesAmong letters equal_letters own own
own_among l m f g o x e = e ∙ eqb-true l m (go (eqb l m) (second_ok (eqb l 3) (eqb m 3) (eqb l m or_fails 140) (eqb l m or_fails 140) o))
  where
    go : (c : Bool) → c or_fails 140 ≡ passes → c ≡ true
    go true e = refl
    go false e = let z : ◌≡◌ {A = ℕ} 0 1 = cc in absurd (omega arith)

once_not_zero : ¬ (once.max ≡ Bounded 0)
once_not_zero e = let z : ◌≡◌ {A = ℕ} 1 0 = cc in omega arith

-- a root alone is as demand 3 supposes, whatever its pair
letter_a : (p : Occurs) → AtMost p.min p.max → Supposed letters (a p)
letter_a p o = record { leaves_known = ((omega arith, refl), tt); ordered = (o, tt); no_empty_choice = (tt, tt); no_zero_below = tt }

one_a : Allows own (a once) (0 ∷ [])
unfolding Allows
one_a = one_round (omega arith) (omega arith) (0 ∷ []) (0, refl, refl)

never_a_lem : ZeroBelowAllowed (C once (a (pair 0 0) ∷ []))
never_a_lem = record {
  leaves_known = (tt, (((omega arith, refl), tt), tt));
  ordered = (omega arith, ((omega arith, tt), tt));
  no_empty_choice = (λ e. let z : ◌≡◌ {A = ℕ} 0 1 = cc in omega arith, ((tt, tt), tt));
}

no_alternative : EmptyChoiceAllowed (C once [])
no_alternative = record { leaves_known = (tt, tt); ordered = (omega arith, tt); no_zero_below = tt }

with_empty_choice : NoZero EmptyChoiceAllowed (S once (a once ∷ C once [] ∷ []))
with_empty_choice =
    let below : BelowRoot NoZeroMaximum (S once (a once ∷ C once [] ∷ [])) = ((once_not_zero, tt), ((once_not_zero, tt), tt)) in
    (record { leaves_known = (tt, (((omega arith, refl), tt), ((tt, tt), tt))); ordered = (omega arith, ((omega arith, tt), ((omega arith, tt), tt))); no_zero_below = below }, (once_not_zero, below))

pub premises_needed :
    -- the names, a | a: the base allows nothing where its leaf has no name
    Counterexample NoPremise nameless (Supposed letters) (Supposed letters) (a once) (a once)
    -- a zero maximum below the derived root, C[a(0,0)] | a: the derived tree allows the empty sequence
    × Counterexample Among own ZeroBelowAllowed (Supposed letters) (C once (a (pair 0 0) ∷ [])) (a once)
    -- an empty choice in the base, a(0,0) | C[]: the base allows nothing
    × Counterexample Among own (Supposed letters) EmptyChoiceAllowed (a (pair 0 0)) (C once [])
    -- the same where no record has a zero maximum, a | S[a,C[]]
    × Counterexample Among own (NoZero (Supposed letters)) (NoZero EmptyChoiceAllowed) (a once) (S once (a once ∷ C once [] ∷ []))
unfolding mark mark_tidied restrict restrict_to rule recurse_ordered left_over alternatives each_member tidy tidy_items ◌then◌ emptiable total exact_total sum span fold count_i size_i Allows
premises_needed = (
  (tt, letter_a once (omega arith), letter_a once (omega arith), refl, (0 ∷ [], one_a, λ r. (only_round refl (0 ∷ []) r).1)),
  (own_among, never_a_lem, letter_a once (omega arith), refl, ([], one_round (omega arith) (omega arith) [] (inl (no_round refl)), λ r. omega (arith, (exact_length own (a once) [] r).0))),
  (own_among, letter_a (pair 0 0) (omega arith), no_alternative, refl, ([], no_round refl, λ r. only_round refl [] r)),
  (own_among, (letter_a once (omega arith), (once_not_zero, tt)), with_empty_choice, refl, (0 ∷ [], one_a, λ r. let p = only_round refl (0 ∷ []) r in only_round refl p.right.front p.right.left)),
)

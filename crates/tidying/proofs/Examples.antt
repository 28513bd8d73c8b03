-- Examples of tidying: document 01's, its likely mistake, the cases that the Rust settles, and the smallest cases that show which premise is needed for what (document 02 §8). Assumes nothing.
use mathlib.Core.Bool.{true, false}
use mathlib.Core.List.{List, []}
use mathlib.Core.Path.{◌≡◌, refl, ap}
use Prim.Native.Nat.{ℕ}
use native.Mathlib.Omega.{arith}
use Rattle.particle.specs.declared.MaxOccurs.TheVariants.{Bounded}
use Rattle.particle.specs.declared.Occurs.{Occurs}
use Rattle.particle.specs.Occurs.{exactly}
use Rattle.particle.specs.Tree.{element, sequence, choice, all, Items, none, item, Particle, single, size_i, count_i, fold, ◌then◌}
use Rattle.particle.specs.Empty.{emptiable}
use Rattle.totals.specs.Exact.{span, exact_total}
use Rattle.language.specs.Language.{Names, Allows}
use Rattle.language.specs.Premises.{NoZeroMaximum}
use Rattle.language.proofs.Emptiness.{emptiable_allows}
use Rattle.language.proofs.Rounds.{once_same}
use Rattle.tidying.specs.Tidy.{tidy_items, tidy}
use Rattle.tidying.specs.TidyTree.{Outside, BelowOutside, NoOwnKind, NoLoneItem}
use Rattle.tidying.proofs.Premises.{item_some}

-- the pair (m, n), and (1,1)
abbrev pair : ℕ → ℕ → Occurs
pair m n = record { min = m; max = Bounded n }

abbrev once : Occurs
once = exactly 1

-- S p [k], C p [k], A p [k]
abbrev S : Occurs → Items → Particle
S p k = record { head = sequence p; items = k }

abbrev C : Occurs → Items → Particle
C p k = record { head = choice p; items = k }

abbrev A : Occurs → Items → Particle
A p k = record { head = all p; items = k }

-- the elements a p and b p
abbrev a : Occurs → Particle
a p = record { head = element 1 p; items = none }

abbrev b : Occurs → Particle
b p = record { head = element 2 p; items = none }

pub tidying_examples :
    -- P: S(2,3)[C[a,b]] is C(2,3)[a,b]
    (tidy (S (pair 2 3) (single (C once (single (a once) then single (b once))))) ≡ C (pair 2 3) (single (a once) then single (b once)))
    -- C[a,C[]] becomes a
    × (tidy (C once (single (a once) then single (C once none))) ≡ a once)
    -- S(0,1)[C[S[]]] becomes S(0,1)[]: own kind is judged after the item is tidied
    × (tidy (S (pair 0 1) (single (C once (single (S once none))))) ≡ S (pair 0 1) none)
    -- C(0,1)[S[]] is unchanged
    × (tidy (C (pair 0 1) (single (S once none))) ≡ C (pair 0 1) (single (S once none)))
    -- A(0,1)[a(0,0)] is unchanged
    × (tidy (A (pair 0 1) (single (a (exactly 0)))) ≡ A (pair 0 1) (single (a (exactly 0))))
unfolding tidy tidy_items ◌then◌
tidying_examples = (refl, refl, refl, refl, refl)

-- The premises of what is kept ------------------------------------------------------------------

-- Emptiness and the total range ask for no empty choice: C[a,C[]] is emptiable, of total range (0,1), and a, to which it is tidied, is not.
abbrev pub a_or_empty : Particle
a_or_empty = C once (single (a once) then single (C once none))

pub empty_choice_needed : (emptiable a_or_empty ≡ true) × (emptiable (tidy a_or_empty) ≡ false) × (exact_total a_or_empty ≡ pair 0 1) × (exact_total (tidy a_or_empty) ≡ once)
unfolding tidy tidy_items ◌then◌ emptiable fold exact_total span
empty_choice_needed = (refl, refl, refl, refl)

-- They ask for no zero maximum: so it is with C[a,b(0,0)].
abbrev pub a_or_never : Particle
a_or_never = C once (single (a once) then single (b (exactly 0)))

pub zero_maximum_needed : (emptiable a_or_never ≡ true) × (emptiable (tidy a_or_never) ≡ false) × (exact_total a_or_never ≡ pair 0 1) × (exact_total (tidy a_or_never) ≡ once)
unfolding tidy tidy_items ◌then◌ emptiable fold exact_total span
zero_maximum_needed = (refl, refl, refl, refl)

-- What is allowed asks for no zero maximum: C[a(0,0)] allows the empty word, and C[], to which it is tidied, no word at all.
abbrev pub never_a : Particle
never_a = C once (item (element 1 (exactly 0)) none none)

pub zero_maximum_loses : (names : Names) → Allows names never_a [] × ((w : List ℕ) → ¬ (Allows names (tidy never_a) w))
unfolding tidy tidy_items emptiable fold Allows
zero_maximum_loses names = (
  emptiable_allows names never_a (omega arith, ((omega arith, tt), tt)) (item_some (element 1 (exactly 0)) none none, ((tt, tt), tt)) refl,
  λ w r. (once_same refl w).0 r,
)

-- That the tidied tree is emptiable only where the tree is asks for pairs in order, as every accepted tree has them: not so S[a(1,0)].
abbrev pub unordered : Particle
unordered = S once (single (a (pair 1 0)))

pub order_needed : (emptiable unordered ≡ false) × (emptiable (tidy unordered) ≡ true)
unfolding tidy tidy_items emptiable fold
order_needed = (refl, refl)

-- The sentences on a tidy tree ----------------------------------------------------------------------

-- S(0,1)[C[]] has the shape that document 02 names in three sentences, and tidying alters it: it is C(0,1)[] then.
abbrev pub maybe_empty : Particle
maybe_empty = S (pair 0 1) (single (C once none))

pub fourth_needed : BelowOutside NoZeroMaximum maybe_empty × Outside NoOwnKind maybe_empty × Outside NoLoneItem maybe_empty × (¬ (tidy maybe_empty ≡ maybe_empty))
unfolding tidy tidy_items size_i count_i
fourth_needed = (
  λ _. ((λ e. cc, λ _. tt), tt),
  ((λ _. (λ k. absurd (omega arith), tt), λ _. ((λ _. tt, λ _. tt), tt)), tt),
  ((λ _ o. absurd (not_once o), λ _. ((λ _ _ e. absurd (none_counted e), λ _. tt), tt)), tt),
  λ e. let n : ◌≡◌ {A = ℕ} 1 2 = ap (λ (x : Particle). size_i (single x)) e in omega arith,
)
  where
    not_once : pair 0 1 ≡ exactly 1 → ⊥
    not_once o = let n : ◌≡◌ {A = ℕ} 0 1 = ap (λ (p : Occurs). p.min) o in omega arith

    none_counted : count_i none ≡ 1 → ⊥
    none_counted e = omega arith

-- The first sentence speaks of no root and of no item of an all-group: S(0,0)[a] and A[a(0,0)] are left alone.
pub zero_maximum_stays :
    (tidy (S (exactly 0) (single (a once))) ≡ S (exactly 0) (single (a once)))
    × (tidy (A once (single (a (exactly 0)))) ≡ A once (single (a (exactly 0))))
unfolding tidy tidy_items
zero_maximum_stays = (refl, refl)

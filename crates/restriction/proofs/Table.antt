-- The table of the rules, five kinds by five: a key that has no arm of its own is a pair of groups of which one cannot restrict the other. Assumes nothing.
use mathlib.Core.Bool.{Bool, true, false, true≢false}
use mathlib.Core.List.{List, [], ◌∷◌}
use mathlib.Core.Path.{◌≡◌, refl}
use Prim.Native.Nat.{ℕ, zero, suc, ◌+◌, ◌*◌, ◌≤◌}
use native.Mathlib.Omega.{arith}
use lib.Dec.{eqb}
use borrow.Author.Tests.{ne_eqb}
use Rattle.particle.specs.declared.Occurs.{Occurs}
use Rattle.particle.specs.Tree.{Items, head_from}
use Rattle.rules.specs.Verdicts.{fails, Leaves, Tables}
use Rattle.rules.specs.Walk.{Judge}
use Rattle.rules.specs.Rule.{rule}

-- x is none of these, as the match's last arm knows it
abbrev pub NoneOf : ℕ → List ℕ → Type 0
NoneOf x [] = Unit {0}
NoneOf x (k ∷ ks) = NoneOf x ks × (x ≡ k → ⊥)

one_of : ℕ → List ℕ → Bool
one_of x [] = false
one_of x (k ∷ ks) = elim (eqb x k) [ true ↦ true | false ↦ one_of x ks ]

none_of : (x : ℕ) (ks : List ℕ) → NoneOf x ks → one_of x ks ≡ false
unfolding one_of
none_of x [] n = refl
none_of x (k ∷ ks) n = rw (one_of, ne_eqb x k n.1) (none_of x ks n.0)

-- the keys 5 * derived + base of the match's arms, the last one first
abbrev pub keys : List ℕ
keys = 24 ∷ 21 ∷ 20 ∷ 18 ∷ 16 ∷ 15 ∷ 14 ∷ 13 ∷ 12 ∷ 11 ∷ 10 ∷ 9 ∷ 8 ∷ 7 ∷ 6 ∷ 5 ∷ 4 ∷ 3 ∷ 2 ∷ 1 ∷ 0 ∷ []

module _ (L : Leaves) (T : Tables) (J : Judge) (l m : ℕ) (p q : Occurs) (di bi : Items) where
  no_arm : (d b : ℕ) → d ≤ 4 → b ≤ 4 → one_of (5 * d + b) keys ≡ false → rule L T J (head_from d l p) di (head_from b m q) bi ≡ fails 115
  unfolding one_of rule
  no_arm zero zero le me n = absurd (true≢false n)
  no_arm zero (suc zero) le me n = absurd (true≢false n)
  no_arm zero (suc (suc zero)) le me n = absurd (true≢false n)
  no_arm zero (suc (suc (suc zero))) le me n = absurd (true≢false n)
  no_arm zero (suc (suc (suc (suc zero)))) le me n = absurd (true≢false n)
  no_arm zero (suc (suc (suc (suc (suc b))))) le me n = absurd (omega arith)
  no_arm (suc zero) zero le me n = absurd (true≢false n)
  no_arm (suc zero) (suc zero) le me n = absurd (true≢false n)
  no_arm (suc zero) (suc (suc zero)) le me n = absurd (true≢false n)
  no_arm (suc zero) (suc (suc (suc zero))) le me n = absurd (true≢false n)
  no_arm (suc zero) (suc (suc (suc (suc zero)))) le me n = absurd (true≢false n)
  no_arm (suc zero) (suc (suc (suc (suc (suc b))))) le me n = absurd (omega arith)
  no_arm (suc (suc zero)) zero le me n = absurd (true≢false n)
  no_arm (suc (suc zero)) (suc zero) le me n = absurd (true≢false n)
  no_arm (suc (suc zero)) (suc (suc zero)) le me n = absurd (true≢false n)
  no_arm (suc (suc zero)) (suc (suc (suc zero))) le me n = absurd (true≢false n)
  no_arm (suc (suc zero)) (suc (suc (suc (suc zero)))) le me n = absurd (true≢false n)
  no_arm (suc (suc zero)) (suc (suc (suc (suc (suc b))))) le me n = absurd (omega arith)
  no_arm (suc (suc (suc zero))) zero le me n = absurd (true≢false n)
  no_arm (suc (suc (suc zero))) (suc zero) le me n = absurd (true≢false n)
  no_arm (suc (suc (suc zero))) (suc (suc zero)) le me n = refl
  no_arm (suc (suc (suc zero))) (suc (suc (suc zero))) le me n = absurd (true≢false n)
  no_arm (suc (suc (suc zero))) (suc (suc (suc (suc zero)))) le me n = refl
  no_arm (suc (suc (suc zero))) (suc (suc (suc (suc (suc b))))) le me n = absurd (omega arith)
  no_arm (suc (suc (suc (suc zero)))) zero le me n = absurd (true≢false n)
  no_arm (suc (suc (suc (suc zero)))) (suc zero) le me n = absurd (true≢false n)
  no_arm (suc (suc (suc (suc zero)))) (suc (suc zero)) le me n = refl
  no_arm (suc (suc (suc (suc zero)))) (suc (suc (suc zero))) le me n = refl
  no_arm (suc (suc (suc (suc zero)))) (suc (suc (suc (suc zero)))) le me n = absurd (true≢false n)
  no_arm (suc (suc (suc (suc zero)))) (suc (suc (suc (suc (suc b))))) le me n = absurd (omega arith)
  no_arm (suc (suc (suc (suc (suc d))))) b le me n = absurd (omega arith)

  pub other_kinds : (d b : ℕ) → d ≤ 4 → b ≤ 4 → NoneOf (5 * d + b) keys → rule L T J (head_from d l p) di (head_from b m q) bi ≡ fails 115
  other_kinds d b le me n = no_arm d b le me (none_of (5 * d + b) keys n)

-- The type numbers are in order just where there is one for each leaf and the table has each element's. Assumes nothing.
use mathlib.Core.Path.{◌≡◌, refl, ap}
use mathlib.Core.Bool.{Bool, true, false, not, ◌||◌}
use mathlib.Core.List.{List, [], ◌∷◌}
use mathlib.Core.Logic.{◌↔◌}
use Prim.Native.Nat.{ℕ, zero, suc, pred, ◌<◌}
use native.Mathlib.Omega.{arith}
use lib.ListN.{length, get_or}
use borrow.Author.Tests.{ltb-true, lt-ltb, eqb-true, eq-eqb}
use Rattle.particle.proofs.Tests.{and-true}
use Rattle.types.specs.Derives.{has_type}
use Rattle.types.specs.Fill.{is_element, types_ok}
use Rattle.types.specs.Facts.{TypesFit}
use Rattle.types.proofs.Entry.{one_for_each}

module _ (parents : List ℕ) where
  known : (k t : ℕ) → (not (is_element k) || has_type parents t) ≡ true → k ≡ 0 → t < length parents
  known k t e z = ltb-true t (length parents) (rw (eq-eqb k 0 z) at e)

  each : (kinds types : List ℕ) → types_ok parents kinds types ≡ true → (l : ℕ) → l < length kinds → get_or kinds l 0 ≡ 0 → get_or types l 0 < length parents
  unfolding types_ok
  each [] types e l h z = absurd (omega arith)
  each (k ∷ ks) [] e l h z = cc
  each (k ∷ ks) (t ∷ ts) e zero h z = known k t (and-true (not (is_element k) || has_type parents t) _ e).0 z
  each (k ∷ ks) (t ∷ ts) e (suc l) h z = each ks ts (and-true (not (is_element k) || has_type parents t) _ e).1 l (omega arith) z

  first : (k t : ℕ) → (k ≡ 0 → t < length parents) → (not (is_element k) || has_type parents t) ≡ true
  first k t f = go (is_element k) refl
    where
      go : (x : Bool) → is_element k ≡ x → (not x || has_type parents t) ≡ true
      go true e = lt-ltb t (length parents) (f (eqb-true k 0 e))
      go false e = refl

  back : (kinds types : List ℕ) → TypesFit parents kinds types → types_ok parents kinds types ≡ true
  unfolding types_ok
  back [] [] f = refl
  back [] (t ∷ ts) f = absurd (omega (arith, f.0))
  back (k ∷ ks) [] f = absurd (omega (arith, f.0))
  back (k ∷ ks) (t ∷ ts) f = rw (first k t (f.1 0 (omega arith)), back ks ts (ap pred f.0, λ l h z. f.1 (suc l) (omega arith) z))

  pub types_ok_iff : (kinds types : List ℕ) → (types_ok parents kinds types ≡ true) ↔ TypesFit parents kinds types
  types_ok_iff kinds types = (λ e. (one_for_each parents kinds types e, each kinds types e), back kinds types)

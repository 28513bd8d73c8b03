-- Chains of a table whose parents have smaller numbers: the test is the relation, each chain ends at `anyType`, and a chain that has come to the base or below it is decided. Assumes nothing.
use mathlib.Core.Path.{◌≡◌, refl, ap, sym, ◌∙◌}
use mathlib.Core.Bool.{Bool, true, false, ◌||◌, or-true, or_self}
use mathlib.Core.List.{List}
use mathlib.Core.Logic.{◌↔◌}
use Prim.Native.Nat.{ℕ, zero, suc, ◌+◌, ◌-◌, ◌≤◌, ◌<◌}
use native.Mathlib.Nat.{add-zero, add-suc}
use native.Mathlib.Omega.{arith}
use lib.Dec.{eqb}
use borrow.Author.Tests.{eqb-true, eqb-false, eq-eqb, ne_eqb}
use Rattle.types.specs.Derives.{any_type, parent_of, Derives, itself, ancestor, derives_within, derives, Ordered}

-- what the test finds is so, in any table
module _ (parents : List ℕ) where
  same : (d b : ℕ) → eqb d b ≡ true → Derives parents d b
  same d b q = rw (eqb-true d b q) itself

  by_test : (d b : ℕ) (x y : Bool) → eqb d b ≡ x → (y ≡ true → Derives parents (parent_of parents d) b) → (x || y) ≡ true → Derives parents d b
  by_test d b true y q up e = same d b q
  by_test d b false y q up e = ancestor (up e)

  found : (n d b : ℕ) → derives_within n parents d b ≡ true → Derives parents d b
  unfolding derives_within
  found zero d b e = same d b e
  found (suc n) d b e = by_test d b (eqb d b) (derives_within n parents (parent_of parents d) b) refl (found n (parent_of parents d) b) e

module _ (parents : List ℕ) (o : Ordered parents) where
  parent_pred : (n t : ℕ) → t ≤ suc n → parent_of parents t ≤ n
  parent_pred n zero h = omega (arith, o.root)
  parent_pred n (suc t) h = omega (arith, o.falls (suc t) (omega arith))

  -- Enough links -----------------------------------------------------------------

  one_more : (n d b : ℕ) → d ≤ n → derives_within (suc n) parents d b ≡ derives_within n parents d b
  unfolding derives_within
  one_more zero d b h =
      let z : d ≡ 0 = omega arith in
      rw (z, o.root) (or_self (eqb 0 b))
  one_more (suc n) d b h = ap (λ (x : Bool). eqb d b || x) (one_more n (parent_of parents d) b (parent_pred n d h))

  more : (k d b : ℕ) → derives_within (d + k) parents d b ≡ derives parents d b
  more zero d b = rw (add-zero d)
  more (suc k) d b = rw (add-suc d k) (one_more (d + k) d b (omega arith) ∙ more k d b)

  enough : (n d b : ℕ) → d ≤ n → derives_within n parents d b ≡ derives parents d b
  enough n d b h =
      let e : d + (n - d) ≡ n = omega arith in
      ap (λ (k : ℕ). derives_within k parents d b) (sym e) ∙ more (n - d) d b

  -- one link
  link : (d b : ℕ) → derives parents d b ≡ (eqb d b || derives parents (parent_of parents d) b)
  unfolding derives_within
  link zero b = sym (rw o.root (or_self (eqb 0 b)))
  link (suc d) b = ap (λ (x : Bool). eqb (suc d) b || x) (enough d (parent_of parents (suc d)) b (parent_pred d (suc d) (omega arith)))

  -- The walk of the code ---------------------------------------------------------

  -- the base is below: it is derived just where the parent is
  module _ (d b : ℕ) (h : b < d) {p : ℕ} (e : p ≡ parent_of parents d) where
    pub walk_on : {r : Bool} → derives parents d b ≡ r → derives parents p b ≡ r
    walk_on q = rw e (sym (link d b ∙ rw (ne_eqb d b (λ x. omega arith))) ∙ q)

    pub falls_on : p < d
    falls_on = rw e (o.falls d (omega arith))

  none_above : (n d b : ℕ) → d < b → derives_within n parents d b ≡ false
  unfolding derives_within
  none_above zero d b h = ne_eqb d b (λ e. omega arith)
  none_above (suc n) d b h = rw (ne_eqb d b (λ e. omega arith)) (none_above n (parent_of parents d) b (omega (arith, parent_pred d d (omega arith))))

  -- the base is not below: the type is the base, or not derived from it
  pub walk_done : (d b : ℕ) → d ≤ b → {r : Bool} → derives parents d b ≡ r → eqb d b ≡ r
  walk_done d b h q = go (eqb d b) refl ∙ q
    where
      go : (x : Bool) → eqb d b ≡ x → eqb d b ≡ derives parents d b
      go true e = e ∙ sym (link d b ∙ rw e)
      go false e = e ∙ sym (none_above d d b (omega (arith, eqb-false d b e)))

  -- The relation -----------------------------------------------------------------

  has : (d b : ℕ) → Derives parents d b → derives parents d b ≡ true
  has d b itself = link d d ∙ rw (eq-eqb d d refl)
  has d b (ancestor x) = link d b ∙ (ap (λ (y : Bool). eqb d b || y) (has (parent_of parents d) b x) ∙ or-true (eqb d b))

  pub derives_iff : (d b : ℕ) → (derives parents d b ≡ true) ↔ Derives parents d b
  derives_iff d b = (found parents d d b, has d b)

  ends_by : (n t : ℕ) → t ≤ n → Derives parents t any_type
  ends_by zero t h =
      let z : t ≡ 0 = omega arith in
      rw z itself
  ends_by (suc n) t h = ancestor (ends_by n (parent_of parents t) (parent_pred n t h))

  pub chain_ends : (t : ℕ) → Derives parents t any_type
  chain_ends t = ends_by t t (omega arith)

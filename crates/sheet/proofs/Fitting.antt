-- The tests of leaves and verdicts are document 01's conditions, and the leaves that the trees may name are those of the list. Assumes nothing.
use Rattle.std.proofs.lemmas.Bool.Decides.{nat_tests}
use mathlib.Core.Path.{◌≡◌, refl, fun_ext}
use mathlib.Core.Bool.{Bool, true, false, ◌&&◌}
use mathlib.Core.List.{List, [], ◌∷◌, ◌++◌}
use mathlib.Core.Logic.{inl, inr, ⊎_elim}
use Prim.Native.Nat.{ℕ, zero, suc, ◌^◌, ◌<◌}
use native.Mathlib.Omega.{arith}
use lib.Dec.{eqb, leb, leb-suc-suc}
use lib.ListN.{length, drop}
use borrow.Author.Tests.{leb-true, le-leb, eqb-true, lt-ltb, le-ltb}
use Rattle.particle.specs.Encode.{Bytes}
use Rattle.particle.proofs.RoundTrip.{byte_at, bytes_drop}
use Rattle.particle.proofs.Tests.{and-true, or-true}
use Rattle.intake.specs.Scan.{listed}
use Rattle.verdicts.specs.Paper.{leaf_size}
use Rattle.sheet.specs.declared.bodies.Leaf.{Leaf}
use Rattle.sheet.specs.Layout.{leaf_at, leaves_in}
use Rattle.sheet.specs.Refused.{in_range, every, leaf_ok, verdict_ok, kinds_of}
use Rattle.sheet.specs.Fits.{LeafFits, VerdictFits, Each, known_by}

-- Each of a list ---------------------------------------------------------------

module _ {A : Type 0} (ok : A → Bool) (P : A → Type 0) where
  pub every_each : ((x : A) → ok x ≡ true → P x) → (xs : List A) → every ok xs ≡ true → Each P xs
  unfolding every Each
  every_each f [] e = tt
  every_each f (x ∷ xs) e =
      let s = and-true (ok x) (every ok xs) e in
      (f x s.0, every_each f xs s.1)

  pub each_every : ((x : A) → P x → ok x ≡ true) → (xs : List A) → Each P xs → every ok xs ≡ true
  unfolding every Each
  each_every f [] e = refl
  each_every f (x ∷ xs) e = rw (f x e.0) (each_every f xs e.1)

module _ {A : Type 0} (P : A → Type 0) where
  pub each_append : (xs ys : List A) → Each P xs → Each P ys → Each P (xs ++ ys)
  unfolding Each
  each_append [] ys e f = f
  each_append (x ∷ xs) ys e f = (e.0, each_append xs ys e.1 f)

  pub each_split : (xs ys : List A) → Each P (xs ++ ys) → Each P xs × Each P ys
  unfolding Each
  each_split [] ys e = (tt, e)
  each_split (x ∷ xs) ys e =
      let s = each_split xs ys e.1 in
      ((e.0, s.0), s.1)

-- Verdicts ---------------------------------------------------------------------

pub verdict_fits : (v : ℕ) → verdict_ok v ≡ true → VerdictFits v
verdict_fits v e = ⊎_elim (λ a. inl (leb-true v 1 a)) (λ b. let s = and-true (leb 140 v) (leb v 152) b in inr (leb-true 140 v s.0, leb-true v 152 s.1)) (or-true (leb v 1) (in_range 140 152 v) e)

pub fits_verdict : (v : ℕ) → VerdictFits v → verdict_ok v ≡ true
fits_verdict v (inl l) = grind (arith, nat_tests)
fits_verdict v (inr b) = grind (arith, nat_tests)

-- Leaves -----------------------------------------------------------------------

pub leaf_fits : (l : Leaf) → leaf_ok l ≡ true → l.name < 2 ^ 16 → LeafFits l
leaf_fits l e h =
    ⊎_elim
    (λ a. let s = and-true (eqb l.kind 0) (eqb l.process 0) a in inl (eqb-true _ _ s.0, eqb-true _ _ s.1, h))
    (λ b. let s = and-true (eqb l.kind 1) (leb l.process 2 && eqb l.name 0) b in let t = and-true (leb l.process 2) (eqb l.name 0) s.1 in inr (eqb-true _ _ s.0, leb-true _ _ t.0, eqb-true _ _ t.1))
    (or-true (eqb l.kind 0 && eqb l.process 0) (eqb l.kind 1 && (leb l.process 2 && eqb l.name 0)) e)

pub leaves_fit : (n : ℕ) (t : List ℕ) → Bytes t → every leaf_ok (leaves_in n t) ≡ true → Each LeafFits (leaves_in n t)
unfolding every Each leaves_in
leaves_fit zero t b e = tt
leaves_fit (suc n) t b e =
    let s = and-true (leaf_ok (leaf_at t)) (every leaf_ok (leaves_in n (drop leaf_size t))) e in
    (leaf_fits (leaf_at t) s.0 (omega (arith, byte_at t b 2, byte_at t b 3)), leaves_fit n (drop leaf_size t) (bytes_drop leaf_size t b) s.1)

pub fits_leaf : (l : Leaf) → LeafFits l → leaf_ok l ≡ true
fits_leaf l (inl f) = rw (f.0, f.1)
fits_leaf l (inr f) = rw (f.0, le-leb l.process 2 f.1, f.2)

-- no leaf's kind is 2, which stands for either kind in the tree's check
no_either : (l : Leaf) → LeafFits l → eqb l.kind 2 ≡ false
no_either l (inl f) = rw f.0
no_either l (inr f) = rw f.0

known_at : (ls : List Leaf) → Each LeafFits ls → (kind leaf : ℕ) → known_by ls kind leaf ≡ listed (kinds_of ls) kind leaf
unfolding Each known_by kinds_of
known_at [] f kind leaf = rw (le-ltb leaf 0 (omega arith))
known_at (l ∷ ls) f kind zero = rw (lt-ltb 0 (suc (length (kinds_of ls))) (omega arith), no_either l f.0)
known_at (l ∷ ls) f kind (suc leaf) = rw (leb-suc-suc (suc leaf) (length (kinds_of ls))) (known_at ls f.1 kind leaf)

pub known_is : (ls : List Leaf) → Each LeafFits ls → known_by ls ≡ listed (kinds_of ls)
known_is ls f = fun_ext (λ kind. fun_ext (known_at ls f kind))

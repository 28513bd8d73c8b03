-- Tidying keeps document 01's conditions on a tree: a tree that fits still fits when it is tidied, over the same leaves. Assumes nothing.
use mathlib.Core.Bool.{Bool, true, false}
use Prim.Native.Nat.{ℕ, suc, ◌+◌, ◌≤◌}
use native.Mathlib.Nat.{le_trans}
use native.Mathlib.Omega.{arith}
use Rattle.particle.specs.declared.MaxOccurs.{MaxOccurs}
use Rattle.particle.specs.declared.MaxOccurs.TheVariants.{Bounded, Unbounded}
use Rattle.particle.specs.declared.Occurs.{Occurs}
use Rattle.particle.specs.Occurs.{exactly}
use Rattle.particle.specs.Tree.{Head, element, wildcard, sequence, choice, all, Items, none, item, Particle, pair_of, single}
use Rattle.language.specs.Language.{AtMost}
use Rattle.language.specs.Premises.{Every, Throughout, Ordered}
use Rattle.language.proofs.Premises.{throughout_map}
use Rattle.tidying.specs.Tidy.{keep, tidy}
use Rattle.tidying.specs.Depth.{depth_of}
use Rattle.tidying.specs.TidyTree.{Group, EachItem, EveryOutside, Outside}
use Rattle.tidying.proofs.Steps.{group_cases}
use Rattle.tidying.proofs.Premises.{tidy_each}
use Rattle.tidying.proofs.Sizes.{tidy_smaller, tidy_shallower}
use Rattle.intake.specs.Limits.{max_depth}
use Rattle.intake.specs.Faults.{Known}
use Rattle.intake.specs.Accepted.{LeafFits, MaxFits, AllFits, MemberFits, is_all, TreesFit, TreeFits}
use Rattle.entries.proofs.Shallow.{fits_shallow}

-- outside an all-group every item is in place
any_member : (x : Items) → EachItem (MemberFits false) x
any_member none = tt
any_member (item h k r) = (tt, any_member r)

in_order : (n : ℕ) (m : MaxOccurs) → MaxFits n m → AtMost n m
in_order n (Bounded m) f = f.1
in_order n Unbounded f = tt

module _ (known : Known) where
  -- a record and its items fit, but for the depth
  record FitsAnywhere (h : Head) (k : Items) : Type 0 where
    leaf : LeafFits known h k
    pair : MaxFits (pair_of h).min (pair_of h).max
    group : AllFits h
    members : EachItem (MemberFits (is_all h)) k

  members_of : (x : Items) (d : ℕ) (a : Bool) → TreesFit known x d a → EachItem (MemberFits a) x
  unfolding TreesFit
  members_of none d a f = tt
  members_of (item h k r) d a (f, fs, gs) = (f.member, members_of r d a gs)

  each_anywhere : (x : Items) (d : ℕ) (a : Bool) → TreesFit known x d a → Every FitsAnywhere x
  unfolding TreesFit
  each_anywhere none d a f = tt
  each_anywhere (item h k r) d a (f, fs, gs) =
      ((record { leaf = f.leaf; pair = f.pair; group = f.group; members = members_of k (suc d) (is_all h) fs }, each_anywhere k (suc d) (is_all h) fs), each_anywhere r d a gs)

  each_at : (x : Items) (d : ℕ) (a : Bool) → depth_of x + d ≤ suc max_depth → Every FitsAnywhere x → EachItem (MemberFits a) x → TreesFit known x d a
  unfolding TreesFit depth_of
  each_at none d a l fs ms = tt
  each_at (item h k r) d a l ((f, fs), gs) (m, ms) = (
    record { leaf = f.leaf; pair = f.pair; group = f.group; member = m; shallow = omega arith },
    each_at k (suc d) (is_all h) (omega arith) fs f.members,
    each_at r d a (omega arith) gs ms,
  )

  group_kept : (g : Head) → Group g → (h : Head) (k r rest : Items) (x : Particle) → FitsAnywhere g (item h k r) → FitsAnywhere x.head x.items → FitsAnywhere g (keep g x rest)
  group_kept g s h k r rest x a b =
      group_cases (λ (g : Head). FitsAnywhere g (item h k r) → FitsAnywhere g (keep g x rest))
      (λ p a. record { leaf = tt; pair = a.pair; group = tt; members = any_member (keep (sequence p) x rest) })
      (λ p a. record { leaf = tt; pair = a.pair; group = tt; members = any_member (keep (choice p) x rest) }) g s a

  pair_taken : (p : Occurs) (k : Items) → FitsAnywhere (sequence p) (item (choice (exactly 1)) k none) → FitsAnywhere (choice (exactly 1)) k → FitsAnywhere (choice p) k
  pair_taken p k a b = record { leaf = tt; pair = a.pair; group = tt; members = b.members }

  anywhere : (x : Particle) → TreeFits known x → Throughout FitsAnywhere x
  anywhere x f = (each_anywhere (single x) 1 false f.each).0

  pub tidy_fits : (x : Particle) → TreeFits known x → TreeFits known (tidy x)
  tidy_fits x f = record {
    few = le_trans (tidy_smaller x) f.few;
    each = each_at (single (tidy x)) 1 false (omega (arith, tidy_shallower x, fits_shallow known x f)) (tidy_each FitsAnywhere group_kept pair_taken x (anywhere x f), tt) (tt, tt);
  }

  -- pairs are in order
  pub fits_ordered : (x : Particle) → TreeFits known x → Throughout Ordered x
  fits_ordered x f = throughout_map (λ h k a. in_order (pair_of h).min (pair_of h).max a.pair) x (anywhere x f)

  -- Inside all-groups ------------------------------------------------------------------------------

  -- there are elements only
  module _ (P : Head → Items → Type 0) (of_element : (l : ℕ) (p : Occurs) (k : Items) → P (element l p) k) where
    in_all : (x : Items) (d : ℕ) → TreesFit known x d true → Every P x
    unfolding TreesFit
    in_all none d f = tt
    in_all (item (element l p) k r) d (f, fs, gs) = ((of_element l p k, rw f.leaf.1 tt), in_all r d gs)
    in_all (item (wildcard l p) k r) d (f, fs, gs) = absurd f.member
    in_all (item (sequence p) k r) d (f, fs, gs) = absurd f.member
    in_all (item (choice p) k r) d (f, fs, gs) = absurd f.member
    in_all (item (all p) k r) d (f, fs, gs) = absurd f.member

    everywhere : (x : Items) (d : ℕ) (a : Bool) → TreesFit known x d a → EveryOutside P x → Every P x
    unfolding TreesFit
    everywhere none d a f o = tt
    everywhere (item (element l p) k r) d a (f, fs, gs) ((q, o), os) = ((q, rw f.leaf.1 tt), everywhere r d a gs os)
    everywhere (item (wildcard l p) k r) d a (f, fs, gs) ((q, o), os) = ((q, rw f.leaf.1 tt), everywhere r d a gs os)
    everywhere (item (sequence p) k r) d a (f, fs, gs) ((q, o), os) = ((q, everywhere k (suc d) false fs (o tt)), everywhere r d a gs os)
    everywhere (item (choice p) k r) d a (f, fs, gs) ((q, o), os) = ((q, everywhere k (suc d) false fs (o tt)), everywhere r d a gs os)
    everywhere (item (all p) k r) d a (f, fs, gs) ((q, o), os) = ((q, in_all k (suc d) fs), everywhere r d a gs os)

    pub outside_everywhere : (x : Particle) → TreeFits known x → Outside P x → Throughout P x
    outside_everywhere x f o = (everywhere (single x) 1 false f.each o).0

-- The record of a head that fits has no fault, and a record without fault is the record of a head that fits. Assumes nothing.
use Rattle.std.specs.Prelude.{Ok}
use mathlib.Core.Path.{◌≡◌, refl, ap, sym, ◌∙◌}
use mathlib.Core.Bool.{Bool, true, false, cond, not, ◌&&◌, ◌||◌, false≢true}
use Prim.Native.Nat.{ℕ, zero, suc, ◌^◌, ◌≤◌, ◌<◌}
use native.Mathlib.Omega.{arith}
use lib.Dec.{eqb, ltb, leb}
use Rattle.std.proofs.lemmas.Bool.Decides.{nat_tests}
use borrow.Author.Tests.{leb-true, eqb-true, le-ltb, le-leb, ne_eqb}
use Rattle.particle.specs.declared.MaxOccurs.{MaxOccurs}
use Rattle.particle.specs.declared.MaxOccurs.TheVariants.{Bounded, Unbounded}
use Rattle.particle.specs.declared.Occurs.{Occurs}
use Rattle.particle.specs.declared.Record.{Record}
use Rattle.particle.specs.Record.{max_of, range_of}
use Rattle.particle.specs.Tree.{Head, element, wildcard, sequence, choice, all, Items, none, take_i, count_i, pair_of, head_from, head_of}
use Rattle.particle.specs.Encode.{kind_number, leaf_number, mark_number, max_number, record_of}
use Rattle.particle.proofs.Heads.{pair_kind, kind_capped}
use Rattle.particle.proofs.Tests.{and-true, both_true}
use Rattle.intake.specs.Limits.{max_depth}
use Rattle.intake.specs.Faults.{Known, leaf_ok, bound_ok, fields_ok, fault_of}
use Rattle.intake.specs.Accepted.{LeafFits, MaxFits, AllFits, MemberFits, is_all, RecordFits}
use Rattle.intake.proofs.Steps.{tests, clean, shallow}

pub all_kind : (h : Head) → eqb (kind_number h) 4 ≡ is_all h
all_kind (element l p) = refl
all_kind (wildcard l p) = refl
all_kind (sequence p) = refl
all_kind (choice p) = refl
all_kind (all p) = refl

-- From a head to its record ----------------------------------------------------

kind_ok : (h : Head) → leb (kind_number h) 4 ≡ true
kind_ok (element l p) = refl
kind_ok (wildcard l p) = refl
kind_ok (sequence p) = refl
kind_ok (choice p) = refl
kind_ok (all p) = refl

leaf_ok_lem : (known : Known) (h : Head) (k : Items) → LeafFits known h k → leaf_ok known (record_of h (count_i k)) ≡ true
unfolding count_i
leaf_ok_lem known (element l p) k f = rw (f.0, f.1)
leaf_ok_lem known (wildcard l p) k f = rw (f.0, f.1)
leaf_ok_lem known (sequence p) k f = refl
leaf_ok_lem known (choice p) k f = refl
leaf_ok_lem known (all p) k f = refl

bound_ok_lem : (m : MaxOccurs) → (eqb (mark_number m) 0 || (eqb (mark_number m) 1 && eqb (max_number m) 0)) ≡ true
bound_ok_lem (Bounded n) = refl
bound_ok_lem Unbounded = refl

pair_ok_lem : (n : ℕ) (m : MaxOccurs) → MaxFits n m → (eqb (mark_number m) 1 || leb n (max_number m)) ≡ true
pair_ok_lem n (Bounded m) f = le-leb n m f.1
pair_ok_lem n Unbounded f = refl

group_ok : (h : Head) → AllFits h → (not (eqb (kind_number h) 4) || (eqb (mark_number (pair_of h).max) 0 && eqb (max_number (pair_of h).max) 1)) ≡ true
group_ok (element l p) f = refl
group_ok (wildcard l p) f = refl
group_ok (sequence p) f = refl
group_ok (choice p) f = refl
group_ok (all p) f = rw f

member_ok : (a : Bool) (h : Head) → MemberFits a h → (not a || eqb (kind_number h) 0) ≡ true
member_ok false h f = refl
member_ok true (element l p) f = refl
member_ok true (wildcard l p) f = absurd f
member_ok true (sequence p) f = absurd f
member_ok true (choice p) f = absurd f
member_ok true (all p) f = absurd f

pub fits_clean : {known : Known} {h : Head} {k : Items} {d : ℕ} {a : Bool} → RecordFits known h k d a → fault_of known (record_of h (count_i k)) d a ≡ Ok tt
fits_clean {known} {h} {k} {d} {a} f =
    sym
    (tests
    known
    (record_of h (count_i k))
    d
    a
    (both_true (kind_ok h) (both_true (leaf_ok_lem known h k f.leaf) (both_true (bound_ok_lem (pair_of h).max) refl)))
    (pair_ok_lem (pair_of h).min (pair_of h).max f.pair)
    (both_true (group_ok h f.group) (member_ok a h f.member))
    (le-leb d max_depth f.shallow))

-- From a record to its head ----------------------------------------------------

record Fields (known : Known) (r : Record) : Type 0 where
  kind : leb r.kind 4 ≡ true
  leaf : leaf_ok known r ≡ true
  bound : bound_ok r ≡ true
  zero : 0 ≡ r.zero
  size : 0 ≡ r.size

fields : (known : Known) (r : Record) → fields_ok known r ≡ true → Fields known r
fields known r e = record { kind = grind arith; leaf = grind arith; bound = grind arith; zero = grind (arith, nat_tests); size = grind (arith, nat_tests) }

kind_back : (k l : ℕ) (p : Occurs) → k ≤ 4 → kind_number (head_from k l p) ≡ k
kind_back k l p h = omega (arith, kind_capped k l p)

group_leaf : (k l : ℕ) (b : Bool) → cond (ltb (suc (suc k)) 2) b (eqb l 0) ≡ true → 0 ≡ l
group_leaf k l b e = sym (eqb-true l 0 (rw (le-ltb (suc (suc k)) 2 (omega arith)) at e))

leaf_back : (k l : ℕ) (p : Occurs) (b : Bool) → cond (ltb k 2) b (eqb l 0) ≡ true → leaf_number (head_from k l p) ≡ l
leaf_back zero l p b e = refl
leaf_back (suc zero) l p b e = refl
leaf_back (suc (suc zero)) l p b e = group_leaf 0 l b e
leaf_back (suc (suc (suc zero))) l p b e = group_leaf 1 l b e
leaf_back (suc (suc (suc (suc k)))) l p b e = group_leaf (suc (suc k)) l b e

max_back : (u m : ℕ) → (eqb u 0 || (eqb u 1 && eqb m 0)) ≡ true → (mark_number (max_of u m) ≡ u) × (max_number (max_of u m) ≡ m)
max_back zero m e = (refl, refl)
max_back (suc zero) m e = (refl, sym (eqb-true m 0 e))
max_back (suc (suc u)) m e = absurd (false≢true (rw (ne_eqb (suc (suc u)) 0 (λ z. omega arith), ne_eqb (suc (suc u)) 1 (λ z. omega arith)) at e))

known_leaf : (b : Bool) (n : ℕ) (x : Items) → (b && eqb n 0) ≡ true → (b ≡ true) × (take_i n x ≡ none)
unfolding take_i
known_leaf b n x e =
    let z : n ≡ 0 = grind (arith, nat_tests) in
    (grind arith, rw z)

leaf_fits : (known : Known) (h : Head) (n : ℕ) (b : Items) → leaf_ok known (record_of h n) ≡ true → LeafFits known h (take_i n b)
leaf_fits known (element l p) n b e = known_leaf (known 0 l) n b e
leaf_fits known (wildcard l p) n b e = known_leaf (known 1 l) n b e
leaf_fits known (sequence p) n b e = tt
leaf_fits known (choice p) n b e = tt
leaf_fits known (all p) n b e = tt

max_fits : (n : ℕ) (m : MaxOccurs) → n < 2 ^ 32 → max_number m < 2 ^ 32 → (eqb (mark_number m) 1 || leb n (max_number m)) ≡ true → MaxFits n m
max_fits n (Bounded m) hn hm e = (hm, leb-true n m e)
max_fits n Unbounded hn hm e = hn

just_one : (m : MaxOccurs) → (eqb (mark_number m) 0 && eqb (max_number m) 1) ≡ true → m ≡ Bounded 1
just_one (Bounded n) e = ap Bounded (eqb-true n 1 e)
just_one Unbounded e = absurd (false≢true e)

all_fits : (h : Head) → (not (eqb (kind_number h) 4) || (eqb (mark_number (pair_of h).max) 0 && eqb (max_number (pair_of h).max) 1)) ≡ true → AllFits h
all_fits (element l p) e = tt
all_fits (wildcard l p) e = tt
all_fits (sequence p) e = tt
all_fits (choice p) e = tt
all_fits (all p) e = just_one p.max e

member_fits : (a : Bool) (h : Head) → (not a || eqb (kind_number h) 0) ≡ true → MemberFits a h
member_fits false h e = tt
member_fits true (element l p) e = tt
member_fits true (wildcard l p) e = false≢true e
member_fits true (sequence p) e = false≢true e
member_fits true (choice p) e = false≢true e
member_fits true (all p) e = false≢true e

head_fits : (known : Known) (h : Head) (n : ℕ) (b : Items) (d : ℕ) (a : Bool) → fault_of known (record_of h n) d a ≡ Ok tt → (pair_of h).min < 2 ^ 32 → max_number (pair_of h).max < 2 ^ 32 → RecordFits known h (take_i n b) d a
head_fits known h n b d a e hn hm =
    let c = clean known (record_of h n) d a e in
    let g = and-true _ (not a || eqb (kind_number h) 0) c.group in
    record {
      leaf = leaf_fits known h n b (fields known (record_of h n) c.fields).leaf;
      pair = max_fits (pair_of h).min (pair_of h).max hn hm c.pair;
      group = all_fits h g.0;
      member = member_fits a h g.1;
      shallow = shallow known (record_of h n) d a e;
    }

module _ (known : Known) (r : Record) (d : ℕ) (a : Bool) (e : fault_of known r d a ≡ Ok tt) where
  -- no field says more than the head does
  pub faithful : record_of (head_of r) r.count ≡ r
  faithful =
      let own = fields known r (clean known r d a e).fields in
      let pair = pair_kind r.kind r.leaf (range_of r) in
      let mark = max_back r.unbounded r.max own.bound in
      let kind = kind_back r.kind r.leaf (range_of r) (leb-true _ _ own.kind) in
      let leaf = leaf_back r.kind r.leaf (range_of r) _ own.leaf in
      let unbounded = ap (λ (p : Occurs). mark_number p.max) pair ∙ mark.0 in
      let min = ap (λ (p : Occurs). p.min) pair in
      let max = ap (λ (p : Occurs). max_number p.max) pair ∙ mark.1 in
      λ i. record { kind = kind i; leaf = leaf i; count = r.count; unbounded = unbounded i; zero = own.zero i; size = own.size i; min = min i; max = max i }

  pub clean_fits : (b : Items) → r.min < 2 ^ 32 → r.max < 2 ^ 32 → RecordFits known (head_of r) (take_i r.count b) d a
  clean_fits b hn hm =
      head_fits
      known
      (head_of r)
      r.count
      b
      d
      a
      (ap (λ (x : Record). fault_of known x d a) faithful ∙ e)
      (omega (arith, ap (λ (x : Record). x.min) faithful))
      (omega (arith, ap (λ (x : Record). x.max) faithful))

-- an all-group's items have no items
pub not_in_all : (known : Known) (r : Record) (d : ℕ) (a : Bool) → fault_of known r d a ≡ Ok tt → (r.count ≡ 0 → ⊥) → a ≡ false
not_in_all known r d false e n = refl
not_in_all known r d true e n =
    let c = clean known r d true e in
    let kind : r.kind ≡ 0 = grind (arith, nat_tests, c.group) in
    absurd (n (grind (arith, nat_tests, rw kind at (fields known r c.fields).leaf)))

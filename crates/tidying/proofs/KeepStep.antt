-- An item among those that a group keeps: dropped, opened or left as it is. Assumes nothing.
use mathlib.Core.Path.{◌≡◌, refl, ap, sym, ◌∙◌}
use mathlib.Core.Bool.{Bool, true, false}
use mathlib.Core.List.{List}
use Prim.Native.Nat.{ℕ, ◌+◌, ◌-◌, ◌≤◌}
use native.Mathlib.Omega.{arith}
use lib.ListN.{length, take, drop}
use Rattle.particle.specs.declared.Occurs.{Occurs}
use Rattle.particle.specs.declared.Record.{Record}
use Rattle.particle.specs.Occurs.{is_zero}
use Rattle.particle.specs.Record.{record_size, record_at, range_of}
use Rattle.particle.specs.Tree.{Head, Items, none, Particle, item, single, pair_of, ◌then◌, count_i, head_of}
use Rattle.particle.specs.Encode.{record_of}
use Rattle.particle.proofs.Laws.{part_is}
use Rattle.particle.proofs.Heads.{pair_record}
use Rattle.particle.proofs.RoundTrip.{head_record, then_none}
use Rattle.tidying.specs.declared.Kept.{Kept}
use Rattle.tidying.specs.Tidy.{splices, put, keep}
use Rattle.tidying.specs.Laid.{Laid, Removed, KeepsAfter}
use Rattle.tidying.proofs.LaidTrees.{laid_none, laid_over, laid_within, laid_before, laid_record, laid_long, laid_open, laid_moved}

-- what is kept of an item stands before what is kept of the later ones
pub keep_then : (g : Head) (x : Particle) (y : Items) → keep g x y ≡ keep g x none then y
unfolding ◌then◌
keep_then g x y = go (is_zero (pair_of x.head).max) (splices g x.head)
  where
    go : (z s : Bool) → elim z as (λ _. Items) [ true ↦ y | false ↦ elim s as (λ _. Items) [ true ↦ x.items then y | false ↦ item x.head x.items y ] ]
        ≡ (elim z as (λ _. Items) [ true ↦ none | false ↦ elim s as (λ _. Items) [ true ↦ x.items then none | false ↦ item x.head x.items none ] ]) then y
    go true s = refl
    go false true = rw (then_none x.items)
    go false false = refl

-- a tidied item from `start` to `end`, whose record is h
module _ {h : Record} {out : List ℕ} {start : ℕ} (e : h ≡ record_at (take (length out - start) (drop start out))) {before : List ℕ} {end : ℕ} {x : Particle}
    (l : start ≤ length before) (a : Laid before out start end (single x)) where
  h_is : h ≡ record_of x.head (count_i x.items)
  h_is = e ∙ (ap record_at (part_is out start) ∙ laid_record l a)

  head_is : head_of h ≡ x.head
  head_is = ap head_of h_is ∙ head_record x.head (count_i x.items)

  zero_is : is_zero (pair_of x.head).max ≡ is_zero (range_of h).max
  zero_is = ap (λ (p : Occurs). is_zero p.max) (ap pair_of (sym head_is) ∙ pair_record h)

  splices_is : (g : Head) → splices g x.head ≡ splices g (head_of h)
  splices_is g = ap (splices g) (sym head_is)

-- such an item after those that a group keeps; z: whether its maximum is 0, s: whether the group opens it
module _ (kept : Kept) {h : Record} {out : List ℕ} (e : h ≡ record_at (take (length out - kept.end) (drop kept.end out))) {end : ℕ} where
  pub dropped : {z : Bool} → z ≡ is_zero (range_of h).max → z ≡ true → KeepsAfter kept out end kept out
  unfolding count_i
  dropped never y = record {
    group = refl;
    at = refl;
    keeps = λ before x l a. rw (zero_is e l a ∙ (sym never ∙ y), keep) (laid_over (laid_before l a) (laid_none out kept.end), omega arith);
  }

  module _ {z s : Bool} (never : z ≡ is_zero (range_of h).max) (y : z ≡ false) (own : s ≡ splices (head_of kept.group) (head_of h)) where
    pub opened : {after : List ℕ} {r m : ℕ} → s ≡ true → Removed out after kept.end end → r ≡ end - record_size → m ≡ h.count → KeepsAfter kept out end (record kept { count = kept.count + m; end = r }) after
    opened o r q c = rw (q, c) (record {
      group = refl;
      at = refl;
      keeps = λ before x l a.
          let n : h.count ≡ count_i x.items = ap (λ (q : Record). q.count) (h_is e l a) in
          let w : kept.end + record_size ≤ length out = omega (arith, laid_long l a, laid_within l a) in
          rw (zero_is e l a ∙ (sym never ∙ y), keep, splices_is e l a (head_of kept.group) ∙ (sym own ∙ o), put, then_none x.items)
          (laid_over (laid_before l a) (laid_moved kept.end w (laid_open l a) r), omega (arith, n));
    })

    pub stays : s ≡ false → KeepsAfter kept out end (record kept { count = kept.count + 1; end = end }) out
    unfolding count_i
    stays o = record {
      group = refl;
      at = refl;
      keeps = λ before x l a. rw (zero_is e l a ∙ (sym never ∙ y), keep, splices_is e l a (head_of kept.group) ∙ (sym own ∙ o), put) (a, omega arith);
    }

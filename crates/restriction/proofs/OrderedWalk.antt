-- The ordered walk's loops: what is left of both rows says the mark of the whole. Assumes nothing.
use mathlib.Core.Bool.{Bool, true, false, ◌||◌}
use mathlib.Core.List.{List}
use mathlib.Core.Path.{◌≡◌, refl, sym, ap, ◌∙◌}
use lib.ListN.{length}
use Prim.Native.Nat.{ℕ, ◌≤◌}
use Rattle.particle.specs.Tree.{Items, none, item, Particle, tree}
use Rattle.particle.specs.Rows.{row}
use Rattle.particle.specs.Empty.{emptiable}
use Rattle.particle.specs.Runs.{Run}
use Rattle.rules.specs.Verdicts.{Mark, passes, undecided, fails}
use Rattle.rules.specs.Walk.{Judge, left_over, recurse_ordered}
use Rattle.verdicts.specs.declared.Reason.{Reason}
use Rattle.verdicts.specs.declared.Verdict.{Verdict}
use Rattle.verdicts.specs.declared.Verdict.TheVariants.{Ok, Unknown, Violation}
use Rattle.verdicts.specs.Reasons.{reason_number, mark_of, definite_of}
use Rattle.verdicts.proofs.Marks.{now_seen}
use Rattle.restriction.specs.Views.{as_once, each_once}
use Rattle.verdicts.proofs.Rest.{Step, row_none}
use Rattle.restriction.proofs.Parts.{cons, Part, part_start, part_next, row_cons}

-- no derived item is left
pub lax_ends : (J : Judge) (bs : Items) → recurse_ordered J true none bs ≡ passes
unfolding recurse_ordered
lax_ends J none = refl
lax_ends J (item h k r) = refl

pub strict_ends : (J : Judge) (bs : Items) → recurse_ordered J false none bs ≡ left_over bs
unfolding recurse_ordered left_over
strict_ends J none = refl
strict_ends J (item h k r) = refl

-- one step, for a derived item x and a base item y
module _ (J : Judge) (lax : Bool) (x y : Particle) (r s : Items) where
  pub step_passes : J x y ≡ passes → recurse_ordered J lax (cons x r) (cons y s) ≡ recurse_ordered J lax r s
  unfolding recurse_ordered
  step_passes q = rw (recurse_ordered, q)

  pub step_undecided : J x y ≡ undecided → recurse_ordered J lax (cons x r) (cons y s) ≡ undecided
  unfolding recurse_ordered
  step_undecided q = rw (recurse_ordered, q)

  module _ {k : ℕ} (q : J x y ≡ fails k) where
    pub step_skips : lax || emptiable y ≡ true → recurse_ordered J lax (cons x r) (cons y s) ≡ recurse_ordered J lax (cons x r) s
    unfolding recurse_ordered
    step_skips h = rw (recurse_ordered, q, h)

    pub step_fails : lax || emptiable y ≡ false → recurse_ordered J lax (cons x r) (cons y s) ≡ fails k
    unfolding recurse_ordered
    step_fails h = rw (recurse_ordered, q, h)

-- the walk of the first dn trees of ds over the first bn of bs
module _ (J : Judge) (lax once : Bool) (dn : ℕ) (ds : List ℕ) (bn : ℕ) (bs : List ℕ) where
  abbrev pub the_walk : Mark
  the_walk = recurse_ordered J lax (each_once once (row dn ds)) (row bn bs)

  -- between derived items: the next one starts dt, i of them before the end; likewise the next base item
  pub record Between (seen : Bool) (dt : List ℕ) (i : ℕ) (bt : List ℕ) (j : ℕ) : Type 0 where
    pub derived : Part i dt ds
    pub base : Part j bt bs
    pub rest_says : the_walk ≡ definite_of seen (recurse_ordered J lax (each_once once (row i dt)) (row j bt))

  -- the derived item that d starts with is tried; the next one starts dt
  pub record Trying (d dt : List ℕ) (i : ℕ) (seen : Bool) (bt : List ℕ) (j : ℕ) : Type 0 where
    pub tried : length d ≤ length ds
    pub derived : Part i dt ds
    pub base : Part j bt bs
    pub rest_says : the_walk ≡ definite_of seen (recurse_ordered J lax (cons (as_once once (tree d)) (each_once once (row i dt))) (row j bt))

module _ {J : Judge} {lax once : Bool} {dn : ℕ} {ds : List ℕ} {bn : ℕ} {bs : List ℕ} where
  pub walk_start : Run dn ds → Run bn bs → Between J lax once dn ds bn bs false ds dn bs bn
  walk_start w v = record { derived = part_start w; base = part_start v; rest_says = refl }

  module _ {seen : Bool} {dt : List ℕ} {i : ℕ} {bt : List ℕ} {j : ℕ} (w : Between J lax once dn ds bn bs seen dt i bt j) where
    pub walk_try : {d s : List ℕ} {k : ℕ} → Step i dt d s k → Trying J lax once dn ds bn bs d s k seen bt j
    unfolding each_once
    walk_try g = record {
      tried = rw g.here w.derived.within;
      derived = part_next g w.derived;
      base = w.base;
      rest_says = w.rest_says ∙ ap (λ (x : Items). definite_of seen (recurse_ordered J lax (each_once once x) (row j bt))) (row_cons g w.derived.trees);
    }

    -- no derived item is left
    ended : i ≡ 0 → the_walk J lax once dn ds bn bs ≡ definite_of seen (recurse_ordered J lax none (row j bt))
    unfolding each_once
    ended z = w.rest_says ∙ ap (λ (x : Items). definite_of seen (recurse_ordered J lax (each_once once x) (row j bt))) (row_none i dt z)

    pub lax_end : {m : Mark} → i ≡ 0 → lax ≡ true → m ≡ definite_of seen passes → m ≡ the_walk J lax once dn ds bn bs
    lax_end z l a = a ∙ sym (ended z ∙ rw l (ap (definite_of seen) (lax_ends J (row j bt))))

    -- o is what the base items left over say
    pub strict_end : {o m : Mark} → i ≡ 0 → lax ≡ false → o ≡ left_over (row j bt) → m ≡ definite_of seen o → m ≡ the_walk J lax once dn ds bn bs
    strict_end z l e a = a ∙ sym (ended z ∙ rw l (ap (definite_of seen) (strict_ends J (row j bt) ∙ sym e)))

  module _ {d dt : List ℕ} {i : ℕ} {seen : Bool} {bt : List ℕ} {j : ℕ} (w : Trying J lax once dn ds bn bs d dt i seen bt j) where
    -- base items are used up
    pub used_up_lem : {m : Mark} → j ≡ 0 → m ≡ definite_of seen (fails 120) → m ≡ the_walk J lax once dn ds bn bs
    unfolding recurse_ordered
    used_up_lem z a = a ∙ sym (w.rest_says ∙ ap (λ (y : Items). definite_of seen (recurse_ordered J lax (cons (as_once once (tree d)) (each_once once (row i dt))) y)) (row_none j bt z))

    -- a turn: b starts with the base item, and v is the mark of the two items
    module _ {b bs' : List ℕ} {j' : ℕ} (g : Step j bt b bs' j') where
      abbrev x : Particle
      x = as_once once (tree d)

      abbrev r : Items
      r = each_once once (row i dt)

      abbrev s : Items
      s = row j' bs'

      -- the walk goes on with m
      mark_becomes : {m : Mark} → recurse_ordered J lax (cons x r) (cons (tree b) s) ≡ m → the_walk J lax once dn ds bn bs ≡ definite_of seen m
      mark_becomes h = w.rest_says ∙ ap (definite_of seen) (ap (recurse_ordered J lax (cons x r)) (row_cons g w.base.trees) ∙ h)

      later_base : Part j' bs' bs
      later_base = part_next g w.base

      module _ {v : Verdict} (says : mark_of v ≡ J x (tree b)) where
        says_as : (v' : Verdict) → v ≡ v' → J x (tree b) ≡ mark_of v'
        says_as v' q = sym says ∙ ap mark_of q

        pub both_advance : v ≡ Ok → Between J lax once dn ds bn bs seen dt i bs' j'
        both_advance q = record { derived = w.derived; base = later_base; rest_says = mark_becomes (step_passes J lax x (tree b) r s (says_as Ok q)) }

        pub seen_advance : v ≡ Unknown → Between J lax once dn ds bn bs true dt i bs' j'
        seen_advance q = record {
          derived = w.derived;
          base = later_base;
          rest_says = mark_becomes (step_undecided J lax x (tree b) r s (says_as Unknown q)) ∙ now_seen seen;
        }

        module _ {k : Reason} (q : v ≡ Violation k) where
          skips : lax || emptiable (tree b) ≡ true → Trying J lax once dn ds bn bs d dt i seen bs' j'
          skips h = record {
            tried = w.tried;
            derived = w.derived;
            base = later_base;
            rest_says = mark_becomes (step_skips J lax x (tree b) r s (says_as (Violation k) q) h);
          }

          pub skip_lax : lax ≡ true → Trying J lax once dn ds bn bs d dt i seen bs' j'
          skip_lax l = skips (rw l)

          module _ (l : lax ≡ false) {m : Bool} (empty : m ≡ emptiable (tree b)) where
            pub skip_emptiable : m ≡ true → Trying J lax once dn ds bn bs d dt i seen bs' j'
            skip_emptiable h = skips (rw (l, ← empty, h))

            pub item_fails : {u : Mark} → m ≡ false → u ≡ definite_of seen (fails (reason_number k)) → u ≡ the_walk J lax once dn ds bn bs
            item_fails h a = a ∙ sym (mark_becomes (step_fails J lax x (tree b) r s (says_as (Violation k) q) (rw (l, ← empty, h))))

-- The two loops over one row: each member in turn, and alternatives in order. What is left of the row says the mark. Assumes nothing.
use mathlib.Core.Bool.{Bool, true, false}
use mathlib.Core.List.{List}
use mathlib.Core.Path.{◌≡◌, refl, ap, sym, ◌∙◌}
use Prim.Native.Nat.{ℕ}
use native.Mathlib.Nat.{le_refl}
use Rattle.particle.specs.Tree.{Items, Particle, tree}
use Rattle.particle.specs.Rows.{row}
use Rattle.particle.specs.Runs.{Run}
use Rattle.rules.specs.Verdicts.{Mark, passes, undecided, fails}
use Rattle.rules.specs.Combine.{◌and_then◌, ◌or_else◌}
use Rattle.rules.specs.Walk.{Judge, alternatives, each_member}
use Rattle.verdicts.specs.declared.Reason.{Reason}
use Rattle.verdicts.specs.declared.Verdict.{Verdict}
use Rattle.verdicts.specs.declared.Verdict.TheVariants.{Ok, Unknown, Violation}
use Rattle.verdicts.specs.Reasons.{reason_number, mark_of, definite_of}
use Rattle.verdicts.proofs.Marks.{now_seen}
use Rattle.verdicts.proofs.Rest.{Step, row_none}
use Rattle.restriction.proofs.Parts.{Part, part_start, part_next, row_cons}

-- Each member, f marking one. t is the part at which the next member starts, i members before the end.
pub record Members (f : Particle → Mark) (dn : ℕ) (ds : List ℕ) (seen : Bool) (t : List ℕ) (i : ℕ) : Type 0 where
  pub part : Part i t ds
  pub rest_says : each_member f (row dn ds) ≡ definite_of seen (each_member f (row i t))

module _ {f : Particle → Mark} {dn : ℕ} {ds : List ℕ} where
  pub members_start : {t : List ℕ} {i : ℕ} → Run i t → t ≡ ds → i ≡ dn → Members f dn ds false t i
  members_start w e o = record { part = record { trees = w; within = rw e (le_refl _) }; rest_says = rw (e, o) }

  module _ {seen : Bool} {t : List ℕ} {i : ℕ} (w : Members f dn ds seen t i) where
    pub members_end : {m : Mark} → i ≡ 0 → m ≡ definite_of seen passes → m ≡ each_member f (row dn ds)
    unfolding each_member
    members_end z e = e ∙ sym (w.rest_says ∙ ap (λ (x : Items). definite_of seen (each_member f x)) (row_none i t z))

    -- a turn: v is what f says of the member, s the part after it
    module _ {d s : List ℕ} {k : ℕ} (g : Step i t d s k) {v : Verdict} (says : mark_of v ≡ f (tree d)) where
      member_then_rest : (w' : Verdict) → v ≡ w' → each_member f (row dn ds) ≡ definite_of seen (mark_of w' and_then each_member f (row k s))
      unfolding each_member
      member_then_rest w' q = w.rest_says ∙ ap (λ (x : Items). definite_of seen (each_member f x)) (row_cons g w.part.trees) ∙ rw (← says, q)

      pub member_passes : v ≡ Ok → Members f dn ds seen s k
      member_passes q = record { part = part_next g w.part; rest_says = member_then_rest Ok q }

      pub member_undecided : v ≡ Unknown → Members f dn ds true s k
      member_undecided q = record { part = part_next g w.part; rest_says = member_then_rest Unknown q ∙ now_seen seen }

      pub member_fails : {r : Reason} {m : Mark} → v ≡ Violation r → m ≡ definite_of seen (fails (reason_number r)) → m ≡ each_member f (row dn ds)
      member_fails {r} q a = a ∙ sym (member_then_rest (Violation r) q)

-- alternatives are left, after an undecided one or not
abbrev pub after_seen : (seen : Bool) → Mark → Mark
after_seen true m = undecided or_else m
after_seen false m = m

seen_passes : (seen : Bool) → after_seen seen passes ≡ passes
seen_passes true = refl
seen_passes false = refl

seen_undecided : (seen : Bool) (m : Mark) → after_seen seen (undecided or_else m) ≡ undecided or_else m
seen_undecided true passes = refl
seen_undecided true undecided = refl
seen_undecided true (fails r) = refl
seen_undecided false m = refl

seen_end : (seen : Bool) (r : ℕ) → after_seen seen (fails r) ≡ definite_of seen (fails r)
seen_end true r = refl
seen_end false r = refl

-- The alternatives to x. t is the part at which the next one starts, j of them before the end.
pub record Alternatives (J : Judge) (reason : ℕ) (x : Particle) (bn : ℕ) (bs : List ℕ) (seen : Bool) (t : List ℕ) (j : ℕ) : Type 0 where
  pub part : Part j t bs
  pub rest_says : alternatives J reason x (row bn bs) ≡ after_seen seen (alternatives J reason x (row j t))

module _ {J : Judge} {reason : ℕ} {x : Particle} {bn : ℕ} {bs : List ℕ} where
  pub alternatives_start : Run bn bs → Alternatives J reason x bn bs false bs bn
  alternatives_start w = record { part = part_start w; rest_says = refl }

  module _ {seen : Bool} {t : List ℕ} {j : ℕ} (w : Alternatives J reason x bn bs seen t j) where
    pub alternatives_end : {m : Mark} → j ≡ 0 → m ≡ definite_of seen (fails reason) → m ≡ alternatives J reason x (row bn bs)
    unfolding alternatives
    alternatives_end z e =
        e ∙ sym (w.rest_says ∙ ap (λ (y : Items). after_seen seen (alternatives J reason x y)) (row_none j t z) ∙ seen_end seen reason)

    -- a turn: v is the mark of x against the alternative, s the part after it
    module _ {b s : List ℕ} {k : ℕ} (g : Step j t b s k) {v : Verdict} (says : mark_of v ≡ J x (tree b)) where
      alternative_then_rest : (w' : Verdict) → v ≡ w' → alternatives J reason x (row bn bs) ≡ after_seen seen (mark_of w' or_else alternatives J reason x (row k s))
      unfolding alternatives
      alternative_then_rest w' q = w.rest_says ∙ ap (λ (y : Items). after_seen seen (alternatives J reason x y)) (row_cons g w.part.trees) ∙ rw (← says, q)

      pub alternative_passes : v ≡ Ok → passes ≡ alternatives J reason x (row bn bs)
      alternative_passes q = sym (alternative_then_rest Ok q ∙ seen_passes seen)

      pub alternative_undecided : v ≡ Unknown → Alternatives J reason x bn bs true s k
      alternative_undecided q = record {
        part = part_next g w.part;
        rest_says = alternative_then_rest Unknown q ∙ seen_undecided seen (alternatives J reason x (row k s));
      }

      pub alternative_fails : {r : Reason} → v ≡ Violation r → Alternatives J reason x bn bs seen s k
      alternative_fails {r} q = record { part = part_next g w.part; rest_says = alternative_then_rest (Violation r) q }

-- One pass over a base group's items for both marks of an element: what is kept of the items before says both marks, with the items left. Assumes nothing.
use mathlib.Core.Bool.{Bool, true, false, ◌||◌, false≢true}
use mathlib.Core.List.{List}
use mathlib.Core.Path.{◌≡◌, refl, ap, sym, ◌∙◌}
use Prim.Native.Nat.{ℕ}
use Rattle.particle.specs.declared.Occurs.{Occurs}
use Rattle.particle.specs.Occurs.{range_ok}
use Rattle.particle.specs.Tree.{Items, none, Particle, single, tree}
use Rattle.particle.specs.Rows.{row}
use Rattle.particle.specs.Runs.{Run}
use Rattle.particle.specs.Empty.{emptiable}
use Rattle.rules.specs.Verdicts.{Mark, passes, undecided, fails}
use Rattle.rules.specs.Combine.{◌or_fails◌, ◌and_then◌, ◌or_else◌, combine_readings}
use Rattle.rules.specs.Walk.{Judge, left_over, recurse_ordered, alternatives}
use Rattle.rules.specs.Rule.{base_once}
use Rattle.verdicts.specs.declared.Verdict.{Verdict}
use Rattle.verdicts.specs.declared.Verdict.TheVariants.{Ok, Violation}
use Rattle.verdicts.specs.declared.Reason.TheVariants.{NotAllowed, NoAlternative}
use Rattle.verdicts.specs.Reasons.{mark_of}
use Rattle.verdicts.proofs.Marks.{NotOk}
use Rattle.restriction.specs.declared.marks.Marks.{Marks}
use Rattle.std.specs.Prelude.{Option, None}
use Rattle.restriction.specs.Views.{as_once, each_once}
use Rattle.restriction.specs.Marks.{BothMarks, sequence_mark, sequence_once, choice_mark, choice_once, Stands, on, ended, standing, walked_on, came_to, settled_at}
use Rattle.verdicts.proofs.Rest.{Step, row_none}
use Rattle.restriction.proofs.Parts.{cons, Part, part_start, part_next, row_cons}
use Rattle.restriction.proofs.Readings.{base_passes, base_fails}
use Rattle.restriction.proofs.Once.{alone}
use Rattle.restriction.proofs.OrderedWalk.{lax_ends, strict_ends, step_passes, step_undecided, step_skips, step_fails}

-- a walk that stands so, where the items left come to m
abbrev walk_goes_on : Stands → (m : Mark) → Mark
walk_goes_on on m = m
walk_goes_on (ended k) m = k

module _ (J : Judge) (lax : Bool) (x y : Particle) (s : Items) where
  found : (lax : Bool) → recurse_ordered J lax none s ≡ elim lax as (λ _. Mark) [ true ↦ passes | false ↦ left_over s ]
  found true = lax_ends J s
  found false = strict_ends J s

  walk_step : (st : Stands) → walk_goes_on st (recurse_ordered J lax (single x) (cons y s)) ≡ walk_goes_on (walked_on st (J x y) lax (emptiable y) (left_over s)) (recurse_ordered J lax (single x) s)
  walk_step (ended k) = refl
  walk_step on = go (J x y) refl
    where
      skip : (r : ℕ) → J x y ≡ fails r → (b : Bool) → lax || emptiable y ≡ b
          → recurse_ordered J lax (single x) (cons y s) ≡ walk_goes_on (elim b as (λ _. Stands) [ true ↦ on | false ↦ ended (fails r) ]) (recurse_ordered J lax (single x) s)
      skip r e true h = step_skips J lax x y none s e h
      skip r e false h = step_fails J lax x y none s e h

      go : (m : Mark) → J x y ≡ m → recurse_ordered J lax (single x) (cons y s) ≡ walk_goes_on (walked_on on m lax (emptiable y) (left_over s)) (recurse_ordered J lax (single x) s)
      go passes e = step_passes J lax x y none s e ∙ found lax
      go undecided e = step_undecided J lax x y none s e
      go (fails r) e = skip r e (lax || emptiable y) refl

-- The walk of x over the first bn trees of bs stands so; the next item starts t, j of them before the end.
pub record Walking (J : Judge) (lax : Bool) (x : Particle) (bn : ℕ) (bs : List ℕ) (st : Option Verdict) (t : List ℕ) (j : ℕ) : Type 0 where
  pub rest_says : recurse_ordered J lax (single x) (row bn bs) ≡ walk_goes_on (standing st) (recurse_ordered J lax (single x) (row j t))

-- The alternatives to x, of which those before came to v.
pub record Choosing (J : Judge) (reason : ℕ) (x : Particle) (bn : ℕ) (bs : List ℕ) (v : Verdict) (t : List ℕ) (j : ℕ) : Type 0 where
  pub rest_says : alternatives J reason x (row bn bs) ≡ mark_of v or_else alternatives J reason x (row j t)
  pub keeps : mark_of v or_else fails reason ≡ mark_of v

module _ {J : Judge} {x : Particle} {bn : ℕ} {bs t : List ℕ} {j : ℕ} where
  walk_end : {lax : Bool} {st : Option Verdict} → Walking J lax x bn bs st t j → j ≡ 0 → recurse_ordered J lax (single x) (row bn bs) ≡ came_to (standing st)
  unfolding recurse_ordered
  walk_end {lax} {st} w z = w.rest_says ∙ (ap (λ (y : Items). walk_goes_on (standing st) (recurse_ordered J lax (single x) y)) (row_none j t z) ∙ go (standing st))
    where
      go : (s : Stands) → walk_goes_on s (recurse_ordered J lax (single x) none) ≡ came_to s
      go on = refl
      go (ended k) = refl

  choose_end : {k : ℕ} {v : Verdict} → Choosing J k x bn bs v t j → j ≡ 0 → alternatives J k x (row bn bs) ≡ mark_of v
  unfolding alternatives
  choose_end {k} {v} w z = w.rest_says ∙ (ap (λ (y : Items). mark_of v or_else alternatives J k x y) (row_none j t z) ∙ w.keeps)

  -- a turn: m is the mark of x at the next item, s the part after it
  module _ (trees : Run j t) {b s : List ℕ} {j' : ℕ} (g : Step j t b s j') {m : Mark} (says : m ≡ J x (tree b)) where
    walk_next : {lax : Bool} {st st' : Option Verdict} → Walking J lax x bn bs st t j → standing st' ≡ walked_on (standing st) m lax (emptiable (tree b)) (left_over (row j' s)) → Walking J lax x bn bs st' s j'
    walk_next {lax} {st} w a = record {
      rest_says =
          w.rest_says
          ∙ (ap (λ (y : Items). walk_goes_on (standing st) (recurse_ordered J lax (single x) y)) (row_cons g trees)
          ∙ (walk_step J lax x (tree b) (row j' s) (standing st) ∙ rw (a, says)));
    }

    choose_next : {k : ℕ} {u u' : Verdict} → Choosing J k x bn bs u t j → mark_of u' ≡ combine_readings (mark_of u) m → Choosing J k x bn bs u' s j'
    unfolding alternatives
    choose_next {k} {u} w a = record {
      rest_says =
          w.rest_says
          ∙ (ap (λ (y : Items). mark_of u or_else alternatives J k x y) (row_cons g trees)
          ∙ rw (a, ← says) (either (mark_of u) m (alternatives J k x (row j' s))));
      keeps = rw a (kept (mark_of u) m w.keeps);
    }
      where
        either : (a m rest : Mark) → a or_else (m or_else rest) ≡ combine_readings a m or_else rest
        either passes m rest = refl
        either undecided passes rest = refl
        either undecided undecided passes = refl
        either undecided undecided undecided = refl
        either undecided undecided (fails r) = refl
        either undecided (fails r) rest = refl
        either (fails r) passes rest = refl
        either (fails r) undecided rest = refl
        either (fails r) (fails q) rest = refl

        kept : (a m : Mark) → a or_else fails k ≡ a → combine_readings a m or_else fails k ≡ combine_readings a m
        kept passes m h = refl
        kept undecided passes h = refl
        kept undecided undecided h = refl
        kept undecided (fails r) h = refl
        kept (fails r) passes h = refl
        kept (fails r) undecided h = refl
        kept (fails r) (fails q) h = h

-- Both marks of the element d over the items b of a base group of pair q, where v, what that pair says, rules out the second reading: the wrapped one is left.
module _ (J : Judge) (p q : Occurs) {d : List ℕ} (w : Run 1 d) (b : Items) (v : Verdict) (t : NotOk v) (marks : Marks) where
  abbrev x : Particle
  x = as_once true (tree d)

  pub sequence_ruled_out : {s : List ℕ} {n : ℕ} → s ≡ d → n ≡ 1 → {wrapped : Mark} → mark_of v ≡ base_once q 110 → wrapped ≡ range_ok p q or_fails 105 and_then recurse_ordered J false (each_once true (row n s)) b → BothMarks marks (fails 105) (combine_readings wrapped (mark_of v))
      → BothMarks marks (sequence_once J q x b) (sequence_mark J p q x (tree d) b)
  sequence_ruled_out i one g a e =
      let f = base_fails q 105 110 v g t (recurse_ordered J false (single x) b) (recurse_ordered J false (single (tree d)) b) in
      (e.0 ∙ sym f.0, e.1 ∙ rw (a, alone w i one, f.1))

  pub choice_ruled_out : {s : List ℕ} {n : ℕ} → s ≡ d → n ≡ 1 → {wrapped : Mark} → mark_of v ≡ base_once q 112 → wrapped ≡ range_ok p q or_fails 106 and_then recurse_ordered J true (each_once true (row n s)) b → BothMarks marks (fails 106) (combine_readings wrapped (mark_of v))
      → BothMarks marks (choice_once J q x b) (choice_mark J p q x (tree d) b)
  choice_ruled_out i one g a e =
      let f = base_fails q 106 112 v g t (alternatives J 120 x b) (alternatives J 111 (tree d) b) in
      (e.0 ∙ sym f.0, e.1 ∙ rw (a, alone w i one, f.1))

-- Against a sequence: two walks.
pub record TwoWalks (J : Judge) (x y : Particle) (bn : ℕ) (bs : List ℕ) (once own : Option Verdict) (t : List ℕ) (j : ℕ) : Type 0 where
  pub part : Part j t bs
  pub once_walk : Walking J false x bn bs once t j
  pub own_walk : Walking J false y bn bs own t j

-- Against a choice: the lax walk and the alternatives to the element that counts once, and the alternatives to the other.
pub record ThreeReadings (J : Judge) (x y : Particle) (bn : ℕ) (bs : List ℕ) (first : Option Verdict) (once own : Verdict) (t : List ℕ) (j : ℕ) : Type 0 where
  pub part : Part j t bs
  pub first_walk : Walking J true x bn bs first t j
  pub once_any : Choosing J 120 x bn bs once t j
  pub own_any : Choosing J 111 y bn bs own t j

-- what is settled stays so, whatever the items left come to
settled_once : (within : Bool) (a b : Stands) → settled_at within a b ≡ true → (m : Mark) → walk_goes_on a m ≡ came_to a
settled_once within on b s m = absurd (false≢true s)
settled_once within (ended k) b s m = refl

settled_own : (within : Bool) (r : ℕ) (a b : Stands) → settled_at within a b ≡ true → (m n : Mark)
    → combine_readings (within or_fails r and_then walk_goes_on a m) (walk_goes_on b n) ≡ combine_readings (within or_fails r and_then came_to a) (came_to b)
settled_own within r on b s m n = absurd (false≢true s)
settled_own within r (ended k) (ended l) s m n = refl
settled_own true r (ended passes) on s m n = refl
settled_own false r (ended passes) on s m n = absurd (false≢true s)
settled_own within r (ended undecided) on s m n = absurd (false≢true s)
settled_own within r (ended (fails q)) on s m n = absurd (false≢true s)

-- where the readings so far pass, later alternatives don't matter
passes_still : (within : Bool) (st : Stands) (a m n : Mark) → combine_readings (within or_fails 106 and_then came_to st) a ≡ passes → combine_readings (within or_fails 106 and_then walk_goes_on st m) (a or_else n) ≡ passes
passes_still within st passes m n e = either_passes (within or_fails 106 and_then walk_goes_on st m)
  where
    either_passes : (k : Mark) → combine_readings k passes ≡ passes
    either_passes passes = refl
    either_passes undecided = refl
    either_passes (fails r) = refl
passes_still true (ended passes) undecided m n e = refl
passes_still true (ended passes) (fails r) m n e = refl
passes_still true (ended undecided) undecided m n e = cc
passes_still true (ended undecided) (fails r) m n e = cc
passes_still true (ended (fails q)) undecided m n e = cc
passes_still true (ended (fails q)) (fails r) m n e = cc
passes_still true on undecided m n e = cc
passes_still true on (fails r) m n e = cc
passes_still false st undecided m n e = cc
passes_still false st (fails r) m n e = cc

module _ {J : Judge} {x y : Particle} {bn : ℕ} {bs : List ℕ} where
  pub walks_start : Run bn bs → TwoWalks J x y bn bs None None bs bn
  walks_start w = record { part = part_start w; once_walk = record { rest_says = refl }; own_walk = record { rest_says = refl } }

  pub readings_start : Run bn bs → ThreeReadings J x y bn bs None (Violation NotAllowed) (Violation NoAlternative) bs bn
  readings_start w = record {
    part = part_start w;
    first_walk = record { rest_says = refl };
    once_any = record { rest_says = refl; keeps = refl };
    own_any = record { rest_says = refl; keeps = refl };
  }

  -- the next item starts t, j of them before the end
  module _ {t : List ℕ} {j : ℕ} where
    module _ {once own : Option Verdict} (w : TwoWalks J x y bn bs once own t j) where
      -- a turn: both marks at the item, and the part after it
      module _ {b s : List ℕ} {j' : ℕ} (g : Step j t b s j') (marks : Marks) (says : BothMarks marks (J x (tree b)) (J y (tree b))) where
        pub walks_next : {once' own' : Option Verdict} → standing once' ≡ walked_on (standing once) (mark_of marks.once) false (emptiable (tree b)) (left_over (row j' s))
            → standing own' ≡ walked_on (standing own) (mark_of marks.own) false (emptiable (tree b)) (left_over (row j' s)) → TwoWalks J x y bn bs once' own' s j'
        walks_next a a' = record {
          part = part_next g w.part;
          once_walk = walk_next w.part.trees g says.0 w.once_walk a;
          own_walk = walk_next w.part.trees g says.1 w.own_walk a';
        }

      -- the end: v is what the base's own pair says, `within` what its range says of p
      module _ (p q : Occurs) {within : Bool} (in_range_lem : within ≡ range_ok p q) (v : Verdict) (base : mark_of v ≡ base_once q 110) (o : v ≡ Ok) (marks : Marks)
          (a : BothMarks marks (came_to (standing once)) (combine_readings (within or_fails 105 and_then came_to (standing once)) (came_to (standing own)))) where
        abbrev walk_once : Mark
        walk_once = recurse_ordered J false (single x) (row bn bs)

        abbrev walk_own : Mark
        walk_own = recurse_ordered J false (single y) (row bn bs)

        by_walks : walk_once ≡ came_to (standing once) → combine_readings (within or_fails 105 and_then walk_once) walk_own ≡ combine_readings (within or_fails 105 and_then came_to (standing once)) (came_to (standing own))
            → BothMarks marks (sequence_once J q x (row bn bs)) (sequence_mark J p q x y (row bn bs))
        by_walks c d =
            let f = base_passes q 105 110 v base o walk_once walk_own in
            (a.0 ∙ sym (f.0 ∙ c), a.1 ∙ sym (rw (f.1, ← in_range_lem) d))

        pub walks_end : j ≡ 0 → BothMarks marks (sequence_once J q x (row bn bs)) (sequence_mark J p q x y (row bn bs))
        walks_end z =
            let c = walk_end w.once_walk z in
            let d = walk_end w.own_walk z in
            by_walks c (rw (c, d))

        pub walks_settled : {s : Bool} → s ≡ settled_at within (standing once) (standing own) → s ≡ true → BothMarks marks (sequence_once J q x (row bn bs)) (sequence_mark J p q x y (row bn bs))
        walks_settled i s =
            let m = recurse_ordered J false (single x) (row j t) in
            let n = recurse_ordered J false (single y) (row j t) in
            by_walks (w.once_walk.rest_says ∙ settled_once within (standing once) (standing own) (sym i ∙ s) m)
            (rw (w.once_walk.rest_says, w.own_walk.rest_says) (settled_own within 105 (standing once) (standing own) (sym i ∙ s) m n))

    module _ {first : Option Verdict} {once own : Verdict} (w : ThreeReadings J x y bn bs first once own t j) where
      module _ {b s : List ℕ} {j' : ℕ} (g : Step j t b s j') (marks : Marks) (says : BothMarks marks (J x (tree b)) (J y (tree b))) where
        pub readings_next : {first' : Option Verdict} {once' own' : Verdict} → standing first' ≡ walked_on (standing first) (mark_of marks.once) true (emptiable (tree b)) (left_over (row j' s))
            → mark_of once' ≡ combine_readings (mark_of once) (mark_of marks.once) → mark_of own' ≡ combine_readings (mark_of own) (mark_of marks.own)
            → ThreeReadings J x y bn bs first' once' own' s j'
        readings_next a o c = record {
          part = part_next g w.part;
          first_walk = walk_next w.part.trees g says.0 w.first_walk a;
          once_any = choose_next w.part.trees g says.0 w.once_any o;
          own_any = choose_next w.part.trees g says.1 w.own_any c;
        }

      -- the end: u is the mark by both readings
      module _ (p q : Occurs) {within : Bool} (in_range_lem : within ≡ range_ok p q) (v : Verdict) (base : mark_of v ≡ base_once q 112) (o : v ≡ Ok)
          (u : Verdict) (reads : mark_of u ≡ combine_readings (within or_fails 106 and_then came_to (standing first)) (mark_of own)) where
        abbrev lax_walk : Mark
        lax_walk = recurse_ordered J true (single x) (row bn bs)

        abbrev any_once : Mark
        any_once = alternatives J 120 x (row bn bs)

        abbrev any_own : Mark
        any_own = alternatives J 111 y (row bn bs)

        by_readings : (marks : Marks) → mark_of marks.once ≡ any_once → mark_of marks.own ≡ combine_readings (within or_fails 106 and_then lax_walk) any_own
            → BothMarks marks (choice_once J q x (row bn bs)) (choice_mark J p q x y (row bn bs))
        by_readings marks c d =
            let f = base_passes q 106 112 v base o any_once any_own in
            (c ∙ sym f.0, d ∙ sym (rw (f.1, ← in_range_lem)))

        pub readings_end : (marks : Marks) → marks.once ≡ once → marks.own ≡ u → j ≡ 0 → BothMarks marks (choice_once J q x (row bn bs)) (choice_mark J p q x y (row bn bs))
        readings_end marks c d z = by_readings marks (ap mark_of c ∙ sym (choose_end w.once_any z)) (ap mark_of d ∙ (reads ∙ sym (rw (walk_end w.first_walk z, choose_end w.own_any z))))

        pub readings_pass : (marks : Marks) → marks.once ≡ Ok → marks.own ≡ Ok → once ≡ Ok → u ≡ Ok → BothMarks marks (choice_once J q x (row bn bs)) (choice_mark J p q x y (row bn bs))
        readings_pass marks c d e g =
            by_readings marks (ap mark_of c ∙ sym (w.once_any.rest_says ∙ rw e))
            (ap mark_of d
            ∙ sym (rw (w.first_walk.rest_says, w.own_any.rest_says)
            (passes_still within (standing first) (mark_of own) (recurse_ordered J true (single x) (row j t)) (alternatives J 111 y (row j t)) (sym reads ∙ ap mark_of g))))

-- The derived items of an all-group, one by one, and what the loop over them keeps. Assumes nothing.
use mathlib.Core.Bool.{Bool, true, false}
use mathlib.Core.List.{List, [], ◌++◌, append-nil}
use mathlib.Core.Path.{◌≡◌, refl, ap, sym, ◌∙◌}
use Prim.Native.Nat.{ℕ, ◌+◌, ◌-◌, ◌≤◌, ◌<◌}
use native.Mathlib.Omega.{arith}
use native.Mathlib.Nat.{le_of_eq}
use borrow.Rule.Slice.PartMut.{mid_of, post_of, put_mid, same_len_mid}
use Rattle.std.specs.Prelude.{Option, None, Some}
use lib.ListN.{length, take, drop, get_or, length-drop, drop_of_length-le}
use lib.Seq.{take_all, drop_at, length-take-le}
use Rattle.particle.specs.declared.Occurs.{Occurs}
use Rattle.particle.specs.declared.Record.{Record}
use Rattle.particle.specs.Record.{record_at, range_of}
use Rattle.particle.specs.Tree.{Items, item, head_of}
use Rattle.particle.specs.Rows.{Row, row, items_part}
use Rattle.rules.specs.Verdicts.{Mark, fails, Leaves, Tables}
use Rattle.rules.specs.Combine.{◌and_then◌}
use Rattle.rules.specs.Element.{element_restrict}
use Rattle.rules.specs.Walk.{take_named, untaken, recurse_unordered}
use Rattle.verdicts.specs.declared.Reason.{Reason}
use Rattle.verdicts.specs.declared.Reason.TheVariants.{NotInAll, MemberNotElement}
use Rattle.verdicts.specs.declared.Verdict.{Verdict}
use Rattle.verdicts.specs.declared.Verdict.TheVariants.{Ok, Unknown, Violation}
use Rattle.verdicts.specs.Reasons.{mark_of, definite_of}
use Rattle.verdicts.specs.Taken.{untaken_items, found_of, MemberMark}
use Rattle.verdicts.proofs.Marks.{now_seen}
use Rattle.particle.proofs.ByKind.{other_kind}
use Rattle.verdicts.proofs.Rest.{Rest, begin, row_none, Step, row_here, rest_row, next}
use Rattle.verdicts.proofs.Flags.{flag_here}

-- the flags from `low` on, as `&matched[low..]` hands them on
part_flags : (low : ℕ) (fs : List Bool) → mid_of low (length fs - low) fs ≡ drop low fs
part_flags low fs = take_all (length fs - low) (drop low fs) (le_of_eq (length-drop low fs))

-- Past base items that are taken: from `low₀` to `low`, the flags fs say so, and what is untaken from either on is the same.
pub record Past (bn : ℕ) (fs : List Bool) (free₀ : List ℕ) (low₀ k₀ : ℕ) (free : List ℕ) (low k : ℕ) : Type 0 where
  pub base : Rest bn low k free
  pub same : untaken_items (drop low₀ fs) (row k₀ free₀) ≡ untaken_items (drop low fs) (row k free)

pub past_none : {bn : ℕ} {fs : List Bool} {free : List ℕ} {low k : ℕ} → Rest bn low k free → Past bn fs free low k free low k
past_none w = record { base = w; same = refl }

pub past_one : {bn : ℕ} {fs : List Bool} {free₀ : List ℕ} {low₀ k₀ : ℕ} {free : List ℕ} {low k : ℕ} → Past bn fs free₀ low₀ k₀ free low k → {first after : List ℕ} {j : ℕ} → Step k free first after j
    → low < length fs → get_or fs low false ≡ true → Past bn fs free₀ low₀ k₀ after (low + 1) j
unfolding untaken_items
past_one {fs = fs} {low = low} g s h t = record { base = next s g.base; same = g.same ∙ rw (row_here s g.base.left refl, flag_here fs low h, t) }

module _ (L : Leaves) (T : Tables) where
  -- an item of record r against the base items y: it is no element; or no base element has its name; or the first one that has is taken
  module _ (r : Record) {y : Items} {fs : List Bool} where
    pub not_element : (r.kind ≡ 0 → ⊥) → MemberMark L T (head_of r) y fs fs (Violation MemberNotElement)
    unfolding recurse_unordered
    not_element z = record { goes_on = λ k x. sym (other_kind (λ h. recurse_unordered L T (item h k x) (untaken_items fs y) ≡ fails 119) r.leaf (range_of r) refl refl refl refl r.kind z) }

    module _ (e : r.kind ≡ 0) {name : ℕ} (n : name ≡ L.local_name r.leaf) {es : List Bool} {t : Option (ℕ × Occurs)}
        (a : found_of t (untaken_items es y) ≡ take_named L name (untaken_items fs y)) where
      pub not_in_base : t ≡ None → MemberMark L T (head_of r) y fs es (Violation NotInAll)
      unfolding recurse_unordered
      not_in_base o = record { goes_on = λ k x. rw (e, ← n, ← a, o, recurse_unordered) }

      pub in_base : {m : ℕ} {q p : Occurs} {v : Verdict} → t ≡ Some (m, q) → p ≡ range_of r → mark_of v ≡ element_restrict T r.leaf p m q → MemberMark L T (head_of r) y fs es v
      unfolding recurse_unordered
      in_base o f w = record { goes_on = λ k x. rw (w, f, e, ← n, ← a, o, recurse_unordered) }

  -- `take_members`: the first dn trees of ds against those of the first bn of bs that the flags fs₀ leave untaken
  module _ (ds : List ℕ) (dn : ℕ) (bs : List ℕ) (bn : ℕ) (fs₀ : List Bool) where
    abbrev whole : Mark
    whole = recurse_unordered L T (row dn ds) (untaken_items fs₀ (row bn bs))

    -- what is left has the mark, but for something undecided that was seen; the first `low` base items are taken, and `free` starts after them
    pub record Going (rest : List ℕ) (i : ℕ) (seen : Bool) (free : List ℕ) (low k : ℕ) (fs : List Bool) : Type 0 where
      pub flags : length fs ≡ length fs₀
      pub at : Row i rest
      pub base : Rest bn low k free
      pub same : whole ≡ definite_of seen (recurse_unordered L T (row i rest) (untaken_items (drop low fs) (row k free)))

    pub start : Row dn ds → Row bn bs → Going ds dn false bs 0 bn fs₀
    start w u = record { flags = refl; at = w; base = begin u; same = refl }

    pub skipped : {rest : List ℕ} {i : ℕ} {seen : Bool} {free₀ : List ℕ} {low₀ k₀ : ℕ} {free : List ℕ} {low k : ℕ} {fs : List Bool} → Going rest i seen free₀ low₀ k₀ fs → Past bn fs free₀ low₀ k₀ free low k → Going rest i seen free low k fs
    skipped {rest} {i} {seen} g w = record { flags = g.flags; at = g.at; base = w.base; same = g.same ∙ ap (λ (x : Items). definite_of seen (recurse_unordered L T (row i rest) x)) w.same }

    -- a part of the flags was lent, and came back as es
    pub lent_back : (a k : ℕ) (es : List Bool) {rest : List ℕ} {i : ℕ} {seen : Bool} {free : List ℕ} {low j : ℕ} {fs : List Bool} → Going rest i seen free low j fs → length es ≡ length (mid_of a k fs) → length (put_mid a k fs es) ≡ length fs₀
    lent_back a k es {fs = fs} g f = same_len_mid a k fs es f ∙ g.flags

    -- Past the taken ones at the front an item is left, and r is its record; v is its verdict, after which the flags from `low` on are es.
    module _ (room : bn ≤ length fs₀) {rest : List ℕ} {i : ℕ} {seen : Bool} {free₀ : List ℕ} {low₀ k₀ : ℕ} {free : List ℕ} {low k : ℕ} {fs es : List Bool} {first after : List ℕ} {i' : ℕ} {r : Record} {v : Verdict}
        (g₀ : Going rest i seen free₀ low₀ k₀ fs) (w : Past bn fs free₀ low₀ k₀ free low k) (st : Step i rest first after i') (q : r ≡ record_at first)
        (a : MemberMark L T (head_of r) (row k free) (mid_of low (length fs - low) fs) es v) where
      g : Going rest i seen free low k fs
      g = skipped g₀ w

      abbrev After : List Bool
      After = put_mid low (length fs - low) fs es

      after_flags : drop low After ≡ es
      after_flags =
          let nothing : post_of low (length fs - low) fs ≡ [] = drop_of_length-le (drop low fs) {i = length fs - low} (omega (arith, length-drop low fs)) in
          let within : low ≤ length fs = omega (arith, g.flags, g.base.passed) in
          drop_at (take low fs) (es ++ post_of low (length fs - low) fs) low (length-take-le low fs within) ∙ (ap (λ (x : List Bool). es ++ x) nothing ∙ append-nil es)

      abbrev against : Items → List Bool → Mark
      against x flags = recurse_unordered L T x (untaken_items flags (row k free))

      judged : whole ≡ definite_of seen (mark_of v and_then against (row i' after) (drop low After))
      judged =
          g.same
          ∙ ap (definite_of seen) (ap (λ (x : Items). against x (drop low fs)) (row_here st g.at q)
          ∙ (ap (against (item (head_of r) (row r.count (items_part rest)) (row i' after))) (sym (part_flags low fs))
          ∙ (sym (a.goes_on _ _)
          ∙ ap (λ (x : List Bool). mark_of v and_then against (row i' after) x) (sym after_flags))))

      pub passed : v ≡ Ok → length es ≡ length (mid_of low (length fs - low) fs) → Going after i' seen free low k After
      passed e f = record { flags = lent_back low (length fs - low) es g f; at = rest_row st g.at; base = g.base; same = judged ∙ rw e }

      pub unsure : v ≡ Unknown → length es ≡ length (mid_of low (length fs - low) fs) → Going after i' true free low k After
      unsure e f = record { flags = lent_back low (length fs - low) es g f; at = rest_row st g.at; base = g.base; same = judged ∙ rw e (now_seen seen) }

      pub failed : {n : Reason} {m : Mark} → v ≡ Violation n → m ≡ definite_of seen (mark_of v) → m ≡ whole
      failed e d = d ∙ sym (judged ∙ rw e)

    pub at_end : {rest : List ℕ} {i : ℕ} {seen : Bool} {free : List ℕ} {low k : ℕ} {fs : List Bool} {m u : Mark} → Going rest i seen free low k fs → i ≡ 0 → u ≡ untaken (untaken_items (mid_of low (length fs - low) fs) (row k free)) → m ≡ definite_of seen u → m ≡ whole
    unfolding recurse_unordered
    at_end {seen = seen} {free} {low} {k} {fs} g z a d = d ∙ (ap (definite_of seen) (a ∙ ap (λ (x : List Bool). untaken (untaken_items x (row k free))) (part_flags low fs)) ∙ sym (g.same ∙ rw (row_none _ _ z)))

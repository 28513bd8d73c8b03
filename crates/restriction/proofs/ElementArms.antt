-- The arms of `element_marks`: both marks of an element against a base tree, by the base's kind. Each level's two marks are made of the next level's two. Assumes nothing.
use mathlib.Core.Bool.{true, false}
use mathlib.Core.List.{List}
use mathlib.Core.Path.{◌≡◌, refl, ap, sym, ◌∙◌}
use Prim.Native.Nat.{ℕ, ◌≤◌, ◌<◌}
use native.Mathlib.Omega.{arith}
use lib.ListN.{length}
use Rattle.particle.specs.declared.Occurs.{Occurs}
use Rattle.particle.specs.declared.Record.{Record}
use Rattle.particle.specs.Occurs.{range_ok, exactly}
use Rattle.particle.specs.Record.{range_of, record_at}
use Rattle.particle.specs.Tree.{element, sequence, choice, Items, none, item, head_from, head_of, pair_of, tree}
use Rattle.particle.specs.Rows.{row, items_part}
use Rattle.particle.specs.Runs.{Run}
use Rattle.particle.specs.Encode.{kind_number}
use Rattle.particle.proofs.Laws.{items_shorter}
use Rattle.rules.specs.Verdicts.{Mark, undecided, Leaves, Tables}
use Rattle.rules.specs.Combine.{◌or_fails◌, ◌and_then◌}
use Rattle.rules.specs.Element.{element_restrict}
use Rattle.rules.specs.Walk.{◌⟦◌⟧, Judge}
use Rattle.rules.specs.Rule.{rule}
use Rattle.rules.specs.Mark.{restrict}
use Rattle.rules.proofs.Unfolds.{mark_unfolds}
use Rattle.verdicts.specs.declared.leaves.Paper.{Paper}
use Rattle.verdicts.specs.Paper.{paper_leaves, paper_tables}
use Rattle.restriction.specs.declared.marks.Marks.{Marks}
use Rattle.restriction.specs.Views.{as_once, any_head, paper_judge}
use Rattle.restriction.specs.Marks.{BothMarks, sequence_mark, sequence_once, choice_mark, choice_once}
use Rattle.restriction.proofs.Heads.{any_again}
use Rattle.restriction.proofs.Readings.{once_sequence, once_choice}
use Rattle.restriction.proofs.Parts.{weight}
use Rattle.restriction.proofs.Arms.{Side, side_tree, read_side}

-- The two marks at a base sequence and at a base choice of pair q, of what marks the items b: counting once, and with the pair p.
module _ (L : Leaves) (T : Tables) (l : ℕ) (k : Items) (q : Occurs) (b : Items) where
  abbrev J : Judge
  J = restrict L T

  own_sequence : (p : Occurs) → J (element l p ⟦ k ⟧) (sequence q ⟦ b ⟧) ≡ sequence_mark J p q (element l (exactly 1) ⟦ k ⟧) (element l p ⟦ k ⟧) b
  unfolding rule
  own_sequence p = mark_unfolds L T (element l p) k (sequence q) b ∙ rw (mark_unfolds L T (sequence p) (item (element l (exactly 1)) k none) (sequence q) b)

  own_choice : (p : Occurs) → J (element l p ⟦ k ⟧) (choice q ⟦ b ⟧) ≡ choice_mark J p q (element l (exactly 1) ⟦ k ⟧) (element l p ⟦ k ⟧) b
  unfolding rule
  own_choice p = mark_unfolds L T (element l p) k (choice q) b ∙ rw (mark_unfolds L T (choice p) (item (element l (exactly 1)) k none) (choice q) b)

  pub sequence_level : (p : Occurs)
      → (J (element l (exactly 1) ⟦ k ⟧) (sequence q ⟦ b ⟧) ≡ sequence_once J q (element l (exactly 1) ⟦ k ⟧) b)
      × (J (element l p ⟦ k ⟧) (sequence q ⟦ b ⟧) ≡ sequence_mark J p q (element l (exactly 1) ⟦ k ⟧) (element l p ⟦ k ⟧) b)
  sequence_level p = (own_sequence (exactly 1) ∙ once_sequence J q (element l (exactly 1) ⟦ k ⟧) b, own_sequence p)

  pub choice_level : (p : Occurs)
      → (J (element l (exactly 1) ⟦ k ⟧) (choice q ⟦ b ⟧) ≡ choice_once J q (element l (exactly 1) ⟦ k ⟧) b)
      × (J (element l p ⟦ k ⟧) (choice q ⟦ b ⟧) ≡ choice_mark J p q (element l (exactly 1) ⟦ k ⟧) (element l p ⟦ k ⟧) b)
  choice_level p = (own_choice (exactly 1) ∙ once_choice J q (element l (exactly 1) ⟦ k ⟧) b, own_choice p)

-- the call for the items of b has less weight
pub below_items : (d : List ℕ) {b bs : List ℕ} {m : ℕ} → Run 1 b → bs ≡ items_part b → weight 1 d b ≡ m → weight 4 d bs < m
below_items d w e m = omega (arith, m, ap length e, items_shorter w.row)

-- the items of the tree that b starts with
abbrev items_at : List ℕ → Items
items_at b = row (record_at b).count (items_part b)

module _ (paper : Paper) where
  abbrev Jd : Judge
  Jd = paper_judge paper

  abbrev T : Tables
  T = paper_tables paper

  abbrev L : Leaves
  L = paper_leaves paper

  -- The marks of an element of pair p at the start of d, against the tree at the start of b: br is its record, q its pair, bk its kind number.
  module _ (d : List ℕ) (marks : Marks) {leaf : ℕ} {p : Occurs} {b : List ℕ} {br : Record} {q : Occurs} {bk : ℕ}
      (h : (tree d).head ≡ element leaf p) (w : Run 1 b) (e : br ≡ record_at b) (o : q ≡ pair_of (any_head false (head_of br))) (kind : (bk ≡ kind_number (head_of br)) × (bk ≤ 4)) where
    base : Side (any_head false) b br q (items_part b) (record_at b).count bk
    base = read_side w e o refl refl kind

    base_tree_lem : tree b ≡ head_from bk br.leaf q ⟦ items_at b ⟧
    base_tree_lem = side_tree base ∙ rw (any_again br.leaf (range_of br) false br.kind, ← kind.0, ← o)

    -- both marks, by the base's kind
    by_kind : (i : ℕ) {once own : Mark} → bk ≡ i → rule L T Jd (element leaf (exactly 1)) (tree d).items (head_from i br.leaf q) (items_at b) ≡ once → rule L T Jd (element leaf p) (tree d).items (head_from i br.leaf q) (items_at b) ≡ own
        → BothMarks marks once own → BothMarks marks (Jd (as_once true (tree d)) (tree b)) (Jd (tree d) (tree b))
    by_kind i z f g a =
        let says : (x : Occurs) → Jd (element leaf x ⟦ (tree d).items ⟧) (tree b) ≡ rule L T Jd (element leaf x) (tree d).items (head_from i br.leaf q) (items_at b) = λ x. rw (base_tree_lem, z) (mark_unfolds L T (element leaf x) (tree d).items (head_from i br.leaf q) (items_at b)) in
        (a.0 ∙ sym (rw h (says (exactly 1) ∙ f)), a.1 ∙ sym (rw h (says p ∙ g)))

    pub element_both : bk ≡ 0 → BothMarks marks (element_restrict T leaf (exactly 1) br.leaf q) (element_restrict T leaf p br.leaf q) → BothMarks marks (Jd (as_once true (tree d)) (tree b)) (Jd (tree d) (tree b))
    unfolding rule
    element_both z = by_kind 0 z refl refl

    pub wildcard_both : bk ≡ 1 → BothMarks marks (range_ok (exactly 1) q or_fails 101 and_then T.second leaf br.leaf) (range_ok p q or_fails 101 and_then T.second leaf br.leaf) → BothMarks marks (Jd (as_once true (tree d)) (tree b)) (Jd (tree d) (tree b))
    unfolding rule
    wildcard_both z = by_kind 1 z refl refl

    module _ {bs : List ℕ} {bn : ℕ} (below : bs ≡ items_part b) (many : bn ≡ (record_at b).count) where
      pub sequence_both : bk ≡ 2 → BothMarks marks (sequence_once Jd q (as_once true (tree d)) (row bn bs)) (sequence_mark Jd p q (as_once true (tree d)) (tree d) (row bn bs)) → BothMarks marks (Jd (as_once true (tree d)) (tree b)) (Jd (tree d) (tree b))
      sequence_both z a =
          let level = sequence_level L T leaf (tree d).items q (row bn bs) p in
          let at : tree b ≡ sequence q ⟦ row bn bs ⟧ = base_tree_lem ∙ rw (z, below, many) in
          (a.0 ∙ sym (rw (at, h) level.0), a.1 ∙ sym (rw (at, h) level.1))

      pub choice_both : bk ≡ 3 → BothMarks marks (choice_once Jd q (as_once true (tree d)) (row bn bs)) (choice_mark Jd p q (as_once true (tree d)) (tree d) (row bn bs)) → BothMarks marks (Jd (as_once true (tree d)) (tree b)) (Jd (tree d) (tree b))
      choice_both z a =
          let level = choice_level L T leaf (tree d).items q (row bn bs) p in
          let at : tree b ≡ choice q ⟦ row bn bs ⟧ = base_tree_lem ∙ rw (z, below, many) in
          (a.0 ∙ sym (rw (at, h) level.0), a.1 ∙ sym (rw (at, h) level.1))

    pub all_both : bk ≡ 4 → BothMarks marks undecided undecided → BothMarks marks (Jd (as_once true (tree d)) (tree b)) (Jd (tree d) (tree b))
    unfolding rule
    all_both z = by_kind 4 z refl refl

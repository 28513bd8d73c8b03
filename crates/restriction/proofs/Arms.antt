-- The arms of `restrict`: what the two records say selects a clause of the rule, and each arm's rule in the code is that clause. Assumes nothing.
use mathlib.Core.Bool.{Bool, true, false}
use mathlib.Core.List.{List}
use mathlib.Core.Path.{◌≡◌, refl, sym, ap, ◌∙◌}
use Prim.Native.Nat.{ℕ, ◌+◌, ◌*◌, ◌≤◌, ◌<◌}
use native.Mathlib.Omega.{arith}
use lib.ListN.{length}
use Rattle.particle.specs.declared.Occurs.{Occurs}
use Rattle.particle.specs.declared.Record.{Record}
use Rattle.particle.specs.Occurs.{range_ok, exactly}
use Rattle.particle.specs.Record.{record_at, range_of}
use Rattle.particle.specs.Tree.{Head, element, wildcard, sequence, choice, Items, none, item, Particle, take_i, pair_of, head_from, head_of, tree}
use Rattle.particle.specs.Rows.{row, items_part}
use Rattle.particle.specs.Runs.{Run}
use Rattle.particle.specs.Encode.{kind_number}
use Rattle.particle.proofs.ByKind.{group_kind}
use Rattle.particle.proofs.Laws.{tree_is, row_is, items_shorter}
use Rattle.particle.proofs.Runs.{items_run}
use Rattle.totals.specs.Total.{total, total_ok}
use Rattle.rules.specs.Verdicts.{Mark, fails, Leaves, Tables}
use Rattle.rules.specs.Combine.{◌or_fails◌, ◌and_then◌}
use Rattle.rules.specs.Walk.{◌⟦◌⟧, Judge, recurse_ordered, alternatives, each_member}
use Rattle.rules.specs.Rule.{any_number, times_count, rule}
use Rattle.rules.proofs.Unfolds.{mark_unfolds}
use Rattle.verdicts.specs.declared.Verdict.{Verdict}
use Rattle.verdicts.specs.declared.leaves.Paper.{Paper}
use Rattle.verdicts.specs.Paper.{paper_leaves, paper_tables}
use Rattle.verdicts.specs.Reasons.{mark_of}
use Rattle.verdicts.proofs.Marks.{NotOk, ended}
use Rattle.restriction.specs.Views.{once_head, as_once, each_once, any_head, as_any, paper_judge}
use Rattle.restriction.specs.Marks.{sequence_mark, choice_mark}
use Rattle.restriction.proofs.Heads.{head_again, once_same, any_same, once_again, any_again, once_never}
use Rattle.restriction.proofs.Parts.{row_count, weight}
use Rattle.restriction.proofs.Table.{NoneOf, keys, other_kinds}

-- what `restrict` has read of one tree t: its record, its n items, its kind number; `seen` is how its head counts
pub record Side (seen : Head → Head) (t : List ℕ) (r : Record) (p : Occurs) (s : List ℕ) (n k : ℕ) : Type 0 where
  pub whole : Run 1 t
  pub first : r ≡ record_at t
  pub pair : p ≡ pair_of (seen (head_of r))
  pub below : s ≡ items_part t
  pub many : n ≡ (record_at t).count
  pub kind : k ≡ kind_number (head_of r)
  pub small : k ≤ 4

module _ {seen : Head → Head} {t : List ℕ} {r : Record} {p : Occurs} {s : List ℕ} {n k : ℕ} (S : Side seen t r p s n k) where
  pub side_tree : tree t ≡ head_of r ⟦ row n s ⟧
  side_tree = tree_is S.whole.row ∙ rw (S.first, S.below, S.many)

  side_row : row 1 t ≡ item (head_of r) (row n s) none
  unfolding take_i
  side_row = row_is S.whole.row ∙ ap (λ (x : Particle). item x.head x.items none) side_tree

  pub side_items : Run n s
  side_items = rw (S.many, S.below) (items_run S.whole)

  pub side_shorter : length s < length t
  side_shorter = rw S.below (items_shorter S.whole.row)

  -- the own head, by the kind number
  own_head : head_of r ≡ head_from k r.leaf (range_of r)
  own_head = sym (head_again r.leaf (range_of r) r.kind) ∙ rw S.kind

-- both trees; m is what they weigh
pub record Sides (once any : Bool) (d b : List ℕ) (dr br : Record) (p q : Occurs) (ds bs : List ℕ) (dn bn dk bk m : ℕ) : Type 0 where
  pub derived : Side (once_head once) d dr p ds dn dk
  pub base : Side (any_head any) b br q bs bn bk
  pub weighs : weight 0 d b ≡ m

-- one fact after another
pub read_side : {seen : Head → Head} {t : List ℕ} {r : Record} {p : Occurs} {s : List ℕ} {n k : ℕ} → Run 1 t → r ≡ record_at t → p ≡ pair_of (seen (head_of r)) → s ≡ items_part t → n ≡ (record_at t).count
    → (k ≡ kind_number (head_of r)) × (k ≤ 4) → Side seen t r p s n k
read_side w e o b n k = record { whole = w; first = e; pair = o; below = b; many = n; kind = k.0; small = k.1 }

pub both : {once any : Bool} {d b : List ℕ} {dr br : Record} {p q : Occurs} {ds bs : List ℕ} {dn bn dk bk m : ℕ}
    → Run 1 d → Run 1 b → dr ≡ record_at d → br ≡ record_at b → p ≡ pair_of (once_head once (head_of dr)) → q ≡ pair_of (any_head any (head_of br))
    → ds ≡ items_part d → dn ≡ (record_at d).count → bs ≡ items_part b → bn ≡ (record_at b).count
    → (dk ≡ kind_number (head_of dr)) × (dk ≤ 4) → (bk ≡ kind_number (head_of br)) × (bk ≤ 4) → weight 0 d b ≡ m → Sides once any d b dr br p q ds bs dn bn dk bk m
both dw bw de be po qo dse dne bse bne dk bk m = record { derived = read_side dw de po dse dne dk; base = read_side bw be qo bse bne bk; weighs = m }

module _ {once any : Bool} {d b : List ℕ} {dr br : Record} {p q : Occurs} {ds bs : List ℕ} {dn bn dk bk m : ℕ} (S : Sides once any d b dr br p q ds bs dn bn dk bk m) where
  -- what the calls ask: less weight, and of a derived element its leaf and pair
  pub to_readings : 5 * dk + bk < 5 → (weight 5 d bs < m) × (once_head once (tree d).head ≡ element dr.leaf p)
  to_readings low = (omega (arith, S.weighs, side_shorter S.base), rw (side_tree S.derived) (derived_element (omega arith)))
    where
      derived_element : dk ≡ 0 → once_head once (head_of dr) ≡ element dr.leaf p
      derived_element k = once_again dr.leaf (range_of dr) once dr.kind ∙ rw (← S.derived.kind, ← S.derived.pair, k)

  pub to_derived : weight 3 ds b < m
  to_derived = omega (arith, S.weighs, side_shorter S.derived)

  pub to_members : weight 2 (items_part d) b < m
  to_members = let l : weight 2 ds b < m = omega (arith, to_derived) in rw S.derived.below at l

  pub to_both : weight 3 ds bs < m
  to_both = omega (arith, S.weighs, side_shorter S.derived, side_shorter S.base)

module _ (paper : Paper) {once any : Bool} {d b : List ℕ} {dr br : Record} {p q : Occurs} {ds bs : List ℕ} {dn bn dk bk m : ℕ} (S : Sides once any d b dr br p q ds bs dn bn dk bk m) where
  abbrev the_mark : Mark
  the_mark = paper_judge paper (as_once once (tree d)) (as_any any (tree b))

  abbrev L : Leaves
  L = paper_leaves paper

  abbrev T : Tables
  T = paper_tables paper

  abbrev J : Judge
  J = paper_judge paper

  -- the items
  abbrev di : Items
  di = row dn ds

  abbrev bi : Items
  bi = row bn bs

  derived_head : once_head once (head_of dr) ≡ head_from dk dr.leaf p
  derived_head = once_again dr.leaf (range_of dr) once dr.kind ∙ rw (S.derived.kind, S.derived.pair)

  base_head : any_head any (head_of br) ≡ head_from bk br.leaf q
  base_head = any_again br.leaf (range_of br) any br.kind ∙ rw (S.base.kind, S.base.pair)

  by_kinds : the_mark ≡ rule L T J (head_from dk dr.leaf p) di (head_from bk br.leaf q) bi
  by_kinds =
      mark_unfolds L T (once_head once (tree d).head) (tree d).items (any_head any (tree b).head) (tree b).items
      ∙ rw (side_tree S.derived, side_tree S.base, derived_head, base_head)

  module _ (i j : ℕ) (small : j ≤ 4) (key : 5 * dk + bk ≡ 5 * i + j) where
    derived_kind : dk ≡ i
    derived_kind = omega (arith, S.base.small)

    base_kind : bk ≡ j
    base_kind = omega (arith, S.base.small)

    arm_rule : the_mark ≡ rule L T J (head_from i dr.leaf p) di (head_from j br.leaf q) bi
    arm_rule = by_kinds ∙ rw (derived_kind, base_kind)

  pub other_arm : NoneOf (5 * dk + bk) keys → fails 115 ≡ the_mark
  other_arm k = sym (by_kinds ∙ other_kinds L T J dr.leaf br.leaf p q di bi dk bk S.derived.small S.base.small k)

  -- what a wrapped group marks
  unwrap : (d' b' : Head) (x y : Items) → J (d' ⟦ x ⟧) (b' ⟦ y ⟧) ≡ rule L T J d' x b' y
  unwrap d' b' x y = mark_unfolds L T d' x b' y

  -- the element against a group: it stands alone, once and as it is seen
  module _ (k : dk ≡ 0) where
    alone : as_once once (tree d) ≡ element dr.leaf p ⟦ di ⟧
    alone = rw (side_tree S.derived, derived_head, k)

    alone_once : as_once true (tree d) ≡ element dr.leaf (exactly 1) ⟦ di ⟧
    alone_once = rw (side_tree S.derived, own_head S.derived, k)

  -- a derived group and a base element have their own pairs
  derived_own : (dk ≡ 0 → ⊥) → head_of dr ≡ head_from dk dr.leaf p
  derived_own z = once_same dr.leaf (range_of dr) once dr.kind (λ o e. z (S.derived.kind ∙ rw e)) ∙ derived_head

  base_own : (bk ≡ 1 → ⊥) → head_of br ≡ head_from bk br.leaf q
  base_own z = any_same br.leaf (range_of br) any br.kind (λ a e. z (S.base.kind ∙ rw e)) ∙ base_head

  -- an element alone in a group that it is wrapped in
  base_alone : bk ≡ 0 → row 1 b ≡ item (element br.leaf q) bi none
  base_alone k = side_row S.base ∙ rw (base_own (omega arith), k)

  -- a group against a wildcard
  group_rule : (i : ℕ) → 2 ≤ i → rule L T J (head_from i dr.leaf p) di (wildcard br.leaf q) bi ≡ total_ok (total (head_from i dr.leaf p ⟦ di ⟧)) q or_fails 113 and_then each_member (λ x. J x (wildcard br.leaf any_number ⟦ bi ⟧)) di
  unfolding rule
  group_rule i two =
      group_kind (λ d'. rule L T J d' di (wildcard br.leaf q) bi ≡ total_ok (total (d' ⟦ di ⟧)) q or_fails 113 and_then each_member (λ x. J x (wildcard br.leaf any_number ⟦ bi ⟧)) di)
      dr.leaf p refl refl refl i two

  group_tree : (dk ≡ 0 → ⊥) → tree d ≡ head_from dk dr.leaf p ⟦ di ⟧
  group_tree z = side_tree S.derived ∙ rw (derived_own z)

  any_tree : bk ≡ 1 → as_any true (tree b) ≡ wildcard br.leaf any_number ⟦ bi ⟧
  any_tree k = rw (side_tree S.base, own_head S.base, k)

  -- the arms that call a rule of their own: v is what it answers
  module _ {v : Mark} where
    pub element_sequence_arm : 5 * dk + bk ≡ 2 → v ≡ sequence_mark J p q (as_once true (tree d)) (as_once once (tree d)) bi → v ≡ the_mark
    unfolding rule
    element_sequence_arm key a =
        let k = derived_kind 0 2 (omega arith) key in
        a
        ∙ sym (arm_rule 0 2 (omega arith) key
        ∙ rw (unwrap (sequence p) (sequence q) (item (element dr.leaf (exactly 1)) di none) bi)
        (ap (λ (x : Particle). sequence_mark J p q x (element dr.leaf p ⟦ di ⟧) bi) (sym (alone_once k)) ∙ ap (λ (y : Particle). sequence_mark J p q (as_once true (tree d)) y bi) (sym (alone k))))

    pub element_choice_arm : 5 * dk + bk ≡ 3 → v ≡ choice_mark J p q (as_once true (tree d)) (as_once once (tree d)) bi → v ≡ the_mark
    unfolding rule
    element_choice_arm key a =
        let k = derived_kind 0 3 (omega arith) key in
        a
        ∙ sym (arm_rule 0 3 (omega arith) key
        ∙ rw (unwrap (choice p) (choice q) (item (element dr.leaf (exactly 1)) di none) bi)
        (ap (λ (x : Particle). choice_mark J p q x (element dr.leaf p ⟦ di ⟧) bi) (sym (alone_once k)) ∙ ap (λ (y : Particle). choice_mark J p q (as_once true (tree d)) y bi) (sym (alone k))))

    module _ {one : Occurs} (e : one ≡ exactly 1) where
      pub sequence_element_arm : 5 * dk + bk ≡ 10 → v ≡ range_ok p one or_fails 105 and_then recurse_ordered J false (each_once false di) (row 1 b) → v ≡ the_mark
      unfolding rule
      sequence_element_arm key a =
          a
          ∙ sym (arm_rule 2 0 (omega arith) key ∙ unwrap (sequence p) (sequence (exactly 1)) di (item (element br.leaf q) bi none)
          ∙ rw (e, once_never di, base_alone (base_kind 2 0 (omega arith) key)))

      pub choice_element_arm : 5 * dk + bk ≡ 15 → v ≡ range_ok p one or_fails 106 and_then recurse_ordered J true (each_once false di) (row 1 b) → v ≡ the_mark
      unfolding rule
      choice_element_arm key a =
          a
          ∙ sym (arm_rule 3 0 (omega arith) key ∙ unwrap (choice p) (choice (exactly 1)) di (item (element br.leaf q) bi none)
          ∙ rw (e, once_never di, base_alone (base_kind 3 0 (omega arith) key)))

    pub sequences_arm : 5 * dk + bk ≡ 12 → v ≡ range_ok p q or_fails 105 and_then recurse_ordered J false (each_once false di) bi → v ≡ the_mark
    unfolding rule
    sequences_arm key a = a ∙ sym (arm_rule 2 2 (omega arith) key ∙ rw (once_never di))

    pub choices_arm : 5 * dk + bk ≡ 18 → v ≡ range_ok p q or_fails 106 and_then recurse_ordered J true (each_once false di) bi → v ≡ the_mark
    unfolding rule
    choices_arm key a = a ∙ sym (arm_rule 3 3 (omega arith) key ∙ rw (once_never di))

    pub sequence_choice_arm : 5 * dk + bk ≡ 13 → v ≡ total_ok (times_count p dn) q or_fails 116 and_then each_member (λ x. alternatives J 117 x bi) di → v ≡ the_mark
    unfolding rule
    sequence_choice_arm key a = a ∙ sym (arm_rule 2 3 (omega arith) key ∙ rw (row_count (side_items S.derived)))

-- the arms that need no more than the rule's clause, and those for a group against a wildcard
module _ (paper : Paper) (i j : ℕ) (small : j ≤ 4) {once any : Bool} {d b : List ℕ} {dr br : Record} {p q : Occurs} {ds bs : List ℕ} {dn bn dk bk m : ℕ}
    (S : Sides once any d b dr br p q ds bs dn bn dk bk m) {v : Mark} (key : 5 * dk + bk ≡ 5 * i + j) where
  pub arm : v ≡ rule (paper_leaves paper) (paper_tables paper) (paper_judge paper) (head_from i dr.leaf p) (row dn ds) (head_from j br.leaf q) (row bn bs) → v ≡ paper_judge paper (as_once once (tree d)) (as_any any (tree b))
  arm a = a ∙ sym (arm_rule paper S i j small key)

module _ (paper : Paper) (i : ℕ) (two : 2 ≤ i) {once any : Bool} {d b : List ℕ} {dr br : Record} {p q : Occurs} {ds bs : List ℕ} {dn bn dk bk m : ℕ}
    (S : Sides once any d b dr br p q ds bs dn bn dk bk m) {v : Mark} (key : 5 * dk + bk ≡ 5 * i + 1) where
  pub group_wildcard_arm : v ≡ total_ok (total (tree d)) q or_fails 113 and_then each_member (λ x. paper_judge paper x (as_any true (tree b))) (row (record_at d).count (items_part d)) → v ≡ paper_judge paper (as_once once (tree d)) (as_any any (tree b))
  group_wildcard_arm a =
      let k = derived_kind paper S i 1 (omega arith) key in
      let same : row dn ds ≡ row (record_at d).count (items_part d) = rw (S.derived.below, S.derived.many) in
      a
      ∙ sym (arm_rule paper S i 1 (omega arith) key ∙ group_rule paper S i two
      ∙ rw (any_tree paper S (base_kind paper S i 1 (omega arith) key), group_tree paper S (omega arith), k, same))

-- two elements that the first table keeps apart, told by their records alone
pub elements_apart : (paper : Paper) (once any : Bool) {d b : List ℕ} {dr br : Record} → Run 1 d → Run 1 b → dr ≡ record_at d → br ≡ record_at b → dr.kind ≡ 0 → br.kind ≡ 0
    → (v : Verdict) → mark_of v ≡ (paper_tables paper).first dr.leaf br.leaf → NotOk v → mark_of v ≡ paper_judge paper (as_once once (tree d)) (as_any any (tree b))
unfolding rule
elements_apart paper once any {d} {b} {dr} {br} dw bw de be dk bk v e apart =
    let s : Sides once any d b dr br (pair_of (once_head once (head_of dr))) (pair_of (any_head any (head_of br))) (items_part d) (items_part b) (record_at d).count (record_at b).count 0 0 (weight 0 d b) = record {
      derived = record { whole = dw; first = de; pair = refl; below = refl; many = refl; kind = rw dk; small = omega arith };
      base = record { whole = bw; first = be; pair = refl; below = refl; many = refl; kind = rw bk; small = omega arith };
      weighs = refl;
    } in
    ended _ v e apart ∙ sym (arm_rule paper s 0 0 (omega arith) (omega arith))

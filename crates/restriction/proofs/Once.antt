-- An element that counts once, told by its pair: its one mark answers for it. Any other has its own pair, and its mark is the own one of two. Assumes nothing.
use mathlib.Core.Bool.{Bool, true, false, true≢false}
use mathlib.Core.List.{List}
use mathlib.Core.Path.{◌≡◌, refl, ap, sym, ◌∙◌}
use Prim.Native.Nat.{ℕ}
use native.Mathlib.Omega.{arith}
use lib.Dec.{eqb}
use borrow.Author.Tests.{eqb-true}
use Rattle.particle.specs.declared.MaxOccurs.{MaxOccurs}
use Rattle.particle.specs.declared.MaxOccurs.TheVariants.{Bounded, Unbounded}
use Rattle.particle.specs.declared.Occurs.{Occurs}
use Rattle.particle.specs.Occurs.{range_ok, exactly}
use Rattle.particle.specs.Tree.{Head, element, wildcard, sequence, choice, all, Items, Particle, single, pair_of, tree}
use Rattle.particle.specs.Rows.{row}
use Rattle.particle.specs.Runs.{Run}
use Rattle.particle.specs.Encode.{kind_number}
use Rattle.particle.proofs.Laws.{row_one}
use Rattle.particle.proofs.Tests.{and-true}
use Rattle.rules.specs.Verdicts.{Mark, fails}
use Rattle.rules.specs.Combine.{◌or_fails◌, ◌and_then◌}
use Rattle.rules.specs.Walk.{Judge, recurse_ordered, alternatives}
use Rattle.restriction.specs.Views.{is_once_max, is_once, once_head, as_once, each_once}
use Rattle.restriction.specs.Marks.{sequence_mark, choice_mark}
use Rattle.restriction.proofs.Readings.{once_sequence, once_choice}

-- the pair, as the code tells it
one_pair : (p : Occurs) → is_once p ≡ true → p ≡ exactly 1
one_pair p e = go p.max refl (and-true (eqb p.min 1) (is_once_max p.max) e).1
  where
    go : (m : MaxOccurs) → p.max ≡ m → is_once_max m ≡ true → p ≡ exactly 1
    go (Bounded m) q f = let low : p.min ≡ 1 = eqb-true p.min 1 (and-true (eqb p.min 1) (is_once_max p.max) e).0 in rw (low, q, eqb-true m 1 f)
    go Unbounded q f = absurd (true≢false (sym f))

-- the row s of n trees that is the one tree d
pub alone : {d s : List ℕ} {n : ℕ} → Run 1 d → s ≡ d → n ≡ 1 → each_once true (row n s) ≡ single (as_once true (tree d))
unfolding each_once
alone w e one = rw (e, one) (ap (each_once true) (row_one w.row))

-- an element's head, as a call sees it
once_pair : (h : Head) {l : ℕ} {p : Occurs} → once_head true h ≡ element l p → p ≡ exactly 1
once_pair (element l q) e = sym (ap pair_of e)
once_pair (wildcard l q) e = let z : ◌≡◌ {A = ℕ} 1 0 = ap kind_number e in absurd (omega arith)
once_pair (sequence q) e = let z : ◌≡◌ {A = ℕ} 2 0 = ap kind_number e in absurd (omega arith)
once_pair (choice q) e = let z : ◌≡◌ {A = ℕ} 3 0 = ap kind_number e in absurd (omega arith)
once_pair (all q) e = let z : ◌≡◌ {A = ℕ} 4 0 = ap kind_number e in absurd (omega arith)

module _ {d : List ℕ} (w : Run 1 d) (once : Bool) (leaf : ℕ) (p : Occurs) (h : once_head once (tree d).head ≡ element leaf p) {c : Bool} (t : c ≡ is_once p) where
  -- it counts once
  module _ (y : c ≡ true) where
    pair_is : p ≡ exactly 1
    pair_is = one_pair p (sym t ∙ y)

    same : as_once true (tree d) ≡ as_once once (tree d)
    same = go once h
      where
        go : (o : Bool) → once_head o (tree d).head ≡ element leaf p → as_once true (tree d) ≡ as_once o (tree d)
        go true e = refl
        go false e = rw (e, pair_is)

    module _ (J : Judge) (q : Occurs) (b : Items) where
      pub sequence_counts_once : {s : List ℕ} {n : ℕ} → s ≡ d → n ≡ 1 → {m : Mark} → m ≡ range_ok p q or_fails 105 and_then recurse_ordered J false (each_once true (row n s)) b → m ≡ sequence_mark J p q (as_once true (tree d)) (as_once once (tree d)) b
      sequence_counts_once e one a =
          a ∙ (rw (pair_is, alone w e one) (sym (once_sequence J q (as_once true (tree d)) b)) ∙ ap (λ (y : Particle). sequence_mark J p q (as_once true (tree d)) y b) same)

      choice_once_lem : choice_mark J p q (as_once true (tree d)) (as_once true (tree d)) b ≡ range_ok p q or_fails 106 and_then alternatives J 120 (as_once true (tree d)) b
      choice_once_lem = rw pair_is (once_choice J q (as_once true (tree d)) b)

      pub choice_counts_once : {m : Mark} → m ≡ alternatives J 120 (as_once true (tree d)) b → {ok : Bool} → ok ≡ range_ok p q → ok ≡ true → m ≡ choice_mark J p q (as_once true (tree d)) (as_once once (tree d)) b
      choice_counts_once a e o = a ∙ (sym (choice_once_lem ∙ rw (← e, o)) ∙ ap (λ (y : Particle). choice_mark J p q (as_once true (tree d)) y b) same)

      pub choice_out : {ok : Bool} → ok ≡ range_ok p q → ok ≡ false → fails 106 ≡ choice_mark J p q (as_once true (tree d)) (as_once once (tree d)) b
      choice_out e o = sym (choice_once_lem ∙ rw (← e, o)) ∙ ap (λ (y : Particle). choice_mark J p q (as_once true (tree d)) y b) same

  -- it doesn't
  module _ (n : c ≡ false) where
    never_once : once ≡ false
    never_once = go once h
      where
        go : (o : Bool) → once_head o (tree d).head ≡ element leaf p → o ≡ false
        go true e = absurd (true≢false (sym (rw (once_pair (tree d).head e) at t) ∙ n))
        go false e = refl

    pub own_is_element : (tree d).head ≡ element leaf p
    own_is_element = rw never_once at h

    module _ (J : Judge) (q : Occurs) (b : Items) {m : Mark} where
      pub own_sequence_mark : m ≡ sequence_mark J p q (as_once true (tree d)) (tree d) b → m ≡ sequence_mark J p q (as_once true (tree d)) (as_once once (tree d)) b
      own_sequence_mark a = rw never_once a

      pub own_choice_mark : m ≡ choice_mark J p q (as_once true (tree d)) (tree d) b → m ≡ choice_mark J p q (as_once true (tree d)) (as_once once (tree d)) b
      own_choice_mark a = rw never_once a

-- The sheet before and after a filling, by place: document 02 §6's 'exactly where the examiner has put 1 for an element pair, with the row's type as derived and the column's as base, and leaves every other byte', and that a refusal writes nothing. Assumes nothing.
use mathlib.Core.Path.{◌≡◌, refl, ap, sym, ◌∙◌}
use mathlib.Core.Bool.{Bool, true, false, ◌&&◌, ◌||◌}
use mathlib.Core.List.{List, [], ◌∷◌}
use mathlib.Core.Logic.{◌⊎◌, inl, inr}
use Prim.Native.Nat.{ℕ, zero, suc, ◌+◌, ◌*◌, ◌≤◌, ◌<◌}
use native.Mathlib.Omega.{arith}
use lib.Dec.{eqb}
use lib.ListN.{get_or, drop}
use lib.Seq.{get_or-drop}
use borrow.Author.Tests.{eqb-true, eqb-false}
use Rattle.particle.proofs.Tests as tests
use Rattle.verdicts.specs.Paper.{leaf_size, kind_at}
use Rattle.entries.specs.Answer.{Answer, gives, refused}
use Rattle.sheet.specs.declared.bodies.Leaf.{Leaf}
use Rattle.sheet.specs.Layout.{leaf_count, second_at, derived_at, second_part, leaves_part, leaves_in, leaf_list}
use Rattle.sheet.specs.Refused.{every, leaf_ok, leaves_ok, kinds_of}
use Rattle.sheet.proofs.AcceptedSheet.{passed}
use Rattle.marking.specs.Answer.{sheet_leaves}
use Rattle.types.specs.Fill.{leaf_kinds, fill_verdict}
use Rattle.types.specs.Answer.{fill_answer, filled_sheet}
use Rattle.types.specs.Facts.{RefusalWritesNothing, OutsideStays, VerdictsStay, ElementsFilled}
use Rattle.types.proofs.Steps.{decided, row_wildcard, column_wildcard, element_pair}
use Rattle.types.proofs.FilledIn.{before, after}
use Rattle.types.proofs.Filled.{sheet_accepted, written, kept, filling, each_filled}

-- A leaf is an element or a wildcard --------------------------------------------------------

leaf_kind : (l : Leaf) → leaf_ok l ≡ true → (l.kind ≡ 0) ⊎ (l.kind ≡ 1)
leaf_kind l e = go (eqb l.kind 0) (eqb l.kind 1) _ _ refl refl e
  where
    go : (x y p q : Bool) → eqb l.kind 0 ≡ x → eqb l.kind 1 ≡ y → (x && p || y && q) ≡ true → (l.kind ≡ 0) ⊎ (l.kind ≡ 1)
    go true y p q a b t = inl (eqb-true l.kind 0 a)
    go false true p q a b t = inr (eqb-true l.kind 1 b)
    go false false p q a b t = cc

kinds_known : (ls : List Leaf) → every leaf_ok ls ≡ true → (i : ℕ) → (get_or (kinds_of ls) i 0 ≡ 0) ⊎ (get_or (kinds_of ls) i 0 ≡ 1)
unfolding every kinds_of
kinds_known [] e i = inl refl
kinds_known (l ∷ ls) e zero = leaf_kind l (tests.and-true (leaf_ok l) (every leaf_ok ls) e).0
kinds_known (l ∷ ls) e (suc i) = kinds_known ls (tests.and-true (leaf_ok l) (every leaf_ok ls) e).1 i

-- the kind of a leaf is the same byte to the check and to the rules
kind_read : (n : ℕ) (t : List ℕ) (l : ℕ) → l < n → get_or (kinds_of (leaves_in n t)) l 0 ≡ kind_at t (leaf_size * l)
unfolding leaves_in kinds_of
kind_read zero t l h = absurd (omega arith)
kind_read (suc n) t zero h = refl
kind_read (suc n) t (suc l) h =
    let place : leaf_size + leaf_size * l ≡ leaf_size * suc l = omega arith in
    kind_read n (drop leaf_size t) l (omega arith) ∙ (get_or-drop leaf_size t (leaf_size * l) 0 ∙ ap (λ (i : ℕ). get_or t i 0) place)

element : (s : List ℕ) → leaves_ok (leaf_list s) ≡ true → (l : ℕ) → l < leaf_count s → (sheet_leaves s).is_wildcard l ≡ false → get_or (leaf_kinds s) l 0 ≡ 0
element s ok l h w = go (kinds_known (leaf_list s) ok l)
  where
    go : (get_or (leaf_kinds s) l 0 ≡ 0) ⊎ (get_or (leaf_kinds s) l 0 ≡ 1) → get_or (leaf_kinds s) l 0 ≡ 0
    go (inl e) = e
    go (inr e) = absurd (eqb-false (kind_at (leaves_part s) (leaf_size * l)) 1 w (sym (kind_read (leaf_count s) (leaves_part s) l h) ∙ e))

wildcard : (s : List ℕ) (l : ℕ) → l < leaf_count s → (sheet_leaves s).is_wildcard l ≡ true → get_or (leaf_kinds s) l 0 ≡ 0 → ⊥
wildcard s l h w e = omega (arith, kind_read (leaf_count s) (leaves_part s) l h, eqb-true (kind_at (leaves_part s) (leaf_size * l)) 1 w)

-- The whole sheet ---------------------------------------------------------------------------

pub refusal_writes_nothing : RefusalWritesNothing
refusal_writes_nothing parents s types n e = kept parents s types e

-- Outside the second table -------------------------------------------------------------------

pub outside_stays : OutsideStays
outside_stays parents s types = ((filling parents s types).same_length, λ i h. go (fill_answer parents s types) refl i h)
  where
    go : (x : Answer (Unit {0})) → fill_answer parents s types ≡ x → (i : ℕ) → (i < second_at (leaf_count s)) ⊎ (derived_at (leaf_count s) ≤ i) → get_or (filled_sheet parents s types) i 0 ≡ get_or s i 0
    go (refused r) e i h = rw (kept parents s types e)
    go (gives done) e i (inl h) = rw (written parents s types e) (before parents s types (sheet_accepted parents s types e) i h)
    go (gives done) e i (inr h) = rw (written parents s types e) (after parents s types (sheet_accepted parents s types e) i h)

-- In the second table ------------------------------------------------------------------------

module _ (parents s types : List ℕ) (l m : ℕ) (h : l < leaf_count s) (g : m < leaf_count s) where
  -- the verdict before
  abbrev v : ℕ
  v = get_or (second_part s) (l * leaf_count s + m) 0

  Stays : Type 0
  Stays = ((sheet_leaves s).is_wildcard l ≡ true) ⊎ (((sheet_leaves s).is_wildcard m ≡ true) ⊎ ¬ (v ≡ 1))

  verdict_stays : Stays → v ≡ fill_verdict parents (leaf_kinds s) types l m v
  unfolding Stays
  verdict_stays (inl w) = row_wildcard parents (leaf_kinds s) types l m v (wildcard s l h w)
  verdict_stays (inr (inl w)) = column_wildcard parents (leaf_kinds s) types l m v (wildcard s m g w)
  verdict_stays (inr (inr d)) = decided parents (leaf_kinds s) types l m v d

  by_answer : Stays → (x : Answer (Unit {0})) → fill_answer parents s types ≡ x → get_or (second_part (filled_sheet parents s types)) (l * leaf_count s + m) 0 ≡ v
  by_answer w (refused r) e = rw (kept parents s types e)
  by_answer w (gives done) e = each_filled parents s types e l m h g ∙ sym (verdict_stays w)

pub verdicts_stay : VerdictsStay
unfolding Stays
verdicts_stay parents s types l m h g w = by_answer parents s types l m h g w (fill_answer parents s types) refl

pub elements_filled : ElementsFilled
elements_filled parents s types e l m h g a b u =
    let ok = (passed s (sheet_accepted parents s types e)).leaves in
    each_filled parents s types e l m h g ∙ sym (element_pair parents (leaf_kinds s) types l m _ u (element s ok l h a) (element s ok m g b) refl refl refl)

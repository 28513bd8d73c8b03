-- Demand 3 over sheets, second half: a sheet that passes has a derived tree that allows no more than its base tree. Assumes nothing.
use Rattle.std.specs.Prelude.{Ok}
use mathlib.Core.Bool.{Bool, true, false, cond, ◌&&◌, ◌||◌, false≢true}
use mathlib.Core.List.{List}
use mathlib.Core.Path.{◌≡◌, refl, ap, sym, ◌∙◌}
use Prim.Native.Nat.{ℕ, zero, suc, ◌*◌, ◌≤◌, ◌<◌}
use native.Mathlib.Decide.{dec_le}
use native.Mathlib.Omega.{arith}
use lib.Dec.{eqb, ltb, leb}
use lib.ListN.{length, drop, get_or}
use lib.Seq.{get_or-drop}
use borrow.Author.Tests.{ltb-true, leb-true, eqb-true, ne_eqb}
use Rattle.particle.specs.declared.Occurs.{Occurs}
use Rattle.particle.specs.declared.Record.{Record}
use Rattle.particle.specs.Record.{max_of, range_of}
use Rattle.particle.specs.Tree.{Particle, pair_of, head_from, head_of, tree}
use Rattle.particle.proofs.Heads.{pair_record}
use Rattle.particle.proofs.Tests.{and-true}
use Rattle.language.specs.Language.{AtMost}
use Rattle.language.specs.Premises.{BelowRoot, Throughout, Ordered, NoZeroMaximum, NoEmptyChoice}
use Rattle.rules.specs.Demand.{LeafKnown, NeededDerived, NeededBase}
use Rattle.rules.proofs.Inclusion.{needed_includes}
use Rattle.intake.specs.Faults.{leaf_ok, fault_of}
use Rattle.intake.specs.Scan.{refusal_in}
use Rattle.intake.proofs.Steps.{clean}
use Rattle.verdicts.specs.Paper.{leaf_size}
use Rattle.sheet.specs.declared.bodies.Leaf.{Leaf}
use Rattle.sheet.specs.Layout.{leaf_count, leaves_part, derived_part, base_part, leaf_at, leaves_in}
use Rattle.sheet.specs.Refused as sheet
use Rattle.sheet.specs.Refused.{every, kinds_of, known_in}
use Rattle.sheet.proofs.AcceptedSheet.{Passed, passed, leaves_count}
use Rattle.marking.specs.Answer.{sheet_leaves, sheet_tables, derived_tree, base_tree, mark_of_sheet, mark_sheet}
use Rattle.marking.specs.Demand.{Plain, NoZeroMaxima, SheetPassIncludes}
use Rattle.marking.proofs.Answers.{answer_gives}
use Rattle.marking.proofs.EachRecord.{accepted_throughout}

-- The kinds of the leaves --------------------------------------------------------

kind_low : (l : Leaf) → sheet.leaf_ok l ≡ true → l.kind ≤ 1
kind_low l e = go (dec_le l.kind 1)
  where
    go : Dec (l.kind ≤ 1) → l.kind ≤ 1
    go (yes h) = h
    go (no h) = absurd (false≢true (rw (ne_eqb l.kind 0 (λ z. h (omega arith)), ne_eqb l.kind 1 (λ z. h (omega arith))) at e))

-- a leaf of the list is of the kind that its bytes say, which is 0 or 1
leaf_kind : (n : ℕ) (t : List ℕ) → every sheet.leaf_ok (leaves_in n t) ≡ true → (l : ℕ) → l < length (kinds_of (leaves_in n t)) → (l < n) × (get_or (kinds_of (leaves_in n t)) l 0 ≡ get_or t (leaf_size * l) 0) × (get_or t (leaf_size * l) 0 ≤ 1)
unfolding every kinds_of leaves_in
leaf_kind zero t e l h = absurd (omega arith)
leaf_kind (suc n) t e zero h = (omega arith, refl, kind_low (leaf_at t) (and-true (sheet.leaf_ok (leaf_at t)) _ e).0)
leaf_kind (suc n) t e (suc l) h =
    let i = leaf_kind n (drop leaf_size t) (and-true (sheet.leaf_ok (leaf_at t)) _ e).1 l (omega arith) in
    let p : get_or (drop leaf_size t) (leaf_size * l) 0 ≡ get_or t (leaf_size * suc l) 0 = get_or-drop leaf_size t (leaf_size * l) 0 ∙ ap (λ (k : ℕ). get_or t k 0) (omega arith) in
    (omega (arith, i.0), i.1 ∙ p, omega (arith, p, i.2))

of_kind : (x kind : ℕ) → x ≤ 1 → (eqb x 2 || eqb x kind) ≡ true → x ≡ kind
of_kind x kind l e =
    let n : eqb x 2 ≡ false = ne_eqb x 2 (λ z. omega arith) in
    eqb-true x kind (rw n at e)

-- Each record of an accepted sheet's trees ---------------------------------------

module _ {s : List ℕ} (a : Passed s) where
  known_leaf : (kind l : ℕ) → known_in s kind l ≡ true → (l < (sheet_leaves s).count) × (get_or (leaves_part s) (leaf_size * l) 0 ≡ kind)
  known_leaf kind l e =
      let kinds = kinds_of (leaves_in (leaf_count s) (leaves_part s)) in
      let p = and-true (ltb l (length kinds)) (eqb (get_or kinds l 0) 2 || eqb (get_or kinds l 0) kind) e in
      let k = leaf_kind (leaf_count s) (leaves_part s) a.leaves l (ltb-true l (length kinds) p.0) in
      (omega (arith, k.0, leaves_count a), sym k.1 ∙ of_kind (get_or kinds l 0) kind (omega (arith, k.1, k.2)) p.1)

  leaf_known : (k l : ℕ) (p : Occurs) (c d : Bool) → cond (ltb k 2) (known_in s k l && c) d ≡ true → LeafKnown (sheet_leaves s) (head_from k l p)
  leaf_known zero l p c d e =
      let k = known_leaf 0 l (and-true (known_in s 0 l) c e).0 in
      (k.0, rw k.1)
  leaf_known (suc zero) l p c d e =
      let k = known_leaf 1 l (and-true (known_in s 1 l) c e).0 in
      (k.0, rw k.1)
  leaf_known (suc (suc zero)) l p c d e = tt
  leaf_known (suc (suc (suc zero))) l p c d e = tt
  leaf_known (suc (suc (suc (suc k)))) l p c d e = tt

  record_known : (r : Record) (depth : ℕ) (in_all : Bool) → fault_of (known_in s) r depth in_all ≡ Ok tt → LeafKnown (sheet_leaves s) (head_of r)
  record_known r depth in_all e =
      let fields = (and-true (leb r.kind 4) _ (clean (known_in s) r depth in_all e).fields).1 in
      leaf_known r.kind r.leaf (range_of r) (eqb r.count 0) (eqb r.leaf 0) (and-true (leaf_ok (known_in s) r) _ fields).0

  in_order : (mark min max : ℕ) → (eqb mark 1 || leb min max) ≡ true → AtMost min (max_of mark max)
  in_order zero min max e = leb-true min max e
  in_order (suc mark) min max e = tt

  record_ordered : (r : Record) (depth : ℕ) (in_all : Bool) → fault_of (known_in s) r depth in_all ≡ Ok tt → AtMost (pair_of (head_of r)).min (pair_of (head_of r)).max
  record_ordered r depth in_all e = rw (pair_record r) (in_order r.unbounded r.min r.max (clean (known_in s) r depth in_all e).pair)

  all_known : (t : List ℕ) → refusal_in (known_in s) t ≡ Ok tt → Throughout (λ h k. LeafKnown (sheet_leaves s) h) (tree t)
  all_known = accepted_throughout (known_in s) (LeafKnown (sheet_leaves s)) record_known

  all_ordered : (t : List ℕ) → refusal_in (known_in s) t ≡ Ok tt → Throughout Ordered (tree t)
  all_ordered = accepted_throughout (known_in s) (λ h. AtMost (pair_of h).min (pair_of h).max) record_ordered

-- of the derived tree no zero maximum below the root is needed, of the base tree no empty choice
pub sheet_needed_includes : SheetPassIncludes (BelowRoot NoZeroMaximum) (Throughout NoEmptyChoice)
unfolding mark_sheet mark_of_sheet
sheet_needed_includes s e z n derived base among =
    let given = answer_gives _ (mark_of_sheet s) e in
    let a = passed s given.0 in
    let d : NeededDerived (sheet_leaves s) (derived_tree s) = record { leaves_known = all_known a (derived_part s) a.derived; no_zero_below = z } in
    let b : NeededBase (sheet_leaves s) (base_tree s) = record { leaves_known = all_known a (base_part s) a.base; ordered = all_ordered a (base_part s) a.base; no_empty_choice = n } in
    needed_includes (sheet_leaves s) (sheet_tables s) derived base among (derived_tree s) (base_tree s) d b given.1

pub sheet_pass_includes : SheetPassIncludes Plain Plain
sheet_pass_includes s e pd pb = sheet_needed_includes s e pd.no_zero_below pb.no_empty_choice

-- under document 01's premise, which is more
pub sheet_pass_includes_01 : SheetPassIncludes NoZeroMaxima NoZeroMaxima
sheet_pass_includes_01 s e pd pb =
    let plain : (x : Particle) → NoZeroMaxima x → Plain x = λ x p. record { no_empty_choice = p.no_empty_choice; no_zero_below = p.no_zero_maximum.1 } in
    sheet_pass_includes s e (plain (derived_tree s) pd) (plain (base_tree s) pb)

-- What is accepted is the encoding of a tree that fits. Assumes nothing.
use Rattle.std.specs.Prelude.{Result, Ok, Err}
use Rattle.intake.specs.declared.Fault.{Fault}
use mathlib.Core.Path.{◌≡◌, refl, ap, sym, ◌∙◌}
use mathlib.Core.Bool.{false}
use mathlib.Core.List.{List, [], ◌∷◌}
use Prim.Native.Nat.{ℕ, zero, suc, ◌≤◌}
use native.Mathlib.Omega.{arith}
use lib.Dec.{eqb}
use lib.ListN.{length}
use Rattle.particle.specs.declared.Record.{Record}
use Rattle.particle.specs.Tree.{Items, none, item, single, take_i, drop_i, count_i, head_of, build, records, decode, first_of, tree}
use Rattle.particle.specs.Rows.{Complete, Row}
use Rattle.particle.specs.Encode.{encode, Bytes, Faithful}
use Rattle.particle.proofs.Records.{length_records}
use Rattle.particle.proofs.Trees.{size_i_build}
use Rattle.particle.proofs.RoundTrip.{encode_decode}
use Rattle.particle.proofs.Widths.{Widths, widths}
use Rattle.particle.proofs.Build.{build_nil, build_cons, decode_is}
use Rattle.intake.specs.Faults.{Known, fault_of}
use Rattle.intake.specs.Scan.{Level, level, or_else, scan, refusal_in}
use Rattle.intake.specs.Accepted.{is_all, TreesFit, TreeFits}
use Rattle.intake.proofs.Steps.{refused, nothing_awaited, missing, awaited, surplus}
use Rattle.intake.proofs.Checking.{sized, scanned}
use Rattle.intake.proofs.Heads as H
use Rattle.intake.proofs.Heads.{all_kind, clean_fits}

-- both are accepted
pub or_else_lem : (c d : Result (Unit {0}) Fault) → or_else c d ≡ Ok tt → (c ≡ Ok tt) × (d ≡ Ok tt)
or_else_lem (Ok _) d e = (refl, e)
or_else_lem (Err f) d e = absurd (refused e)

-- W says that the records' fields have their widths
module _ (known : Known) (W : Type 0) where
  -- x starts with the trees that the group l awaits, at this depth, and the later ones are as Later says
  record Group (x : Items) (l : Level) (depth : ℕ) (Later : Type 0) : Type 0 where
    enough : l.left ≤ count_i x
    fit : W → TreesFit known (take_i l.left x) depth l.all
    later : Later

  -- x is the trees that the groups being read await, the innermost group's first, and no more
  Awaited : Items → List Level → Type 0
  Awaited x [] = x ≡ none
  Awaited x (l ∷ ls) = Group x l (suc (length ls)) (Awaited (drop_i l.left x) ls)

  record Read (rs : List Record) (st : List Level) : Type 0 where
    trees : Awaited (build rs) st
    complete : Complete rs
    faithful : Faithful rs

  at_level : (rs : List Record) (l : Level) (ls : List Level) {n : ℕ} → l.left ≡ n → scan known rs (l ∷ ls) ≡ Ok tt → scan known rs (level n l.all ∷ ls) ≡ Ok tt
  at_level rs l ls z e = ap (λ (k : ℕ). scan known rs (level k l.all ∷ ls)) (sym z) ∙ e

  -- where the innermost group awaits nothing more
  idle : (rs : List Record) (l : Level) (ls : List Level) → l.left ≡ 0 → scan known rs (l ∷ ls) ≡ Ok tt → (scan known rs ls ≡ Ok tt → Read rs ls) → Read rs (l ∷ ls)
  unfolding Awaited take_i drop_i TreesFit
  idle rs l ls z e next =
      let o = next (sym (nothing_awaited known rs l.all ls) ∙ at_level rs l ls z e) in
      record { trees = record { enough = omega arith; fit = λ w. rw z tt; later = rw z o.trees }; complete = o.complete; faithful = o.faithful }

  -- where it awaits m + 1 items, of which the record r is the first
  busy : (r : Record) (rs : List Record) (l : Level) (ls : List Level) {m : ℕ} → l.left ≡ suc m → fault_of known r (suc (length ls)) l.all ≡ Ok tt → (W → Widths (r ∷ rs)) → Read rs (level r.count (eqb r.kind 4) ∷ level m l.all ∷ ls) → Read (r ∷ rs) (l ∷ ls)
  unfolding Awaited Complete Faithful Widths take_i drop_i count_i TreesFit
  busy r rs l ls z q w o =
      let own = H.faithful known r (suc (length ls)) l.all q in
      let k : is_all (head_of r) ≡ eqb r.kind 4 = sym (all_kind (head_of r)) ∙ ap (λ (x : Record). eqb x.kind 4) own in
      let i = o.trees in
      record {
        trees =
            rw (build_cons r rs)
            (record {
              enough = omega (arith, i.later.enough);
              fit = λ v. rw z (clean_fits known r _ _ q (build rs) (w v).0.min (w v).0.max, rw k (i.fit v), i.later.fit v);
              later = rw z i.later.later;
            });
        complete = (i.enough, o.complete);
        faithful = (own, o.faithful);
      }

  -- after the last record
  last : (st : List Level) → scan known [] st ≡ Ok tt → Read [] st
  unfolding Awaited Complete Faithful
  last [] e = record { trees = build_nil; complete = tt; faithful = tt }
  last (l ∷ ls) e = go l.left refl (last ls)
    where
      go : (n : ℕ) → l.left ≡ n → (scan known [] ls ≡ Ok tt → Read [] ls) → Read [] (l ∷ ls)
      go zero z next = idle [] l ls z e next
      go (suc m) z next = absurd (refused (sym (missing known m l.all ls) ∙ at_level [] l ls z e))

  -- at the record r
  step : (r : Record) (rs : List Record) → (W → Widths (r ∷ rs)) → ((st : List Level) → scan known rs st ≡ Ok tt → Read rs st) → (st : List Level) → scan known (r ∷ rs) st ≡ Ok tt → Read (r ∷ rs) st
  step r rs w ih [] e = absurd (refused (sym (surplus known r rs) ∙ e))
  step r rs w ih (l ∷ ls) e = go l.left refl (step r rs w ih ls)
    where
      go : (n : ℕ) → l.left ≡ n → (scan known (r ∷ rs) ls ≡ Ok tt → Read (r ∷ rs) ls) → Read (r ∷ rs) (l ∷ ls)
      go zero z next = idle (r ∷ rs) l ls z e next
      go (suc m) z next =
          let s = or_else_lem _ _ (sym (awaited known r rs m l.all ls) ∙ at_level (r ∷ rs) l ls z e) in
          busy r rs l ls z s.0 w (ih _ s.1)

  read : (rs : List Record) (st : List Level) → (W → Widths rs) → scan known rs st ≡ Ok tt → Read rs st
  unfolding Widths
  read [] st w e = last st e
  read (r ∷ rs) st w e = step r rs w (λ st' e'. read rs st' (λ v. (w v).1) e') st e

one : (x : Items) → 1 ≤ count_i x → drop_i 1 x ≡ none → x ≡ single (first_of x)
unfolding count_i drop_i
one none l e = absurd (omega arith)
one (item h k r) l e = ap (item h k) e

module _ (known : Known) (t : List ℕ) (e : refusal_in known t ≡ Ok tt) where
  all_read : Read known (Bytes t) (records t) (level 1 false ∷ [])
  all_read = read known (Bytes t) (records t) (level 1 false ∷ []) (widths t) (sym (scanned known t (sized known t e)) ∙ e)

  pub accepted_row : Row 1 t
  unfolding Awaited
  accepted_row = record { even = (sized known t e).even; complete = all_read.complete; enough = rw (decode_is t) all_read.trees.enough }

  pub accepted_faithful : Faithful (records t)
  accepted_faithful = all_read.faithful

  pub accepted_decode : decode t ≡ single (tree t)
  unfolding Awaited tree
  accepted_decode = one (decode t) accepted_row.enough (rw (decode_is t) all_read.trees.later)

  built : build (records t) ≡ single (tree t)
  built = sym (decode_is t) ∙ accepted_decode

  encoded : Bytes t → t ≡ encode (single (tree t))
  encoded b = sym (encode_decode t b accepted_row.even accepted_row.complete accepted_faithful) ∙ ap encode accepted_decode

  fitting : Bytes t → TreeFits known (tree t)
  unfolding Awaited take_i
  fitting b = record {
    few = rw (← built, size_i_build (records t), length_records t) (omega (arith, (sized known t e).few));
    each = rw built at (all_read.trees.fit b);
  }

pub accepted_fits : (known : Known) (t : List ℕ) → Bytes t → refusal_in known t ≡ Ok tt → (t ≡ encode (single (tree t))) × TreeFits known (tree t)
accepted_fits known t b e = (encoded known t e b, fitting known t e b)

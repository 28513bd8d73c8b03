-- What holds of each record without fault holds of each record of an accepted tree. Assumes nothing.
use Rattle.std.specs.Prelude.{Ok}
use mathlib.Core.Bool.{Bool, false}
use mathlib.Core.List.{List, [], ◌∷◌}
use mathlib.Core.Path.{◌≡◌, sym, ◌∙◌}
use Prim.Native.Nat.{ℕ, suc, pred}
use lib.Dec.{eqb}
use lib.ListN.{length}
use Rattle.particle.specs.declared.Record.{Record}
use Rattle.particle.specs.Tree.{Head, head_of, records, tree}
use Rattle.particle.proofs.Build.{decode_is}
use Rattle.particle.proofs.Every.{OfRecords, each_records}
use Rattle.language.specs.Premises.{Throughout}
use Rattle.language.proofs.Premises.{throughout_heads}
use Rattle.intake.specs.Faults.{Known, fault_of}
use Rattle.intake.specs.Scan.{Level, level, waiting, stepped, scan, refusal_in}
use Rattle.intake.proofs.Steps.{refused}
use Rattle.intake.proofs.Checking.{sized, scanned}
use Rattle.intake.proofs.AcceptedFits.{or_else_lem, accepted_decode}

module _ (known : Known) (P : Head → Type 0) (clean : (r : Record) (depth : ℕ) (in_all : Bool) → fault_of known r depth in_all ≡ Ok tt → P (head_of r)) where
  at_record : (r : Record) (rs : List Record) → ((st : List Level) → scan known rs st ≡ Ok tt → OfRecords P rs) → (st : List Level) → stepped known st r (λ st'. scan known rs st') ≡ Ok tt → OfRecords P (r ∷ rs)
  unfolding OfRecords
  at_record r rs ih [] e = absurd (refused e)
  at_record r rs ih (l ∷ ls) e =
      let next : List Level = level r.count (eqb r.kind 4) ∷ level (pred l.left) l.all ∷ ls in
      let s = or_else_lem (fault_of known r (suc (length ls)) l.all) (scan known rs next) e in
      (clean r (suc (length ls)) l.all s.0, ih next s.1)

  of_records : (rs : List Record) (st : List Level) → scan known rs st ≡ Ok tt → OfRecords P rs
  unfolding OfRecords scan
  of_records [] st e = tt
  of_records (r ∷ rs) st e = at_record r rs (of_records rs) (waiting st) e

  pub accepted_throughout : (t : List ℕ) → refusal_in known t ≡ Ok tt → Throughout (λ h k. P h) (tree t)
  accepted_throughout t e =
      let each = each_records P (records t) (of_records (records t) (level 1 false ∷ []) (sym (scanned known t (sized known t e)) ∙ e)) in
      throughout_heads P (tree t) (rw (← accepted_decode known t e, decode_is t) each)

-- One step of the scan: a group that has its items, a record that is missing, awaited or too many, and a record's own fault. Assumes nothing.
use Rattle.std.specs.Prelude.{Result, Ok, Err}
use mathlib.Core.Path.{◌≡◌, refl, ap}
use mathlib.Core.Bool.{Bool, true, cond}
use mathlib.Core.List.{List, [], ◌∷◌}
use Prim.Native.Nat.{ℕ, suc, ◌≤◌}
use native.Mathlib.Omega.{arith}
use lib.Dec.{eqb, leb}
use lib.ListN.{length}
use borrow.Author.Tests.{ne_eqb, leb-true}
use Rattle.particle.specs.declared.Record.{Record}
use Rattle.intake.specs.declared.Fault.{Fault}
use Rattle.intake.specs.declared.Fault.TheVariants.{Fields, Pair, AllGroup, Depth, Counts}
use Rattle.intake.specs.Limits.{max_depth}
use Rattle.intake.specs.Faults.{Known, fields_ok, pair_ok, all_ok, fault_of}
use Rattle.intake.specs.Scan.{Level, level, waiting, ended, or_else, stepped, scan}

pub refused : {f : Fault} → ◌≡◌ {A = Result (Unit {0}) Fault} (Err f) (Ok tt) → ⊥
refused e = let z : ◌≡◌ {A = ℕ} 0 1 = cc in omega arith

awaits : (n : ℕ) (a : Bool) (st : List Level) → waiting (level (suc n) a ∷ st) ≡ level (suc n) a ∷ st
unfolding waiting
awaits n a st = rw (ne_eqb (suc n) 0 (λ z. omega arith))

-- a record's fault, by what its four tests say: fields, pair, all-group, depth
abbrev pub outcome : Bool → Bool → Bool → Bool → Result (Unit {0}) Fault
outcome f p g s = cond f (cond p (cond g (cond s (Ok tt) (Err Depth)) (Err AllGroup)) (Err Pair)) (Err Fields)

pub tests : (known : Known) (r : Record) (d : ℕ) (a : Bool) {f p g s : Bool} → fields_ok known r ≡ f → pair_ok r ≡ p → all_ok r a ≡ g → leb d max_depth ≡ s → outcome f p g s ≡ fault_of known r d a
tests known r d a f p g s = rw (f, p, g, s)

-- a record without fault passes each test
pub record Clean (known : Known) (r : Record) (d : ℕ) (a : Bool) : Type 0 where
  pub fields : fields_ok known r ≡ true
  pub pair : pair_ok r ≡ true
  pub group : all_ok r a ≡ true
  pub depth : leb d max_depth ≡ true

module _ (known : Known) (r : Record) (d : ℕ) (a : Bool) (e : fault_of known r d a ≡ Ok tt) where
  pub clean : Clean known r d a
  clean = record { fields = grind arith; pair = grind arith; group = grind arith; depth = grind arith }

  pub shallow : d ≤ max_depth
  shallow = leb-true d max_depth clean.depth

module _ (known : Known) where
  -- a group that awaits nothing more
  pub nothing_awaited : (rs : List Record) (a : Bool) (st : List Level) → scan known rs (level 0 a ∷ st) ≡ scan known rs st
  unfolding scan waiting
  nothing_awaited [] a st = refl
  nothing_awaited (r ∷ rs) a st = refl

  pub missing : (n : ℕ) (a : Bool) (st : List Level) → scan known [] (level (suc n) a ∷ st) ≡ Err Counts
  unfolding scan
  missing n a st = ap ended (awaits n a st)

  pub awaited : (r : Record) (rs : List Record) (n : ℕ) (a : Bool) (st : List Level) → scan known (r ∷ rs) (level (suc n) a ∷ st) ≡ or_else (fault_of known r (suc (length st)) a) (scan known rs (level r.count (eqb r.kind 4) ∷ level n a ∷ st))
  unfolding scan
  awaited r rs n a st = ap (λ (w : List Level). stepped known w r (λ st'. scan known rs st')) (awaits n a st)

  pub surplus : (r : Record) (rs : List Record) → scan known (r ∷ rs) [] ≡ Err Counts
  unfolding scan waiting
  surplus r rs = refl

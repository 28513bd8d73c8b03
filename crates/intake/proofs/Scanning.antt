-- What the loops of `scan` keep: the levels that the locals stand for, and that the records left decide the answer. Assumes nothing.
use Rattle.std.specs.Prelude.{Result, Ok, Err}
use mathlib.Core.Path.{◌≡◌, refl, ap, sym, ◌∙◌}
use mathlib.Core.Bool.{Bool, false}
use mathlib.Core.List.{List, [], ◌∷◌}
use Prim.Native.Nat.{ℕ, zero, suc, ◌+◌, ◌-◌, ◌≤◌, ◌<◌}
use native.Mathlib.Numerals.{add-one}
use native.Mathlib.Omega.{arith}
use lib.Dec.{eqb}
use lib.ListN.{length, get_or, set, length-set}
use lib.Seq.{get_or-set_same, get_or-set_other}
use Rattle.particle.specs.declared.Record.{Record}
use Rattle.intake.specs.declared.Fault.{Fault}
use Rattle.intake.specs.declared.Fault.TheVariants.{Counts}
use Rattle.intake.specs.Limits.{max_depth}
use Rattle.intake.specs.Faults.{Known, fault_of}
use Rattle.intake.specs.Scan.{Level, level, waiting, or_else, scan}
use Rattle.intake.proofs.Steps.{shallow, nothing_awaited, missing, awaited, surplus}
use Rattle.intake.proofs.Heads.{not_in_all}

-- the n groups above the innermost one, by what they await, outermost first; none is an all-group
unfoldable pub groups : ℕ → List ℕ → List Level
groups zero outer = []
groups (suc n) outer = level (get_or outer n 0) false ∷ groups n outer

length_groups : (n : ℕ) (outer : List ℕ) → length (groups n outer) ≡ n
unfolding groups
length_groups zero outer = refl
length_groups (suc n) outer = ap suc (length_groups n outer)

-- an element past them is none of them
groups_set : (n : ℕ) (outer : List ℕ) (i v : ℕ) → n ≤ i → groups n (set outer i v) ≡ groups n outer
unfolding groups
groups_set zero outer i v h = refl
groups_set (suc n) outer i v h = rw (get_or-set_other outer i n v 0 (λ e. omega arith), groups_set n outer i v (omega arith))

-- what is to be answered for the records ts
abbrev pub wanted : Known → List Record → Result (Unit {0}) Fault
wanted known ts = scan known ts (level 1 false ∷ [])

-- inside a turn: the records rs are left, with these levels, and the innermost group may have its items
pub record Scanning (known : Known) (ts : List Record) (left : ℕ) (all : Bool) (outer : List ℕ) (above : ℕ) (rs : List Record) : Type 0 where
  pub size : length outer ≡ max_depth
  pub within : above ≤ max_depth
  pub answer : wanted known ts ≡ scan known rs (level left all ∷ groups above outer)

-- between turns: it has them only where no group is above it
pub record Between (known : Known) (ts : List Record) (left : ℕ) (all : Bool) (outer : List ℕ) (above : ℕ) (rs : List Record) : Type 0 where
  pub state : Scanning known ts left all outer above rs
  pub top : left ≡ 0 → above ≡ 0

pub start : (known : Known) (outer : List ℕ) (ts : List Record) → length outer ≡ max_depth → Between known ts 1 false outer 0 ts
unfolding groups
start known outer ts l = record { state = record { size = l; within = omega arith; answer = refl }; top = λ z. refl }

module _ {known : Known} {ts : List Record} {left : ℕ} {all : Bool} {outer : List ℕ} {above : ℕ} {rs : List Record} (s : Scanning known ts left all outer above rs) where
  -- where the innermost group has its items
  full : left ≡ 0 → wanted known ts ≡ scan known rs (groups above outer)
  full z = rw z at s.answer ∙ nothing_awaited known rs all (groups above outer)

  pub close : left ≡ 0 → 0 < above → Scanning known ts (get_or outer (above - 1) 0) false outer (above - 1) rs
  unfolding groups
  close z h =
      let e : above ≡ suc (above - 1) = omega arith in
      record { size = s.size; within = omega (arith, s.within); answer = rw e at (full z) }

  -- where it awaits one more at least
  busy : (left ≡ 0 → ⊥) → wanted known ts ≡ scan known rs (level (suc (left - 1)) all ∷ groups above outer)
  busy n =
      let e : left ≡ suc (left - 1) = omega arith in
      rw e at s.answer

  pub between_open : (left ≡ 0 → ⊥) → Between known ts left all outer above rs
  between_open n = record { state = s; top = λ z. absurd (n z) }

  pub between_top : above ≤ 0 → Between known ts left all outer above rs
  between_top h = record { state = s; top = λ z. omega arith }

module _ {known : Known} {ts : List Record} {left : ℕ} {all : Bool} {outer : List ℕ} {above : ℕ} {rs : List Record} (b : Between known ts left all outer above rs) where
  -- after the last record
  pub whole : rs ≡ [] → left ≡ 0 → Ok tt ≡ wanted known ts
  unfolding groups scan waiting
  whole e z = sym (full b.state z ∙ rw (e, b.top z))

  pub too_few : rs ≡ [] → (left ≡ 0 → ⊥) → Err Counts ≡ wanted known ts
  too_few e n = sym (busy b.state n ∙ rw e (missing known (left - 1) all (groups above outer)))

-- the record r is awaited, and what is found is its own first fault
pub record Judged (known : Known) (ts : List Record) (left : ℕ) (all : Bool) (outer : List ℕ) (above : ℕ) (r : Record) (next : List Record) (found : Result (Unit {0}) Fault) : Type 0 where
  pub between : Between known ts left all outer above (r ∷ next)
  pub awaits : left ≡ 0 → ⊥
  pub own : fault_of known r (above + 1) all ≡ found

module _ {known : Known} {ts : List Record} {left : ℕ} {all : Bool} {outer : List ℕ} {above : ℕ} {r : Record} {next : List Record} where
  -- a record that no group awaits
  pub too_many : Between known ts left all outer above (r ∷ next) → left ≡ 0 → Err Counts ≡ wanted known ts
  unfolding groups
  too_many b z = sym (full b.state z ∙ rw (b.top z) (surplus known r next))

  pub judged_as : {found answer : Result (Unit {0}) Fault} → Judged known ts left all outer above r next found → found ≡ answer → Judged known ts left all outer above r next answer
  judged_as j e = record { between = j.between; awaits = j.awaits; own = j.own ∙ e }

  record_scanned : {found : Result (Unit {0}) Fault} → Judged known ts left all outer above r next found → wanted known ts ≡ or_else found (scan known next (level r.count (eqb r.kind 4) ∷ level (left - 1) all ∷ groups above outer))
  record_scanned j =
      let d : suc (length (groups above outer)) ≡ above + 1 = omega (arith, length_groups above outer) in
      rw (← j.own, ← d) (busy j.between.state j.awaits ∙ awaited known r next (left - 1) all (groups above outer))

  pub fault : {f : Fault} → Judged known ts left all outer above r next (Err f) → Err f ≡ wanted known ts
  fault j = sym (record_scanned j)

  -- without a fault
  module _ (j : Judged known ts left all outer above r next (Ok tt)) where
    pub leaf : r.count ≡ 0 → Scanning known ts (left - 1) all outer above next
    leaf z = record { size = j.between.state.size; within = j.between.state.within; answer = rw z at (record_scanned j) ∙ nothing_awaited known next _ _ }

    pub low : above < max_depth
    low = omega (arith, shallow known r (above + 1) all j.own)

    pub group : (r.count ≡ 0 → ⊥) → Between known ts r.count (eqb r.kind 4) (set outer above (left - 1)) (above + 1) next
    unfolding groups
    group k =
        let size = j.between.state.size in
        let kept : length (set outer above (left - 1)) ≡ max_depth = length-set outer above (left - 1) ∙ size in
        let answer = rw (not_in_all known r (above + 1) all j.own k) at (record_scanned j) in
        record {
          state = record { size = kept; within = omega (arith, low); answer = rw (add-one above, get_or-set_same outer above (left - 1) 0 (omega (arith, size, low)), groups_set above outer above (left - 1) (omega arith)) answer };
          top = λ z. absurd (k z);
        }

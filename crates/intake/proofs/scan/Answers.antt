-- `intake::scan` meets its contract. Assumes nothing.
use Rattle.std.proofs.lemmas.Result.{err_from_is_err_and}
use Rattle.std.specs.Prelude.{Result}
use Rattle.intake.specs.declared.Fault.{Fault}
use Rattle.std.proofs.Common.{arith, ◌≡◌, refl, ap, sym, Bool, List, ◌∷◌, ℕ, ◌+◌, ◌≤◌, ◌<◌, length, drop}
use borrow.Author.Tests.{ltb-true}
use Rattle.particle.specs.declared.Record.{Record}
use Rattle.particle.specs.Record.{record_size, record_at}
use Rattle.particle.specs.Tree.{records}
use Rattle.particle.proofs.Records.{records_cons, records_short, length_records}
use Rattle.intake.specs.Faults.{Known, fault_of}
use Rattle.intake.proofs.Scanning.{Between, Judged, start, close, whole, too_few, too_many, fault, leaf, low, group}
use Rattle.intake.proofs.scan.Goals as goal

-- the record r is taken from the front of t, and next is what is left
module _ (t next : List ℕ) {r : Record} (h : record_size ≤ length t) (re : r ≡ record_at t) (ne : records next ≡ drop 1 (records t)) where
  starts : records t ≡ r ∷ records next
  starts = rw (re, ne, records_cons t h)

  fewer : length (records next) < length (records t)
  fewer = omega (arith, ap length starts)

  module _ {known : Known} {ts : List Record} {left : ℕ} {all : Bool} {outer : List ℕ} {above : ℕ} (b : Between known ts left all outer above (records t)) where
    between : Between known ts left all outer above (r ∷ records next)
    between = rw starts at b

    -- found is its own first fault
    judged : (left ≡ 0 → ⊥) → {found : Result (Unit {0}) Fault} → found ≡ fault_of known r (above + 1) all → Judged known ts left all outer above r (records next) found
    judged n e = record { between = between; awaits = n; own = sym e }

pub loop-rest-init : goal.loop-rest-init
loop-rest-init c = start _ _ _ refl

pub skip-next-requires : goal.skip-next-requires
skip-next-requires c = omega (arith, length_records c.loop-rest.rest.now)

pub returns-then-left-eq0 : goal.returns-then-left-eq0
returns-then-left-eq0 c = too_many (between _ _ c.loop-rest-test.true c.record_at-r.ensures c.skip-next.ensures c.loop-rest.invariant) c.if-left-eq0.true

pub returns-in_err-fault_of : goal.returns-in_err-fault_of
returns-in_err-fault_of c = let p = err_from_is_err_and c.from_residual.result c.from_residual.ensures.1 in rw (p.1, p.2) (fault (judged _ _ c.loop-rest-test.true c.record_at-r.ensures c.skip-next.ensures c.loop-rest.invariant c.if-left-eq0.false c.in_err-fault_of.ensures))

pub bounds-outer-above : goal.bounds-outer-above
bounds-outer-above c = low (judged _ _ c.loop-rest-test.true c.record_at-r.ensures c.skip-next.ensures c.loop-rest.invariant c.if-left-eq0.false c.in_ok-fault_of.ensures)

pub loop-rest-smaller-then-r-ne0 : goal.loop-rest-smaller-then-r-ne0
loop-rest-smaller-then-r-ne0 c = fewer _ _ c.loop-rest-test.true c.record_at-r.ensures c.skip-next.ensures

pub loop-rest-preserved-then-r-ne0 : goal.loop-rest-preserved-then-r-ne0
loop-rest-preserved-then-r-ne0 c = group (judged _ _ c.loop-rest-test.true c.record_at-r.ensures c.skip-next.ensures c.loop-rest.invariant c.if-left-eq0.false c.in_ok-fault_of.ensures) c.if-r-ne0.true

pub loop-left-init : goal.loop-left-init
loop-left-init c = leaf (judged _ _ c.loop-rest-test.true c.record_at-r.ensures c.skip-next.ensures c.loop-rest.invariant c.if-left-eq0.false c.in_ok-fault_of.ensures) c.if-r-ne0.false

pub loop-rest-smaller-else-above-gt0 : goal.loop-rest-smaller-else-above-gt0
loop-rest-smaller-else-above-gt0 c = fewer _ _ c.loop-rest-test.true c.record_at-r.ensures c.skip-next.ensures

pub loop-rest-smaller : goal.loop-rest-smaller
loop-rest-smaller c = fewer _ _ c.loop-rest-test.true c.record_at-r.ensures c.skip-next.ensures

pub loop-left-preserved : goal.loop-left-preserved
loop-left-preserved c = close c.loop-left.invariant (search) (search ltb-true)

pub returns-then-left-eq0-2 : goal.returns-then-left-eq0-2
returns-then-left-eq0-2 c = search (whole, records_short)

pub returns-else-left-eq0-2 : goal.returns-else-left-eq0-2
returns-else-left-eq0-2 c = search (too_few, records_short)

-- What the check accepts of a tree's encoding is within the limits on records and depth, whatever the leaves. Assumes nothing.
use Rattle.std.specs.Prelude.{Ok}
use mathlib.Core.Bool.{Bool, false}
use mathlib.Core.List.{List, [], ◌∷◌, ◌++◌, append_assoc, append-nil}
use mathlib.Core.Path.{◌≡◌, refl, ap, sym, ◌∙◌}
use Prim.Native.Nat.{ℕ, suc, ◌+◌, ◌≤◌}
use native.Mathlib.Omega.{arith}
use lib.Dec.{eqb}
use lib.ListN.{length}
use Rattle.particle.specs.declared.Record.{Record}
use Rattle.particle.specs.Tree.{Items, none, item, Particle, single, count_i, records}
use Rattle.particle.specs.Encode.{record_of, flat, encode}
use Rattle.particle.proofs.RoundTrip.{records_joined}
use Rattle.tidying.specs.Depth.{depth_of}
use Rattle.intake.specs.Limits.{max_depth}
use Rattle.intake.specs.Faults.{Known, fault_of}
use Rattle.intake.specs.Scan.{Level, level, scan, refusal_in}
use Rattle.intake.specs.Accepted.{TreeFits}
use Rattle.intake.proofs.Steps.{nothing_awaited, awaited, shallow}
use Rattle.intake.proofs.Checking.{scanned, sized}
use Rattle.intake.proofs.AcceptedFits.{or_else_lem}
use Rattle.intake.proofs.FitsAccepted.{fits_accepted}

module _ (known : Known) where
  -- trees that were read, where they and n more were awaited
  scan_shallow : (x : Items) (rs : List Record) (m n : ℕ) → m ≡ count_i x + n → (a : Bool) (st : List Level) → length st ≤ max_depth → scan known (flat x ++ rs) (level m a ∷ st) ≡ Ok tt → (depth_of x + length st ≤ max_depth) × (scan known rs (level n a ∷ st) ≡ Ok tt)
  unfolding flat count_i depth_of
  scan_shallow none rs m n e a st l s =
      let e' : m ≡ n = omega arith in
      (omega arith, rw e' at s)
  scan_shallow (item h k r) rs m n e a st l s =
      let e' : m ≡ suc (count_i r + n) = omega arith in
      let g = record_of h (count_i k) in
      let b = eqb g.kind 4 in
      let st' : List Level = level (count_i r + n) a ∷ st in
      let o = or_else_lem (fault_of known g (suc (length st)) a) _ (sym (awaited known g ((flat k ++ flat r) ++ rs) (count_i r + n) a st) ∙ (rw e' at s)) in
      let d = shallow known g (suc (length st)) a o.0 in
      let i = scan_shallow k (flat r ++ rs) (count_i k) 0 (omega arith) b st' d (rw (append_assoc (flat k) (flat r) rs) at o.1) in
      let j = scan_shallow r rs (count_i r + n) n refl a st l (sym (nothing_awaited known (flat r ++ rs) b st') ∙ i.1) in
      (omega (arith, i.0, j.0), j.1)

  pub accepted_shallow : (x : Particle) → refusal_in known (encode (single x)) ≡ Ok tt → depth_of (single x) ≤ max_depth
  unfolding encode count_i
  accepted_shallow x e =
      let read : records (encode (single x)) ≡ flat (single x) ++ [] = records_joined (flat (single x)) ∙ sym (append-nil (flat (single x))) in
      let s : scan known (flat (single x) ++ []) (level 1 false ∷ []) ≡ Ok tt = ap (λ (rs : List Record). scan known rs (level 1 false ∷ [])) (sym read) ∙ (sym (scanned known (encode (single x)) (sized known (encode (single x)) e)) ∙ e) in
      omega (arith, (scan_shallow (single x) [] 1 0 refl false [] (omega arith) s).0)

  pub fits_shallow : (x : Particle) → TreeFits known x → depth_of (single x) ≤ max_depth
  fits_shallow x f = accepted_shallow x (fits_accepted known x f)

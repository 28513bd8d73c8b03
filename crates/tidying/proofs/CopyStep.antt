-- A tree copied as it is: its run of records is its encoding. Assumes nothing.
use mathlib.Core.Path.{◌≡◌, ap, sym, ◌∙◌}
use mathlib.Core.List.{List, ◌++◌}
use Prim.Native.Nat.{ℕ, ◌+◌, ◌-◌, ◌≤◌}
use native.Mathlib.Omega.{arith}
use borrow.Rule.Slice.Know.{Fit}
use borrow.Rule.Slice.PartMut.{mid_of, put_mid}
use borrow.Table.Referent.{f_int}
use mir.Syntax.{w8, w64}
use mir.Val.{Fits}
use lib.ListN.{length, take}
use lib.Seq.{length-take-le}
use Rattle.particle.specs.Rows.{row, run_size}
use Rattle.particle.specs.Encode.{encode}
use Rattle.particle.proofs.Laws.{run_is, run_within}
use Rattle.particle.proofs.Copied.{part_length, copied as copied_there}
use Rattle.particle.proofs.EncodeParts.{bytes_from}
use Rattle.particle.proofs.ItemEncodes.{run_encodes}
use Rattle.tidying.specs.Laid.{Room, Laid}

module _ {t out : List ℕ} {at : ℕ} (q : Room t 1 out at) {n : ℕ} (e : n ≡ run_size t) where
  pub in_out : at + n ≤ length out
  in_out = omega (arith, q.room, run_is t)

  pub end_fits : Fits w64 (at + n)
  end_fits = omega (arith, in_out, q.small)

  pub run_length : n ≡ length (take n t)
  run_length = sym (length-take-le n t (rw e (run_within t)))

  pub run_fits : length (mid_of at (at + n - at) out) ≡ length (take n t)
  run_fits = omega (arith, run_length, part_length out at n in_out)

  pub copied : Fit (f_int w8) 0 t → {s : List ℕ} → s ≡ take n t
      → Laid out (put_mid at (at + n - at) out s) at (at + n) (row 1 t)
  copied known k =
      let b = bytes_from t (λ i. omega (arith, known i)) in
      let run : take n t ≡ encode (row 1 t) = rw e (run_encodes t b q.trees q.faithful) in
      record { size = omega (arith, run_is t); holds = copied_there out at n in_out (take n t) (sym run_length) k ∙ ap (λ (l : List ℕ). take at out ++ l) run }

-- Bytes copied over a part of a buffer: what then stands up to the part's end. Assumes nothing.
use mathlib.Core.Path.{◌≡◌, ap, sym, ◌∙◌}
use mathlib.Core.List.{List, ◌++◌, append_assoc}
use Prim.Native.Nat.{ℕ, ◌+◌, ◌-◌, ◌≤◌}
use native.Mathlib.Omega.{arith}
use borrow.Rule.Slice.PartMut.{mid_of, post_of, put_mid, mid_len}
use lib.ListN.{length, take, length-append}
use lib.Seq.{length-take-le, take_at}

-- the part of out from `at` on, of m bytes, as the borrow checker gives it
module _ (out : List ℕ) (at m : ℕ) (l : at + m ≤ length out) where
  pub part_length : length (mid_of at (at + m - at) out) ≡ m
  part_length = omega (arith, mid_len at (at + m) out l)

  -- t was copied there
  pub copied : (t : List ℕ) → length t ≡ m → {s : List ℕ} → s ≡ t → take (at + m) (put_mid at (at + m - at) out s) ≡ take at out ++ t
  copied t e {s} s_is =
      let long : length (take at out ++ s) ≡ at + m = omega (arith, length-append (take at out) s, length-take-le at out (omega arith), ap length s_is) in
      ap (take (at + m)) (sym (append_assoc (take at out) s (post_of at (at + m - at) out)))
      ∙ (take_at (take at out ++ s) (post_of at (at + m - at) out) (at + m) long
      ∙ ap (λ (x : List ℕ). take at out ++ x) s_is)

-- Trees laid down one after another: what each write leaves, and what can be read there. Assumes nothing.
use mathlib.Core.Path.{◌≡◌, ap, sym, ◌∙◌}
use mathlib.Core.List.{List, ◌++◌, append_assoc, append-nil}
use Prim.Native.Nat.{ℕ, ◌+◌, ◌*◌, ◌-◌, ◌≤◌}
use native.Mathlib.Omega.{arith}
use lib.ListN.{length, take, drop, length-take, length-append, take-append-drop}
use lib.Seq.{take-take, drop-drop, take-add, take_at, drop_at, length-take-le}
use Rattle.particle.specs.Record.{record_size, record_at, record_bytes}
use Rattle.particle.specs.Tree.{Head, Items, none, item, ◌then◌, count_i, size_i}
use Rattle.particle.specs.Encode.{record_of, encode}
use Rattle.particle.specs.Write.{overwrite}
use Rattle.particle.proofs.RoundTrip.{record_bytes_lem}
use Rattle.particle.proofs.ItemEncodes.{length_encode}
use Rattle.particle.proofs.EncodeParts.{size_then, encode_none, encode_item, encode_then}
use Rattle.tidying.specs.Laid.{Laid, Removed}

-- nothing
pub laid_none : (out : List ℕ) (at : ℕ) → Laid out out at at none
unfolding size_i
laid_none out at = record { size = omega arith; holds = rw encode_none (sym (append-nil (take at out))) }

-- one row after another
pub laid_then : {before middle out : List ℕ} {at p end : ℕ} {x y : Items} → Laid before middle at p x → Laid middle out p end y → Laid before out at end (x then y)
laid_then {before} {at = at} {x = x} {y} a b = record {
  size = omega (arith, a.size, b.size, size_then x y);
  holds = b.holds ∙ rw (a.holds, encode_then x y, append_assoc (take at before) (encode x) (encode y));
}

-- over another buffer that agrees up to there
pub laid_over : {before middle out : List ℕ} {at end : ℕ} {x : Items} → take at middle ≡ take at before → Laid middle out at end x → Laid before out at end x
laid_over {x = x} e a = record { size = a.size; holds = a.holds ∙ ap (λ (l : List ℕ). l ++ encode x) e }

module _ {before out : List ℕ} {at end : ℕ} {x : Items} (l : at ≤ length before) (a : Laid before out at end x) where
  -- what stands before it, there, and after it
  pub laid_within : end ≤ length out
  laid_within = omega (arith, a.size, ap length a.holds, length-take end out, length-append (take at before) (encode x), length-take-le at before l, length_encode x)

  pub laid_before : take at out ≡ take at before
  laid_before = sym (take-take at end out (omega (arith, a.size))) ∙ (ap (take at) a.holds ∙ take_at (take at before) (encode x) at (length-take-le at before l))

  pub laid_from : drop at out ≡ encode x ++ drop end out
  laid_from =
      ap (drop at) (sym (take-append-drop end out))
      ∙ rw (a.holds, append_assoc (take at before) (encode x) (drop end out)) (drop_at (take at before) (encode x ++ drop end out) at (length-take-le at before l))

module _ {before out : List ℕ} {at end : ℕ} {h : Head} {k : Items} (l : at ≤ length before) (a : Laid before out at end (item h k none)) where
  -- its record, and what follows it
  begins : drop at out ≡ record_bytes (record_of h (count_i k)) ++ (encode k ++ drop end out)
  begins = laid_from l a ∙ rw (encode_item h k none, encode_none, append-nil (encode k))

  pub laid_long : at + record_size ≤ end
  unfolding size_i
  laid_long = omega (arith, a.size)

  pub laid_record : record_at (drop at out) ≡ record_of h (count_i k)
  laid_record = rw begins (record_bytes_lem (record_of h (count_i k)) (encode k ++ drop end out))

  -- its items stand after its record
  pub laid_open : Laid out out (at + record_size) end k
  unfolding size_i
  laid_open =
      let s : at + record_size + record_size * size_i k ≡ end = omega (arith, a.size) in
      let f : drop (at + record_size) out ≡ encode k ++ drop end out = sym (drop-drop record_size at out) ∙ ap (drop record_size) begins in
      record {
        size = s;
        holds =
            ap (λ (n : ℕ). take n out) (sym s)
            ∙ (take-add (at + record_size) (record_size * size_i k) out ∙ rw (f, take_at (encode k) (drop end out) (record_size * size_i k) (length_encode k)));
      }

-- trees that stand after the place of a record
module _ {before out : List ℕ} (at : ℕ) {end : ℕ} {x : Items} (l : at + record_size ≤ length before) (a : Laid before out (at + record_size) end x) where
  earlier : take at out ≡ take at before
  earlier = sym (take-take at (at + record_size) out (omega arith)) ∙ (ap (take at) (laid_before l a) ∙ take-take at (at + record_size) before (omega arith))

  -- where the record was removed they have moved up
  pub laid_moved : {after : List ℕ} → Removed out after at end → Laid before after at (end - record_size) x
  laid_moved e =
      let s : length (encode x) ≡ end - at - record_size = omega (arith, a.size, length_encode x) in
      record {
        size = omega (arith, a.size);
        holds = e ∙ rw (earlier, laid_from l a, take_at (encode x) (drop end out) (end - at - record_size) s);
      }

  -- where it was written they are its items
  pub laid_write : {after : List ℕ} (h : Head) → after ≡ overwrite at (record_bytes (record_of h (count_i x))) out → Laid before after at end (item h x none)
  unfolding size_i overwrite
  laid_write {after} h e =
      let r = record_bytes (record_of h (count_i x)) in
      let p = take at before ++ (r ++ encode x) in
      let long : length p ≡ end = omega (arith, a.size, length-append (take at before) (r ++ encode x), length-take-le at before (omega arith), length_encode x) in
      let w : after ≡ p ++ drop end out = e ∙ rw (earlier, laid_from l a, append_assoc (take at before) (r ++ encode x) (drop end out), append_assoc r (encode x) (drop end out)) in
      record {
        size = omega (arith, a.size);
        holds = ap (take end) w ∙ (take_at p (drop end out) end long ∙ rw (encode_item h x none, encode_none, append-nil (encode x)));
      }

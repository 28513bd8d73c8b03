-- `nest`: the records of sequences one after another, and then the trees. Assumes nothing.
use mathlib.Core.Path.{◌≡◌, refl, ap, sym, ◌∙◌}
use mathlib.Core.List.{List, [], ◌++◌, append-nil, append_assoc}
use Prim.Native.Nat.{ℕ, zero, suc, ◌+◌, ◌*◌, ◌-◌, ◌≤◌, ◌<◌}
use native.Mathlib.Omega.{arith}
use borrow.Rule.Slice.PartMut.{put_mid}
use lib.ListN.{length, take, drop, length-append, length-take, length-drop}
use lib.Seq.{length-take-le, take_at}
use Rattle.particle.specs.declared.Record.{Record}
use Rattle.particle.specs.Record.{record_size, record_bytes}
use Rattle.particle.specs.Write.{overwrite}
use Rattle.particle.proofs.Copied.{copied}
use Rattle.chain.specs.Nested.{both_record, nested, Nests}
use Rattle.chain.proofs.Extending.{nested_inside}

pub nested_append : (n : ℕ) (s t : List ℕ) → nested n s ++ t ≡ nested n (s ++ t)
unfolding nested
nested_append zero s t = refl
nested_append (suc n) s t = append_assoc (record_bytes both_record) (nested n s) t ∙ ap (λ (x : List ℕ). record_bytes both_record ++ x) (nested_append n s t)

pub length_nested : (n : ℕ) (t : List ℕ) → length (nested n t) ≡ record_size * n + length t
unfolding nested
length_nested zero t = omega arith
length_nested (suc n) t = omega (arith, length_nested n t)

-- i records stand at the start of out
pub record Nesting (size : ℕ) (out : List ℕ) (i : ℕ) : Type 0 where
  pub same_size : length out ≡ size
  pub holds : take (record_size * i) out ≡ nested i []

pub nest_start : (out : List ℕ) → Nesting (length out) out 0
unfolding nested
nest_start out = record { same_size = refl; holds = refl }

module _ {size : ℕ} {out : List ℕ} {i : ℕ} (v : Nesting size out i) where
  pub nest_next : (n m : ℕ) → record_size * n + m ≤ size → i < n → {r : Record} → r ≡ both_record → {after : List ℕ} → after ≡ overwrite (record_size * i) (record_bytes r) out → Nesting size after (i + 1)
  unfolding overwrite nested
  nest_next n m room h {r} is {after} e =
      let at = record_size * i in
      let p : after ≡ (take at out ++ record_bytes both_record) ++ drop (at + record_size) out = e ∙ (ap (λ (q : Record). overwrite at (record_bytes q) out) is ∙ sym (append_assoc (take at out) (record_bytes both_record) (drop (at + record_size) out))) in
      let first : length (take at out) ≡ at = length-take-le at out (omega (arith, v.same_size)) in
      let s : length (take at out ++ record_bytes both_record) ≡ at + record_size = omega (arith, length-append (take at out) (record_bytes both_record), first) in
      let next : i + 1 ≡ suc i = omega arith in
      let place : record_size * (i + 1) ≡ at + record_size = omega arith in
      record {
        same_size = omega (arith, v.same_size, ap length p, length-append (take at out ++ record_bytes both_record) (drop (at + record_size) out), s, length-drop (at + record_size) out);
        holds = rw (place, p, next) (take_at (take at out ++ record_bytes both_record) (drop (at + record_size) out) (at + record_size) s ∙ rw v.holds (nested_append i [] (record_bytes both_record) ∙ (ap (nested i) (sym (append-nil (record_bytes both_record))) ∙ nested_inside i [])));
      }

-- the trees t are copied after the n records
module _ {n size : ℕ} {out : List ℕ} {i : ℕ} (v : Nesting size out i) (some : i ≤ n) (all : n ≤ i) (t : List ℕ) (room : record_size * n + length t ≤ size) where
  room_left : record_size * n + length t ≤ length out
  room_left = omega (arith, v.same_size)

  pub nest_done : {s : List ℕ} → s ≡ t → Nests n t (put_mid (record_size * n) (record_size * n + length t - record_size * n) out s) (record_size * n + length t)
  nest_done {s} k =
      let at = record_size * n in
      let same : i ≡ n = omega arith in
      let before : take at out ≡ nested n [] = rw same at v.holds in
      let holds : take (at + length t) (put_mid at (at + length t - at) out s) ≡ nested n t = copied out at (length t) room_left t refl k ∙ rw before (nested_append n [] t) in
      record {
        size = refl;
        within = omega (arith, ap length holds, length-take (at + length t) (put_mid at (at + length t - at) out s), length_nested n t);
        holds = holds;
      }

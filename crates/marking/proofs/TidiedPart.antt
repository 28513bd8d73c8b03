-- The buffers of the marking: how long they are, and the trees that are tidied into them. Assumes nothing.
use Rattle.std.specs.Prelude.{Ok}
use mathlib.Core.List.{List, ◌++◌}
use mathlib.Core.Path.{◌≡◌, ap, sym, ◌∙◌}
use Prim.Native.Nat.{ℕ, ◌*◌, ◌≤◌}
use native.Mathlib.Omega.{arith}
use lib.ListN.{length, take, drop, length-append}
use lib.Seq.{length-take-le, take_at}
use Rattle.particle.specs.Record.{record_size, max_records}
use Rattle.particle.specs.Tree.{tree}
use Rattle.particle.specs.Rows.{Row}
use Rattle.particle.specs.Runs.{Run}
use Rattle.particle.proofs.Encoded.{encoded_row, encoded_tree}
use Rattle.tidying.specs.Tidy.{tidy}
use Rattle.tidying.specs.Laid.{StartsWith}
use Rattle.sheet.specs.Layout.{derived_part, base_part}
use Rattle.sheet.specs.Refused.{sheet_refusal}
use Rattle.sheet.proofs.AcceptedSheet.{passed, derived_few, base_few}
use Rattle.marking.specs.Buffers.{Buffer, Prepared, BothFit}

-- an array of so many bytes is a buffer for either tree
module _ {s : List ℕ} {n : ℕ} (f : BothFit s n) {out : List ℕ} (l : length out ≡ n) where
  pub derived_buffer : Buffer (derived_part s) out
  derived_buffer = record { room = omega (arith, f.derived); most = omega (arith, f.most) }

  pub base_buffer : Buffer (base_part s) out
  base_buffer = record { room = omega (arith, f.base); most = omega (arith, f.most) }

-- as long as the longest tree, it always is
pub longest_fits : (s : List ℕ) → sheet_refusal s ≡ Ok tt → BothFit s (record_size * max_records)
longest_fits s a = record { derived = derived_few (passed s a); base = base_few (passed s a); most = omega arith }

pub has_room : {t p out : List ℕ} → t ≡ p → Buffer p out → length t ≤ length out
has_room e b = rw e b.room

-- `&out[..end]`, as the borrow checker gives it
pub part_length : {t out : List ℕ} {end : ℕ} → Prepared t out end → end ≡ length (take end out)
part_length {out = out} {end} p = sym (length-take-le end out p.within)

-- what was tidied into out, and measured there
module _ (t : List ℕ) {out : List ℕ} {end : ℕ} (e : StartsWith t out end) where
  pub tidied_row : Row 1 (take end out)
  tidied_row = rw e.holds (encoded_row (tidy (tree t)))

  pub tidied_length : end ≡ length (take end out)
  tidied_length = sym (length-take-le end out e.within)

  pub tidied_small : {p before : List ℕ} → length out ≡ length before → Buffer p before → length (take end out) ≤ record_size * max_records
  tidied_small l b = omega (arith, tidied_length, e.within, b.most)

  -- s is what stands there then
  pub prepared : {s : List ℕ} → length s ≡ length (take end out) → Run 1 s × (tree s ≡ tree (take end out)) → Prepared t (s ++ drop end out) end
  prepared {s} l m =
      let front : take end (s ++ drop end out) ≡ s = take_at s (drop end out) end (l ∙ sym tidied_length) in
      record {
        within = omega (arith, length-append s (drop end out), l, tidied_length);
        run = rw front m.0;
        same = rw front (m.1 ∙ (ap tree e.holds ∙ encoded_tree (tidy (tree t))));
      }

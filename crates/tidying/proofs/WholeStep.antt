-- `normalize_in` and `normalize`: the whole tree, from the start of a buffer on, and its copy. Assumes nothing.
use mathlib.Core.Path.{◌≡◌, ap, sym, ◌∙◌}
use mathlib.Core.List.{List, ◌++◌}
use Prim.Native.Nat.{ℕ, ◌*◌, ◌/◌, ◌≤◌}
use native.Mathlib.Omega.{arith}
use lib.ListN.{length, take, drop}
use lib.Seq.{length-take-le}
use Rattle.particle.specs.Record.{record_size, max_records}
use Rattle.particle.specs.Tree.{size_i, records, tree}
use Rattle.particle.specs.Rows.{Row, row}
use Rattle.particle.specs.Encode.{encode, Faithful}
use Rattle.particle.proofs.Laws.{run_is, run_within, row_one}
use Rattle.particle.proofs.ItemEncodes.{length_encode}
use Rattle.tidying.specs.declared.Written.{Written}
use Rattle.tidying.specs.Laid.{tidied, Room, Writes, StartsWith}
use Rattle.tidying.proofs.Sizes.{tidy_smaller}
use Rattle.tidying.proofs.LaidTrees.{laid_within}

module _ {t : List ℕ} (w : Row 1 t) where
  row_fits : record_size * size_i (row 1 t) ≤ length t
  row_fits = omega (arith, run_is t, run_within t)

  pub whole_room : {out : List ℕ} → Faithful (records t) → length t ≤ length out → length out ≤ record_size * max_records → Room t 1 out 0
  whole_room f l small = record { trees = w; faithful = f; room = omega (arith, row_fits); small = small }

  -- what was written, and its copy
  module _ {work : List ℕ} {end : ℕ} (a : StartsWith t work end) where
    end_is : end ≡ record_size * size_i (tidied t)
    end_is = sym (length-take-le end work a.within) ∙ (ap length a.holds ∙ length_encode (tidied t))

    pub part_length : end ≡ length (take end work)
    part_length = sym (length-take-le end work a.within)

    pub end_fits : {n : ℕ} → length t ≤ n → end ≤ n
    end_fits l =
        let fewer : size_i (tidied t) ≤ size_i (row 1 t) = rw (row_one w) (tidy_smaller (tree t)) in
        omega (arith, end_is, fewer, row_fits)

    -- the part of a buffer that is long enough has the length of what was written
    pub out_length : (out : List ℕ) → length t ≤ length out → end ≡ length (take end out)
    out_length out l = sym (length-take-le end out (end_fits l))

    pub same_length : (out : List ℕ) → length t ≤ length out → length (take end out) ≡ length (take end work)
    same_length out l = sym (out_length out l) ∙ part_length

    pub records_written : end / record_size ≡ size_i (tidied t)
    records_written = omega (arith, end_is)

    pub tree_written : {s : List ℕ} (before : List ℕ) → s ≡ take end work → s ++ drop end before ≡ encode (tidied t) ++ drop (length (encode (tidied t))) before
    tree_written before k =
        let e : length (encode (tidied t)) ≡ end = sym (ap length a.holds) ∙ sym part_length in
        rw (k, a.holds, e)

pub starts_with : {t before out : List ℕ} {r : Written} → Writes t before out 0 (tidied t) r → StartsWith t out r.end
starts_with w = record { within = laid_within (omega arith) w.laid; holds = w.laid.holds }

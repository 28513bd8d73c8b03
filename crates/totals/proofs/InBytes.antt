-- A pair that was read from bytes has 32 bits, so what document 01's caps gave is known from the total range of any tree in bytes. Assumes nothing.
use mathlib.Core.List.{List}
use mathlib.Core.Path.{◌≡◌}
use Prim.Native.Nat.{ℕ, zero, suc, ◌+◌, ◌≤◌}
use native.Mathlib.Omega.{arith}
use lib.ListN.{drop}
use lib.Seq.{get_or-drop}
use Rattle.particle.specs.Record.{at_min, at_max, word, record_at, max_of, range_of}
use Rattle.particle.specs.Tree.{single, head_of, tree}
use Rattle.particle.specs.Rows.{Row}
use Rattle.particle.specs.Encode.{Bytes}
use Rattle.particle.proofs.ByKind.{any_kind}
use Rattle.particle.proofs.RoundTrip.{byte_at}
use Rattle.particle.proofs.Every.{EachHead, each_tree}
use Rattle.totals.specs.Total.{largest, total}
use Rattle.totals.proofs.Caps.{capped_total, with_caps, Max32, Pair32, Leaf32}
use Rattle.totals.proofs.Capped.{capped_told}

word_32 : (t : List ℕ) → Bytes t → (n i : ℕ) → word (drop n t) i ≤ largest
word_32 t b n i =
    rw (get_or-drop n t i 0, get_or-drop n t (i + 1) 0, get_or-drop n t (i + 2) 0, get_or-drop n t (i + 3) 0)
    (omega (arith, byte_at t b (n + i), byte_at t b (n + (i + 1)), byte_at t b (n + (i + 2)), byte_at t b (n + (i + 3))))

mark_32 : (mark n : ℕ) → n ≤ largest → Max32 (max_of mark n)
mark_32 zero n l = l
mark_32 (suc mark) n l = tt

record_32 : (t : List ℕ) → Bytes t → (n : ℕ) → Leaf32 (head_of (record_at (drop n t)))
record_32 t b n =
    let r = record_at (drop n t) in
    let own : Pair32 (range_of r) = (word_32 t b n at_min, mark_32 r.unbounded r.max (word_32 t b n at_max)) in
    any_kind Leaf32 r.leaf (range_of r) own own tt tt tt r.kind

pub leaves_32 : {t : List ℕ} → Row 1 t → Bytes t → EachHead Leaf32 (single (tree t))
leaves_32 {t} w b = each_tree Leaf32 w (record_32 t b)

pub capped_of_bytes : {t : List ℕ} → Row 1 t → Bytes t → capped_total (tree t) ≡ with_caps (total (tree t))
capped_of_bytes {t} w b = capped_told (tree t) (leaves_32 w b)

-- The encoding of a tree is whole records, each with its items, and the tree that they start with is that tree. Assumes nothing.
use mathlib.Core.Path.{◌≡◌, ap}
use mathlib.Core.List.{List, [], ◌++◌, append_assoc, append-nil}
use native.Mathlib.Omega.{arith}
use Rattle.particle.specs.declared.Record.{Record}
use Rattle.particle.specs.Tree.{Items, none, item, Particle, single, count_i, build, first_of, tree}
use Rattle.particle.specs.Rows.{Complete, Row}
use Rattle.particle.specs.Encode.{flat, encode}
use Rattle.particle.proofs.RoundTrip.{build_flat, records_joined, decode_encode}
use Rattle.particle.proofs.ItemEncodes.{length_encode}
use Rattle.particle.proofs.EncodeParts.{count_then}

complete_flat : (x : Items) (rs : List Record) → Complete rs → Complete (flat x ++ rs)
unfolding Complete flat
complete_flat none rs c = c
complete_flat (item h k r) rs c =
    let e = append_assoc (flat k) (flat r) rs in
    (rw (e, build_flat k (flat r ++ rs)) (omega (arith, count_then k (build (flat r ++ rs)))), rw e (complete_flat k (flat r ++ rs) (complete_flat r rs c)))

pub encoded_row : (x : Particle) → Row 1 (encode (single x))
unfolding Complete encode count_i
encoded_row x = record {
  even = omega (arith, length_encode (single x));
  complete = rw (records_joined (flat (single x)), ← append-nil (flat (single x))) (complete_flat (single x) [] tt);
  enough = rw (decode_encode (single x)) (omega arith);
}

pub encoded_tree : (x : Particle) → tree (encode (single x)) ≡ x
unfolding tree
encoded_tree x = ap first_of (decode_encode (single x))

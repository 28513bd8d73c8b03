-- Trees and bytes by their parts: the encoding of a row from those of its trees, and the parts of faithful bytes. Assumes nothing.
use mathlib.Core.Path.{◌≡◌, refl, ap, sym, ◌∙◌}
use mathlib.Core.List.{List, [], ◌∷◌, ◌++◌, append_assoc}
use Prim.Native.Nat.{ℕ, suc, ◌+◌, ◌<◌}
use native.Mathlib.Omega.{arith}
use lib.ListN.{get_or}
use Rattle.particle.specs.declared.Record.{Record}
use Rattle.particle.specs.Record.{record_at, record_bytes}
use Rattle.particle.specs.Tree.{Head, Items, none, item, ◌then◌, count_i, size_i, head_of, records}
use Rattle.particle.specs.Rows.{Row, row, run_size, items_part, later_part}
use Rattle.particle.specs.Encode.{record_of, flat, joined, encode, Bytes, Faithful}
use Rattle.particle.proofs.Records.{records_cons, records_drop}
use Rattle.particle.proofs.Laws.{some_bytes}
use Rattle.particle.proofs.ItemEncodes.{joined_append, faithful_drop}

-- Rows -------------------------------------------------------------------------

pub size_then : (x y : Items) → size_i (x then y) ≡ size_i x + size_i y
unfolding size_i ◌then◌
size_then none y = omega arith
size_then (item h k r) y = omega (arith, size_then r y)

pub count_then : (x y : Items) → count_i (x then y) ≡ count_i x + count_i y
unfolding count_i ◌then◌
count_then none y = omega arith
count_then (item h k r) y = omega (arith, count_then r y)

pub encode_none : encode none ≡ []
unfolding encode flat joined
encode_none = refl

-- a tree's record, its items, the trees after it
pub encode_item : (h : Head) (k r : Items) → encode (item h k r) ≡ record_bytes (record_of h (count_i k)) ++ (encode k ++ encode r)
unfolding encode flat joined
encode_item h k r = ap (λ (x : List ℕ). record_bytes (record_of h (count_i k)) ++ x) (joined_append (flat k) (flat r))

flat_then : (x y : Items) → flat (x then y) ≡ flat x ++ flat y
unfolding flat ◌then◌
flat_then none y = refl
flat_then (item h k r) y = ap (λ (x : List Record). record_of h (count_i k) ∷ x) (ap (λ (x : List Record). flat k ++ x) (flat_then r y) ∙ sym (append_assoc (flat k) (flat r) (flat y)))

pub encode_then : (x y : Items) → encode (x then y) ≡ encode x ++ encode y
unfolding encode
encode_then x y = ap joined (flat_then x y) ∙ joined_append (flat x) (flat y)

-- Parts of bytes ---------------------------------------------------------------

pub bytes_from : (t : List ℕ) → ((i : ℕ) → get_or t i 0 < 256) → Bytes t
unfolding Bytes
bytes_from [] f = tt
bytes_from (x ∷ t) f = (f 0, bytes_from t (λ i. f (suc i)))

pub later_faithful : (t : List ℕ) → Faithful (records t) → Faithful (records (later_part t))
unfolding run_size
later_faithful t f = rw (records_drop (size_i (row 1 t)) t) (faithful_drop (size_i (row 1 t)) (records t) f)

module _ {n : ℕ} {t : List ℕ} (w : Row (suc n) t) (f : Faithful (records t)) where
  both : (record_of (head_of (record_at t)) (record_at t).count ≡ record_at t) × Faithful (records (items_part t))
  unfolding Faithful
  both = rw (records_cons t (some_bytes w)) at f

  -- the first tree's record holds no more than its head and count say
  pub first_faithful : record_of (head_of (record_at t)) (record_at t).count ≡ record_at t
  first_faithful = both.0

  pub items_faithful : Faithful (records (items_part t))
  items_faithful = both.1

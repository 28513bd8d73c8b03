-- The record of a tree: its layout in bytes, and its occurrence pair. Nothing else says the layout. Assumes nothing: these are definitions.
use Rattle.std.specs.Prelude.{List, [], ◌∷◌, ◌++◌, ℕ, zero, suc, ◌+◌, ◌*◌, ◌/◌, ◌%◌, get_or}
use Rattle.particle.specs.declared.MaxOccurs.{MaxOccurs}
use Rattle.particle.specs.declared.MaxOccurs.TheVariants.{Bounded, Unbounded}
use Rattle.particle.specs.declared.Occurs.{Occurs}
use Rattle.particle.specs.declared.Record.{Record}

-- the length of a record in bytes
abbrev pub record_size : ℕ
record_size = 16

-- where its fields start
abbrev pub at_kind : ℕ
at_kind = 0

abbrev pub at_leaf : ℕ
at_leaf = 1

abbrev pub at_count : ℕ
at_count = 2

abbrev pub at_unbounded : ℕ
at_unbounded = 4

abbrev pub at_zero : ℕ
at_zero = 5

abbrev pub at_size : ℕ
at_size = 6

abbrev pub at_min : ℕ
at_min = 8

abbrev pub at_max : ℕ
at_max = 12

-- a tree has at most so many records
abbrev pub max_records : ℕ
max_records = 1000

-- the 16-bit and the 32-bit number at byte i, little-endian
abbrev pub half : List ℕ → ℕ → ℕ
half s i = get_or s i 0 + get_or s (i + 1) 0 * 256

abbrev pub word : List ℕ → ℕ → ℕ
word s i = get_or s i 0 + get_or s (i + 1) 0 * 256 + get_or s (i + 2) 0 * 65536 + get_or s (i + 3) 0 * 16777216

-- the record that t starts with: kind, leaf number, item count, unbounded mark, three zero bytes, minimum, maximum; `zero` is the first of the zero bytes and `size`
-- the last two, in which a measured tree has its notes (Runs)
abbrev pub record_at : List ℕ → Record
record_at t =
    record { kind = get_or t at_kind 0; leaf = get_or t at_leaf 0; count = half t at_count; unbounded = get_or t at_unbounded 0; zero = get_or t at_zero 0; size = half t at_size; min = word t at_min; max = word t at_max }

-- the bytes of a 16-bit and of a 32-bit number
abbrev pub half_bytes : ℕ → List ℕ
half_bytes n = n % 256 ∷ n / 256 ∷ []

abbrev pub word_bytes : ℕ → List ℕ
word_bytes n = n % 256 ∷ n / 256 % 256 ∷ n / 65536 % 256 ∷ n / 16777216 ∷ []

-- the bytes of a record, its fields in this order
abbrev pub record_bytes : Record → List ℕ
record_bytes r = r.kind ∷ r.leaf ∷ (half_bytes r.count ++ (r.unbounded ∷ r.zero ∷ (half_bytes r.size ++ (word_bytes r.min ++ word_bytes r.max))))

-- a maximum, by the unbounded mark
abbrev pub max_of : ℕ → ℕ → MaxOccurs
max_of zero n = Bounded n
max_of (suc mark) n = Unbounded

-- `range`: the occurrence pair of a record
abbrev pub range_of : Record → Occurs
range_of r = record { min = r.min; max = max_of r.unbounded r.max }

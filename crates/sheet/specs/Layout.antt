-- The exam sheet as bytes: contents, leaves, first table, second table, derived tree, base tree. Nothing else says where these stand; within a leaf it is verdicts, Paper, that says it, and within a record particle, Record. Assumes nothing: these are definitions.
use Rattle.std.specs.Prelude.{List, [], ◌∷◌, ◌++◌, ℕ, zero, suc, ◌+◌, ◌*◌, get_or, take, drop}
use Rattle.particle.specs.Record.{record_size, half, half_bytes}
use Rattle.verdicts.specs.Paper.{leaf_size, kind_at, process_at, name_at, field_bytes}
use Rattle.sheet.specs.declared.bodies.Leaf.{Leaf}

-- contents, 8 bytes: leaf count, a zero byte, and in 16 bits each the derived record count, the base record count and the total length
abbrev pub contents_size : ℕ
contents_size = 8

abbrev pub leaf_count : List ℕ → ℕ
leaf_count s = get_or s 0 0

abbrev pub zero_byte : List ℕ → ℕ
zero_byte s = get_or s 1 0

abbrev pub derived_count : List ℕ → ℕ
derived_count s = half s 2

abbrev pub base_count : List ℕ → ℕ
base_count s = half s 4

abbrev pub total_field : List ℕ → ℕ
total_field s = half s 6

-- where the bodies start, and where the last one ends: the formula for the total length
abbrev pub tables_at : ℕ → ℕ
tables_at n = contents_size + leaf_size * n

abbrev pub second_at : ℕ → ℕ
second_at n = tables_at n + n * n

abbrev pub derived_at : ℕ → ℕ
derived_at n = tables_at n + 2 * (n * n)

abbrev pub base_at : ℕ → ℕ → ℕ
base_at n d = derived_at n + record_size * d

abbrev pub total_of : ℕ → ℕ → ℕ → ℕ
total_of n d b = base_at n d + record_size * b

-- the length that the counts of the contents give
abbrev pub whole_length : List ℕ → ℕ
whole_length s = total_of (leaf_count s) (derived_count s) (base_count s)

-- the contents of a sheet of n leaves, d derived and b base records
abbrev pub contents_bytes : (n d b : ℕ) → List ℕ
contents_bytes n d b = n ∷ 0 ∷ (half_bytes d ++ (half_bytes b ++ half_bytes (total_of n d b)))

-- the bodies
abbrev pub leaves_part : List ℕ → List ℕ
leaves_part s = take (leaf_size * leaf_count s) (drop contents_size s)

-- both tables, the first before the second
abbrev pub tables_part : List ℕ → List ℕ
tables_part s = take (2 * (leaf_count s * leaf_count s)) (drop (tables_at (leaf_count s)) s)

-- the second table
abbrev pub second_part : List ℕ → List ℕ
second_part s = take (leaf_count s * leaf_count s) (drop (second_at (leaf_count s)) s)

abbrev pub derived_part : List ℕ → List ℕ
derived_part s = take (record_size * derived_count s) (drop (derived_at (leaf_count s)) s)

abbrev pub base_part : List ℕ → List ℕ
base_part s = take (record_size * base_count s) (drop (base_at (leaf_count s) (derived_count s)) s)

-- the leaf that s starts with, and the bytes of a leaf
abbrev pub leaf_at : List ℕ → Leaf
leaf_at s = record { kind = kind_at s 0; process = process_at s 0; name = name_at s 0 }

abbrev pub leaf_bytes : Leaf → List ℕ
leaf_bytes l = field_bytes l.kind l.process l.name

-- the first n leaves of s, and the bytes of leaves one after the other
unfoldable pub leaves_in : ℕ → List ℕ → List Leaf
leaves_in zero s = []
leaves_in (suc n) s = leaf_at s ∷ leaves_in n (drop leaf_size s)

unfoldable pub leaves_bytes : List Leaf → List ℕ
leaves_bytes [] = []
leaves_bytes (l ∷ ls) = leaf_bytes l ++ leaves_bytes ls

-- the leaves of the sheet
abbrev pub leaf_list : List ℕ → List Leaf
leaf_list s = leaves_in (leaf_count s) (leaves_part s)

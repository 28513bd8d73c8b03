-- A chain as bytes (document 02 §1): one byte of levels, a record count for each, then the records of the trees that are present, root type first. Nothing else says this layout; a record's stands in particle, Record. Assumes nothing: these are definitions.
use Rattle.std.specs.Prelude.{List, [], ◌∷◌, ◌++◌, ℕ, zero, suc, ◌+◌, ◌*◌, get_or, take, drop}
use Rattle.std.proofs.Math.Option.{Option, none, some}
use Rattle.particle.specs.Record.{record_size, half, half_bytes}

-- a chain has at most so many levels
abbrev pub max_levels : ℕ
max_levels = 17

-- the length of the number of levels, and of a record count
abbrev pub levels_size : ℕ
levels_size = 1

abbrev pub count_size : ℕ
count_size = 2

abbrev pub level_count : List ℕ → ℕ
level_count c = get_or c 0 0

-- the record count that s starts with, 16 bits
abbrev pub count_in : List ℕ → ℕ
count_in s = half s 0

-- the first n record counts of s
unfoldable pub counts_in : ℕ → List ℕ → List ℕ
counts_in zero s = []
counts_in (suc n) s = count_in s ∷ counts_in n (drop count_size s)

-- the two bytes of a record count, and those of counts one after another
abbrev pub count_bytes : ℕ → List ℕ
count_bytes n = half_bytes n

unfoldable pub counts_bytes : List ℕ → List ℕ
counts_bytes [] = []
counts_bytes (n ∷ ns) = count_bytes n ++ counts_bytes ns

-- where the count of the level n stands, from 0; after the last level, where the trees start
abbrev pub count_at : ℕ → ℕ
count_at n = levels_size + count_size * n

-- the levels' record counts, 0 where a tree is absent
abbrev pub counts : List ℕ → List ℕ
counts c = counts_in (level_count c) (drop (count_at 0) c)

unfoldable pub sum : List ℕ → ℕ
sum [] = 0
sum (n ∷ ns) = n + sum ns

-- the length that the levels and their counts give
abbrev pub whole_length : List ℕ → ℕ
whole_length c = count_at (level_count c) + record_size * sum (counts c)

-- the trees' records
abbrev pub trees_part : List ℕ → List ℕ
trees_part c = drop (count_at (level_count c)) c

-- the tree of n records that s starts with, absent where n is 0
abbrev pub level_in : ℕ → List ℕ → Option (List ℕ)
level_in zero s = none
level_in (suc n) s = some (take (record_size * suc n) s)

-- the trees of these counts, one after another in s
unfoldable pub levels_in : List ℕ → List ℕ → List (Option (List ℕ))
levels_in [] s = []
levels_in (n ∷ ns) s = level_in n s ∷ levels_in ns (drop (record_size * n) s)

-- the levels of the chain, root type first: the bytes of a tree, or none
unfoldable pub levels : List ℕ → List (Option (List ℕ))
levels c = levels_in (counts c) (trees_part c)

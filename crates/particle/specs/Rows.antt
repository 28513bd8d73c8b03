-- Parts of a tree's bytes that start at a record: which trees they are, and where the next one starts. Assumes nothing: these are definitions.
use Rattle.std.specs.Prelude.{List, [], ◌∷◌, ◌≡◌, ℕ, ◌+◌, ◌*◌, ◌%◌, ◌≤◌, length, take, drop}
use Rattle.std.specs.Borrow.{Bor}
use Rattle.particle.specs.declared.Record.{Record}
use Rattle.particle.specs.Record.{record_size}
use Rattle.particle.specs.Tree.{Items, take_i, count_i, size_i, build, records, decode}

-- each record has its items
unfoldable pub Complete : List Record → Type 0
Complete [] = Unit {0}
Complete (r ∷ rs) = (r.count ≤ count_i (build rs)) × Complete rs

-- t is whole records, each has its items, and they are n trees or more
pub record Row (n : ℕ) (t : List ℕ) : Type 0 where
  pub even : length t % record_size ≡ 0
  pub complete : Complete (records t)
  pub enough : n ≤ count_i (decode t)

-- the first n trees of t
abbrev pub row : ℕ → List ℕ → Items
row n t = take_i n (decode t)

-- how many bytes the first tree's run of records takes
unfoldable pub run_size : List ℕ → ℕ
run_size t = record_size * size_i (row 1 t)

-- the part that starts at the first tree's items, and the part that starts after the first tree
abbrev pub items_part : List ℕ → List ℕ
items_part t = drop record_size t

abbrev pub later_part : List ℕ → List ℕ
later_part t = drop (run_size t) t

-- where the k-th item of the first tree of t starts: after the tree's record and the runs of the items before it
unfoldable pub item_start : ℕ → List ℕ → ℕ
item_start k t = record_size + record_size * size_i (row k (items_part t))

-- its run of records
unfoldable pub item_run : ℕ → List ℕ → List ℕ
item_run k t = take (run_size (drop (item_start k t) t)) (drop (item_start k t) t)

-- at is where the k-th item starts, and a tree starts there
pub record ItemAt (k : ℕ) (t : List ℕ) (at : ℕ) : Type 0 where
  pub start : at ≡ item_start k t
  pub within : at ≤ length t
  pub whole : Row 1 (drop at t)

-- the slice r is a part of the lent slice t, from this byte on, and holds these bytes
pub record PartOf (t r : Bor (List ℕ)) (start : ℕ) (bytes : List ℕ) : Type 0 where
  pub holds : r.now ≡ bytes
  pub place : r.ref_ptr ≡ (t.ref_ptr.0, start + t.ref_ptr.1)

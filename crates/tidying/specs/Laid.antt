-- What the functions that tidy ask and leave: trees written one after another into a buffer. Assumes nothing: these are definitions.
use Rattle.std.specs.Prelude.{◌≡◌, List, ◌++◌, ℕ, ◌+◌, ◌*◌, ◌-◌, ◌≤◌, length, take, drop}
use Rattle.particle.specs.Record.{record_size, max_records}
use Rattle.particle.specs.Tree.{Items, none, Particle, single, count_i, size_i, head_of, records, tree}
use Rattle.particle.specs.Rows.{Row, row, run_size}
use Rattle.particle.specs.Encode.{record_of, encode, Faithful}
use Rattle.tidying.specs.declared.Kept.{Kept}
use Rattle.tidying.specs.declared.Written.{Written}
use Rattle.tidying.specs.Tidy.{keep, closed, tidy}

-- the tree that t starts with, tidied
abbrev pub tidied : List ℕ → Items
tidied t = single (tidy (tree t))

-- t has n trees, and there is room for their records in out from `at` on
pub record Room (t : List ℕ) (n : ℕ) (out : List ℕ) (at : ℕ) : Type 0 where
  pub trees : Row n t
  pub faithful : Faithful (records t)
  pub room : at + record_size * size_i (row n t) ≤ length out
  pub small : length out ≤ record_size * max_records

-- up to `at` out has what the buffer had before, and from there to `end` the bytes of x
pub record Laid (before out : List ℕ) (at end : ℕ) (x : Items) : Type 0 where
  pub size : at + record_size * size_i x ≡ end
  pub holds : take end out ≡ take at before ++ encode x

-- after: the bytes from the record at `at` to `end` have moved over that record
abbrev pub Removed : (out after : List ℕ) (at end : ℕ) → Type 0
Removed out after at end = take (end - record_size) after ≡ take at out ++ take (end - at - record_size) (drop (at + record_size) out)

-- one item more than those that are kept stands in out, from where these end to `end`
pub record ItemStands (kept : Kept) (out : List ℕ) (end : ℕ) : Type 0 where
  pub long : kept.end + record_size ≤ end
  pub within : end ≤ length out
  pub few : kept.count ≤ max_records

-- k is what the group keeps: the items that it kept, and what it keeps of the item from where these end to `end`
pub record KeepsAfter (kept : Kept) (out : List ℕ) (end : ℕ) (k : Kept) (after : List ℕ) : Type 0 where
  pub group : k.group ≡ kept.group
  pub at : k.at ≡ kept.at
  pub keeps : (before : List ℕ) (x : Particle) → kept.end ≤ length before → Laid before out kept.end end (single x)
      → Laid before after kept.end k.end (keep (head_of kept.group) x none) × (k.count ≡ kept.count + count_i (keep (head_of kept.group) x none))

-- the items that the group keeps stand in out after the place for its record
pub record KeptStand (kept : Kept) (out : List ℕ) : Type 0 where
  pub faithful : record_of (head_of kept.group) kept.group.count ≡ kept.group
  pub long : kept.at + record_size + record_size * kept.count ≤ kept.end
  pub within : kept.end ≤ length out
  pub few : kept.count ≤ max_records

-- over the items that it keeps, the group is closed: what is left ends at r
abbrev pub Closes : (kept : Kept) (out after : List ℕ) (r : ℕ) → Type 0
Closes kept out after r =
    (before : List ℕ) (x : Items) → kept.at + record_size ≤ length before → kept.count ≡ count_i x → Laid before out (kept.at + record_size) kept.end x
    → Laid before after kept.at r (single (closed (head_of kept.group) x))

-- the first tree of t was read, and x written from `at` on
pub record Writes (t before out : List ℕ) (at : ℕ) (x : Items) (r : Written) : Type 0 where
  pub read : r.read ≡ run_size t
  pub laid : Laid before out at r.end x

-- up to `end`, out has the bytes of the tree of t, tidied
pub record StartsWith (t out : List ℕ) (end : ℕ) : Type 0 where
  pub within : end ≤ length out
  pub holds : take end out ≡ encode (tidied t)

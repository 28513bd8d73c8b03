-- The buffers that trees are tidied into, and what stands there afterwards. Assumes nothing: these are definitions.
use Rattle.std.specs.Prelude.{List, ◌≡◌, ℕ, ◌*◌, ◌≤◌, length, take}
use Rattle.particle.specs.Record.{record_size, max_records}
use Rattle.particle.specs.Tree.{tree}
use Rattle.particle.specs.Runs.{Run}
use Rattle.tidying.specs.Tidy.{tidy}
use Rattle.sheet.specs.Layout.{derived_part, base_part}

-- out has room for the tree t, and is no longer than the longest tree
pub record Buffer (t out : List ℕ) : Type 0 where
  pub room : length t ≤ length out
  pub most : length out ≤ record_size * max_records

-- up to `end`, out has the tree of t, tidied and measured
pub record Prepared (t out : List ℕ) (end : ℕ) : Type 0 where
  pub within : end ≤ length out
  pub run : Run 1 (take end out)
  pub same : tree (take end out) ≡ tidy (tree t)

-- n bytes are room for either tree of the sheet s, and no more than the longest tree has
pub record BothFit (s : List ℕ) (n : ℕ) : Type 0 where
  pub derived : length (derived_part s) ≤ n
  pub base : length (base_part s) ≤ n
  pub most : n ≤ record_size * max_records

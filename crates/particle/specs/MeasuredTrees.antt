-- Measured measured_trees, and rows of them: which trees they are, and how a row goes on. Assumes nothing: these are definitions.
use Rattle.std.specs.Prelude.{◌≡◌, ◌+◌, Option, None, Some}
use Rattle.particle.specs.declared.measured_trees.MeasuredTree.{MeasuredTree}
use Rattle.particle.specs.declared.measured_trees.MeasuredTrees.{MeasuredTrees}
use Rattle.particle.specs.Record.{record_at}
use Rattle.particle.specs.Tree.{Particle, Items, tree}
use Rattle.particle.specs.Rows.{row, items_part, later_part}

-- the tree
abbrev pub tree_of : MeasuredTree → Particle
tree_of s = tree s.bytes.now

-- the items of that tree
abbrev pub items_of : MeasuredTree → Items
items_of s = row (record_at s.bytes.now).count (items_part s.bytes.now)

-- the trees of a row
abbrev pub row_of : MeasuredTrees → Items
row_of s = row s.count s.bytes.now

-- a step gives the first tree and leaves the others, or gives nothing where none is left
abbrev pub GivesFirst : MeasuredTrees → Option MeasuredTree → MeasuredTrees → Type 0
GivesFirst old None new = (old.count ≡ 0) × (new.count ≡ 0)
GivesFirst old (Some first) new = (first.bytes.now ≡ old.bytes.now) × (new.bytes.now ≡ later_part old.bytes.now) × (old.count ≡ new.count + 1)

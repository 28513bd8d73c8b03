-- The depth of a tree: the root is at depth 1 (document 01, 'Record'). Assumes nothing: this is a definition.
use Rattle.std.specs.Prelude.{ℕ, suc, max}
use Rattle.particle.specs.Tree.{Items, none, item}

-- the depth of the deepest record of trees side by side, whose roots are at depth 1; 0 where there is no tree
unfoldable pub depth_of : Items → ℕ
depth_of none = 0
depth_of (item h k r) = max (suc (depth_of k)) (depth_of r)

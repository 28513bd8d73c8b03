-- Document 01's limits on a tree's depth and on the leaves; those on records stand with the record. Assumes nothing: these are definitions.
use Rattle.std.specs.Prelude.{ℕ}

-- a tree is at most so deep; its root is at depth 1
abbrev pub max_depth : ℕ
max_depth = 12

-- there are at most so many leaves
abbrev pub max_leaves : ℕ
max_leaves = 64

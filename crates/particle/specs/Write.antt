-- Bytes written over others. Assumes nothing: these are definitions.
use Rattle.std.specs.Prelude.{List, ◌++◌, ℕ, ◌+◌, length, take, drop}

-- out with these bytes from `at` on; every other byte keeps its value
unfoldable pub overwrite : (at : ℕ) (bytes out : List ℕ) → List ℕ
overwrite at bytes out = take at out ++ (bytes ++ drop (at + length bytes) out)

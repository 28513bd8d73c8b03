-- The argument that asks for many sheets. Assumes nothing: this is a definition.
use Rattle.std.specs.Prelude.{List, [], ◌∷◌, ℕ}

-- `--many`
abbrev pub many : List ℕ
many = 45 ∷ 45 ∷ 109 ∷ 97 ∷ 110 ∷ 121 ∷ []

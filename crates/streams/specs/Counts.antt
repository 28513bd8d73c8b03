-- How much of a buffer counts, and what a count stands before. Assumes nothing: these are definitions.
use Rattle.std.specs.Prelude.{◌≡◌, ◌⊎◌, ℕ, ◌<◌, ◌≤◌, List, ◌++◌, Option, length, take}
use Rattle.std.specs.Io.KnownBytes.{Consumes, IsAtEnd}
use Rattle.particle.specs.Record.{half}

-- `&xs[..n]` is in bounds and has n bytes. The second part follows from the first, and spares a caller's `&buf[..n]` a proof.
abbrev pub IsPrefixLen : ℕ → List ℕ → Type 0
IsPrefixLen n xs = (n ≤ length xs) × (n ≡ length (take n xs))

-- n is the number of two bytes, which the input gave; or it gave the first k of them, and ended
abbrev pub GivesNumber : Option (List ℕ) → Option (List ℕ) → ℕ → Type 0
GivesNumber old new n = (head : List ℕ) × (length head ≡ 2) × (n ≡ half head 0) × (k : ℕ) × Consumes old new (take k head) × (k < 2 → IsAtEnd new)

-- the input gave two bytes, and then so many as their number says, which are s; or it ended before
abbrev pub GivesCounted : Option (List ℕ) → Option (List ℕ) → List ℕ → Type 0
GivesCounted old new s = IsAtEnd new ⊎ ((head : List ℕ) × (length head ≡ 2) × (length s ≡ half head 0) × Consumes old new (head ++ s))

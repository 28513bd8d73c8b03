-- What a chain is (document 02 §1), as a statement about its levels and not about its bytes. Assumes nothing: these are definitions.
use mathlib.Core.List.{List, ◌∷◌, ◌++◌, map, flatten}
use Rattle.std.proofs.Math.Option.{Option, none, some}
use Rattle.std.specs.Prelude.{◌≡◌, ℕ, ◌/◌, ◌%◌, ◌^◌, ◌≤◌, ◌<◌, length}
use Rattle.particle.specs.Record.{record_size}
use Rattle.sheet.specs.Fits.{Each}
use Rattle.chain.specs.Layout.{max_levels, counts_bytes}
use Rattle.chain.specs.Effective.{present}

-- a level's record count, 0 where it is absent
abbrev pub records_of : Option (List ℕ) → ℕ
records_of none = 0
records_of (some t) = length t / record_size

-- the chain of these levels: one byte of levels, a record count for each, then the records of the trees that are present
unfoldable pub chain_bytes : List (Option (List ℕ)) → List ℕ
chain_bytes ls = length ls ∷ (counts_bytes (map records_of ls) ++ flatten (present ls))

-- a level is absent, or some whole records whose count has 16 bits
abbrev pub LevelFits : Option (List ℕ) → Type 0
LevelFits none = Unit {0}
LevelFits (some t) = (length t % record_size ≡ 0) × (1 ≤ length t / record_size) × (length t / record_size < 2 ^ 16)

-- 1 to `max_levels` such levels
pub record ChainFits (ls : List (Option (List ℕ))) : Type 0 where
  pub some : 1 ≤ length ls
  pub few : length ls ≤ max_levels
  pub each : Each LevelFits ls

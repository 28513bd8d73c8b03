-- The literals of documents 01 and 02 that the check of a tree and the refusals have, each as the documents print it: a definition and code that have another one alike are no longer proved. Assumes nothing.
use mathlib.Core.List.{[], ◌∷◌, map}
use mathlib.Core.Path.{◌≡◌, refl}
use Rattle.particle.specs.Record.{record_size, max_records}
use Rattle.intake.specs.Limits.{max_depth, max_leaves}
use Rattle.intake.specs.Number.{refusal_number}
use Rattle.intake.proofs.OneRefusal.{refusals}

pub literals :
    (record_size ≡ 16)
    × (max_records ≡ 1000)
    × (max_depth ≡ 12)
    × (max_leaves ≡ 64)
    × (map refusal_number refusals ≡ 1 ∷ 2 ∷ 3 ∷ 4 ∷ 5 ∷ 6 ∷ 7 ∷ 8 ∷ 9 ∷ 10 ∷ 11 ∷ 12 ∷ 13 ∷ 14 ∷ 15 ∷ 16 ∷ 17 ∷ 18 ∷ [])
literals = (refl, refl, refl, refl, refl)

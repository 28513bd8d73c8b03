-- The joined tree allows the words of the trees, one after another. Assumes nothing.
use mathlib.Core.List.{List, [], ◌∷◌, map}
use mathlib.Core.Logic.{◌↔◌}
use mathlib.Core.Path.{refl}
use Prim.Native.Nat.{ℕ}
use Rattle.particle.specs.Tree.{Particle, tree, fold}
use Rattle.language.specs.Language.{Words, InOrder, Names, Allows}
use Rattle.language.proofs.Words.{◌≐◌, same, turned, ◌⟫◌, followed_same, in_order_joined, in_order_one}
use Rattle.language.proofs.Rounds.{once_same}
use Rattle.chain.specs.Effective.{both}
use Rattle.chain.specs.Facts.{JoinedWords}
use Rattle.chain.proofs.Extending.{join_all}
use Rattle.chain.proofs.Joined.{joined_from}

module _ (names : Names) where
  -- what each of the trees allows
  abbrev allowed : List Particle → List Words
  allowed xs = map (Allows names) xs

  both_allows : (x y : Particle) → Allows names (both x y) ≐ InOrder (allowed (x ∷ y ∷ []))
  unfolding Allows fold
  both_allows x y = once_same refl

  pub join_allows : (x : Particle) (xs : List Particle) (w : List ℕ) → Allows names (join_all x xs) w ↔ InOrder (map (Allows names) (x ∷ xs)) w
  unfolding join_all
  join_allows x [] = turned in_order_one
  join_allows x (y ∷ ys) = join_allows (both x y) ys ⟫ followed_same (both_allows x y) (same (InOrder (allowed ys))) ⟫ turned (in_order_joined (allowed (x ∷ y ∷ [])) (allowed ys))

pub joined_words : JoinedWords
joined_words c x i names =
    let (t, ts, p, e) = joined_from c i in
    rw (e, p) (join_allows names (tree t) (map tree ts))

-- Where a chain's counts and trees lie. Assumes nothing.
use mathlib.Core.Path.{◌≡◌, ap, ◌∙◌}
use mathlib.Core.Bool.{true}
use mathlib.Core.List.{List}
use Prim.Native.Nat.{ℕ, ◌-◌, ◌≤◌}
use native.Mathlib.Omega.{arith}
use lib.ListN.{length, take, drop}
use Rattle.particle.proofs.Laws.{part_is}
use Rattle.chain.specs.Layout.{level_count, count_at, trees_part}
use Rattle.chain.specs.Answer.{chain_ok}
use Rattle.chain.proofs.Levels.{chain_ok_lem}

module _ (c : List ℕ) (ok : chain_ok c ≡ true) where
  pub not_empty : 1 ≤ length c
  not_empty = omega (arith, (chain_ok_lem c ok).whole)

  pub counts_within : count_at (level_count c) ≤ length c
  counts_within = omega (arith, (chain_ok_lem c ok).whole)

  -- start is where the trees start
  module _ {n start : ℕ} (e : n ≡ level_count c) (f : start ≡ count_at n) where
    pub start_within : start ≤ length c
    start_within = omega (arith, e, f, counts_within)

    pub trees_are : take (length c - start) (drop start c) ≡ trees_part c
    trees_are = part_is c start ∙ ap (λ (k : ℕ). drop k c) (f ∙ ap count_at e)

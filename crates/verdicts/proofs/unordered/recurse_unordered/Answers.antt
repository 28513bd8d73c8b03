-- `unordered::recurse_unordered` meets its contract: at first nothing is taken. Assumes nothing.
use mathlib.Core.Path.{◌≡◌, ap, ◌∙◌}
use mathlib.Core.Bool.{false}
use Prim.Native.Nat.{ℕ}
use lib.ListN.{replicate}
use Rattle.particle.specs.Tree.{Items}
use Rattle.rules.specs.Verdicts.{Mark, Leaves, Tables}
use Rattle.rules.specs.Walk.{recurse_unordered}
use Rattle.verdicts.specs.Taken.{untaken_items}
use Rattle.verdicts.proofs.Flags.{none_taken}
use Rattle.verdicts.proofs.unordered.recurse_unordered.Goals as goal

all_free : (L : Leaves) (T : Tables) (x y : Items) (n : ℕ) {m : Mark} → m ≡ recurse_unordered L T x (untaken_items (replicate n false) y) → m ≡ recurse_unordered L T x y
all_free L T x y n e = e ∙ ap (recurse_unordered L T x) (none_taken n y)

pub returns : goal.returns
returns c = search all_free

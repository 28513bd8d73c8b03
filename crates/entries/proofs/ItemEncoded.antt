-- What the item entry hands back is the encoding of the root's k-th item. Assumes nothing.
use Rattle.std.specs.Prelude.{Ok}
use mathlib.Core.Path.{◌≡◌, ◌∙◌}
use mathlib.Core.List.{List}
use Prim.Native.Nat.{ℕ, ◌<◌}
use Rattle.particle.specs.Record.{record_at}
use Rattle.particle.specs.Tree.{take_i, drop_i, tree}
use Rattle.particle.specs.Encode.{encode, Bytes}
use Rattle.particle.proofs.ItemEncodes.{item_encodes}
use Rattle.intake.specs.Scan.{alone}
use Rattle.intake.proofs.AcceptedFits.{accepted_row, accepted_faithful}
use Rattle.entries.specs.Answer.{refusal_alone}
use Rattle.entries.specs.ItemAnswer.{item_bytes}
use Rattle.entries.proofs.Alone.{an_item}

pub item_is_encoded : (t : List ℕ) (k : ℕ) → Bytes t → refusal_alone t ≡ Ok tt → k < (record_at t).count → item_bytes k t ≡ encode (take_i 1 (drop_i k (tree t).items))
item_is_encoded t k b e l = (an_item t e k l).0 ∙ item_encodes t k b (accepted_row alone t e) (accepted_faithful alone t e) l

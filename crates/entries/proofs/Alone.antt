-- What the check of a tree alone tells the entries. Assumes nothing.
use Rattle.std.specs.Prelude.{Ok}
use mathlib.Core.Path.{◌≡◌}
use mathlib.Core.List.{List}
use Prim.Native.Nat.{ℕ, ◌*◌, ◌≤◌, ◌<◌}
use borrow.Author.Tests.{lt-ltb}
use lib.ListN.{length}
use Rattle.particle.specs.Record.{record_size, max_records, record_at}
use Rattle.particle.specs.Tree.{records}
use Rattle.particle.specs.Encode.{Faithful}
use Rattle.particle.specs.Rows.{Row, item_start, item_run}
use Rattle.intake.specs.Scan.{alone}
use Rattle.intake.proofs.AcceptedFits.{accepted_row, accepted_faithful}
use Rattle.intake.proofs.Checking.{sized}
use Rattle.entries.specs.Answer.{refusal_alone}
use Rattle.entries.specs.ItemAnswer.{item_bytes, item_place}

-- t is accepted
module _ (t : List ℕ) (e : refusal_alone t ≡ Ok tt) where
  pub whole : Row 1 t
  whole = accepted_row alone t e

  pub whole_faithful : Faithful (records t)
  whole_faithful = accepted_faithful alone t e

  pub whole_few : length t ≤ record_size * max_records
  whole_few = (sized alone t e).few

  -- it has an item k
  module _ (k : ℕ) (l : k < (record_at t).count) where
    pub an_item : (item_bytes k t ≡ item_run k t) × (item_place k t ≡ item_start k t)
    unfolding item_bytes item_place
    an_item = (rw (e, lt-ltb _ _ l), rw (e, lt-ltb _ _ l))

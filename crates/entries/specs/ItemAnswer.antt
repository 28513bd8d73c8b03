-- The k-th item of a tree alone: which bytes it is, and where they start. Assumes nothing: these are definitions.
use Rattle.std.specs.Prelude.{Bool, true, false, List, [], ℕ, ltb, Result, Ok, Err}
use Rattle.particle.specs.Record.{record_at}
use Rattle.particle.specs.Rows.{item_start, item_run}
use Rattle.intake.specs.declared.Fault.{Fault}
use Rattle.entries.specs.Answer.{refusal_alone}

-- of an accepted tree with an item k; else the other
abbrev pub found : {A : Type 0} → Result (Unit {0}) Fault → Bool → A → A → A
found (Err f) below it other = other
found (Ok _) false it other = other
found (Ok _) true it other = it

-- the item's run of records; empty where the tree is refused or k is not below the item count
unfoldable pub item_bytes : ℕ → List ℕ → List ℕ
item_bytes k t = found (refusal_alone t) (ltb k (record_at t).count) (item_run k t) []

-- the byte of t at which it starts; 0 where it is empty
unfoldable pub item_place : ℕ → List ℕ → ℕ
item_place k t = found (refusal_alone t) (ltb k (record_at t).count) (item_start k t) 0

-- What is wrong with one record, in document 01's order: fields, pair, all-group, depth. Assumes nothing: these are definitions.
use Rattle.std.specs.Prelude.{Bool, cond, not, ◌&&◌, ◌||◌, ℕ, eqb, ltb, leb, Result, Ok, Err}
use Rattle.particle.specs.declared.Record.{Record}
use Rattle.intake.specs.declared.Fault.{Fault}
use Rattle.intake.specs.declared.Fault.TheVariants.{Fields, Pair, AllGroup, Depth}
use Rattle.intake.specs.Limits.{max_depth}

-- which leaf numbers there are, by kind
abbrev pub Known : Type 0
Known = (kind leaf : ℕ) → Bool

-- a leaf has a known number and item count 0, a group leaf number 0
abbrev pub leaf_ok : Known → Record → Bool
leaf_ok known r = cond (ltb r.kind 2) (known r.kind r.leaf && eqb r.count 0) (eqb r.leaf 0)

-- the unbounded mark is 0, or 1 with maximum 0
abbrev pub bound_ok : Record → Bool
bound_ok r = eqb r.unbounded 0 || (eqb r.unbounded 1 && eqb r.max 0)

-- the three zero bytes are 0
abbrev pub zeros_ok : Record → Bool
zeros_ok r = eqb r.zero 0 && eqb r.size 0

-- the fields are in order
abbrev pub fields_ok : Known → Record → Bool
fields_ok known r = leb r.kind 4 && (leaf_ok known r && (bound_ok r && zeros_ok r))

-- the minimum is not above a bounded maximum
abbrev pub pair_ok : Record → Bool
pair_ok r = eqb r.unbounded 1 || leb r.min r.max

-- an all-group's maximum is 1, and an all's item is an element
abbrev pub all_ok : Record → (in_all : Bool) → Bool
all_ok r in_all = (not (eqb r.kind 4) || (eqb r.unbounded 0 && eqb r.max 1)) && (not in_all || eqb r.kind 0)

-- the first fault of a record at this depth
abbrev pub fault_of : Known → Record → (depth : ℕ) → (in_all : Bool) → Result (Unit {0}) Fault
fault_of known r depth in_all =
    cond (fields_ok known r) (cond (pair_ok r) (cond (all_ok r in_all) (cond (leb depth max_depth) (Ok tt) (Err Depth)) (Err AllGroup)) (Err Pair)) (Err Fields)

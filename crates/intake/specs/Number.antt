-- The number of each refusal: document 01's 1 to 14, and those of document 02. Assumes nothing: these are definitions.
use Rattle.std.specs.Prelude.{ℕ, ◌+◌}
use Rattle.intake.specs.declared.Fault.{Fault}
use Rattle.intake.specs.declared.Fault.TheVariants.{Fields, Pair, AllGroup, Depth, Counts}
use Rattle.intake.specs.declared.Refusal.{Refusal}
use Rattle.intake.specs.declared.Refusal.TheVariants.{Contents, Buffer, Leaf, Verdict, Base, Derived, Chain, Limit, TypeNumber, TypeTable}

-- a fault's place in the order of the checks: fields, pair, all-group, depth, counts
abbrev pub fault_place : Fault → ℕ
fault_place Fields = 0
fault_place Pair = 1
fault_place AllGroup = 2
fault_place Depth = 3
fault_place Counts = 4

-- a base tree's refusals are 5 to 9, a derived tree's or a tree alone's 10 to 14, a chain's 15, a joined tree's over a limit 16, a type number's 17, a table of types' 18
abbrev pub refusal_number : Refusal → ℕ
refusal_number Contents = 1
refusal_number Buffer = 2
refusal_number Leaf = 3
refusal_number Verdict = 4
refusal_number (Base f) = 5 + fault_place f
refusal_number (Derived f) = 10 + fault_place f
refusal_number Chain = 15
refusal_number Limit = 16
refusal_number TypeNumber = 17
refusal_number TypeTable = 18

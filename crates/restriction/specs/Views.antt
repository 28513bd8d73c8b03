-- What a call of `restrict` sees of its two trees: an element may count with the pair (1,1), a wildcard with the pair (0, unbounded). Assumes nothing: these are definitions.
use Rattle.std.specs.Prelude.{Bool, true, false, ◌&&◌, List, ℕ, eqb}
use Rattle.particle.specs.declared.MaxOccurs.{MaxOccurs}
use Rattle.particle.specs.declared.MaxOccurs.TheVariants.{Bounded, Unbounded}
use Rattle.particle.specs.declared.Occurs.{Occurs}
use Rattle.particle.specs.Occurs.{exactly}
use Rattle.particle.specs.Tree.{Head, element, wildcard, sequence, choice, all, Items, none, item, Particle}
use Rattle.rules.specs.Walk.{◌⟦◌⟧, Judge}
use Rattle.rules.specs.Rule.{any_number}
use Rattle.rules.specs.Mark.{restrict}
use Rattle.verdicts.specs.declared.leaves.Paper.{Paper}
use Rattle.verdicts.specs.Paper.{leaves_of, tables_of}

-- the pair (1,1): an element that has it, or that is wrapped, counts once
abbrev pub is_once_max : MaxOccurs → Bool
is_once_max (Bounded m) = eqb m 1
is_once_max Unbounded = false

abbrev pub is_once : Occurs → Bool
is_once p = eqb p.min 1 && is_once_max p.max

-- the first reading of an element: its pair is the wrapping group's, and it stands there once
abbrev pub once_head : (once : Bool) → Head → Head
once_head true (element l p) = element l (exactly 1)
once_head true (wildcard l p) = wildcard l p
once_head true (sequence p) = sequence p
once_head true (choice p) = choice p
once_head true (all p) = all p
once_head false h = h

abbrev pub as_once : (once : Bool) → Particle → Particle
as_once once x = once_head once x.head ⟦ x.items ⟧

-- each tree of a row
unfoldable pub each_once : (once : Bool) → Items → Items
each_once once none = none
each_once once (item h k r) = item (once_head once h) k (each_once once r)

-- a base wildcard to which a group's member is held
abbrev pub any_head : (any : Bool) → Head → Head
any_head true (element m q) = element m q
any_head true (wildcard m q) = wildcard m any_number
any_head true (sequence q) = sequence q
any_head true (choice q) = choice q
any_head true (all q) = all q
any_head false h = h

abbrev pub as_any : (any : Bool) → Particle → Particle
as_any any y = any_head any y.head ⟦ y.items ⟧

-- the mark of two trees by the leaves and the tables of a sheet with n leaves
abbrev pub judge : (leaves tables : List ℕ) (n : ℕ) → Judge
judge leaves tables n = restrict (leaves_of leaves) (tables_of n tables)

-- by those of the code's `Paper`
abbrev pub paper_judge : Paper → Judge
paper_judge p = judge p.leaves.now p.tables.now p.n

-- the reason where a range isn't within the range of a base group of the same kind: sequences, or choices, whose walk is lax
abbrev pub range_reason : (lax : Bool) → ℕ
range_reason false = 105
range_reason true = 106

-- the same for a base all-group: all-groups, or a derived sequence
abbrev pub all_reason : (all : Bool) → ℕ
all_reason true = 107
all_reason false = 118

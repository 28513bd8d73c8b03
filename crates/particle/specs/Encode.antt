-- A tree's bytes: its records in preorder, each with the number of its items. Assumes nothing: these are definitions.
use Rattle.std.specs.Prelude.{List, [], ◌∷◌, ◌++◌, ◌≡◌, ℕ, ◌<◌}
use Rattle.particle.specs.declared.MaxOccurs.{MaxOccurs}
use Rattle.particle.specs.declared.MaxOccurs.TheVariants.{Bounded, Unbounded}
use Rattle.particle.specs.declared.Record.{Record}
use Rattle.particle.specs.Record.{record_bytes}
use Rattle.particle.specs.Tree.{Head, element, wildcard, sequence, choice, all, Items, none, item, pair_of, head_of, count_i}

abbrev pub kind_number : Head → ℕ
kind_number (element l p) = 0
kind_number (wildcard l p) = 1
kind_number (sequence p) = 2
kind_number (choice p) = 3
kind_number (all p) = 4

-- the leaf number, 0 for a group
abbrev pub leaf_number : Head → ℕ
leaf_number (element l p) = l
leaf_number (wildcard l p) = l
leaf_number (sequence p) = 0
leaf_number (choice p) = 0
leaf_number (all p) = 0

-- the unbounded mark, and the maximum, 0 where the mark is 1
abbrev pub mark_number : MaxOccurs → ℕ
mark_number (Bounded n) = 0
mark_number Unbounded = 1

abbrev pub max_number : MaxOccurs → ℕ
max_number (Bounded n) = n
max_number Unbounded = 0

-- the record of a head with n items
abbrev pub record_of : Head → ℕ → Record
record_of h n = record { kind = kind_number h; leaf = leaf_number h; count = n; unbounded = mark_number (pair_of h).max; zero = 0; size = 0; min = (pair_of h).min; max = max_number (pair_of h).max }

-- the records of trees side by side, in preorder
unfoldable pub flat : Items → List Record
flat none = []
flat (item h k r) = record_of h (count_i k) ∷ (flat k ++ flat r)

-- the bytes of records one after the other
unfoldable pub joined : List Record → List ℕ
joined [] = []
joined (r ∷ rs) = record_bytes r ++ joined rs

unfoldable pub encode : Items → List ℕ
encode x = joined (flat x)

-- every element is a byte
unfoldable pub Bytes : List ℕ → Type 0
Bytes [] = Unit {0}
Bytes (b ∷ bs) = (b < 256) × Bytes bs

-- each record is the one that its head and count give: no field holds more than they say
unfoldable pub Faithful : List Record → Type 0
Faithful [] = Unit {0}
Faithful (r ∷ rs) = (record_of (head_of r) r.count ≡ r) × Faithful rs

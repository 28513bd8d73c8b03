-- Tidying (document 01, 'Tidying'; `normalize` of the Rust). Assumes nothing: these are definitions.
use Rattle.std.specs.Prelude.{Bool, true, false}
use Rattle.particle.specs.Occurs.{is_zero, is_once}
use Rattle.particle.specs.Tree.{Head, element, wildcard, sequence, choice, all, Items, none, item, Particle, pair_of, ◌then◌}

-- h is a (1,1) item of the group g's own kind
abbrev pub splices : (g h : Head) → Bool
splices (element l q) h = false
splices (wildcard l q) h = false
splices (sequence q) h = elim h [ element l p ↦ false | wildcard l p ↦ false | sequence p ↦ is_once p | choice p ↦ false | all p ↦ false ]
splices (choice q) h = elim h [ element l p ↦ false | wildcard l p ↦ false | sequence p ↦ false | choice p ↦ is_once p | all p ↦ false ]
splices (all q) h = false

-- an item among the items of the group g: replaced by its own items, or as it is
abbrev pub put : Head → Particle → Items → Items
put g x rest = elim (splices g x.head) [ true ↦ x.items then rest | false ↦ item x.head x.items rest ]

-- a tidied item among the items of the group g: dropped where its maximum is 0
abbrev pub keep : Head → Particle → Items → Items
keep g x rest = elim (is_zero (pair_of x.head).max) [ true ↦ rest | false ↦ put g x rest ]

-- g is a sequence and h a (1,1) choice
abbrev pub takes_pair : (g h : Head) → Bool
takes_pair (element l q) h = false
takes_pair (wildcard l q) h = false
takes_pair (sequence q) h = elim h [ element l p ↦ false | wildcard l p ↦ false | sequence p ↦ false | choice p ↦ is_once p | all p ↦ false ]
takes_pair (choice q) h = false
takes_pair (all q) h = false

-- a group that is not (1,1), with one item left: a (1,1) choice takes the pair of a sequence
abbrev pub lone : Head → Head → Items → Particle
lone g h k = elim (takes_pair g h) [ true ↦ record { head = choice (pair_of g); items = k } | false ↦ record { head = g; items = item h k none } ]

-- a sequence or choice, from its tidied items: one item left in a (1,1) group takes its place
abbrev pub closed : Head → Items → Particle
closed g none = record { head = g; items = none }
closed g (item h k none) = elim (is_once (pair_of g)) [ true ↦ record { head = h; items = k } | false ↦ lone g h k ]
closed g (item h k (item h' k' r)) = record { head = g; items = item h k (item h' k' r) }

-- the groups whose items are tidied
abbrev pub is_tidied : Head → Bool
is_tidied (element l p) = false
is_tidied (wildcard l p) = false
is_tidied (sequence p) = true
is_tidied (choice p) = true
is_tidied (all p) = false

-- a record, from its items and from its items tidied: leaves and all-groups are not altered
abbrev pub settle : Head → (items tidied : Items) → Particle
settle (element l p) k t = record { head = element l p; items = k }
settle (wildcard l p) k t = record { head = wildcard l p; items = k }
settle (sequence p) k t = closed (sequence p) t
settle (choice p) k t = closed (choice p) t
settle (all p) k t = record { head = all p; items = k }

-- what a group g keeps of its items, each tidied first
unfoldable pub tidy_items : Head → Items → Items
tidy_items g none = none
tidy_items g (item h k r) = keep g (settle h k (tidy_items h k)) (tidy_items g r)

-- the tidied tree; the root is never dropped
unfoldable pub tidy : Particle → Particle
tidy x = settle x.head x.items (tidy_items x.head x.items)

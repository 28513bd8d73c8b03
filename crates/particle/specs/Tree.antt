-- Particle trees, and the trees that records in preorder are. Assumes nothing: these are definitions.
use Rattle.std.specs.Prelude.{List, [], ◌∷◌, ℕ, zero, suc, ◌+◌, ◌/◌, length, drop}
use Rattle.particle.specs.declared.Occurs.{Occurs}
use Rattle.particle.specs.declared.Record.{Record}
use Rattle.particle.specs.Occurs.{exactly}
use Rattle.particle.specs.Record.{record_size, record_at, range_of}

-- what a record says of itself: its kind, a leaf's number, its pair
pub data Head : Type 0 where
  element wildcard : ℕ → Occurs → Head
  sequence choice all : Occurs → Head

-- trees side by side: the first one's head, the first one's items, the later ones
pub data Items : Type 0 where
  none : Items
  item : Head → Items → Items → Items

-- one tree
pub record Particle : Type 0 where
  pub head : Head
  pub items : Items

abbrev pub pair_of : Head → Occurs
pair_of (element l p) = p
pair_of (wildcard l p) = p
pair_of (sequence p) = p
pair_of (choice p) = p
pair_of (all p) = p

-- a tree and nothing beside it
abbrev pub single : Particle → Items
single p = item p.head p.items none

-- the first n trees, and the trees after them
unfoldable pub take_i : ℕ → Items → Items
take_i zero x = none
take_i (suc n) none = none
take_i (suc n) (item h k r) = item h k (take_i n r)

unfoldable pub drop_i : ℕ → Items → Items
drop_i zero x = x
drop_i (suc n) none = none
drop_i (suc n) (item h k r) = drop_i n r

infixr 30 ◌then◌
-- two rows of trees, one after the other
unfoldable pub ◌then◌ : Items → Items → Items
none then y = y
item h k r then y = item h k (r then y)

-- how many trees, and how many records
unfoldable pub count_i : Items → ℕ
count_i none = 0
count_i (item h k r) = suc (count_i r)

unfoldable pub size_i : Items → ℕ
size_i none = 0
size_i (item h k r) = suc (size_i k + size_i r)

-- what f makes of each tree, from its head and what f makes of each of its items
unfoldable pub fold {ℓ} : {A : Type ℓ} → (Head → List A → A) → Items → List A
fold f none = []
fold f (item h k r) = f h (fold f k) ∷ fold f r

-- the kinds' numbers: 0 element, 1 wildcard, 2 sequence, 3 choice, 4 all
abbrev pub head_from : ℕ → ℕ → Occurs → Head
head_from zero l p = element l p
head_from (suc zero) l p = wildcard l p
head_from (suc (suc zero)) l p = sequence p
head_from (suc (suc (suc zero))) l p = choice p
head_from (suc (suc (suc (suc k)))) l p = all p

abbrev pub head_of : Record → Head
head_of r = head_from r.kind r.leaf (range_of r)

-- the trees that records in preorder are: a record's items are as many of the trees after it as its count says
unfoldable pub build : List Record → Items
build [] = none
build (r ∷ rs) = let b = build rs in item (head_of r) (take_i r.count b) (drop_i r.count b)

-- the first n records of t, and all whole ones
unfoldable pub records_n : ℕ → List ℕ → List Record
records_n zero t = []
records_n (suc n) t = record_at t ∷ records_n n (drop record_size t)

unfoldable pub records : List ℕ → List Record
records t = records_n (length t / record_size) t

-- the trees that the bytes t are
unfoldable pub decode : List ℕ → Items
decode t = build (records t)

-- the first tree; where there is none, which no accepted bytes show, an empty sequence
abbrev pub first_of : Items → Particle
first_of none = record { head = sequence (exactly 1); items = none }
first_of (item h k r) = record { head = h; items = k }

-- the tree that t starts with
unfoldable pub tree : List ℕ → Particle
tree t = first_of (decode t)

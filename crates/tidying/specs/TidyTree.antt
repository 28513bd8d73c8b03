-- Tidy trees, sentence by sentence (document 02 §8). Nothing here says how a tree is tidied; `is_tidied` only tells sequences and choices from other records. Assumes nothing: these are definitions.
use Rattle.std.specs.Prelude.{◌≡◌, T}
use Rattle.particle.specs.declared.Occurs.{Occurs}
use Rattle.particle.specs.Occurs.{exactly}
use Rattle.particle.specs.Tree.{Head, sequence, choice, Items, none, item, Particle, pair_of, single, count_i}
use Rattle.particle.specs.Encode.{kind_number}
use Rattle.language.specs.Premises.{NoZeroMaximum}
use Rattle.tidying.specs.Tidy.{is_tidied}

-- a sequence or a choice
abbrev pub Group : Head → Type 0
Group g = T (is_tidied g)

-- Q of the head of each of the trees
abbrev pub EachItem : (Head → Type 0) → Items → Type 0
EachItem Q none = Unit {0}
EachItem Q (item h k r) = Q h × EachItem Q r

-- P of each record of the trees that stands outside all-groups: of its head and its items; a leaf has no items in any accepted tree
abbrev pub EveryOutside : (Head → Items → Type 0) → Items → Type 0
EveryOutside P none = Unit {0}
EveryOutside P (item h k r) = (P h k × (Group h → EveryOutside P k)) × EveryOutside P r

-- P of each record of a tree outside all-groups, and of each such record below its root
abbrev pub Outside : (Head → Items → Type 0) → Particle → Type 0
Outside P x = EveryOutside P (single x)

abbrev pub BelowOutside : (Head → Items → Type 0) → Particle → Type 0
BelowOutside P x = Group x.head → EveryOutside P x.items

-- a (1,1) record
abbrev pub Once : Head → Type 0
Once h = pair_of h ≡ exactly 1

-- a sequence or choice holds no (1,1) item of its own kind
abbrev pub NoOwnKind : Head → Items → Type 0
NoOwnKind g k = Group g → EachItem (λ h. kind_number h ≡ kind_number g → ¬ (Once h)) k

-- a (1,1) sequence or choice does not hold exactly one item
abbrev pub NoLoneItem : Head → Items → Type 0
NoLoneItem g k = Group g → Once g → ¬ (count_i k ≡ 1)

-- a sequence does not hold one (1,1) choice alone: the sentence that document 02 does not have, and that tidying leaves true too
abbrev pub NoLoneChoice : Head → Items → Type 0
NoLoneChoice g k = (q : Occurs) (t : Items) → g ≡ sequence q → ¬ (k ≡ item (choice (exactly 1)) t none)

-- a tidy tree
pub record TidyTree (x : Particle) : Type 0 where
  -- below its root, outside all-groups, it has no item of maximum 0
  pub no_zero : BelowOutside NoZeroMaximum x
  -- no sequence or choice holds a (1,1) item of its own kind
  pub no_own_kind : Outside NoOwnKind x
  -- no (1,1) sequence or choice holds exactly one item
  pub no_lone_item : Outside NoLoneItem x
  -- no sequence holds one (1,1) choice alone
  pub no_lone_choice : Outside NoLoneChoice x

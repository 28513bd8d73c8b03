-- The rules over several items: the ordered walk, each member, alternatives, base elements taken by name. They are parametric in what marks two items. Assumes nothing: these are definitions.
use Rattle.std.specs.Prelude.{Bool, true, false, ◌||◌, ℕ, eqb}
use Rattle.particle.specs.declared.Occurs.{Occurs}
use Rattle.particle.specs.Tree.{Head, element, wildcard, sequence, choice, all, Items, none, item, Particle, pair_of}
use Rattle.particle.specs.Empty.{optional, emptiable}
use Rattle.rules.specs.Verdicts.{Mark, passes, undecided, fails, Leaves, Tables}
use Rattle.rules.specs.Combine.{◌and_then◌, ◌or_else◌}
use Rattle.rules.specs.Element.{element_restrict}

infix 50 ◌⟦◌⟧
-- a tree from its head and its items, as document 01 writes S(2,3)[a,b]
abbrev pub ◌⟦◌⟧ : Head → Items → Particle
h ⟦ k ⟧ = record { head = h; items = k }

-- what marks two trees, the derived one first
abbrev pub Judge : Type 0
Judge = (derived base : Particle) → Mark

-- base items used up: 120 where derived items are left
abbrev pub used_up : (derived : Items) → Mark
used_up none = passes
used_up (item h k r) = fails 120

-- base items left over in a walk that is not lax: 121 where one is not emptiable
unfoldable pub left_over : (base : Items) → Mark
left_over none = passes
left_over (item h k r) = elim (emptiable (h ⟦ k ⟧)) [ true ↦ left_over r | false ↦ fails 121 ]

module _ (J : Judge) where
  -- The ordered walk (`recurse_ordered`), lax or not: a derived item is tried on base items in turn.
  -- Passes or undecided: both advance, and after an undecided item the walk is undecided, whatever follows.
  -- Fails: the base item is skipped if the walk is lax or the item emptiable, else that reason.
  unfoldable pub recurse_ordered : (lax : Bool) (derived base : Items) → Mark
  recurse_ordered lax ds none = used_up ds
  recurse_ordered lax none (item hb kb rb) = elim lax [ true ↦ passes | false ↦ left_over (item hb kb rb) ]
  recurse_ordered lax (item hd kd rd) (item hb kb rb) = elim (J (hd ⟦ kd ⟧) (hb ⟦ kb ⟧)) [
    | passes ↦ recurse_ordered lax rd rb
    | undecided ↦ undecided
    | fails r ↦ elim (lax || emptiable (hb ⟦ kb ⟧)) [ true ↦ recurse_ordered lax (item hd kd rd) rb | false ↦ fails r ]
  ]

  -- a tree against the alternatives in order, with the reason for none
  unfoldable pub alternatives : (reason : ℕ) → Particle → (base : Items) → Mark
  alternatives reason x none = fails reason
  alternatives reason x (item h k r) = J x (h ⟦ k ⟧) or_else alternatives reason x r

-- each member in turn, where f marks one
unfoldable pub each_member : (f : Particle → Mark) → (derived : Items) → Mark
each_member f none = passes
each_member f (item h k r) = f (h ⟦ k ⟧) and_then each_member f r

-- what is found among the untaken base items: nothing, or an element, by its leaf and pair, and the items without it
pub data Found : Type 0 where
  absent : Found
  found : (leaf : ℕ) → Occurs → (others : Items) → Found

-- the same where an item stands before them
abbrev pub behind : Head → Items → Found → Found
behind h k absent = absent
behind h k (found m q others) = found m q (item h k others)

module _ (L : Leaves) where
  -- the first of the untaken base items that is an element of local name number n
  unfoldable pub take_named : (name : ℕ) → (base : Items) → Found
  take_named n none = absent
  take_named n (item (element m q) k r) = elim (eqb (L.local_name m) n) [ true ↦ found m q r | false ↦ behind (element m q) k (take_named n r) ]
  take_named n (item (wildcard m q) k r) = behind (wildcard m q) k (take_named n r)
  take_named n (item (sequence q) k r) = behind (sequence q) k (take_named n r)
  take_named n (item (choice q) k r) = behind (choice q) k (take_named n r)
  take_named n (item (all q) k r) = behind (all q) k (take_named n r)

-- at the end: 109 where an untaken base element has a minimum above 0
unfoldable pub untaken : (base : Items) → Mark
untaken none = passes
untaken (item h k r) = elim (optional (pair_of h)) [ true ↦ untaken r | false ↦ fails 109 ]

module _ (L : Leaves) (T : Tables) where
  -- All, all and sequence, all: each derived item takes the first untaken base element of its local name number, none 108; an item that is no element 119; then the element verdict.
  unfoldable pub recurse_unordered : (derived base : Items) → Mark
  recurse_unordered none bs = untaken bs
  recurse_unordered (item (element l p) k r) bs = elim (take_named L (L.local_name l) bs) [
    | absent ↦ fails 108
    | found m q others ↦ element_restrict T l p m q and_then recurse_unordered r others
  ]
  recurse_unordered (item (wildcard l p) k r) bs = fails 119
  recurse_unordered (item (sequence p) k r) bs = fails 119
  recurse_unordered (item (choice p) k r) bs = fails 119
  recurse_unordered (item (all p) k r) bs = fails 119

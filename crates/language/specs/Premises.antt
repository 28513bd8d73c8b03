-- What demand 3 and the facts on tidying suppose of a tree. Assumes nothing: these are definitions.
use Rattle.std.specs.Prelude.{◌≡◌}
use Rattle.particle.specs.declared.MaxOccurs.TheVariants.{Bounded}
use Rattle.particle.specs.Tree.{Head, element, wildcard, sequence, choice, all, Items, none, item, Particle, pair_of}
use Rattle.language.specs.Language.{AtMost}

-- P of each record of the trees: of its head and its items
abbrev pub Every : (Head → Items → Type 0) → Items → Type 0
Every P none = Unit {0}
Every P (item h k r) = (P h k × Every P k) × Every P r

-- P of each record below a tree's root
abbrev pub BelowRoot : (Head → Items → Type 0) → Particle → Type 0
BelowRoot P x = Every P x.items

-- P of each record of a tree, root or below
abbrev pub Throughout : (Head → Items → Type 0) → Particle → Type 0
Throughout P x = P x.head x.items × BelowRoot P x

-- no zero maximum: no record whose maximum is bounded and 0
abbrev pub NoZeroMaximum : Head → Items → Type 0
NoZeroMaximum h k = ¬ ((pair_of h).max ≡ Bounded 0)

-- no empty choice: no choice without items
abbrev pub NoEmptyChoice : Head → Items → Type 0
NoEmptyChoice (element l p) k = Unit {0}
NoEmptyChoice (wildcard l p) k = Unit {0}
NoEmptyChoice (sequence p) k = Unit {0}
NoEmptyChoice (choice p) k = ¬ (k ≡ none)
NoEmptyChoice (all p) k = Unit {0}

-- a pair in order, as every accepted record has: the minimum is not above the maximum
abbrev pub Ordered : Head → Items → Type 0
Ordered h k = AtMost (pair_of h).min (pair_of h).max

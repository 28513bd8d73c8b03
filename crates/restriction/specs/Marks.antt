-- The two marks of an element against a base sequence or choice, counting once and with its own pair, and the walk of one element, item by item. Assumes nothing: these are definitions.
use Rattle.std.specs.Prelude.{Bool, true, false, ◌||◌, ◌≡◌, Option, None, Some}
use Rattle.particle.specs.declared.Occurs.{Occurs}
use Rattle.particle.specs.Occurs.{range_ok, exactly}
use Rattle.particle.specs.Tree.{Items, Particle, single}
use Rattle.rules.specs.Verdicts.{Mark, passes, undecided, fails}
use Rattle.rules.specs.Combine.{◌or_fails◌, ◌and_then◌, combine_readings}
use Rattle.rules.specs.Walk.{Judge, recurse_ordered, alternatives}
use Rattle.rules.specs.Rule.{base_once}
use Rattle.verdicts.specs.declared.Verdict.{Verdict}
use Rattle.verdicts.specs.Reasons.{mark_of}
use Rattle.restriction.specs.declared.marks.Marks.{Marks}

abbrev pub BothMarks : Marks → (once own : Mark) → Type 0
BothMarks r once own = (mark_of r.once ≡ once) × (mark_of r.own ≡ own)

-- x is the element counting once, y the element with its pair p; b are the items of the base group of pair q
module _ (J : Judge) (p q : Occurs) (x y : Particle) (b : Items) where
  abbrev pub sequence_mark : Mark
  sequence_mark = combine_readings (range_ok p q or_fails 105 and_then recurse_ordered J false (single x) b) (base_once q 110 and_then recurse_ordered J false (single y) b)

  abbrev pub choice_mark : Mark
  choice_mark = combine_readings (range_ok p q or_fails 106 and_then recurse_ordered J true (single x) b) (base_once q 112 and_then alternatives J 111 y b)

-- what they come to where the element counts once (`once_sequence`, `once_choice`)
module _ (J : Judge) (q : Occurs) (x : Particle) (b : Items) where
  abbrev pub sequence_once : Mark
  sequence_once = range_ok (exactly 1) q or_fails 105 and_then recurse_ordered J false (single x) b

  abbrev pub choice_once : Mark
  choice_once = range_ok (exactly 1) q or_fails 106 and_then alternatives J 120 x b

-- where the walk of one element stands: it goes on with the items left, or it has come to a mark
pub data Stands : Type 0 where
  on : Stands
  ended : Mark → Stands

abbrev pub standing : Option Verdict → Stands
standing None = on
standing (Some v) = ended (mark_of v)

-- one step: m is the element's mark at an item, `empty` whether that is emptiable, `over` what the items after it say where they are left over
abbrev pub walked_on : Stands → (m : Mark) (lax empty : Bool) (over : Mark) → Stands
walked_on (ended k) m lax empty over = ended k
walked_on on passes lax empty over = ended (elim lax [ true ↦ passes | false ↦ over ])
walked_on on undecided lax empty over = ended undecided
walked_on on (fails r) lax empty over = elim (lax || empty) [ true ↦ on | false ↦ ended (fails r) ]

-- where no item is left
abbrev pub came_to : Stands → Mark
came_to on = fails 120
came_to (ended k) = k

-- later items change neither mark: both walks have ended, or the wrapped reading passes
abbrev pub settled_at : (within : Bool) (once own : Stands) → Bool
settled_at within on own = false
settled_at within (ended k) (ended l) = true
settled_at within (ended passes) on = within
settled_at within (ended undecided) on = false
settled_at within (ended (fails r)) on = false

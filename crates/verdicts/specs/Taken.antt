-- Base items by flags, one for each item, true where it is taken; and what taking one by its name answers and marks. Assumes nothing: these are definitions.
use Rattle.std.specs.Prelude.{Bool, true, false, List, [], ◌∷◌, ◌≡◌, ℕ, eqb, Option, None, Some}
use Rattle.particle.specs.declared.Occurs.{Occurs}
use Rattle.particle.specs.Tree.{Head, element, wildcard, sequence, choice, all, Items, none, item}
use Rattle.rules.specs.Verdicts.{Leaves, Tables}
use Rattle.rules.specs.Combine.{◌and_then◌}
use Rattle.rules.specs.Walk.{Found, absent, found, recurse_unordered}
use Rattle.verdicts.specs.declared.Verdict.{Verdict}
use Rattle.verdicts.specs.Reasons.{mark_of}

-- the items that are not taken
unfoldable pub untaken_items : (matched : List Bool) → Items → Items
untaken_items [] x = x
untaken_items (f ∷ fs) none = none
untaken_items (true ∷ fs) (item h k r) = untaken_items fs r
untaken_items (false ∷ fs) (item h k r) = item h k (untaken_items fs r)

-- an element of this local name number
abbrev pub has_name : Leaves → (name : ℕ) → Head → Bool
has_name L name (element m q) = eqb (L.local_name m) name
has_name L name (wildcard m q) = false
has_name L name (sequence q) = false
has_name L name (choice q) = false
has_name L name (all q) = false

-- what `take_named` answers, and the items that it leaves untaken
abbrev pub found_of : Option (ℕ × Occurs) → (others : Items) → Found
found_of None others = absent
found_of (Some e) others = found e.0 e.1 others

-- v is the mark of a derived item of head h against the base items: this mark, and then the later items against what it leaves untaken, is the mark of all.
-- The flags were fs and are es.
pub record MemberMark (L : Leaves) (T : Tables) (h : Head) (base : Items) (fs es : List Bool) (v : Verdict) : Type 0 where
  pub goes_on : (k later : Items) → mark_of v and_then recurse_unordered L T later (untaken_items es base) ≡ recurse_unordered L T (item h k later) (untaken_items fs base)

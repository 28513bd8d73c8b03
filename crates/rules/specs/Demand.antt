-- Demand 3 over the rules: what its two halves state. Assumes nothing: these are definitions.
use Rattle.std.specs.Prelude.{Bool, true, false, List, ◌≡◌, ℕ, ◌≤◌, ◌<◌}
use Rattle.particle.specs.Tree.{Head, element, wildcard, sequence, choice, all, Particle}
use Rattle.language.specs.Language.{Names, Allows}
use Rattle.language.specs.Premises.{BelowRoot, Throughout, NoZeroMaximum, NoEmptyChoice, Ordered}
use Rattle.rules.specs.Verdicts.{Mark, passes, undecided, fails, Leaves, Tables}
use Rattle.rules.specs.Mark.{mark}

-- First half: filling in ---------------------------------------------------------------

-- A verdict of a table before and after: left as it was; or undecided before, and now ok or a reason from 140 to 152.
pub data FilledVerdict : (before after : Mark) → Type 0 where
  unchanged : {v : Mark} → FilledVerdict v v
  filled_ok : FilledVerdict undecided passes
  filled_reason : {r : ℕ} → 140 ≤ r → r ≤ 152 → FilledVerdict undecided (fails r)

-- T' is T filled in: any of the undecided verdicts of either table are replaced, each by its own choice.
pub record FilledIn (T T' : Tables) : Type 0 where
  pub first : (l m : ℕ) → FilledVerdict (T.first l m) (T'.first l m)
  pub second : (l m : ℕ) → FilledVerdict (T.second l m) (T'.second l m)

-- Filling in leaves a pass a pass, and a failure the same failure with the same reason.
abbrev pub FillingKeepsMarks : Type 0
FillingKeepsMarks = (L : Leaves) (T T' : Tables) → FilledIn T T' → (d b : Particle)
    → (mark L T d b ≡ passes → mark L T' d b ≡ passes) × ((r : ℕ) → mark L T d b ≡ fails r → mark L T' d b ≡ fails r)

-- Second half: what a pass means --------------------------------------------------------

-- The verdicts that apply to two leaves are all ok: both tables' for two elements, the second's for a base wildcard. A wildcard against an element is left out.
abbrev pub AllOk : (derived_is_wildcard base_is_wildcard : Bool) → (first second : Mark) → Type 0
AllOk false false f s = (f ≡ passes) × (s ≡ passes)
AllOk false true f s = s ≡ passes
AllOk true false f s = ⊥
AllOk true true f s = s ≡ passes

-- For each two leaves of the sheet, the first as derived and the second as base: where the verdicts that apply are all ok, the derived leaf's names are among the base leaf's.
abbrev pub NamesAmong : Leaves → Tables → (derived base : Names) → Type 0
NamesAmong L T derived base = (l m : ℕ) → l < L.count → m < L.count → AllOk (L.is_wildcard l) (L.is_wildcard m) (T.first l m) (T.second l m)
    → (x : ℕ) → derived l x → base m x

-- A leaf's number is one of the sheet's, and of the record's kind.
abbrev pub LeafKnown : Leaves → Head → Type 0
LeafKnown L (element l p) = (l < L.count) × (L.is_wildcard l ≡ false)
LeafKnown L (wildcard l p) = (l < L.count) × (L.is_wildcard l ≡ true)
LeafKnown L (sequence p) = Unit {0}
LeafKnown L (choice p) = Unit {0}
LeafKnown L (all p) = Unit {0}

-- What is supposed of each of the two trees, as handed in. That it is accepted gives the first two: else refusal 5 or 10, and 6 or 11.
-- Document 02 §5 supposes the last two: 'no empty choice and no zero maximum below a root; the roots may now have it'.
pub record Supposed (L : Leaves) (x : Particle) : Type 0 where
  pub leaves_known : Throughout (λ h k. LeafKnown L h) x
  pub ordered : Throughout Ordered x
  pub no_empty_choice : Throughout NoEmptyChoice x
  pub no_zero_below : BelowRoot NoZeroMaximum x

-- What of it is needed of the derived tree, and of the base tree.
pub record NeededDerived (L : Leaves) (x : Particle) : Type 0 where
  pub leaves_known : Throughout (λ h k. LeafKnown L h) x
  pub no_zero_below : BelowRoot NoZeroMaximum x

pub record NeededBase (L : Leaves) (x : Particle) : Type 0 where
  pub leaves_known : Throughout (λ h k. LeafKnown L h) x
  pub ordered : Throughout Ordered x
  pub no_empty_choice : Throughout NoEmptyChoice x

-- Of a derived tree as D says and a base tree as B says: where the mark is a pass, every sequence of names that the derived tree allows is allowed by the base tree, whatever sets of names the leaves
-- have as derived and as base.
abbrev pub PassesIncludes : (D B : Leaves → Particle → Type 0) → Type 1
PassesIncludes D B = (L : Leaves) (T : Tables) (derived base : Names) → NamesAmong L T derived base
    → (d b : Particle) → D L d → B L b → mark L T d b ≡ passes
    → (w : List ℕ) → Allows derived d w → Allows base b w

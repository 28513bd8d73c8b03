-- The reasons that a mark shows. Assumes nothing: these are definitions.
use Rattle.std.specs.Prelude.{Bool, true, ◌&&◌, ◌||◌, ◌≡◌, ℕ, ◌≤◌, leb}
use Rattle.particle.specs.Tree.{Particle}
use Rattle.rules.specs.Verdicts.{Mark, passes, undecided, fails, Leaves, Tables}
use Rattle.rules.specs.Mark.{mark}

-- A reason of the rules, 101 to 125, but none of the second reading's, 110 to 112 and 125; or 'a reason that the paper sets', 140 to 152.
abbrev pub can_show : (reason : ℕ) → Bool
can_show r = (leb 101 r && leb r 109) || (leb 113 r && leb r 124) || (leb 140 r && leb r 152)

-- A verdict as a sheet has it: '0 ok, 1 undecided, 140..=152 a reason that the paper sets'.
abbrev pub OfPaper : (verdict : Mark) → Type 0
OfPaper passes = Unit {0}
OfPaper undecided = Unit {0}
OfPaper (fails r) = (140 ≤ r) × (r ≤ 152)

pub record PaperVerdicts (T : Tables) : Type 0 where
  pub first : (l m : ℕ) → OfPaper (T.first l m)
  pub second : (l m : ℕ) → OfPaper (T.second l m)

-- Where the mark is a failure, its reason is one of these. So it is never 110, 111, 112 or 125: 'two failures give the first's reason'.
abbrev pub ReasonsShown : Type 0
ReasonsShown = (L : Leaves) (T : Tables) → PaperVerdicts T → (d b : Particle) (r : ℕ) → mark L T d b ≡ fails r → can_show r ≡ true

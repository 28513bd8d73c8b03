-- One check after another: the code's verdicts against the marks that combine them. Assumes nothing.
use mathlib.Core.Bool.{Bool, true, false}
use mathlib.Core.Path.{◌≡◌, refl, ap, ◌∙◌}
use Rattle.rules.specs.Verdicts.{Mark, undecided}
use Rattle.rules.specs.Combine.{◌and_then◌}
use Rattle.verdicts.specs.declared.Verdict.{Verdict}
use Rattle.verdicts.specs.declared.Verdict.TheVariants.{Ok, Unknown, Violation}
use Rattle.verdicts.specs.Reasons.{mark_of, definite_of}

-- the other variants, as a `let .. else` tells them
abbrev pub NotOk : Verdict → Type 0
NotOk v = v ≡ Ok → ⊥

-- v stands for the first mark, which ends it or not
module _ {m : Mark} (rest : Mark) where
  pub ended : (v : Verdict) → mark_of v ≡ m → NotOk v → mark_of v ≡ m and_then rest
  ended v e t = go v t ∙ ap (λ (x : Mark). x and_then rest) e
    where
      go : (v : Verdict) → NotOk v → mark_of v ≡ mark_of v and_then rest
      go Ok t = absurd (t refl)
      go Unknown t = refl
      go (Violation r) t = refl

-- an undecided item is as good as one that was seen before
pub now_seen : (seen : Bool) → definite_of seen undecided ≡ undecided
now_seen true = refl
now_seen false = refl

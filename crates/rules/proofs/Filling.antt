-- Demand 3, first half: filling in undecided verdicts keeps a pass, and a failure with its reason. Assumes nothing.
use mathlib.Core.Path.{◌≡◌, refl, ◌∙◌}
use Prim.Native.Nat.{ℕ}
use native.Mathlib.Omega.{arith}
use Rattle.particle.specs.Tree.{Particle}
use Rattle.tidying.specs.Tidy.{tidy}
use Rattle.rules.specs.Verdicts.{Mark, passes, undecided, Leaves, Tables}
use Rattle.rules.specs.Mark.{early_pass, steps, restrict, mark_tidied, mark}
use Rattle.rules.specs.Demand.{FilledVerdict, unchanged, filled_ok, filled_reason, FilledIn, FillingKeepsMarks}
use Rattle.rules.proofs.Settles.{◌⊑◌, stays, settled, test_settles}
use Rattle.rules.proofs.RuleSettles.{TablesSettle}
use Rattle.rules.proofs.Unfolds.{steps_enough, enough}

verdict_settles : {v v' : Mark} → FilledVerdict v v' → v ⊑ v'
verdict_settles unchanged = stays
verdict_settles filled_ok = settled
verdict_settles (filled_reason l h) = settled

tables_settle : {T T' : Tables} → FilledIn T T' → TablesSettle T T'
tables_settle F = record { first = λ l m. verdict_settles (F.first l m); second = λ l m. verdict_settles (F.second l m) }

mark_settles : (L : Leaves) (T T' : Tables) → TablesSettle T T' → (d b : Particle) → mark L T d b ⊑ mark L T' d b
unfolding mark mark_tidied restrict
mark_settles L T T' F d b =
    let x = tidy d in
    let y = tidy b in
    test_settles (early_pass x y) {m = passes} stays (enough L T T' F (steps x y) (steps x y) x y (steps_enough x y) (steps_enough x y))

-- what a definite mark settles to
settled_definite : {m n : Mark} → m ⊑ n → ¬ (m ≡ undecided) → n ≡ m
settled_definite stays d = refl
settled_definite settled d = absurd (d refl)

pub filled_keeps : FillingKeepsMarks
filled_keeps L T T' F d b =
    let s = mark_settles L T T' (tables_settle F) d b in
    (λ e. settled_definite s (λ u. let z : ◌≡◌ {A = ℕ} 0 1 = cc in omega arith) ∙ e, λ r e. settled_definite s (λ u. let z : ◌≡◌ {A = ℕ} 0 1 = cc in omega arith) ∙ e)

-- `mark_unfolds`: the mark is the rule's, at the mark itself. No number of steps is left in it. Assumes nothing.
use mathlib.Core.Path.{◌≡◌}
use Prim.Native.Nat.{ℕ, zero, suc, ◌+◌, ◌*◌, ◌<◌}
use native.Mathlib.Omega.{arith}
use Rattle.particle.specs.Tree.{Head, Items, none, item, Particle, single, size_i}
use Rattle.rules.specs.Verdicts.{Leaves, Tables}
use Rattle.rules.specs.Walk.{◌⟦◌⟧}
use Rattle.rules.specs.Rule.{rule}
use Rattle.rules.specs.Mark.{steps, restrict_to, restrict}
use Rattle.rules.proofs.Settles.{◌⊑◌, stays, settled, antisym}
use Rattle.rules.proofs.RuleSettles.{Kept, Of, OfEach, TablesSettle, weight, pending_most, rule_settles}

pub tables_stay : (T : Tables) → TablesSettle T T
tables_stay T = record { first = λ l m. stays; second = λ l m. stays }

-- nothing is supposed of the heads
abbrev any_head : Head → Type 0
any_head h = Unit {0}

any_kept : Kept any_head
any_kept = record { counted = λ l p o. tt; in_sequence = λ p. tt; in_choice = λ p. tt }

any_row : (k : Items) → OfEach any_head k
any_row none = tt
any_row (item h k r) = ((tt, any_row k), any_row r)

any_tree : (x : Particle) → Of any_head x
any_tree x = (tt, any_row x.items)

-- steps that exceed the weight are enough: more make no difference
pub enough : (L : Leaves) (T T' : Tables) → TablesSettle T T' → (n n' : ℕ) (d b : Particle) → weight d b < n → weight d b < n' → restrict_to L T n d b ⊑ restrict_to L T' n' d b
unfolding restrict_to
enough L T T' F zero n' d b f f' = settled
enough L T T' F (suc n) zero d b f f' = absurd (omega arith)
enough L T T' F (suc n) (suc n') d b f f' =
    rule_settles L T T' F any_head any_kept (restrict_to L T n) (restrict_to L T' n') d.head d.items b.head b.items (any_tree d) (λ x y o g. enough L T T' F n n' x y (omega arith) (omega arith))

-- the steps of `restrict` do
pub steps_enough : (d b : Particle) → weight d b < steps d b
unfolding weight size_i
steps_enough d b = omega (arith, pending_most d.head b.head)

-- The mark of two tidied trees, the early pass aside, is the rule applied to the mark itself.
pub mark_unfolds : (L : Leaves) (T : Tables) (d : Head) (di : Items) (b : Head) (bi : Items) → restrict L T (d ⟦ di ⟧) (b ⟦ bi ⟧) ≡ rule L T (restrict L T) d di b bi
unfolding restrict restrict_to
mark_unfolds L T d di b bi =
    let x = d ⟦ di ⟧ in
    let y = b ⟦ bi ⟧ in
    let n = 2 * (size_i (single x) + size_i (single y)) in
    antisym
    (rule_settles L T T (tables_stay T) any_head any_kept (restrict_to L T n) (restrict L T) d di b bi (any_tree x) (λ u v o g. enough L T T (tables_stay T) n (steps u v) u v (omega (arith, steps_enough x y)) (steps_enough u v)))
    (rule_settles L T T (tables_stay T) any_head any_kept (restrict L T) (restrict_to L T n) d di b bi (any_tree x) (λ u v o g. enough L T T (tables_stay T) (steps u v) n u v (steps_enough u v) (omega (arith, steps_enough x y))))

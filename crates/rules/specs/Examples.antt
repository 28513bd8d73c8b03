-- Document 01's examples that are to be proved (its 'P' examples), in its notation, as document 02 has changed them. Assumes nothing: these are definitions.
use Rattle.std.specs.Prelude.{List, [], ◌∷◌, ◌≡◌, ℕ, eqb}
use Rattle.particle.specs.declared.MaxOccurs.TheVariants.{Bounded}
use Rattle.particle.specs.declared.Occurs.{Occurs}
use Rattle.particle.specs.Occurs.{exactly}
use Rattle.particle.specs.Tree.{element, wildcard, sequence, choice, all, Items, none, item, Particle}
use Rattle.totals.specs.declared.ranges.TotalMin.TheVariants as least
use Rattle.totals.specs.declared.ranges.TotalMax.TheVariants as most
use Rattle.totals.specs.declared.ranges.TotalRange.{TotalRange}
use Rattle.totals.specs.Total.{total}
use Rattle.tidying.specs.Tidy.{tidy}
use Rattle.rules.specs.Verdicts.{Mark, passes, undecided, fails, Leaves, Tables}
use Rattle.rules.specs.Combine.{◌or_fails◌}
use Rattle.rules.specs.Walk.{◌⟦◌⟧}
use Rattle.rules.specs.Mark.{mark}

-- The notation: a, b, c elements and w a wildcard, each with its pair; S, C, A groups, with their pair and items ---------

abbrev pub pair : ℕ → ℕ → Occurs
pair low high = record { min = low; max = Bounded high }

-- no pair means (1,1)
abbrev pub once : Occurs
once = exactly 1

abbrev pub a : Occurs → Particle
a p = element 0 p ⟦ none ⟧

abbrev pub b : Occurs → Particle
b p = element 1 p ⟦ none ⟧

abbrev pub c : Occurs → Particle
c p = element 2 p ⟦ none ⟧

abbrev pub w : Occurs → Particle
w p = wildcard 3 p ⟦ none ⟧

abbrev pub row : List Particle → Items
row [] = none
row (x ∷ xs) = item x.head x.items (row xs)

abbrev pub S : Occurs → List Particle → Particle
S p xs = sequence p ⟦ row xs ⟧

abbrev pub C : Occurs → List Particle → Particle
C p xs = choice p ⟦ row xs ⟧

abbrev pub A : Occurs → List Particle → Particle
A p xs = all p ⟦ row xs ⟧

-- the sheet of the examples: equal letters ok, others 140
abbrev pub letters : Leaves
letters = record { count = 4; is_wildcard = λ l. eqb l 3; strength = λ l. 0; local_name = λ l. l }

abbrev pub equal_letters : Tables
equal_letters = record { first = λ l m. eqb l m or_fails 140; second = λ l m. eqb l m or_fails 140 }

-- The examples ---------------------------------------------------------------------------------------------------------

-- d | b and its mark; a tree and its total range; a tree and the tidied tree
pub data Example : Type 0 where
  marked : (derived base : Particle) → Mark → Example
  totals : Particle → TotalRange → Example
  tidied : (tree result : Particle) → Example

abbrev pub Holds : Example → Type 0
Holds (marked d b m) = mark letters equal_letters d b ≡ m
Holds (totals x range) = total x ≡ range
Holds (tidied x y) = tidy x ≡ y

abbrev pub AllHold : List Example → Type 0
AllHold [] = Unit {0}
AllHold (e ∷ es) = Holds e × AllHold es

abbrev pub examples : List Example
examples =
    -- a | a(0,1): passes
    marked (a once) (a (pair 0 1)) passes
    -- a(0,1) | a: 122
    ∷ marked (a (pair 0 1)) (a once) (fails 122)
    -- S[a,b] | S[a,c(0,1),b]: passes; with c: 140
    ∷ marked (S once (a once ∷ b once ∷ [])) (S once (a once ∷ c (pair 0 1) ∷ b once ∷ [])) passes
    ∷ marked (S once (a once ∷ b once ∷ [])) (S once (a once ∷ c once ∷ b once ∷ [])) (fails 140)
    -- a | S(0,0)[a]: 105, the first reading's reason (document 02 §5)
    ∷ marked (a once) (S (pair 0 0) (a once ∷ [])) (fails 105)
    -- C[] | C[a,b]: passes
    ∷ marked (C once []) (C once (a once ∷ b once ∷ [])) passes
    -- S(2,2)[a,b] | C(4,4)[a,b]: passes; C(1,3): 116
    ∷ marked (S (pair 2 2) (a once ∷ b once ∷ [])) (C (pair 4 4) (a once ∷ b once ∷ [])) passes
    ∷ marked (S (pair 2 2) (a once ∷ b once ∷ [])) (C (pair 1 3) (a once ∷ b once ∷ [])) (fails 116)
    -- S[a,b] | w(0,1): 113
    ∷ marked (S once (a once ∷ b once ∷ [])) (w (pair 0 1)) (fails 113)
    -- a | A[a]: undecided
    ∷ marked (a once) (A once (a once ∷ [])) undecided
    -- S(0,0)[a] | a: 105
    ∷ marked (S (pair 0 0) (a once ∷ [])) (a once) (fails 105)
    -- totals: S(65535,65535)[a(65537,65537)] gives 4294967295 twice; 65536 in both places is too large twice (document 02 §2)
    ∷ totals (S (exactly 65535) (a (exactly 65537) ∷ [])) (record { min = least.Exact 4294967295; max = most.Bounded 4294967295 })
    ∷ totals (S (exactly 65536) (a (exactly 65536) ∷ [])) (record { min = least.TooLarge; max = most.TooLarge })
    -- tidy S(2,3)[C[a,b]] is C(2,3)[a,b]
    ∷ tidied (S (pair 2 3) (C once (a once ∷ b once ∷ []) ∷ [])) (C (pair 2 3) (a once ∷ b once ∷ []))
    ∷ []

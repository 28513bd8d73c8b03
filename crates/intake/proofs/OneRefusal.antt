-- No two refusals have one number: the refusal is found again from it. Assumes nothing.
use mathlib.Core.Bool.{cond}
use mathlib.Core.List.{List, [], ◌∷◌}
use mathlib.Core.Path.{◌≡◌, refl, ap, sym, ◌∙◌}
use Prim.Native.Nat.{ℕ}
use lib.Dec.{eqb}
use Rattle.intake.specs.declared.Fault.TheVariants.{Fields, Pair, AllGroup, Depth, Counts}
use Rattle.intake.specs.declared.Refusal.{Refusal}
use Rattle.intake.specs.declared.Refusal.TheVariants.{Contents, Buffer, Leaf, Verdict, Base, Derived, Chain, Limit, TypeNumber, TypeTable}
use Rattle.intake.specs.Number.{refusal_number}

-- the first of a list that has this number
unfoldable pub numbered : {A : Type 0} → (A → ℕ) → (otherwise : A) → List A → ℕ → A
numbered number otherwise [] n = otherwise
numbered number otherwise (x ∷ xs) n = cond (eqb (number x) n) x (numbered number otherwise xs n)

-- every refusal, in the order of documents 01 and 02
abbrev pub refusals : List Refusal
refusals =
    Contents ∷ Buffer ∷ Leaf ∷ Verdict
    ∷ Base Fields ∷ Base Pair ∷ Base AllGroup ∷ Base Depth ∷ Base Counts
    ∷ Derived Fields ∷ Derived Pair ∷ Derived AllGroup ∷ Derived Depth ∷ Derived Counts
    ∷ Chain ∷ Limit ∷ TypeNumber ∷ TypeTable
    ∷ []

abbrev pub refusal_of : ℕ → Refusal
refusal_of n = numbered refusal_number Contents refusals n

pub refusal_back : (r : Refusal) → refusal_of (refusal_number r) ≡ r
unfolding numbered
refusal_back Contents = refl
refusal_back Buffer = refl
refusal_back Leaf = refl
refusal_back Verdict = refl
refusal_back (Base Fields) = refl
refusal_back (Base Pair) = refl
refusal_back (Base AllGroup) = refl
refusal_back (Base Depth) = refl
refusal_back (Base Counts) = refl
refusal_back (Derived Fields) = refl
refusal_back (Derived Pair) = refl
refusal_back (Derived AllGroup) = refl
refusal_back (Derived Depth) = refl
refusal_back (Derived Counts) = refl
refusal_back Chain = refl
refusal_back Limit = refl
refusal_back TypeNumber = refl
refusal_back TypeTable = refl

pub one_refusal : (r q : Refusal) → refusal_number r ≡ refusal_number q → r ≡ q
one_refusal r q e = sym (refusal_back r) ∙ (ap refusal_of e ∙ refusal_back q)

-- Which type is derived from which, by a table that has the number of each type's parent, and the verdict for two types (document 02 §6). Assumes nothing: these are definitions.
use Rattle.std.specs.Prelude.{Bool, cond, ◌||◌, List, ◌≡◌, ℕ, zero, suc, ◌<◌, eqb, leb, ltb, length, get_or}

-- `anyType` and `anySimpleType`
abbrev pub any_type : ℕ
any_type = 0

abbrev pub any_simple_type : ℕ
any_simple_type = 1

-- the table has a type of this number
abbrev pub has_type : (parents : List ℕ) (t : ℕ) → Bool
has_type parents t = ltb t (length parents)

-- a type's parent; of a number that the table does not have, `anyType`, which no answer shows
abbrev pub parent_of : (parents : List ℕ) (t : ℕ) → ℕ
parent_of parents t = get_or parents t any_type

-- the base is the derived type or one of its ancestors
pub data Derives (parents : List ℕ) : (derived base : ℕ) → Type 0 where
  itself : {t : ℕ} → Derives parents t t
  ancestor : {d b : ℕ} → Derives parents (parent_of parents d) b → Derives parents d b

-- the same as a test, which looks at the type and so many of its ancestors
unfoldable pub derives_within : (links : ℕ) (parents : List ℕ) (derived base : ℕ) → Bool
derives_within zero parents d b = eqb d b
derives_within (suc n) parents d b = eqb d b || derives_within n parents (parent_of parents d) b

-- a type's number is enough links: each parent has a smaller number
abbrev pub derives : (parents : List ℕ) (derived base : ℕ) → Bool
derives parents d b = derives_within d parents d b

-- `anyType` is its own parent, and each other type has one of a smaller number
pub record Ordered (parents : List ℕ) : Type 0 where
  pub root : parent_of parents any_type ≡ any_type
  pub falls : (t : ℕ) → any_type < t → parent_of parents t < t

-- the reason where the type is not derived from the base's
abbrev pub not_derived : ℕ
not_derived = 148

-- The verdict for two types, in the numbers of a table of verdicts: base `anyType` or `anySimpleType` is ok, and otherwise the derived type or one of its ancestors must be the base.
abbrev pub type_verdict : (parents : List ℕ) (derived base : ℕ) → ℕ
type_verdict parents d b = cond (leb b any_simple_type || derives parents d b) 0 not_derived

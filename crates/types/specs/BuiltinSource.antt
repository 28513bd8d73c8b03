-- The numbers of the built-in types as document 02 §6 has them from the list `builtin_parent` of document 000. Assumes nothing: these are definitions.
use Rattle.std.specs.Prelude.{Bool, true, false, cond, not, ◌&&◌, List, [], ◌∷◌, ◌++◌, map, ℕ, zero, suc}
use Prim.Native.String.{String}
use lib.Text.{eqt}
use Rattle.types.specs.Builtin.{Builtin}

-- a name and its parent's name
pub record Listed : Type 0 where
  pub name : String
  pub parent : String

abbrev listed : String → String → Listed
listed n p = record { name = n; parent = p }

-- the list, in the source's order
abbrev pub source_list : List Listed
source_list =
    listed "normalizedString" "string"
    ∷ listed "token" "normalizedString"
    ∷ listed "language" "token"
    ∷ listed "NMTOKEN" "token"
    ∷ listed "Name" "token"
    ∷ listed "NCName" "Name"
    ∷ listed "ID" "NCName"
    ∷ listed "IDREF" "NCName"
    ∷ listed "ENTITY" "NCName"
    ∷ listed "integer" "decimal"
    ∷ listed "nonPositiveInteger" "integer"
    ∷ listed "nonNegativeInteger" "integer"
    ∷ listed "long" "integer"
    ∷ listed "negativeInteger" "nonPositiveInteger"
    ∷ listed "int" "long"
    ∷ listed "short" "int"
    ∷ listed "byte" "short"
    ∷ listed "unsignedLong" "nonNegativeInteger"
    ∷ listed "positiveInteger" "nonNegativeInteger"
    ∷ listed "unsignedInt" "unsignedLong"
    ∷ listed "unsignedShort" "unsignedInt"
    ∷ listed "unsignedByte" "unsignedShort"
    ∷ listed "dateTimeStamp" "dateTime"
    ∷ listed "dayTimeDuration" "duration"
    ∷ listed "yearMonthDuration" "duration"
    ∷ listed "string" "anySimpleType"
    ∷ listed "boolean" "anySimpleType"
    ∷ listed "decimal" "anySimpleType"
    ∷ listed "float" "anySimpleType"
    ∷ listed "double" "anySimpleType"
    ∷ listed "duration" "anySimpleType"
    ∷ listed "dateTime" "anySimpleType"
    ∷ listed "time" "anySimpleType"
    ∷ listed "date" "anySimpleType"
    ∷ listed "gYearMonth" "anySimpleType"
    ∷ listed "gYear" "anySimpleType"
    ∷ listed "gMonthDay" "anySimpleType"
    ∷ listed "gDay" "anySimpleType"
    ∷ listed "gMonth" "anySimpleType"
    ∷ listed "hexBinary" "anySimpleType"
    ∷ listed "base64Binary" "anySimpleType"
    ∷ listed "anyURI" "anySimpleType"
    ∷ listed "QName" "anySimpleType"
    ∷ listed "NOTATION" "anySimpleType"
    ∷ listed "NMTOKENS" "anySimpleType"
    ∷ listed "IDREFS" "anySimpleType"
    ∷ listed "ENTITIES" "anySimpleType"
    ∷ listed "anyAtomicType" "anySimpleType"
    ∷ listed "anySimpleType" "anyType"
    ∷ []

-- the three lots of the list
abbrev pub is_any_simple : Listed → Bool
is_any_simple x = eqt x.name "anySimpleType"

abbrev pub under_any_simple : Listed → Bool
under_any_simple x = eqt x.parent "anySimpleType"

abbrev pub is_rest : Listed → Bool
is_rest x = not (is_any_simple x) && not (under_any_simple x)

-- those that pass the test, in the same order
abbrev pub keep : (passed : Bool) → Listed → List Listed → List Listed
keep true x xs = x ∷ xs
keep false x xs = xs

unfoldable pub those : (test : Listed → Bool) → List Listed → List Listed
those test [] = []
those test (x ∷ xs) = keep (test x) x (those test xs)

-- 'The numbers are 0 `anyType`, 1 `anySimpleType`, then the names whose parent is `anySimpleType`, then the rest up to 49, each lot in the source's order.'
abbrev pub by_number : List Listed
by_number =
    listed "anyType" "anyType"
    ∷ (those is_any_simple source_list
    ++ (those under_any_simple source_list
    ++ those is_rest source_list))

-- the place of a name in a list, from 0; of one that it does not have, the place after the last
unfoldable pub place_of : (name : String) → List Listed → ℕ
place_of n [] = zero
place_of n (x ∷ xs) = cond (eqt n x.name) zero (suc (place_of n xs))

-- each name beside its parent's number
abbrev pub numbered : List Builtin
numbered = map (λ (x : Listed). record { name = x.name; parent = place_of x.parent by_number }) by_number

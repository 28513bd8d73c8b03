-- The built-in types (document 02 §6): the list `builtin_parent` of document 000, and `anyType`. A type's number is its place, from 0. Assumes nothing: these are definitions.
use Rattle.std.specs.Prelude.{List, [], ◌∷◌, map, ℕ}
use Prim.Native.String.{String}

-- a built-in type: its name, and its parent's number
pub record Builtin : Type 0 where
  pub name : String
  pub parent : ℕ

abbrev named : String → ℕ → Builtin
named n p = record { name = n; parent = p }

-- 0 `anyType`, which is its own parent; 1 `anySimpleType`; from 2 on the names whose parent is `anySimpleType`; from 25 on the rest, each lot in the source's order
abbrev pub builtins : List Builtin
builtins =
    named "anyType" 0
    ∷ named "anySimpleType" 0
    ∷ named "string" 1
    ∷ named "boolean" 1
    ∷ named "decimal" 1
    ∷ named "float" 1
    ∷ named "double" 1
    ∷ named "duration" 1
    ∷ named "dateTime" 1
    ∷ named "time" 1
    ∷ named "date" 1
    ∷ named "gYearMonth" 1
    ∷ named "gYear" 1
    ∷ named "gMonthDay" 1
    ∷ named "gDay" 1
    ∷ named "gMonth" 1
    ∷ named "hexBinary" 1
    ∷ named "base64Binary" 1
    ∷ named "anyURI" 1
    ∷ named "QName" 1
    ∷ named "NOTATION" 1
    ∷ named "NMTOKENS" 1
    ∷ named "IDREFS" 1
    ∷ named "ENTITIES" 1
    ∷ named "anyAtomicType" 1
    ∷ named "normalizedString" 2
    ∷ named "token" 25
    ∷ named "language" 26
    ∷ named "NMTOKEN" 26
    ∷ named "Name" 26
    ∷ named "NCName" 29
    ∷ named "ID" 30
    ∷ named "IDREF" 30
    ∷ named "ENTITY" 30
    ∷ named "integer" 4
    ∷ named "nonPositiveInteger" 34
    ∷ named "nonNegativeInteger" 34
    ∷ named "long" 34
    ∷ named "negativeInteger" 35
    ∷ named "int" 37
    ∷ named "short" 39
    ∷ named "byte" 40
    ∷ named "unsignedLong" 36
    ∷ named "positiveInteger" 36
    ∷ named "unsignedInt" 42
    ∷ named "unsignedShort" 44
    ∷ named "unsignedByte" 45
    ∷ named "dateTimeStamp" 8
    ∷ named "dayTimeDuration" 7
    ∷ named "yearMonthDuration" 7
    ∷ []

-- the table: the parent's number of each
abbrev pub builtin_parents : List ℕ
builtin_parents = map (λ (b : Builtin). b.parent) builtins

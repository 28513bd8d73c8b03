-- The first refusal of a sheet, in document 01's order: 1, 3, 4, base tree, derived tree. Assumes nothing: these are definitions.
use Rattle.std.specs.Prelude.{Bool, true, cond, ◌&&◌, ◌||◌, List, [], ◌∷◌, ℕ, eqb, leb, length, Result, Ok, Err}
use Rattle.particle.specs.Record.{max_records}
use Rattle.intake.specs.declared.Fault.{Fault}
use Rattle.intake.specs.declared.Refusal.{Refusal}
use Rattle.intake.specs.declared.Refusal.TheVariants.{Contents, Leaf, Verdict, Base, Derived}
use Rattle.intake.specs.Limits.{max_leaves}
use Rattle.intake.specs.Faults.{Known}
use Rattle.intake.specs.Scan.{refusal_in, listed}
use Rattle.sheet.specs.declared.bodies.Leaf as leaf
use Rattle.sheet.specs.Layout.{contents_size, leaf_count, derived_count, base_count, zero_byte, total_field, whole_length, tables_part, derived_part, base_part, leaf_list}

-- 1: under 8 bytes, a contents field out of its range, or total field or actual length unlike the formula
abbrev pub in_range : (least most n : ℕ) → Bool
in_range least most n = leb least n && leb n most

abbrev pub counts_ok : List ℕ → Bool
counts_ok s = in_range 1 max_leaves (leaf_count s) && (in_range 1 max_records (derived_count s) && in_range 1 max_records (base_count s))

abbrev pub contents_ok : List ℕ → Bool
contents_ok s =
    leb contents_size (length s)
    && (counts_ok s
    && (eqb (zero_byte s) 0
    && (eqb (total_field s) (whole_length s)
    && eqb (length s) (whole_length s))))

-- each of a list passes the test
unfoldable pub every : {A : Type 0} → (A → Bool) → List A → Bool
every ok [] = true
every ok (x ∷ xs) = ok x && every ok xs

-- 3: a leaf is an element with process contents 0, or a wildcard with process contents 0 to 2 and local name number 0
abbrev pub leaf_ok : leaf.Leaf → Bool
leaf_ok l = (eqb l.kind 0 && eqb l.process 0) || (eqb l.kind 1 && (leb l.process 2 && eqb l.name 0))

abbrev pub leaves_ok : List leaf.Leaf → Bool
leaves_ok ls = every leaf_ok ls

-- 4: a verdict is 0, 1 or 140 to 152
abbrev pub verdict_ok : ℕ → Bool
verdict_ok v = leb v 1 || in_range 140 152 v

abbrev pub verdicts_ok : List ℕ → Bool
verdicts_ok vs = every verdict_ok vs

-- the leaves' kinds
unfoldable pub kinds_of : List leaf.Leaf → List ℕ
kinds_of [] = []
kinds_of (l ∷ ls) = l.kind ∷ kinds_of ls

-- the leaves that a tree of the sheet may name: the leaf number is below n, and the leaf is of the record's kind
abbrev pub known_in : List ℕ → Known
known_in s = listed (kinds_of (leaf_list s))

-- base tree 5 to 9, then derived tree 10 to 14
abbrev pub or_else : (Fault → Refusal) → Result (Unit {0}) Fault → Result (Unit {0}) Refusal → Result (Unit {0}) Refusal
or_else number (Ok _) next = next
or_else number (Err f) next = Err (number f)

abbrev pub trees_refusal : Known → List ℕ → Result (Unit {0}) Refusal
trees_refusal known s = or_else Base (refusal_in known (base_part s)) (or_else Derived (refusal_in known (derived_part s)) (Ok tt))

unfoldable pub sheet_refusal : List ℕ → Result (Unit {0}) Refusal
sheet_refusal s =
    cond (contents_ok s)
    (cond (leaves_ok (leaf_list s))
    (cond (verdicts_ok (tables_part s))
    (trees_refusal (known_in s) s)
    (Err Verdict))
    (Err Leaf))
    (Err Contents)

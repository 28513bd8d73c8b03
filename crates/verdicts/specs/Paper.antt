-- The leaves and the verdict tables of a sheet, as bytes. Assumes nothing: these are definitions.
use Rattle.std.specs.Prelude.{cond, ◌&&◌, List, [], ◌∷◌, ℕ, zero, suc, ◌+◌, ◌*◌, ◌/◌, ◌%◌, eqb, leb, length, get_or}
use Rattle.rules.specs.Verdicts.{Mark, passes, undecided, fails, Leaves, Tables}
use Rattle.verdicts.specs.declared.leaves.Paper.{Paper}

-- A leaf takes four bytes: kind (0 element, 1 wildcard), process contents, local name number (16 bits). Nothing else says where its fields stand.
abbrev pub leaf_size : ℕ
leaf_size = 4

-- the fields of the leaf that starts at this place, and the bytes of a leaf with these fields
abbrev pub kind_at : List ℕ → (place : ℕ) → ℕ
kind_at s at = get_or s at 0

abbrev pub process_at : List ℕ → (place : ℕ) → ℕ
process_at s at = get_or s (at + 1) 0

abbrev pub name_at : List ℕ → (place : ℕ) → ℕ
name_at s at = get_or s (at + 2) 0 + get_or s (at + 3) 0 * 256

abbrev pub field_bytes : (kind process name : ℕ) → List ℕ
field_bytes kind process name = kind ∷ process ∷ name % 256 ∷ name / 256 ∷ []

abbrev pub leaves_of : List ℕ → Leaves
leaves_of s = record {
  count = length s / leaf_size;
  is_wildcard = λ l. eqb (kind_at s (leaf_size * l)) 1;
  strength = λ l. process_at s (leaf_size * l);
  local_name = λ l. name_at s (leaf_size * l);
}

-- '140..=152 a reason that the paper sets': such a number is itself; any other is none, and gives 0, which is no reason's number
abbrev pub paper_reason : ℕ → ℕ
paper_reason n = cond (leb 140 n && leb n 152) n 0

-- a verdict: 0 ok, 1 undecided, else a reason that the paper sets (in a sheet that is accepted no other number stands)
abbrev pub verdict_of : ℕ → Mark
verdict_of zero = passes
verdict_of (suc zero) = undecided
verdict_of (suc (suc v)) = fails (paper_reason (suc (suc v)))

-- the two tables of n leaves, one after the other, each by rows; what is not there is undecided
abbrev pub tables_of : ℕ → List ℕ → Tables
tables_of n s = record {
  first = λ l m. verdict_of (get_or s (l * n + m) 1);
  second = λ l m. verdict_of (get_or s (n * n + l * n + m) 1);
}

-- the leaves and the tables of the code's `Paper`
abbrev pub paper_leaves : Paper → Leaves
paper_leaves p = leaves_of p.leaves.now

abbrev pub paper_tables : Paper → Tables
paper_tables p = tables_of p.n p.tables.now

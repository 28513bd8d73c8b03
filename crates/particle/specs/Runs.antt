-- Measured trees: a record that has items tells whether its tree is emptiable and how many records the tree takes. Assumes nothing: these are definitions.
use Rattle.std.specs.Prelude.{Bool, true, false, List, [], ◌∷◌, ◌≡◌, ℕ, ◌*◌, ◌≤◌, ◌<◌, length}
use Rattle.particle.specs.declared.Record.{Record}
use Rattle.particle.specs.declared.measured.Found.{Found}
use Rattle.particle.specs.Record.{record_size, max_records}
use Rattle.particle.specs.Tree.{Items, take_i, size_i, fold, build, records, first_of}
use Rattle.particle.specs.Rows.{Row, row}
use Rattle.particle.specs.Empty.{every, some, emptiable_from, emptiable}

-- emptiable is noted as 1, not emptiable as 0
abbrev pub note_of : (empty : Bool) → ℕ
note_of true = 1
note_of false = 0

-- r has what is noted of the first tree of x: in its first zero byte whether the tree is emptiable, in the last two the number of its records
pub record Noted (r : Record) (x : Items) : Type 0 where
  pub empty : r.zero ≡ note_of (emptiable (first_of x))
  pub size : r.size ≡ size_i (take_i 1 x)

-- each record that has items has what is noted of its tree
unfoldable pub Measured : List Record → Type 0
Measured [] = Unit {0}
Measured (r ∷ rs) = (0 < r.count → Noted r (build (r ∷ rs))) × Measured rs

-- t is n measured trees or more, and no more bytes than a tree can have
pub record Run (n : ℕ) (t : List ℕ) : Type 0 where
  pub row : Row n t
  pub measured : Measured (records t)
  pub few : length t ≤ record_size * max_records

-- where the trees of t are said to be measured, they are, n or more
pub record RunIf (measured : Bool) (n : ℕ) (t : List ℕ) : Type 0 where
  pub run : measured ≡ true → Run n t

-- x is what the first n trees of t are found to be
pub record RowFound (n : ℕ) (t : List ℕ) (x : Found) : Type 0 where
  pub len : x.len ≡ record_size * size_i (row n t)
  pub every_is : x.every ≡ every (fold emptiable_from (row n t))
  pub some_is : x.some ≡ some (fold emptiable_from (row n t))

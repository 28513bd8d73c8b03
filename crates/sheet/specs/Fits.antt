-- Document 01's conditions on a sheet, as a statement about the paper that it is and not about its bytes. Assumes nothing: these are definitions.
use Rattle.std.specs.Prelude.{◌≡◌, false, List, [], ◌∷◌, ◌++◌, ◌⊎◌, ℕ, zero, suc, ◌*◌, ◌^◌, ◌≤◌, ◌<◌, eqb, length}
use Rattle.particle.specs.Tree.{Particle, single, size_i}
use Rattle.particle.specs.Encode.{encode}
use Rattle.intake.specs.Limits.{max_leaves}
use Rattle.intake.specs.Faults.{Known}
use Rattle.intake.specs.Accepted.{TreeFits}
use Rattle.sheet.specs.declared.bodies.Leaf.{Leaf}
use Rattle.sheet.specs.Layout.{contents_bytes, leaves_bytes}

-- a paper: its leaves, both tables by rows, and both trees
pub record Paper : Type 0 where
  pub leaves : List Leaf
  pub first : List ℕ
  pub second : List ℕ
  pub derived : Particle
  pub base : Particle

-- its sheet
unfoldable pub encode_sheet : Paper → List ℕ
encode_sheet p =
    contents_bytes (length p.leaves) (size_i (single p.derived)) (size_i (single p.base))
    ++ (leaves_bytes p.leaves
    ++ ((p.first ++ p.second)
    ++ (encode (single p.derived) ++ encode (single p.base))))

-- a leaf is an element with process contents 0 and a name number of 16 bits, or a wildcard that is skip, lax or strict, with name number 0
abbrev pub LeafFits : Leaf → Type 0
LeafFits l = ((l.kind ≡ 0) × (l.process ≡ 0) × (l.name < 2 ^ 16)) ⊎ ((l.kind ≡ 1) × (l.process ≤ 2) × (l.name ≡ 0))

-- a verdict is 0, 1 or 140 to 152
abbrev pub VerdictFits : ℕ → Type 0
VerdictFits v = (v ≤ 1) ⊎ ((140 ≤ v) × (v ≤ 152))

unfoldable pub Each : {A : Type 0} → (A → Type 0) → List A → Type 0
Each P [] = Unit {0}
Each P (x ∷ xs) = P x × Each P xs

-- n rows of n verdicts
pub record TableFits (n : ℕ) (t : List ℕ) : Type 0 where
  pub square : length t ≡ n * n
  pub verdicts : Each VerdictFits t

-- there is a leaf of this number, and it is of this kind
unfoldable pub known_by : List Leaf → Known
known_by [] kind leaf = false
known_by (l ∷ ls) kind zero = eqb l.kind kind
known_by (l ∷ ls) kind (suc leaf) = known_by ls kind leaf

-- a paper that meets document 01's conditions: 1 to `max_leaves` leaves, two tables of their verdicts, two trees over them, each of at most `max_records` records
pub record PaperFits (p : Paper) : Type 0 where
  pub some : 1 ≤ length p.leaves
  pub few : length p.leaves ≤ max_leaves
  pub leaves : Each LeafFits p.leaves
  pub first : TableFits (length p.leaves) p.first
  pub second : TableFits (length p.leaves) p.second
  pub derived : TreeFits (known_by p.leaves) p.derived
  pub base : TreeFits (known_by p.leaves) p.base

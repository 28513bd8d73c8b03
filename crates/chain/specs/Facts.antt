-- What the theorems of document 02 §1 state. They speak of `chain_answer` and `chain_buffer`. The contract of the entry `effective_particle` is that its answer r to
-- the chain c and the buffer out has joined_meaning r ≡ chain_answer c out, and that out then is chain_buffer c out; so they hold of what the entry answers and writes.
-- Assumes nothing: these are definitions.
use Rattle.std.specs.Prelude.{true, List, [], ◌∷◌, map, ◌⊎◌, ◌↔◌, ◌≡◌, ℕ, ◌*◌, ◌<◌, take, Ok, Err}
use Rattle.std.proofs.Math.Option.{none, some}
use Rattle.particle.specs.Record.{record_size, max_records}
use Rattle.particle.specs.Tree.{Head, element, wildcard, sequence, choice, all, Items, Particle, single, size_i, tree}
use Rattle.particle.specs.Encode.{encode, Bytes}
use Rattle.language.specs.Language.{InOrder, Names, Allows}
use Rattle.language.specs.Premises.{Throughout}
use Rattle.tidying.specs.Depth.{depth_of}
use Rattle.intake.specs.declared.Fault.{Fault}
use Rattle.intake.specs.declared.Refusal.TheVariants.{Base, Limit}
use Rattle.intake.specs.Limits.{max_depth}
use Rattle.intake.specs.Number.{refusal_number}
use Rattle.intake.specs.Faults.{Known}
use Rattle.intake.specs.Scan.{refusal_in}
use Rattle.entries.specs.Answer.{gives, refused, refusal_alone}
use Rattle.sheet.specs.Layout.{base_part}
use Rattle.sheet.specs.Refused.{known_in, sheet_refusal}
use Rattle.sheet.specs.Fits.{Paper, encode_sheet, Each, known_by, PaperFits}
use Rattle.chain.specs.Layout.{levels}
use Rattle.chain.specs.Effective.{present}
use Rattle.chain.specs.Answer.{chain_ok, levels_refusal, joined_tree, chain_answer, chain_buffer}

-- The joined tree is a tree ------------------------------------------------------------

-- n records are answered, and these are their bytes
abbrev pub Answers : (c out : List ℕ) (n : ℕ) → Type 0
Answers c out n = Bytes c × (chain_answer c out ≡ gives (some n))

abbrev pub written_bytes : (c out : List ℕ) (n : ℕ) → List ℕ
written_bytes c out n = take (record_size * n) (chain_buffer c out)

-- The bytes written are accepted as a tree alone, and the tree that they are is the joined tree.
abbrev pub JoinedAccepted : Type 0
JoinedAccepted = (c out : List ℕ) (n : ℕ) → Answers c out n → (refusal_alone (written_bytes c out n) ≡ Ok tt) × (joined_tree c ≡ some (tree (written_bytes c out n)))

-- the bytes are accepted as a tree over these leaves
abbrev pub AcceptedIn : Known → List ℕ → Type 0
AcceptedIn known t = refusal_in known t ≡ Ok tt

-- The bytes written fit any leaves that each of the chain's trees fits.
abbrev pub JoinedFitsLeaves : Type 0
JoinedFitsLeaves = (c out : List ℕ) (n : ℕ) → Answers c out n → (known : Known) → Each (AcceptedIn known) (present (levels c)) → AcceptedIn known (written_bytes c out n)

-- So a sheet with them as its base, whose leaf list each of the trees fits, is never refused 5 to 9, and its base tree is the joined tree.
abbrev pub JoinedBase : Type 0
JoinedBase = (c out : List ℕ) (n : ℕ) → Answers c out n → (s : List ℕ) → base_part s ≡ written_bytes c out n → Each (AcceptedIn (known_in s)) (present (levels c))
    → ((f : Fault) → ¬ (sheet_refusal s ≡ Err (Base f))) × (joined_tree c ≡ some (tree (base_part s)))

-- the leaf is known by its kind and number; a group asks nothing
abbrev pub LeafKnown : Known → Head → Items → Type 0
LeafKnown known (element l p) k = known 0 l ≡ true
LeafKnown known (wildcard l p) k = known 1 l ≡ true
LeafKnown known (sequence p) k = Unit {0}
LeafKnown known (choice p) k = Unit {0}
LeafKnown known (all p) k = Unit {0}

-- Nor is one whose leaves have the joined tree's numbers and kinds.
abbrev pub JoinedBaseKinds : Type 0
JoinedBaseKinds = (c out : List ℕ) (n : ℕ) → Answers c out n → (s : List ℕ) → base_part s ≡ written_bytes c out n → Throughout (LeafKnown (known_in s)) (tree (base_part s))
    → ((f : Fault) → ¬ (sheet_refusal s ≡ Err (Base f))) × (joined_tree c ≡ some (tree (base_part s)))

-- the paper with this tree as its base
abbrev pub with_base : Paper → Particle → Paper
with_base p x = record { leaves = p.leaves; first = p.first; second = p.second; derived = p.derived; base = x }

-- Such a sheet is accepted where the rest of it is in order: so is that of every paper which meets document 01's conditions, once the joined tree takes the place of its base. Its base part then is the bytes written.
abbrev pub JoinedSheetAccepted : Type 0
JoinedSheetAccepted = (c out : List ℕ) (n : ℕ) → Answers c out n → (p : Paper) → PaperFits p → Throughout (LeafKnown (known_by p.leaves)) (tree (written_bytes c out n))
    → (sheet_refusal (encode_sheet (with_base p (tree (written_bytes c out n)))) ≡ Ok tt) × (base_part (encode_sheet (with_base p (tree (written_bytes c out n)))) ≡ written_bytes c out n)

-- What it allows -----------------------------------------------------------------------

-- The joined tree allows exactly the words that are one word of each of the chain's trees, in the chain's order, over any names.
abbrev pub JoinedWords : Type 1
JoinedWords = (c : List ℕ) (x : Particle) → joined_tree c ≡ some x → (names : Names) (w : List ℕ) → Allows names x w ↔ InOrder (map (Allows names) (map tree (present (levels c)))) w

-- Where one level is present, its tree is the joined tree, and its bytes are those written.
abbrev pub JoinedLone : Type 0
JoinedLone = (c t : List ℕ) → present (levels c) ≡ t ∷ [] → (joined_tree c ≡ some (tree t)) × ((out : List ℕ) (n : ℕ) → Answers c out n → written_bytes c out n ≡ t)

-- What is turned away ------------------------------------------------------------------

-- over `max_records` records, or deeper than `max_depth`
abbrev pub OverALimit : Particle → Type 0
OverALimit x = (max_records < size_i (single x)) ⊎ (max_depth < depth_of (single x))

-- Refused 16 are exactly the chains of accepted trees whose joined tree is over a limit.
abbrev pub LimitExactly : Type 0
LimitExactly = (c out : List ℕ) → (chain_answer c out ≡ refused (refusal_number Limit)) ↔ ((chain_ok c ≡ true) × (levels_refusal (levels c) ≡ Ok tt) × ((x : Particle) × (joined_tree c ≡ some x) × OverALimit x))

-- It is over a limit exactly where its bytes are no tree alone.
abbrev pub OverExactly : Type 0
OverExactly = (c : List ℕ) → Bytes c → levels_refusal (levels c) ≡ Ok tt → (x : Particle) → joined_tree c ≡ some x → OverALimit x ↔ (¬ (refusal_alone (encode (single x)) ≡ Ok tt))

-- 'No content' is the answer to exactly the chains whose every level is absent.
abbrev pub NoContentExactly : Type 0
NoContentExactly = (c out : List ℕ) → (chain_answer c out ≡ gives none) ↔ ((chain_ok c ≡ true) × (present (levels c) ≡ []))

-- A refusal and 'no content' write nothing.
abbrev pub NothingWritten : Type 0
NothingWritten = (c out : List ℕ) → ((n : ℕ) → chain_answer c out ≡ refused n → chain_buffer c out ≡ out) × (chain_answer c out ≡ gives none → chain_buffer c out ≡ out)

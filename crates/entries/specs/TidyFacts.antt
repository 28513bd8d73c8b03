-- What the theorems of document 02 §8 state over the entry `tidy`. Its contract: its answer r to the bytes t and the lent buffer out has meaning r ≡ tidy_answer t out, and out
-- then is tidy_buffer t out. So what is said here of tidy_answer, of tidy_buffer, of the bytes at its start and of the tree that they are holds of what the entry answers and writes.
-- All facts but the first suppose `Tidies`: that a record count is answered, and that t are bytes, which those of a call always are. Assumes nothing: these are definitions.
use Rattle.std.specs.Prelude.{true, List, ◌↔◌, ◌≡◌, ℕ, ◌*◌, ◌≤◌, length, take, Ok}
use Rattle.particle.specs.Record.{record_size}
use Rattle.particle.specs.Tree.{Particle, single, tree}
use Rattle.particle.specs.Encode.{Bytes}
use Rattle.particle.specs.Empty.{emptiable}
use Rattle.totals.specs.Exact.{exact_total}
use Rattle.totals.specs.Total.{total}
use Rattle.language.specs.Language.{Names, Allows}
use Rattle.language.specs.Premises.{BelowRoot, Throughout, NoZeroMaximum, NoEmptyChoice}
use Rattle.tidying.specs.Tidy.{tidy}
use Rattle.tidying.specs.Depth.{depth_of}
use Rattle.tidying.specs.TidyTree.{BelowOutside, NoOwnKind, NoLoneItem, NoLoneChoice, TidyTree}
use Rattle.intake.specs.Faults.{Known}
use Rattle.intake.specs.Scan.{refusal_in}
use Rattle.entries.specs.Answer.{answer, gives, refusal_alone}
use Rattle.entries.specs.TidyAnswer.{starting_with, tidy_answer, tidy_buffer}

-- t are bytes, and tidying them into out is answered by n records
pub record Tidies (t out : List ℕ) (n : ℕ) : Type 0 where
  pub bytes : Bytes t
  pub answered : tidy_answer t out ≡ gives n

-- and these are their bytes, from the buffer's start
abbrev pub tidied_bytes : (t out : List ℕ) (n : ℕ) → List ℕ
tidied_bytes t out n = take (record_size * n) (tidy_buffer t out)

-- Every accepted tree is tidied into every buffer that is long enough.
abbrev pub AcceptedTidied : Type 0
AcceptedTidied = (t out : List ℕ) → refusal_alone t ≡ Ok tt → length t ≤ length out → (n : ℕ) × (tidy_answer t out ≡ gives n)

-- What was written is accepted as a tree alone, and it is the tidied tree.
abbrev pub TidiedAccepted : Type 0
TidiedAccepted = (t out : List ℕ) (n : ℕ) → Tidies t out n → (refusal_alone (tidied_bytes t out n) ≡ Ok tt) × (tree (tidied_bytes t out n) ≡ tidy (tree t))

-- It fits any leaves that the tree fits.
abbrev pub TidiedFitsLeaves : Type 0
TidiedFitsLeaves = (t out : List ℕ) (n : ℕ) → Tidies t out n → (known : Known) → refusal_in known t ≡ Ok tt → refusal_in known (tidied_bytes t out n) ≡ Ok tt

-- Tidied again, into any buffer that is long enough, it gives the same record count and the same bytes; every later byte keeps its value.
abbrev pub TidiedAgain : Type 0
TidiedAgain = (t out : List ℕ) (n : ℕ) → Tidies t out n → (again : List ℕ) → length (tidied_bytes t out n) ≤ length again
    → (tidy_answer (tidied_bytes t out n) again ≡ gives n) × (tidied_bytes (tidied_bytes t out n) again n ≡ tidied_bytes t out n) × (tidy_buffer (tidied_bytes t out n) again ≡ starting_with (tidied_bytes t out n) again)

-- A tree is tidy exactly where the entry answers the tree's own record count, and exactly where it writes the tree's own bytes.
abbrev pub CountTellsTidy : Type 0
CountTellsTidy = (t out : List ℕ) (n : ℕ) → Tidies t out n → (record_size * n ≡ length t) ↔ TidyTree (tree t)

abbrev pub BytesTellTidy : Type 0
BytesTellTidy = (t out : List ℕ) (n : ℕ) → Tidies t out n → (tidied_bytes t out n ≡ t) ↔ TidyTree (tree t)

-- The tree that is written -----------------------------------------------------------------------

-- R of the bytes handed in and the bytes that are written for them, wherever a tree is tidied
abbrev pub WhereverTidied {ℓ} : ((given written : List ℕ) → Type ℓ) → Type ℓ
WhereverTidied R = (t out : List ℕ) (n : ℕ) → Tidies t out n → R t (tidied_bytes t out n)

-- Below its root, outside all-groups, it has no item of maximum 0.
abbrev pub WrittenNoZeroMaximum : Type 0
WrittenNoZeroMaximum = WhereverTidied (λ given written. BelowOutside NoZeroMaximum (tree written))

-- No sequence or choice holds a (1,1) item of its own kind.
abbrev pub WrittenNoOwnKind : Type 0
WrittenNoOwnKind = WhereverTidied (λ given written. Throughout NoOwnKind (tree written))

-- No (1,1) sequence or choice holds exactly one item.
abbrev pub WrittenNoLoneItem : Type 0
WrittenNoLoneItem = WhereverTidied (λ given written. Throughout NoLoneItem (tree written))

-- No sequence holds one (1,1) choice alone.
abbrev pub WrittenNoLoneChoice : Type 0
WrittenNoLoneChoice = WhereverTidied (λ given written. Throughout NoLoneChoice (tree written))

-- What becomes of every tree ---------------------------------------------------------------------

-- It has no more bytes than the tree handed in, and is no deeper.
abbrev pub WrittenNoLonger : Type 0
WrittenNoLonger = WhereverTidied (λ given written. length written ≤ length given)

abbrev pub WrittenNoDeeper : Type 0
WrittenNoDeeper = WhereverTidied (λ given written. depth_of (single (tree written)) ≤ depth_of (single (tree given)))

-- The maximum of its total range is the same, and the minimum of its exact total no lesser.
abbrev pub WrittenMaximum : Type 0
WrittenMaximum = WhereverTidied (λ given written. (total (tree written)).max ≡ (total (tree given)).max)

abbrev pub WrittenMinimum : Type 0
WrittenMinimum = WhereverTidied (λ given written. (exact_total (tree given)).min ≤ (exact_total (tree written)).min)

-- It is emptiable only where the tree handed in is, and allows no name sequence that this does not, over any names.
abbrev pub WrittenEmptiable : Type 0
WrittenEmptiable = WhereverTidied (λ given written. emptiable (tree written) ≡ true → emptiable (tree given) ≡ true)

abbrev pub WrittenAllowsNoMore : Type 1
WrittenAllowsNoMore = WhereverTidied (λ given written. (names : Names) (w : List ℕ) → Allows names (tree written) w → Allows names (tree given) w)

-- What is kept -----------------------------------------------------------------------------------

-- 'Where the tree handed in has no maximum of 0 and no empty choice, tidying keeps both emptiness and the set of name sequences allowed.'
-- Here this is supposed below its root only, and for the name sequences nothing of choices: that is more.

-- The set of name sequences allowed is kept, over any names.
abbrev pub KeptAllows : Type 1
KeptAllows = WhereverTidied (λ given written. BelowRoot NoZeroMaximum (tree given) → (names : Names) (w : List ℕ) → Allows names (tree written) w ↔ Allows names (tree given) w)

-- an entry that answers f of a tree answers alike for both trees
abbrev pub AnsweredAlike : {A : Type 0} → (Particle → A) → Type 0
AnsweredAlike f = WhereverTidied (λ given written. BelowRoot NoZeroMaximum (tree given) → BelowRoot NoEmptyChoice (tree given)
    → answer (refusal_alone written) (f (tree written)) ≡ answer (refusal_alone given) (f (tree given)))

-- Emptiness is kept: so does the entry `emptiable`.
abbrev pub KeptEmptiable : Type 0
KeptEmptiable = AnsweredAlike emptiable

-- The total range is kept: so does the entry `total_range`.
abbrev pub KeptTotal : Type 0
KeptTotal = AnsweredAlike total

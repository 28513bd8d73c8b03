-- What each operation must answer: the numbers of the exported entries, and the lent buffer after the call. Assumes nothing: these are
-- definitions.
use Rattle.std.specs.Prelude.{◌≡◌, List, ℕ, length, take, drop}
use Rattle.particle.specs.Tree.{tree}
use Rattle.particle.specs.Empty.{emptiable}
use Rattle.totals.specs.Total.{total}
use Rattle.entries.specs.Answer.{answer, refusal_alone}
use Rattle.entries.specs.ItemAnswer.{item_bytes}
use Rattle.entries.specs.TidyAnswer.{tidy_answer, tidy_buffer}
use Rattle.chain.specs.Answer.{chain_answer, chain_buffer}
use Rattle.marking.specs.Answer.{mark_sheet}
use Rattle.types.specs.Builtin.{builtin_parents}
use Rattle.types.specs.Answer.{type_answer, fill_answer, filled_sheet}
use Rattle.exports.specs.Numbers.{mark_number, min_number, max_number, emptiable_number, count_number, joined_number, verdict_number, filled_number, written}
use Rattle.replay.specs.declared.Operation.{Operation}
use Rattle.replay.specs.declared.Operation.TheVariants.{Mark, TotalMin, TotalMax, Emptiable, Tidy, Item, Join, TypeDerivation, FillTypes, TypeDerivationBy, FillTypesBy}

-- the number that the entry answers, from the input (a sheet, tree, chain, type numbers or table of types) and the buffer
abbrev pub number_of : Operation → List ℕ → List ℕ → ℕ
number_of Mark s out = mark_number (mark_sheet s)
number_of TotalMin t out = min_number (answer (refusal_alone t) (total (tree t)))
number_of TotalMax t out = max_number (answer (refusal_alone t) (total (tree t)))
number_of Emptiable t out = emptiable_number (answer (refusal_alone t) (emptiable (tree t)))
number_of Tidy t out = count_number (tidy_answer t out)
number_of (Item k) t out = length (item_bytes k t)
number_of Join c out = joined_number (chain_answer c out)
number_of (TypeDerivation d b) input out = verdict_number (type_answer builtin_parents d b)
number_of FillTypes types s = filled_number (fill_answer builtin_parents s types)
number_of (TypeDerivationBy d b) parents out = verdict_number (type_answer parents d b)
number_of (FillTypesBy k) input s = filled_number (fill_answer (drop k input) s (take k input))

-- the buffer after the call
abbrev pub buffer_of : Operation → List ℕ → List ℕ → List ℕ
buffer_of Mark s out = out
buffer_of TotalMin t out = out
buffer_of TotalMax t out = out
buffer_of Emptiable t out = out
buffer_of Tidy t out = tidy_buffer t out
buffer_of (Item k) t out = written (item_bytes k t) out
buffer_of Join c out = chain_buffer c out
buffer_of (TypeDerivation d b) input out = out
buffer_of FillTypes types s = filled_sheet builtin_parents s types
buffer_of (TypeDerivationBy d b) parents out = out
buffer_of (FillTypesBy k) input s = filled_sheet (drop k input) s (take k input)

-- the stored number and the stored buffer are those that the definitions give
pub record Agrees (op : Operation) (input before : List ℕ) (number : ℕ) (after : List ℕ) : Type 0 where
  pub answered : number ≡ number_of op input before
  pub left : after ≡ buffer_of op input before

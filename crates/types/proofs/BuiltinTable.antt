-- The built-in list has the numbers that document 02 §6 gives to the source's names, and is an accepted table of types: each chain ends at `anyType`, the verdict is ok just where document 02 §6 says, and by it the entries answer as §6 says, without a refusal 18. Assumes nothing.
use mathlib.Core.Path.{◌≡◌, refl}
use mathlib.Core.Bool.{true}
use Rattle.types.specs.Builtin.{builtins, builtin_parents}
use Rattle.types.specs.BuiltinSource.{those, place_of, numbered}
use Rattle.types.specs.Table.{rows_ok, table_ok}
use Rattle.types.specs.Facts.{ChainsEnd, OkExactly, ByRule}
use Rattle.types.proofs.TypeTables.{table_chains_end, table_ok_exactly, table_by_rule}

-- name and parent's number of each
pub builtins_numbered : builtins ≡ numbered
unfolding those place_of
builtins_numbered = refl

pub builtin_table : table_ok builtin_parents ≡ true
unfolding table_ok rows_ok
builtin_table = refl

-- Document 02 §6: 'The table's rule is that each chain ends at `anyType`.'
pub chains_end : ChainsEnd builtin_parents
chains_end = table_chains_end builtin_parents builtin_table

pub builtin_ok_exactly : OkExactly builtin_parents
builtin_ok_exactly = table_ok_exactly builtin_parents builtin_table

-- Document 02 §7: 'the built-in list in this form must answer as §6 does'
pub builtin_by_rule : ByRule builtin_parents
builtin_by_rule = table_by_rule builtin_parents builtin_table

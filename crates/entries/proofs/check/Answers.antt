-- `entries::check` meets its contract. Assumes nothing.
use Rattle.std.proofs.Common.{rules}
use Rattle.std.proofs.lemmas.Result.{on_ok_weaker}
use Rattle.entries.proofs.Alone.{whole}
use Rattle.entries.proofs.check.Goals as goal

pub returns-clause-row : goal.returns-clause-row
returns-clause-row c = on_ok_weaker _ (whole _) (search rules)

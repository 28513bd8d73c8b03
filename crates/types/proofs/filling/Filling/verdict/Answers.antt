-- `Filling::verdict` meets its contract. Assumes nothing.
use Rattle.std.proofs.Common.{rules}
use Rattle.types.proofs.Entry.{one_for_each}
use Rattle.types.proofs.filling.Filling.verdict.Goals as goal

pub bounds-self-l : goal.bounds-self-l
bounds-self-l c = search (rules, one_for_each)

pub bounds-self-m : goal.bounds-self-m
bounds-self-m c = search (rules, one_for_each)

-- `chain::join` meets its contract. Assumes nothing.
use Rattle.chain.proofs.Entry.{count_fits, too_many, nest_room, too_deep, too_short, written}
use Rattle.chain.proofs.join.Goals as goal

pub overflow_add-records : goal.overflow_add-records
overflow_add-records c = search count_fits

pub returns-then-records-gt-MAX_RECORDS : goal.returns-then-records-gt-MAX_RECORDS
returns-then-records-gt-MAX_RECORDS c = search too_many

pub nest-end-requires : goal.nest-end-requires
nest-end-requires c = search nest_room

pub returns-then-is_err : goal.returns-then-is_err
returns-then-is_err c = search (too_deep)

pub returns-then-out-end : goal.returns-then-out-end
returns-then-out-end c = search too_short

pub returns : goal.returns
returns c = search written

-- `streams::counted`: where a read fails after the number, what came is the number's bytes and those after them. Assumes nothing.
use Rattle.std.proofs.Common.{rules, ℕ, List, ◌++◌, take}
use Rattle.std.specs.Io.KnownBytes.{Consumes}
use Rattle.std.proofs.KnownBytes.{Consumes-trans}
use Rattle.streams.proofs.counted.Goals as goal

pub returns-in_err-read_full-clause-none_lost : goal.returns-in_err-read_full-clause-none_lost
returns-in_err-read_full-clause-none_lost g c =
    let number = c.in_ok-n.ensures.bytes in
    let after = c.in_err-read_full.ensures.none_lost in
    let came : (xs : List ℕ) × Consumes (g.R.Read.remaining c.args.input.now) (g.R.Read.remaining c.read_full.new.input) xs =
    (take number.3 number.0 ++ take after.0 c.read_full.new.buf, Consumes-trans _ _ _ _ _ number.4 after.1) in
    search (rules, came)

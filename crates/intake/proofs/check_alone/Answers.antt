-- `intake::check_alone` meets its contract: a list of `max_leaves` leaves of either kind knows what a tree alone may use. Assumes nothing.
use Rattle.std.specs.Prelude.{Result}
use Rattle.intake.specs.declared.Fault.{Fault}
use mathlib.Core.Path.{◌≡◌, ap, ◌∙◌, fun_ext}
use mathlib.Core.List.{List}
use Prim.Native.Nat.{ℕ, ◌≤◌, ◌<◌}
use native.Mathlib.Decide.{dec_lt}
use native.Mathlib.Omega.{arith}
use lib.Dec.{ltb}
use lib.ListN.{replicate, length-replicate, get_or-replicate}
use borrow.Author.Tests.{lt-ltb, le-ltb}
use Rattle.intake.specs.Limits.{max_leaves}
use Rattle.intake.specs.Faults.{Known}
use Rattle.intake.specs.Scan.{listed, alone, refusal_in}
use Rattle.intake.proofs.check_alone.Goals as goal

either : (n kind leaf : ℕ) → listed (replicate n 2) kind leaf ≡ ltb leaf n
either n kind leaf = go (dec_lt leaf n)
  where
    go : Dec (leaf < n) → listed (replicate n 2) kind leaf ≡ ltb leaf n
    go (yes l) = rw (length-replicate, lt-ltb leaf n l, get_or-replicate {A = ℕ} n leaf 2 0 l)
    go (no l) =
        let g : n ≤ leaf = omega arith in
        rw (length-replicate, le-ltb leaf n g)

refusal_alone_lem : (t : List ℕ) {r : Result (Unit {0}) Fault} → r ≡ refusal_in (listed (replicate max_leaves 2)) t → r ≡ refusal_in alone t
refusal_alone_lem t e = e ∙ ap (λ (known : Known). refusal_in known t) (fun_ext (λ kind. fun_ext (either max_leaves kind)))

pub returns : goal.returns
returns c = search refusal_alone_lem

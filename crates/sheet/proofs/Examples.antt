-- Document 01's printed sheet is accepted, and with one byte more it is refused. Assumes nothing.
use Rattle.std.specs.Prelude.{Ok, Err}
use mathlib.Core.Path.{◌≡◌, refl}
use mathlib.Core.List.{[], ◌∷◌, ◌++◌}
use Rattle.particle.specs.Tree.{records, records_n}
use Rattle.intake.specs.declared.Refusal.TheVariants.{Contents}
use Rattle.intake.specs.Scan.{waiting, scan, refusal_in}
use Rattle.sheet.specs.Layout.{leaves_in}
use Rattle.sheet.specs.Printed.{printed_sheet}
use Rattle.sheet.specs.Refused.{every, kinds_of, sheet_refusal}

pub printed_accepted : sheet_refusal printed_sheet ≡ Ok tt
unfolding sheet_refusal every leaves_in kinds_of refusal_in scan waiting records records_n
printed_accepted = refl

pub one_more_refused : sheet_refusal (printed_sheet ++ (10 ∷ [])) ≡ Err Contents
unfolding sheet_refusal every leaves_in kinds_of refusal_in scan waiting records records_n
one_more_refused = refl

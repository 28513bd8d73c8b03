-- Document 01's printed sheet passes, and the entries answer its P examples as it says, by computation. Assumes nothing.
use mathlib.Core.Path.{◌≡◌, refl}
use Rattle.particle.specs.Tree.{◌then◌, take_i, drop_i, count_i, size_i, fold, build, records_n, records, decode, tree}
use Rattle.particle.specs.Empty.{emptiable}
use Rattle.particle.specs.Encode.{flat, joined, encode}
use Rattle.totals.specs.Exact.{sum, span, exact_total}
use Rattle.totals.specs.Total.{total}
use Rattle.tidying.specs.Tidy.{tidy_items, tidy}
use Rattle.rules.specs.Verdicts.{passes}
use Rattle.rules.specs.Walk.{left_over, recurse_ordered, alternatives, each_member, take_named, untaken, recurse_unordered}
use Rattle.rules.specs.Rule.{rule}
use Rattle.rules.specs.Mark.{restrict_to, restrict, mark_tidied, mark}
use Rattle.rules.specs.Examples.{examples}
use Rattle.intake.specs.Scan.{waiting, scan, refusal_in}
use Rattle.entries.specs.Answer.{gives}
use Rattle.entries.specs.TidyAnswer.{tidy_answer, tidy_buffer}
use Rattle.sheet.specs.Layout.{leaves_in, leaves_bytes}
use Rattle.sheet.specs.Refused.{every, kinds_of, sheet_refusal}
use Rattle.sheet.specs.Fits.{encode_sheet}
use Rattle.marking.specs.Answer.{mark_of_sheet, mark_sheet}
use Rattle.sheet.specs.Printed.{printed_sheet}
use Rattle.marking.specs.Examples.{AllAnswered}

pub printed_passes : mark_sheet printed_sheet ≡ gives passes
unfolding mark_sheet mark_of_sheet sheet_refusal every kinds_of leaves_in refusal_in scan waiting tree decode records records_n build take_i drop_i mark mark_tidied restrict restrict_to rule tidy tidy_items size_i
printed_passes = refl

pub examples_answered : AllAnswered examples
unfolding mark_sheet mark_of_sheet sheet_refusal every kinds_of leaves_in leaves_bytes encode_sheet encode joined flat refusal_in scan waiting tree decode records records_n build take_i drop_i mark mark_tidied restrict restrict_to rule recurse_ordered left_over alternatives each_member recurse_unordered take_named untaken tidy_answer tidy_buffer tidy tidy_items ◌then◌ emptiable total exact_total sum span fold count_i size_i
examples_answered = (refl, (refl, (refl, (refl, (refl, (refl, (refl, (refl, (refl, (refl, (refl, (refl, (refl, ((refl, refl), tt))))))))))))))

-- Tests made one after the other, the first that fails being the answer. Assumes nothing.
use mathlib.Core.Path.{◌≡◌, sym, ◌∙◌}
use mathlib.Core.Bool.{Bool, true, false, not}
use borrow.Author.Tests.{not-true, not-false}

-- r is what a test found, and the code asked for its failure
pub test_failed : {r a : Bool} → r ≡ a → not r ≡ true → a ≡ false
test_failed {r} e t = sym e ∙ not-true r t

pub test_passed : {r a : Bool} → r ≡ a → not r ≡ false → a ≡ true
test_passed {r} e t = sym e ∙ not-false r t

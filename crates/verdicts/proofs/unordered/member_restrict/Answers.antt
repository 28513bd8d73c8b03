-- `unordered::member_restrict` meets its contract. Assumes nothing.
use Rattle.verdicts.proofs.Members.{not_element, not_in_base, in_base}
use Rattle.verdicts.proofs.unordered.member_restrict.Goals as goal

pub returns-then-head-ne-ELEMENT : goal.returns-then-head-ne-ELEMENT
returns-then-head-ne-ELEMENT c = search not_element

pub returns-in-None : goal.returns-in-None
returns-in-None c = search not_in_base

pub returns-in-Some : goal.returns-in-Some
returns-in-Some c = search in_base

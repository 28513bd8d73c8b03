-- `filling::types_ok` meets its contract. Assumes nothing.
use Rattle.std.proofs.Common.{◌∙◌, not, ◌||◌, ℕ, rules, tests}
use Rattle.std.proofs.lemmas.Iterator.{YieldsList-from_slice, YieldsList-from_zip}
use Rattle.std.proofs.lemmas.Iterator.Search.{all_from_yields_List}
use Rattle.types.specs.Derives.{has_type}
use Rattle.types.specs.Fill.{is_element}
use Rattle.types.proofs.Steps.{each_type, not_so_many}
use Rattle.types.proofs.filling.types_ok.Goals as goal

pub returns-then-types-kinds : goal.returns-then-types-kinds
returns-then-types-kinds c =
    all_from_yields_List (λ (p : ℕ × ℕ). not (is_element p.0) || has_type c.args.table.now.parents.now p.1) c.all.new.self _ _ c.all.ensures.ran
    (YieldsList-from_zip (YieldsList-from_slice c.args.kinds.now (cc)) (YieldsList-from_slice c.args.types.now (cc)))
    (λ x b q k. search (rules, tests))
    ∙ each_type c.args.table.now.parents.now c.args.kinds.now c.args.types.now (search rules)

pub returns-else-types-kinds : goal.returns-else-types-kinds
returns-else-types-kinds c = search (rules, not_so_many)

-- Which trees are emptiable. Assumes nothing: these are definitions.
use Rattle.std.specs.Prelude.{Bool, true, false, ◌&&◌, ◌||◌, List, [], ◌∷◌, eqb}
use Rattle.particle.specs.declared.Occurs.{Occurs}
use Rattle.particle.specs.Tree.{Head, element, wildcard, sequence, choice, all, Particle, fold}

abbrev pub every : List Bool → Bool
every [] = true
every (e ∷ es) = e && every es

abbrev pub some : List Bool → Bool
some [] = false
some (e ∷ es) = e || some es

-- whether each is true; without `each`, whether one is
abbrev pub every_or_some : (each : Bool) → List Bool → Bool
every_or_some true es = every es
every_or_some false es = some es

abbrev pub is_empty : List Bool → Bool
is_empty [] = true
is_empty (e ∷ es) = false

-- minimum 0
abbrev pub optional : Occurs → Bool
optional p = eqb p.min 0

-- `emptiable` of a record, from its items: minimum 0; or a sequence or all-group whose items are all emptiable; or a choice that is empty or has an emptiable item
abbrev pub emptiable_from : Head → List Bool → Bool
emptiable_from (element l p) es = optional p
emptiable_from (wildcard l p) es = optional p
emptiable_from (sequence p) es = optional p || every es
emptiable_from (choice p) es = optional p || (is_empty es || some es)
emptiable_from (all p) es = optional p || every es

unfoldable pub emptiable : Particle → Bool
emptiable x = emptiable_from x.head (fold emptiable_from x.items)

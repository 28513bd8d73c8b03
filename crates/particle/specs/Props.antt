-- Each fact that the types of measured subtrees hold has one proof at most, as a ghost field's must.
use Rattle.std.specs.Prelude.{List, [], ◌∷◌}
use Rattle.std.specs.Coded.{×_prop, Unit-prop, le_prop}
use denote.Struct.Props as logic
use Rattle.particle.specs.declared.Record.{Record}
use Rattle.particle.specs.Rows.{Complete}
use Rattle.particle.specs.Runs.{Measured}

pub Complete-prop : (rs : List Record) → IsProp (Complete rs)
unfolding Complete
Complete-prop [] = Unit-prop
Complete-prop (r ∷ rs) = ×_prop le_prop (Complete-prop rs)

pub Measured-prop : (rs : List Record) → IsProp (Measured rs)
unfolding Measured
Measured-prop [] = Unit-prop
Measured-prop (r ∷ rs) = ×_prop (Prim.hlevel logic.props) (Measured-prop rs)

pub ruleset props = (logic.props, Complete-prop, Measured-prop)

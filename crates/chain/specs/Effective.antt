-- Inherited content joined (document 02 §1; `effective_particle` of the Rust). Assumes nothing: these are definitions.
use Rattle.std.specs.Prelude.{List, [], ◌∷◌}
use Rattle.std.proofs.Math.Option.{Option, none, some}
use Rattle.particle.specs.Occurs.{exactly}
use Rattle.particle.specs.Tree.{sequence, item, Particle, single}

-- a (1,1) sequence of the two
abbrev pub both : (inherited own : Particle) → Particle
both b o = record { head = sequence (exactly 1); items = item b.head b.items (single o) }

-- what a type has from the types before it, and its own content: present and present gives a sequence of the two, one present gives that one
abbrev pub extend : (inherited own : Option Particle) → Option Particle
extend none own = own
extend (some b) none = some b
extend (some b) (some o) = some (both b o)

-- the later levels, each extending what comes before it
unfoldable pub extend_by : Option Particle → List (Option Particle) → Option Particle
extend_by inherited [] = inherited
extend_by inherited (own ∷ later) = extend_by (extend inherited own) later

-- `effective_particle`: the levels joined, root type first; none where every level is absent
unfoldable pub effective_particle : List (Option Particle) → Option Particle
effective_particle levels = extend_by none levels

-- the levels that are present
unfoldable pub present : {A : Type 0} → List (Option A) → List A
present [] = []
present (none ∷ later) = present later
present (some x ∷ later) = x ∷ present later

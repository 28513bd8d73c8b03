-- A record with some of its fields changed. Assumes nothing.
use Prim.Native.Nat.{ℕ}
use Rattle.particle.specs.declared.Record.{Record}

-- r with another item count
abbrev pub with_count : Record → ℕ → Record
with_count r n = record { kind = r.kind; leaf = r.leaf; count = n; unbounded = r.unbounded; zero = r.zero; size = r.size; min = r.min; max = r.max }

-- r with these numbers in its first zero byte, and in its last two
abbrev pub with_notes : Record → ℕ → ℕ → Record
with_notes r e n = record { kind = r.kind; leaf = r.leaf; count = r.count; unbounded = r.unbounded; zero = e; size = n; min = r.min; max = r.max }

-- r with the pair of g
abbrev pub with_pair : Record → Record → Record
with_pair r g = record { kind = r.kind; leaf = r.leaf; count = r.count; unbounded = g.unbounded; zero = r.zero; size = r.size; min = g.min; max = g.max }

-- The trees that records are, one record at a time. Assumes nothing.
use mathlib.Core.Path.{◌≡◌, refl}
use mathlib.Core.List.{List, [], ◌∷◌}
use Prim.Native.Nat.{ℕ}
use Rattle.particle.specs.declared.Record.{Record}
use Rattle.particle.specs.Tree.{none, item, take_i, drop_i, head_of, build, records, decode}

pub build_nil : build [] ≡ none
unfolding build
build_nil = refl

pub build_cons : (r : Record) (rs : List Record) → build (r ∷ rs) ≡ item (head_of r) (take_i r.count (build rs)) (drop_i r.count (build rs))
unfolding build
build_cons r rs = refl

pub decode_is : (t : List ℕ) → decode t ≡ build (records t)
unfolding decode
decode_is t = refl

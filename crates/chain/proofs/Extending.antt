-- Trees joined in order: what the levels join to, the bytes of the joined tree, its depth, and when it fits. Assumes nothing.
use mathlib.Core.Bool.{Bool, false}
use mathlib.Core.List.{List, [], ◌∷◌, ◌++◌, flat_map, append_assoc, append-nil}
use mathlib.Core.Option.{Option, none, some}
use mathlib.Core.Path.{◌≡◌, refl, ap, sym, ◌∙◌}
use Prim.Native.Nat.{ℕ, zero, suc, ◌+◌, ◌≤◌, max}
use native.Mathlib.Nat.{le_refl}
use native.Mathlib.Omega.{arith}
use lib.ListN.{length}
use Rattle.particle.specs.Record.{max_records, record_bytes}
use Rattle.particle.specs.Tree.{Items, item, none as no_items, Particle, single, count_i, size_i, ◌then◌}
use Rattle.particle.specs.Encode.{encode}
use Rattle.particle.proofs.EncodeParts.{encode_none, encode_item, encode_then}
use Rattle.tidying.specs.Depth.{depth_of}
use Rattle.intake.specs.Limits.{max_depth}
use Rattle.intake.specs.Faults.{Known}
use Rattle.intake.specs.Accepted.{is_all, TreesFit, TreeFits}
use Rattle.sheet.specs.Fits.{Each}
use Rattle.chain.specs.Effective.{both, extend_by, effective_particle, present}
use Rattle.chain.specs.Nested.{both_record, nested}

-- The levels that are present --------------------------------------------------------

-- a tree and the trees after it, each the second item of a new sequence
unfoldable pub join_all : Particle → List Particle → Particle
join_all x [] = x
join_all x (y ∷ ys) = join_all (both x y) ys

unfoldable pub joined_of : List Particle → Option Particle
joined_of [] = none
joined_of (x ∷ xs) = some (join_all x xs)

extended : (x : Particle) (ys : List (Option Particle)) → extend_by (some x) ys ≡ some (join_all x (present ys))
unfolding extend_by present join_all
extended x [] = refl
extended x (none ∷ ys) = extended x ys
extended x (some y ∷ ys) = extended (both x y) ys

pub effective : (ys : List (Option Particle)) → effective_particle ys ≡ joined_of (present ys)
unfolding effective_particle extend_by present joined_of
effective [] = refl
effective (none ∷ ys) = effective ys
effective (some y ∷ ys) = extended y ys

pub effective_none : (ys : List (Option Particle)) → present ys ≡ [] → effective_particle ys ≡ none
unfolding joined_of
effective_none ys e = effective ys ∙ ap joined_of e

pub effective_some : (ys : List (Option Particle)) {x : Particle} {xs : List Particle} → present ys ≡ x ∷ xs → effective_particle ys ≡ some (join_all x xs)
unfolding joined_of
effective_some ys e = effective ys ∙ ap joined_of e

-- Bytes ------------------------------------------------------------------------------

-- the encodings of trees, one after another
abbrev pub encodings : List Particle → List ℕ
encodings xs = flat_map (λ (x : Particle). encode (single x)) xs

pub nested_inside : (n : ℕ) (t : List ℕ) → nested n (record_bytes both_record ++ t) ≡ record_bytes both_record ++ nested n t
unfolding nested
nested_inside zero t = refl
nested_inside (suc n) t = ap (λ (u : List ℕ). record_bytes both_record ++ u) (nested_inside n t)

encode_both : (x y : Particle) → encode (single (both x y)) ≡ record_bytes both_record ++ (encode (single x) ++ encode (single y))
unfolding count_i ◌then◌
encode_both x y =
    let k : Items = single x then single y in
    encode_item (both x y).head k no_items ∙ ap (λ (u : List ℕ). record_bytes both_record ++ u) (rw (encode_none, append-nil (encode k)) (encode_then (single x) (single y)))

pub encode_joined : (x : Particle) (xs : List Particle) → encode (single (join_all x xs)) ≡ nested (length xs) (encodings (x ∷ xs))
unfolding join_all flat_map nested
encode_joined x [] = sym (append-nil (encode (single x)))
encode_joined x (y ∷ ys) =
    let r = record_bytes both_record in
    let e : encode (single (both x y)) ++ encodings ys ≡ r ++ (encode (single x) ++ (encode (single y) ++ encodings ys)) =
    rw (encode_both x y) (append_assoc r (encode (single x) ++ encode (single y)) (encodings ys) ∙ ap (λ (u : List ℕ). r ++ u) (append_assoc (encode (single x)) (encode (single y)) (encodings ys))) in
    encode_joined (both x y) ys ∙ (ap (nested (length ys)) e ∙ nested_inside (length ys) (encode (single x) ++ (encode (single y) ++ encodings ys)))

-- Depth ------------------------------------------------------------------------------

depth_both : (x y : Particle) → depth_of (single (both x y)) ≡ suc (max (depth_of (single x)) (depth_of (single y)))
unfolding depth_of
depth_both x y = omega arith

pub first_depth : (x : Particle) (xs : List Particle) → depth_of (single x) ≤ depth_of (single (join_all x xs))
unfolding join_all
first_depth x [] = le_refl _
first_depth x (y ∷ ys) = omega (arith, depth_both x y, first_depth (both x y) ys)

-- Conditions -------------------------------------------------------------------------

module _ (known : Known) where
  -- at any depth at which the trees are not too deep
  fits_at : (y : Items) (d d' : ℕ) (a : Bool) → depth_of y + d' ≤ suc max_depth → TreesFit known y d a → TreesFit known y d' a
  unfolding TreesFit depth_of
  fits_at no_items d d' a l f = tt
  fits_at (item h k r) d d' a l f = (
    record { leaf = f.0.leaf; pair = f.0.pair; group = f.0.group; member = f.0.member; shallow = omega arith },
    fits_at k (suc d) (suc d') (is_all h) (omega arith) f.1,
    fits_at r d d' a (omega arith) f.2,
  )

  -- each record of a tree alone in order
  abbrev pub Fits : Particle → Type 0
  Fits x = TreesFit known (single x) 1 false

  fits_both : (x y : Particle) → Fits x → Fits y → depth_of (single (both x y)) ≤ max_depth → Fits (both x y)
  unfolding TreesFit
  fits_both x y f g l =
      let e = depth_both x y in
      let f' : TreesFit known (single x) 2 false = fits_at (single x) 1 2 false (omega arith) f in
      let g' : TreesFit known (single y) 2 false = fits_at (single y) 1 2 false (omega arith) g in (
        record { leaf = tt; pair = (omega arith, omega arith); group = tt; member = tt; shallow = omega arith },
        (f'.0, f'.1, g'),
        tt,
      )

  fits_each : (x : Particle) (xs : List Particle) → Each Fits (x ∷ xs) → depth_of (single (join_all x xs)) ≤ max_depth → Fits (join_all x xs)
  unfolding join_all Each
  fits_each x [] f l = f.0
  fits_each x (y ∷ ys) f l = fits_each (both x y) ys (fits_both x y f.0 f.1.0 (omega (arith, first_depth (both x y) ys)), f.1.1) l

  -- trees that fit join to one that fits, unless it breaks a limit
  pub joined_fits : (x : Particle) (xs : List Particle) → Each Fits (x ∷ xs) → size_i (single (join_all x xs)) ≤ max_records → depth_of (single (join_all x xs)) ≤ max_depth → TreeFits known (join_all x xs)
  joined_fits x xs f s l = record { few = s; each = fits_each x xs f l }

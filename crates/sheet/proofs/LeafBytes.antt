-- Leaves and their bytes: reading undoes writing, and writing undoes reading. Assumes nothing.
use mathlib.Core.Path.{◌≡◌, refl, ap, ◌∙◌}
use mathlib.Core.List.{List, [], ◌∷◌, ◌++◌}
use Prim.Native.Nat.{ℕ, zero, suc, ◌+◌, ◌*◌, ◌/◌, ◌%◌, ◌≤◌, ◌<◌}
use native.Mathlib.Omega.{arith}
use native.Mathlib.Nat.{add-zero}
use lib.Dec.{eqb}
use lib.ListN.{length, drop, get_or, length-drop}
use lib.Seq.{get_or-drop}
use Rattle.particle.specs.Encode.{Bytes}
use Rattle.particle.proofs.RoundTrip.{from, from_drop, byte_at, bytes_drop}
use Rattle.verdicts.specs.Paper.{leaf_size, leaves_of}
use Rattle.sheet.specs.declared.bodies.Leaf.{Leaf}
use Rattle.sheet.specs.Layout.{leaf_at, leaf_bytes, leaves_in, leaves_bytes}
use Rattle.sheet.specs.Refused.{kinds_of}

pub length_leaves_in : (n : ℕ) (t : List ℕ) → length (leaves_in n t) ≡ n
unfolding leaves_in
length_leaves_in zero t = refl
length_leaves_in (suc n) t = ap suc (length_leaves_in n (drop leaf_size t))

pub length_leaves_bytes : (ls : List Leaf) → length (leaves_bytes ls) ≡ leaf_size * length ls
unfolding leaves_bytes
length_leaves_bytes [] = refl
length_leaves_bytes (l ∷ ls) = omega (arith, length_leaves_bytes ls)

pub length_kinds : (ls : List Leaf) → length (kinds_of ls) ≡ length ls
unfolding kinds_of
length_kinds [] = refl
length_kinds (l ∷ ls) = ap suc (length_kinds ls)

-- Reading what is written ------------------------------------------------------

leaf_back : (l : Leaf) (t : List ℕ) → leaf_at (leaf_bytes l ++ t) ≡ l
leaf_back l t =
    let name : l.name % 256 + l.name / 256 * 256 ≡ l.name = omega arith in
    λ i. record { kind = l.kind; process = l.process; name = name i }

pub leaves_back : (ls : List Leaf) → leaves_in (length ls) (leaves_bytes ls) ≡ ls
unfolding leaves_in leaves_bytes
leaves_back [] = refl
leaves_back (l ∷ ls) = ap (λ (x : Leaf). x ∷ leaves_in (length ls) (leaves_bytes ls)) (leaf_back l (leaves_bytes ls)) ∙ ap (λ (xs : List Leaf). l ∷ xs) (leaves_back ls)

-- Writing what is read ---------------------------------------------------------

name_bytes : (a b : ℕ) → a < 256 → ((a + b * 256) % 256 ≡ a) × ((a + b * 256) / 256 ≡ b)
name_bytes a b h = (omega arith, omega arith)

leaf_forth : (t : List ℕ) → Bytes t → leaf_size ≤ length t → leaf_bytes (leaf_at t) ++ drop leaf_size t ≡ t
unfolding from
leaf_forth t b h =
    let e = name_bytes (get_or t 2 0) (get_or t 3 0) (byte_at t b 2) in
    rw (e.0, e.1) (from_drop leaf_size 0 t h)

pub leaves_forth : (n : ℕ) (t : List ℕ) → Bytes t → length t ≡ leaf_size * n → leaves_bytes (leaves_in n t) ≡ t
unfolding leaves_in leaves_bytes
leaves_forth zero [] b e = refl
leaves_forth zero (x ∷ t) b e = absurd (omega arith)
leaves_forth (suc n) t b e =
    let h : leaf_size ≤ length t = omega arith in
    let e' : length (drop leaf_size t) ≡ leaf_size * n = omega (arith, length-drop leaf_size t) in
    ap (λ (x : List ℕ). leaf_bytes (leaf_at t) ++ x) (leaves_forth n (drop leaf_size t) (bytes_drop leaf_size t b) e') ∙ leaf_forth t b h

-- What the marking reads -------------------------------------------------------

-- the l-th leaf, as the marking reads it, is the one that is checked
pub leaf_read : (t : List ℕ) (l : ℕ) (x : Leaf) → x ≡ leaf_at (drop (leaf_size * l) t) → ((leaves_of t).is_wildcard l ≡ eqb x.kind 1) × ((leaves_of t).strength l ≡ x.process) × ((leaves_of t).local_name l ≡ x.name)
leaf_read t l x e = rw e (rw (get_or-drop (leaf_size * l) t 0 0, get_or-drop (leaf_size * l) t 1 0, get_or-drop (leaf_size * l) t 2 0, get_or-drop (leaf_size * l) t 3 0, add-zero) (refl, refl, refl))

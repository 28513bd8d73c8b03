-- What the loops over leaves and verdicts keep: what is left of the list. Assumes nothing.
use mathlib.Core.Path.{◌≡◌, ap, sym, ◌∙◌}
use mathlib.Core.Bool.{Bool, ◌&&◌, ◌||◌, and-true, and_assoc}
use mathlib.Core.List.{List, [], ◌∷◌, ◌++◌, append-nil}
use Prim.Native.Nat.{ℕ, suc, ◌+◌, ◌*◌, ◌-◌, ◌≤◌, ◌<◌, max}
use native.Mathlib.Numerals.{add-one}
use native.Mathlib.Omega.{arith}
use lib.Dec.{leb}
use lib.ListN.{length, take, drop, set, get_or, length-set}
use lib.Seq.{drop-cons, drop-drop, drop-length, take-suc-set, append_snoc}
use Rattle.verdicts.specs.Paper.{leaf_size}
use Rattle.sheet.specs.declared.bodies.Leaf.{Leaf}
use Rattle.sheet.specs.Layout.{leaf_at, leaves_in}
use Rattle.sheet.specs.Refused.{every, leaf_ok, verdict_ok, kinds_of}
use Rattle.sheet.proofs.Places.{both_most, verdict_by_place}

-- A test of each element -------------------------------------------------------

-- of the elements before rest ok says whether they pass, and with rest it decides
module _ {A : Type 0} (test : A → Bool) (all : List A) (ok : Bool) (rest : List A) (e : every test all ≡ (ok && every test rest)) where
  every_next : (x : A) (xs : List A) → rest ≡ x ∷ xs → (found : Bool) → found ≡ test x → every test all ≡ (ok && found && every test xs)
  unfolding every
  every_next x xs q found f = e ∙ rw (q, f, and_assoc)

  every_done : rest ≡ [] → ok ≡ every test all
  unfolding every
  every_done q = sym (e ∙ rw (q, and-true))

-- Leaves -----------------------------------------------------------------------

-- the bytes after i leaves
abbrev after : (s : List ℕ) (i : ℕ) → List ℕ
after s i = drop (leaf_size * i) s

module _ (s : List ℕ) (n i : ℕ) where
  leaves_turn : i < n → leaves_in (n - i) (after s i) ≡ leaf_at (after s i) ∷ leaves_in (n - (i + 1)) (after s (i + 1))
  unfolding leaves_in
  leaves_turn h =
      let q : n - i ≡ suc (n - (i + 1)) = omega arith in
      let d : leaf_size * i + leaf_size ≡ leaf_size * (i + 1) = omega arith in
      rw (q, drop-drop leaf_size (leaf_size * i) s, d)

  leaves_none : n ≤ i → leaves_in (n - i) (after s i) ≡ []
  unfolding leaves_in
  leaves_none h =
      let q : n - i ≡ 0 = omega arith in
      rw q

put : (out : List ℕ) (i k : ℕ) (xs : List ℕ) → i < length out → take (i + 1) (set out i k) ++ xs ≡ take i out ++ (k ∷ xs)
put out i k xs b = rw (add-one i, take-suc-set out i k b) (append_snoc (take i out) k xs)

-- of the first i of the n leaves ok says whether they are in order, and with the others it decides; their kinds are put down in out
pub record LeavesLeft (s : List ℕ) (n size : ℕ) (out : List ℕ) (ok : Bool) (i : ℕ) : Type 0 where
  pub within : i ≤ n
  pub same_size : length out ≡ size
  pub rest : every leaf_ok (leaves_in n s) ≡ (ok && every leaf_ok (leaves_in (n - i) (after s i)))
  pub kinds : take i out ++ kinds_of (leaves_in (n - i) (after s i)) ≡ kinds_of (leaves_in n s)

module _ (s : List ℕ) (n : ℕ) (out : List ℕ) where
  module _ {size : ℕ} (ok : Bool) (i : ℕ) (v : LeavesLeft s n size out ok i) where
    pub leaf_next : n ≤ size → i < n → (l : Leaf) → l ≡ leaf_at (after s i) → (found : Bool) → found ≡ leaf_ok l → LeavesLeft s n size (set out i l.kind) (ok && found) (i + 1)
    unfolding kinds_of
    leaf_next m h l e found f =
        let b : i < length out = omega (arith, v.same_size) in
        record {
          within = omega arith;
          same_size = length-set out i l.kind ∙ v.same_size;
          rest = every_next leaf_ok _ ok _ v.rest _ _ (leaves_turn s n i h) found (f ∙ ap leaf_ok e);
          kinds = put out i l.kind _ b ∙ rw e (rw (leaves_turn s n i h) at v.kinds);
        }

    module _ (h : n ≤ i) where
      pub leaves_done : ok ≡ every leaf_ok (leaves_in n s)
      leaves_done = every_done leaf_ok _ _ _ v.rest (leaves_none s n i h)

      pub kinds_done : take n out ≡ kinds_of (leaves_in n s)
      unfolding kinds_of
      kinds_done =
          let q : n ≡ i = omega (arith, v.within) in
          ap (λ (k : ℕ). take k out) q ∙ (sym (append-nil (take i out)) ∙ (rw (leaves_none s n i h) at v.kinds))

-- Verdicts ---------------------------------------------------------------------

-- of the first i verdicts ok says whether they are in order, and with the others it decides
pub record VerdictsLeft (s : List ℕ) (ok : Bool) (i : ℕ) : Type 0 where
  pub within : i ≤ length s
  pub rest : every verdict_ok s ≡ (ok && every verdict_ok (drop i s))

module _ (s : List ℕ) where
  -- m is the greatest verdict so far and p the greatest place; the next verdict and its place k are held against them
  pub verdict_next : (m p i : ℕ) → VerdictsLeft s (leb m 152 && leb p 117) i → i < length s → (k : ℕ) → leb k 117 ≡ (leb 140 (get_or s i 0) || leb (get_or s i 0) 1)
      → {m' p' : ℕ} → m' ≡ max m (get_or s i 0) → p' ≡ max p k → VerdictsLeft s (leb m' 152 && leb p' 117) (i + 1)
  verdict_next m p i v h k e f g =
      let turn : drop i s ≡ get_or s i 0 ∷ drop (i + 1) s = rw (drop-cons s i 0 h, add-one) in
      let found = ap (λ (x : Bool). leb (get_or s i 0) 152 && x) e ∙ verdict_by_place (get_or s i 0) in
      record { within = omega arith; rest = rw (f, g, both_most m (get_or s i 0) 152 p k 117) (every_next verdict_ok _ (leb m 152 && leb p 117) _ v.rest _ _ turn _ found) }

  pub verdicts_done : (ok : Bool) (i : ℕ) → VerdictsLeft s ok i → length s ≤ i → ok ≡ every verdict_ok s
  verdicts_done ok i v h =
      let q : i ≡ length s = omega (arith, v.within) in
      every_done verdict_ok _ _ _ v.rest (rw (q, drop-length s))

-- The tree that a chain's accepted levels join to, and when the check of a tree alone accepts its bytes. Assumes nothing.
use Rattle.std.specs.Prelude.{Ok}
use mathlib.Core.Bool.{true, false}
use mathlib.Core.List.{List, [], ◌∷◌, map, flat_map, flatten}
use mathlib.Core.Option.{none, some}
use mathlib.Core.Path.{◌≡◌, refl, ap, sym, ◌∙◌}
use Prim.Native.Nat.{ℕ, suc, ◌+◌, ◌/◌, ◌≤◌}
use native.Mathlib.Omega.{arith}
use lib.Dec.{ltb}
use lib.ListN.{length, length-map}
use borrow.Author.Tests.{ltb-false, le-ltb}
use Rattle.std.proofs.lemmas.Bool.{or_parts, true_from_ne_false}
use Rattle.particle.specs.Record.{record_size, max_records}
use Rattle.particle.specs.Tree.{Particle, single, size_i, tree}
use Rattle.particle.specs.Encode.{encode, Bytes}
use Rattle.particle.proofs.ItemEncodes.{length_encode}
use Rattle.tidying.specs.Depth.{depth_of}
use Rattle.intake.specs.Limits.{max_depth}
use Rattle.intake.specs.Faults.{Known}
use Rattle.intake.specs.Scan.{alone}
use Rattle.intake.specs.Accepted.{TreeFits}
use Rattle.intake.proofs.Checking.{sized}
use Rattle.intake.proofs.AcceptedFits.{accepted_fits}
use Rattle.intake.proofs.FitsAccepted.{fits_accepted}
use Rattle.entries.specs.Answer.{refusal_alone}
use Rattle.sheet.specs.Fits.{Each}
use Rattle.chain.specs.Layout.{counts, trees_part, levels}
use Rattle.chain.specs.Effective.{present}
use Rattle.chain.specs.Answer.{chain_ok, levels_refusal, trees_of, joined_tree, over_limits}
use Rattle.chain.specs.Nested.{present_in, nested, Joins}
use Rattle.chain.specs.Facts.{AcceptedIn}
use Rattle.chain.proofs.Extending.{join_all, encodings, effective_none, effective_some, encode_joined, Fits, joined_fits}
use Rattle.chain.proofs.Levels.{trees_present, accepted_levels, chain_trees, chain_bytes_lem, chain_count}
use Rattle.chain.proofs.NestStep.{length_nested}
use Rattle.entries.proofs.Shallow.{accepted_shallow}

-- The limits ---------------------------------------------------------------------------

pub within : (x : Particle) → over_limits x ≡ false → (size_i (single x) ≤ max_records) × (depth_of (single x) ≤ max_depth)
within x e =
    let n = or_parts (ltb max_records (size_i (single x))) (ltb max_depth (depth_of (single x))) e in
    (ltb-false max_records (size_i (single x)) n.0, ltb-false max_depth (depth_of (single x)) n.1)

pub not_over : (x : Particle) → size_i (single x) ≤ max_records → depth_of (single x) ≤ max_depth → over_limits x ≡ false
not_over x s d = rw (le-ltb max_records (size_i (single x)) s, le-ltb max_depth (depth_of (single x)) d)

-- where it cannot be that no limit is broken, one is
pub one_broken : (x : Particle) → (over_limits x ≡ false → ⊥) → over_limits x ≡ true
one_broken x h = true_from_ne_false (over_limits x) h

-- what is accepted breaks no limit
pub accepted_within : (known : Known) (x : Particle) → AcceptedIn known (encode (single x)) → over_limits x ≡ false
accepted_within known x e = not_over x (omega (arith, length_encode (single x), (sized known (encode (single x)) e).few)) (accepted_shallow known x e)

-- The join of accepted trees -------------------------------------------------------------

module _ (known : Known) where
  -- the bytes of accepted trees are those of the trees that they are, and these fit
  read : (ts : List (List ℕ)) → Each Bytes ts → Each (AcceptedIn known) ts → (encodings (map tree ts) ≡ flatten ts) × Each (Fits known) (map tree ts)
  unfolding flat_map flatten Each
  read [] b a = (refl, tt)
  read (t ∷ ts) b a =
      let f = accepted_fits known t b.0 a.0 in
      let r = read ts b.1 a.1 in
      (rw (← f.0, r.0), (f.1.each, r.1))

-- what the levels join to: the trees of those that are present
pub joined_is : (c : List ℕ) {t : List ℕ} {ts : List (List ℕ)} → present (levels c) ≡ t ∷ ts → joined_tree c ≡ some (join_all (tree t) (map tree ts))
joined_is c e = effective_some (trees_of (levels c)) (trees_present (levels c) ∙ ap (map tree) e)

pub joined_absent : (c : List ℕ) → present (levels c) ≡ [] → joined_tree c ≡ none
joined_absent c e = effective_none (trees_of (levels c)) (trees_present (levels c) ∙ ap (map tree) e)

-- a joined tree comes from a level that is present
pub joined_from : (c : List ℕ) {x : Particle} → joined_tree c ≡ some x → (t : List ℕ) × (ts : List (List ℕ)) × (present (levels c) ≡ t ∷ ts) × (x ≡ join_all (tree t) (map tree ts))
joined_from c {x} e = go (present (levels c)) refl
  where
    go : (ts : List (List ℕ)) → present (levels c) ≡ ts → (t : List ℕ) × (ts : List (List ℕ)) × (present (levels c) ≡ t ∷ ts) × (x ≡ join_all (tree t) (map tree ts))
    go [] p =
        let n = joined_absent c p in
        cc
    go (t ∷ ts) p =
        let i = joined_is c p in
        (t, ts, p, cc)

module _ (c : List ℕ) (b : Bytes c) (known : Known) (a : Each (AcceptedIn known) (present (levels c))) {t : List ℕ} {ts : List (List ℕ)} (e : present (levels c) ≡ t ∷ ts) where
  levels_read : (encodings (map tree (t ∷ ts)) ≡ flatten (t ∷ ts)) × Each (Fits known) (map tree (t ∷ ts))
  levels_read = read known (t ∷ ts) (rw e at (chain_bytes_lem c b)) (rw e at a)

  -- the joined tree fits, unless it breaks a limit
  pub levels_fit : over_limits (join_all (tree t) (map tree ts)) ≡ false → TreeFits known (join_all (tree t) (map tree ts))
  levels_fit l = let w = within (join_all (tree t) (map tree ts)) l in joined_fits known (tree t) (map tree ts) levels_read.1 w.0 w.1

  pub levels_join : chain_ok c ≡ true → encode (single (join_all (tree t) (map tree ts))) ≡ nested (length ts) (trees_part c)
  levels_join k = encode_joined (tree t) (map tree ts) ∙ rw (length-map ts tree, levels_read.0, ← e) (ap (nested (length ts)) (chain_trees c k))

pub tree_fits : (c : List ℕ) → Bytes c → (known : Known) → Each (AcceptedIn known) (present (levels c)) → {x : Particle} → joined_tree c ≡ some x → over_limits x ≡ false → TreeFits known x
tree_fits c b known a i l =
    let (t, ts, p, e) = joined_from c i in
    rw e (levels_fit c b known a p (rw e at l))

-- what a chain of accepted levels is joined to
pub joined_none : (c : List ℕ) → present_in (counts c) ≡ 0 → joined_tree c ≡ none
joined_none c z = joined_absent c (empty (present (levels c)) (chain_count c ∙ z))
  where
    empty : (ts : List (List ℕ)) → length ts ≡ 0 → ts ≡ []
    empty [] e = refl
    empty (t ∷ ts) e = absurd (omega arith)

pub joined_some : (c : List ℕ) → Bytes c → chain_ok c ≡ true → levels_refusal (levels c) ≡ Ok tt → (n : ℕ) → present_in (counts c) ≡ suc n → (x : Particle) × (joined_tree c ≡ some x) × Joins n (trees_part c) x
joined_some c b k a n z = go (present (levels c)) refl
  where
    go : (ts : List (List ℕ)) → present (levels c) ≡ ts → (x : Particle) × (joined_tree c ≡ some x) × Joins n (trees_part c) x
    go [] e = absurd (omega (arith, chain_count c, ap length e))
    go (t ∷ ts) e =
        let l : length ts ≡ n = omega (arith, chain_count c, ap length e) in
        let f = accepted_levels (levels c) a in
        (join_all (tree t) (map tree ts), joined_is c e, record { bytes = rw (← l) (levels_join c b alone f e k); fits = levels_fit c b alone f e })

-- What a join has --------------------------------------------------------------------------

module _ {n : ℕ} {t : List ℕ} {x : Particle} (j : Joins n t x) where
  pub joins_size : size_i (single x) ≡ n + length t / record_size
  joins_size = omega (arith, length_encode (single x), ap length j.bytes, length_nested n t)

  -- the check of a tree alone refuses a join just where it breaks a limit
  pub joins_within : refusal_alone (nested n t) ≡ Ok tt → over_limits x ≡ false
  joins_within e = accepted_within alone x (ap refusal_alone j.bytes ∙ e)

  pub joins_accepted : over_limits x ≡ false → refusal_alone (nested n t) ≡ Ok tt
  joins_accepted l = ap refusal_alone (sym j.bytes) ∙ fits_accepted alone x (j.fits l)

  pub joins_refused : (refusal_alone (nested n t) ≡ Ok tt → ⊥) → over_limits x ≡ true
  joins_refused h = one_broken x (λ l. h (joins_accepted l))

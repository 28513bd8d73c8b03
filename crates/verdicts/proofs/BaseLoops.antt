-- What the two loops over base items keep: i items are passed, and what is left decides. Assumes nothing.
use mathlib.Core.Bool.{Bool, true, false, ◌&&◌, not}
use mathlib.Core.List.{List, ◌∷◌, ◌++◌, append_assoc}
use mathlib.Core.Logic.{◌⊎◌, inl, inr, ⊎_elim}
use mathlib.Core.Path.{◌≡◌, refl, ap, sym, ◌∙◌}
use Prim.Native.Nat.{ℕ, ◌+◌, ◌≤◌, ◌<◌}
use native.Mathlib.Numerals.{add-one}
use native.Mathlib.Omega.{arith}
use Rattle.std.specs.Prelude.{Option, None, Some}
use lib.ListN.{length, take, drop, get_or, set}
use lib.Seq.{take-suc, set_split}
use Rattle.particle.specs.declared.Occurs.{Occurs}
use Rattle.particle.specs.declared.Record.{Record}
use Rattle.particle.specs.Record.{record_at, range_of}
use Rattle.particle.specs.Tree.{Items, head_of}
use Rattle.particle.specs.Rows.{Row, row}
use Rattle.particle.proofs.Heads.{pair_kind}
use Rattle.rules.specs.Verdicts.{Leaves, passes, fails}
use Rattle.rules.specs.Walk.{take_named, untaken}
use Rattle.verdicts.specs.Taken.{untaken_items, has_name}
use Rattle.verdicts.proofs.Rest.{Rest, begin, row_none, Step, row_here, next}
use Rattle.verdicts.proofs.Flags.{flag_here, untaken_none, Answers, passed_by, taken_first, untaken_past, untaken_required}

-- the first bn trees of bs, with a flag for each
module _ (bs : List ℕ) (bn : ℕ) (fs : List Bool) where
  -- `take_named`: whatever answers what is left answers the whole row; the flags es of now are those of before
  module _ (L : Leaves) (name : ℕ) where
    abbrev Searched : (i : ℕ) (x : Items) → Type 0
    Searched i x = (e : List Bool) (t : Option (ℕ × Occurs)) → Answers L name x (drop i fs) e t → Answers L name (row bn bs) fs (take i fs ++ e) t

    pub record Looking (es : List Bool) (rest : List ℕ) (i k : ℕ) : Type 0 where
      pub unaltered : es ≡ fs
      pub at : Rest bn i k rest
      pub searched : Searched i (row k rest)

    pub look : Row bn bs → Looking fs bs 0 bn
    look w = record { unaltered = refl; at = begin w; searched = λ e t a. a }

    pub same_long : {es : List Bool} {rest : List ℕ} {i k : ℕ} → Looking es rest i k → length es ≡ length fs
    same_long g = ap length g.unaltered

    pub flagged : {es : List Bool} {rest first after : List ℕ} {i k j : ℕ} → Looking es rest i k → Step k rest first after j → bn ≤ length fs → i < length es
    flagged g s b = omega (arith, same_long g, g.at.passed, s.fewer)

    -- an item is left, and r is its record; it is untaken and has the name, or not
    module _ {es : List Bool} {rest first after : List ℕ} {i k j : ℕ} (g : Looking es rest i k) (s : Step k rest first after j) (b : bn ≤ length fs) {r : Record} (q : r ≡ record_at first)
        {free : Bool} (u : free ≡ (not (get_or es i false) && has_name L name (head_of r))) where
      here : i < length fs
      here = omega (arith, g.at.passed, s.fewer)

      told : free ≡ (not (get_or fs i false) && has_name L name (head_of r))
      told = rw g.unaltered at u

      pub look_on : free ≡ false → Looking es after (i + 1) j
      look_on n = record { unaltered = g.unaltered; at = next s g.at; searched = passed }
        where
          passed : Searched (i + 1) (row j after)
          passed e t a =
              let f = get_or fs i false in
              let d : take (i + 1) fs ++ e ≡ take i fs ++ (f ∷ e) = rw (add-one i, take-suc fs i false here, append_assoc) in
              rw d (g.searched (f ∷ e) t (rw (row_here s g.at.left q, flag_here fs i here) (passed_by L name _ _ _ f _ e t (sym told ∙ n) a)))

      pub found_here : free ≡ true → {p : Occurs} → p ≡ range_of r → Answers L name (row bn bs) fs (set es i true) (Some (r.leaf, p))
      found_here n e =
          rw (e, g.unaltered, set_split fs i true here, ← add-one i)
          (g.searched (true ∷ drop (i + 1) fs) (Some (r.leaf, range_of r)) (rw (row_here s g.at.left q, flag_here fs i here) (taken_first L name r.kind _ _ _ _ (get_or fs i false) _ (sym told ∙ n))))

    pub found_none : {es : List Bool} {rest : List ℕ} {i k : ℕ} → Looking es rest i k → k ≡ 0 → Answers L name (row bn bs) fs es None
    unfolding take_named
    found_none {i = i} g z = g.searched (drop i fs) None (rw (row_none _ _ z, untaken_none (drop i fs)))

  -- `untaken`: what is left has the same mark at the end
  pub record Seeking (rest : List ℕ) (i k : ℕ) : Type 0 where
    pub at : Rest bn i k rest
    pub same : untaken (untaken_items fs (row bn bs)) ≡ untaken (untaken_items (drop i fs) (row k rest))

  pub seek : Row bn bs → Seeking bs 0 bn
  seek w = record { at = begin w; same = refl }

  module _ {rest first after : List ℕ} {i k j : ℕ} (g : Seeking rest i k) (s : Step k rest first after j) (b : bn ≤ length fs) where
    pub seek_flagged : i < length fs
    seek_flagged = omega (arith, g.at.passed, s.fewer)

    module _ {r : Record} (q : r ≡ record_at first) where
      pub seek_on : (r.min ≤ 0) ⊎ (get_or fs i false ≡ true) → Seeking after (i + 1) j
      seek_on o = record { at = next s g.at; same = g.same ∙ rw (row_here s g.at.left q, flag_here fs i seek_flagged) (untaken_past _ _ _ (get_or fs i false) _ (rw (pair_kind r.kind r.leaf (range_of r)) (⊎_elim (λ z. inl (omega arith)) (λ f. inr f) o))) }

      pub untaken_here : 0 < r.min → get_or fs i false ≡ false → fails 109 ≡ untaken (untaken_items fs (row bn bs))
      untaken_here z e = sym (g.same ∙ rw (row_here s g.at.left q, flag_here fs i seek_flagged) (untaken_required _ _ _ (get_or fs i false) _ (rw (pair_kind r.kind r.leaf (range_of r)) (λ o. omega arith)) e))

  pub none_required : {rest : List ℕ} {i k : ℕ} → Seeking rest i k → k ≡ 0 → passes ≡ untaken (untaken_items fs (row bn bs))
  unfolding untaken
  none_required {i = i} g z = sym (g.same ∙ rw (row_none _ _ z, untaken_none (drop i fs)))

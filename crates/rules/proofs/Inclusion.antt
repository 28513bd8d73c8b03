-- Demand 3, second half: where the mark is a pass, the derived tree allows no more than the base. Assumes nothing.
use mathlib.Core.Bool.{Bool, true, false, ◌||◌}
use mathlib.Core.List.{List, []}
use mathlib.Core.Logic.{⊎_elim}
use mathlib.Core.Path.{◌≡◌, refl, sym, subst}
use Prim.Native.Nat.{ℕ, zero, suc}
use native.Mathlib.Omega.{arith}
use Rattle.particle.specs.declared.MaxOccurs.TheVariants.{Bounded}
use Rattle.particle.specs.declared.Occurs.{Occurs}
use Rattle.particle.specs.Occurs.{is_zero}
use Rattle.particle.specs.Tree.{Head, element, wildcard, sequence, choice, all, Particle, pair_of, fold}
use Rattle.particle.specs.Empty.{emptiable}
use Rattle.particle.proofs.Tests.{and-true, or-true}
use Rattle.language.specs.Language.{Words, AtMost, Rounds, Names, words_from, Allows}
use Rattle.language.specs.Premises.{Throughout, Ordered}
use Rattle.language.proofs.Words.{◌⊆◌}
use Rattle.language.proofs.Rounds.{Many}
use Rattle.language.proofs.Premises.{throughout_map, throughout_both}
use Rattle.language.proofs.Wider.{wider_from, Wider}
use Rattle.language.proofs.Emptiness.{zero_wider, emptiable_wider}
use Rattle.tidying.specs.Tidy.{tidy}
use Rattle.tidying.proofs.Steps.{zero_is}
use Rattle.tidying.proofs.Premises.{tidy_heads, tidy_ordered}
use Rattle.tidying.proofs.Allowed.{tidy_allows}
use Rattle.tidying.proofs.TidiedWithin.{tidied_within}
use Rattle.rules.specs.Verdicts.{Mark, passes, Leaves, Tables}
use Rattle.rules.specs.Mark.{early_pass, restrict, mark_tidied, mark}
use Rattle.rules.specs.Demand.{NamesAmong, LeafKnown, Supposed, NeededDerived, NeededBase, PassesIncludes}
use Rattle.rules.proofs.Passing.{Passes, is_pass}
use Rattle.rules.proofs.SoundElements.{Known}
use Rattle.rules.proofs.SoundWalk.{Regular, Sound}
use Rattle.rules.proofs.Sound.{restrict_sound}

-- The early pass -----------------------------------------------------------------------

rounds_none : {p : Occurs} {W : Words} → p.max ≡ Bounded 0 → (w : List ℕ) → Rounds p W w → w ≡ []
rounds_none {p} {W} e w r = go r.number (subst (AtMost r.number) e r.most) r.rounds
  where
    go : (n : ℕ) → AtMost n (Bounded 0) → Many n W w → w ≡ []
    go zero h x = x
    go (suc n) h x = absurd (omega arith)

-- a record of maximum 0 allows only the empty word
zero_allows : (names : Names) (h : Head) (Ws : List Words) → (pair_of h).max ≡ Bounded 0 → (w : List ℕ) → words_from names h Ws w → w ≡ []
zero_allows names (element l p) Ws e = rounds_none e
zero_allows names (wildcard l p) Ws e = rounds_none e
zero_allows names (sequence p) Ws e = rounds_none e
zero_allows names (choice p) Ws e = rounds_none e
zero_allows names (all p) Ws e = rounds_none e

early_sound : (derived base : Names) (d b : Particle) → Throughout Ordered b → early_pass d b ≡ true → Allows derived d ⊆ Wider base b
unfolding Allows Wider
early_sound derived base d b o e w x =
    let (zd, f) = and-true (is_zero (pair_of d.head).max) (is_zero (pair_of b.head).max || emptiable b) e in
    let nothing : w ≡ [] = zero_allows derived d.head (fold (words_from derived) d.items) (zero_is (pair_of d.head).max zd) w x in
    subst (Wider base b) (sym nothing)
    (⊎_elim (λ zb. zero_wider base b.head (fold (wider_from base) b.items) o.0 (zero_is (pair_of b.head).max zb)) (emptiable_wider base b o) (or-true (is_zero (pair_of b.head).max) (emptiable b) f))

tidied_sound : (L : Leaves) (T : Tables) (derived base : Names) → NamesAmong L T derived base → Sound L derived base (mark_tidied L T)
unfolding mark_tidied
tidied_sound L T derived base N d b ks rs =
    go (early_pass d b) (restrict L T d b) (early_sound derived base d b (throughout_map (λ h k r. r.ordered) b rs)) (restrict_sound L T derived base N d b ks rs)
  where
    go : (c : Bool) (x : Mark) {A : Type 0} → (c ≡ true → A) → (Passes x → A) → Passes (elim c as (λ _. Mark) [ true ↦ passes | false ↦ x ]) → A
    go true x f g t = f refl
    go false x f g t = g t

-- The trees as handed in ---------------------------------------------------------------------

known_tidy : (L : Leaves) (x : Particle) → Throughout (Known L) x → Throughout (Known L) (tidy x)
known_tidy L = tidy_heads (LeafKnown L) (λ p a b. tt)

regular_tidy : (L : Leaves) (x : Particle) → NeededBase L x → Throughout (Regular L) (tidy x)
regular_tidy L x s = throughout_both {R = Regular L} (λ h k a b. record { known = a; ordered = b }) (tidy x) (known_tidy L x s.leaves_known) (tidy_ordered x s.ordered)

-- no zero maximum below the derived root, and no empty choice in the base
pub needed_includes : PassesIncludes NeededDerived NeededBase
unfolding mark
needed_includes L T derived base N d b sd sb e w x =
    tidied_within base b sb.ordered sb.no_empty_choice w
    (tidied_sound L T derived base N (tidy d) (tidy b) (known_tidy L d sd.leaves_known) (regular_tidy L b sb) (is_pass e) w ((tidy_allows derived d sd.no_zero_below w).1 x))

pub passes_includes : PassesIncludes Supposed Supposed
passes_includes L T derived base N d b sd sb =
    needed_includes L T derived base N d b (record { leaves_known = sd.leaves_known; no_zero_below = sd.no_zero_below }) (record { leaves_known = sb.leaves_known; ordered = sb.ordered; no_empty_choice = sb.no_empty_choice })

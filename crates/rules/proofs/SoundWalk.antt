-- Demand 3, second half, for the rules over several items: where the marks of items are sound, so are the ordered walk, alternatives and each member. Assumes nothing.
use mathlib.Core.Bool.{true, false}
use mathlib.Core.List.{[]}
use mathlib.Core.Logic.{inl, inr, ⊎_elim}
use mathlib.Core.Path.{◌≡◌, refl}
use Prim.Native.Nat.{ℕ}
use Rattle.particle.specs.Tree.{Head, Items, none, item, Particle, fold}
use Rattle.particle.specs.Empty.{emptiable}
use Rattle.language.specs.Language.{Words, InOrder, OneOf, Names, Allows}
use Rattle.language.specs.Premises.{Every, Throughout, Ordered}
use Rattle.language.proofs.Words.{◌⊆◌, followed_mono}
use Rattle.language.proofs.Joining.{AllWithin}
use Rattle.language.proofs.Premises.{throughout_map}
use Rattle.language.proofs.Wider.{Wider}
use Rattle.language.proofs.Emptiness.{emptiable_wider}
use Rattle.rules.specs.Verdicts.{Mark, Leaves}
use Rattle.rules.specs.Walk.{◌⟦◌⟧, Judge, left_over, recurse_ordered, alternatives, each_member}
use Rattle.rules.specs.Demand.{LeafKnown}
use Rattle.rules.proofs.Passing.{Passes, and_passes, or_passes, skip_passes, step_passes}
use Rattle.rules.proofs.SoundElements.{Known, each, each_wider}

-- what is supposed of each record of the base
pub record Regular (L : Leaves) (h : Head) (k : Items) : Type 0 where
  pub known : LeafKnown L h
  pub ordered : Ordered h k

-- where J passes, the derived tree allows no more than the base, as the rules take it
abbrev pub Sound : Leaves → (derived base : Names) → Judge → Type 0
Sound L derived base J = (d b : Particle) → Throughout (Known L) d → Throughout (Regular L) b → Passes (J d b) → Allows derived d ⊆ Wider base b

module _ (L : Leaves) (derived base : Names) where
  base_empty : (x : Particle) → Throughout (Regular L) x → emptiable x ≡ true → Wider base x []
  base_empty x rs = emptiable_wider base x (throughout_map (λ h k r. r.ordered) x rs)

  left_over_lem : (bs : Items) → Every (Regular L) bs → Passes (left_over bs) → InOrder (each_wider base bs) []
  unfolding left_over fold Wider
  left_over_lem none rs t = refl
  left_over_lem (item h k r) (R, rs) t =
      let (e, t') = skip_passes (emptiable (h ⟦ k ⟧)) 121 (left_over r) t in
      record { front = []; back = []; whole = refl; left = base_empty (h ⟦ k ⟧) R e; right = left_over_lem r rs t' }

  module _ (J : Judge) (S : Sound L derived base J) where
    pub walk_in_order : (ds bs : Items) → Every (Known L) ds → Every (Regular L) bs → Passes (recurse_ordered J false ds bs) → InOrder (each derived ds) ⊆ InOrder (each_wider base bs)
    unfolding recurse_ordered fold Allows Wider
    walk_in_order none none ks rs t w p = p
    walk_in_order (item h k r) none ks rs t w p = absurd t
    walk_in_order none (item hb kb rb) ks rs t w p = rw p (left_over_lem (item hb kb rb) rs t)
    walk_in_order (item hd kd rd) (item hb kb rb) (K, ks) (R, rs) t w p =
        ⊎_elim
        (λ (s, t'). followed_mono (S (hd ⟦ kd ⟧) (hb ⟦ kb ⟧) K R s) (walk_in_order rd rb ks rs t') w p)
        (λ (e, t'). record { front = []; back = w; whole = refl; left = base_empty (hb ⟦ kb ⟧) R e; right = walk_in_order (item hd kd rd) rb (K, ks) rs t' w p })
        (step_passes (J (hd ⟦ kd ⟧) (hb ⟦ kb ⟧)) (recurse_ordered J false rd rb) (recurse_ordered J false (item hd kd rd) rb) (emptiable (hb ⟦ kb ⟧)) t)

    pub walk_one_of : (ds bs : Items) → Every (Known L) ds → Every (Regular L) bs → Passes (recurse_ordered J true ds bs) → OneOf (each derived ds) ⊆ OneOf (each_wider base bs)
    unfolding recurse_ordered fold Allows Wider
    walk_one_of none none ks rs t w p = p
    walk_one_of (item h k r) none ks rs t w p = absurd t
    walk_one_of none (item hb kb rb) ks rs t w p = absurd p
    walk_one_of (item hd kd rd) (item hb kb rb) (K, ks) (R, rs) t w p =
        ⊎_elim
        (λ (s, t'). ⊎_elim (λ x. inl (S (hd ⟦ kd ⟧) (hb ⟦ kb ⟧) K R s w x)) (λ x. inr (walk_one_of rd rb ks rs t' w x)) p)
        (λ (e, t'). inr (walk_one_of (item hd kd rd) rb (K, ks) rs t' w p))
        (step_passes (J (hd ⟦ kd ⟧) (hb ⟦ kb ⟧)) (recurse_ordered J true rd rb) (recurse_ordered J true (item hd kd rd) rb) true t)

    pub alternatives_sound : (r : ℕ) (x : Particle) (bs : Items) → Throughout (Known L) x → Every (Regular L) bs → Passes (alternatives J r x bs) → Allows derived x ⊆ OneOf (each_wider base bs)
    unfolding alternatives fold Allows Wider
    alternatives_sound r x none K rs t w p = absurd t
    alternatives_sound r x (item h k rb) K (R, rs) t w p =
        ⊎_elim (λ s. inl (S x (h ⟦ k ⟧) K R s w p)) (λ t'. inr (alternatives_sound r x rb K rs t' w p)) (or_passes (J x (h ⟦ k ⟧)) (alternatives J r x rb) t)

  pub each_sound : (f : Particle → Mark) (X : Words) → ((x : Particle) → Throughout (Known L) x → Passes (f x) → Allows derived x ⊆ X)
      → (ds : Items) → Every (Known L) ds → Passes (each_member f ds) → AllWithin (each derived ds) X
  unfolding each_member fold Allows
  each_sound f X H none ks t = tt
  each_sound f X H (item h k r) (K, ks) t =
      let (s, t') = and_passes (f (h ⟦ k ⟧)) (each_member f r) t in
      (H (h ⟦ k ⟧) K s, each_sound f X H r ks t')

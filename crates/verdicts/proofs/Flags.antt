-- Base items by flags: taking the first untaken one of a name, and those left at the end, item by item. Assumes nothing.
use mathlib.Core.Bool.{Bool, true, false, ◌&&◌, not, true≢false}
use mathlib.Core.List.{List, [], ◌∷◌}
use mathlib.Core.Logic.{◌⊎◌, inl, inr}
use mathlib.Core.Path.{◌≡◌, refl, ap, sym, ◌∙◌}
use Prim.Native.Nat.{ℕ, zero, suc, ◌+◌, ◌<◌}
use native.Mathlib.Numerals.{add-one}
use borrow.Author.Tests.{eq-eqb, ne_eqb}
use Rattle.std.specs.Prelude.{Option, None, Some}
use lib.ListN.{length, drop, get_or, replicate}
use lib.Seq.{drop-cons}
use Rattle.particle.specs.declared.Occurs.{Occurs}
use Rattle.particle.specs.Tree.{Head, element, wildcard, sequence, choice, all, Items, none, item, head_from, pair_of}
use Rattle.rules.specs.Verdicts.{Leaves, fails}
use Rattle.rules.specs.Walk.{found, behind, take_named, untaken}
use Rattle.verdicts.specs.Taken.{untaken_items, has_name, found_of}
use Rattle.particle.proofs.ByKind.{any_kind}

pub untaken_none : (fs : List Bool) → untaken_items fs none ≡ none
unfolding untaken_items
untaken_none [] = refl
untaken_none (f ∷ fs) = refl

-- the flag at i and those after it
pub flag_here : (fs : List Bool) (i : ℕ) → i < length fs → drop i fs ≡ get_or fs i false ∷ drop (i + 1) fs
flag_here fs i l = rw (add-one i) (drop-cons fs i false l)

-- at first nothing is taken
pub none_taken : (n : ℕ) (x : Items) → untaken_items (replicate n false) x ≡ x
unfolding untaken_items
none_taken zero x = refl
none_taken (suc n) none = refl
none_taken (suc n) (item h k r) = ap (item h k) (none_taken n r)

module _ (L : Leaves) (name : ℕ) where
  -- the first item has the name or not
  unnamed : (h : Head) (k x : Items) → has_name L name h ≡ false → take_named L name (item h k x) ≡ behind h k (take_named L name x)
  unfolding take_named
  unnamed (element m q) k x e = rw (e, take_named)
  unnamed (wildcard m q) k x e = refl
  unnamed (sequence q) k x e = refl
  unnamed (choice q) k x e = refl
  unnamed (all q) k x e = refl

  named : (k l : ℕ) (p : Occurs) (y x : Items) → has_name L name (head_from k l p) ≡ true → take_named L name (item (head_from k l p) y x) ≡ found l p x
  unfolding take_named
  named k l p y x = any_kind (λ h. has_name L name h ≡ true → take_named L name (item h y x) ≡ found l p x) l p (λ e. rw (e, take_named)) never never never never k
    where
      never : {A : Type 0} → false ≡ true → A
      never e = absurd (true≢false (sym e))

  -- among the items x, r is the answer where the flags are fs, and then they are e
  abbrev pub Answers : Items → (fs e : List Bool) → Option (ℕ × Occurs) → Type 0
  Answers x fs e r = found_of r (untaken_items e x) ≡ take_named L name (untaken_items fs x)

  -- an item in front: it is passed, or it is the one
  pub passed_by : (h : Head) (k x : Items) (f : Bool) (fs e : List Bool) (r : Option (ℕ × Occurs)) → (not f && has_name L name h) ≡ false → Answers x fs e r → Answers (item h k x) (f ∷ fs) (f ∷ e) r
  unfolding untaken_items
  passed_by h k x true fs e r n a = a
  passed_by h k x false fs e r n a = in_front r ∙ (ap (behind h k) a ∙ sym (unnamed h k (untaken_items fs x) n))
    where
      in_front : (r : Option (ℕ × Occurs)) → found_of r (item h k (untaken_items e x)) ≡ behind h k (found_of r (untaken_items e x))
      in_front None = refl
      in_front (Some e) = refl

  pub taken_first : (k l : ℕ) (p : Occurs) (y x : Items) (f : Bool) (fs : List Bool) → (not f && has_name L name (head_from k l p)) ≡ true → Answers (item (head_from k l p) y x) (f ∷ fs) (true ∷ fs) (Some (l, p))
  unfolding untaken_items
  taken_first k l p y x true fs e = absurd (true≢false (sym e))
  taken_first k l p y x false fs e = sym (named k l p y (untaken_items fs x) e)

-- at the end, an item in front that is taken, or of minimum 0, does not matter; another one gives 109
pub untaken_past : (h : Head) (k x : Items) (f : Bool) (fs : List Bool) → ((pair_of h).min ≡ 0) ⊎ (f ≡ true) → untaken (untaken_items (f ∷ fs) (item h k x)) ≡ untaken (untaken_items fs x)
unfolding untaken_items untaken
untaken_past h k x true fs o = refl
untaken_past h k x false fs (inl z) = rw (eq-eqb _ _ z, untaken)
untaken_past h k x false fs (inr e) = absurd (true≢false (sym e))

pub untaken_required : (h : Head) (k x : Items) (f : Bool) (fs : List Bool) → ((pair_of h).min ≡ 0 → ⊥) → f ≡ false → untaken (untaken_items (f ∷ fs) (item h k x)) ≡ fails 109
unfolding untaken_items untaken
untaken_required h k x true fs z e = absurd (true≢false e)
untaken_required h k x false fs z e = rw (ne_eqb _ _ z, untaken)

-- What holds of each record of a tree and still holds of each record of the tidied tree: the premises of demand 3 among it. Assumes nothing.
use mathlib.Core.Path.{◌≡◌, refl, subst}
use Rattle.particle.specs.declared.Occurs.{Occurs}
use Rattle.particle.specs.Occurs.{exactly}
use Rattle.particle.specs.Tree.{Head, sequence, choice, Items, none, item, Particle, pair_of, ◌then◌}
use Rattle.language.specs.Premises.{Every, Throughout, Ordered, NoZeroMaximum, NoEmptyChoice}
use Rattle.language.proofs.Premises.{throughout_map, throughout_both}
use Rattle.language.proofs.Rounds.{once_is}
use Rattle.tidying.specs.Tidy.{keep, closed, settle, tidy_items, tidy}
use Rattle.tidying.specs.TidyTree.{Group}
use Rattle.tidying.proofs.Steps.{group_cases, settle_cases, closed_cases, keep_cases, splices_cases, takes_cases, zero_is}

-- The law ------------------------------------------------------------------------------

-- P of a group passes to what the group keeps of its items, and from a sequence to the (1,1) choice that takes its pair
module _ (P : Head → Items → Type 0) (kept : (g : Head) → Group g → (h : Head) (k r rest : Items) (x : Particle) → P g (item h k r) → P x.head x.items → P g (keep g x rest))
    (taken : (p : Occurs) (k : Items) → P (sequence p) (item (choice (exactly 1)) k none) → P (choice (exactly 1)) k → P (choice p) k) where
  every_then : (x y : Items) → Every P x → Every P y → Every P (x then y)
  unfolding ◌then◌
  every_then none y ps qs = qs
  every_then (item h k r) y (p, ps) qs = (p, every_then r y ps qs)

  keep_every : (g : Head) (x : Particle) (rest : Items) → Throughout P x → Every P rest → Every P (keep g x rest)
  keep_every g x rest p ps = keep_cases (Every P) g x rest (λ _. ps) (λ _. every_then x.items rest p.1 ps) (λ _ _. (p, ps))

  closed_each : (g : Head) (t : Items) → P g t → Every P t → Throughout P (closed g t)
  closed_each g t a ps =
      let one : (h : Head) (k : Items) → t ≡ item h k none → Throughout P (record { head = h; items = k }) = λ h k e. (subst (Every P) e ps).0 in
      closed_cases (Throughout P) g t (a, ps) (λ h k e _. one h k e)
      (λ h k e p. (takes_cases (λ (g h : Head). P g (item h k none) → P h k → P (choice (pair_of g)) k) (λ q p o. rw (once_is p o) (taken q k)) g h p (subst (P g) e a) (one h k e).0, (one h k e).1))

  settle_each : (h : Head) (k t : Items) → Throughout P (record { head = h; items = k }) → Every P t → (Group h → P h k → P h t) → Throughout P (settle h k t)
  settle_each h k t w ps f = settle_cases (Throughout P) h k t (λ _. w) (λ s. closed_each h t (f s w.0) ps)

  items_each : (g : Head) (k : Items) → Every P k → Every P (tidy_items g k) × (Group g → P g k → P g (tidy_items g k))
  unfolding tidy_items
  items_each g none ps = (tt, λ s a. a)
  items_each g (item h k r) (w, ps) =
      let below = items_each h k w.1 in
      let one = settle_each h k (tidy_items h k) w below.0 below.1 in
      (keep_every g (settle h k (tidy_items h k)) (tidy_items g r) one (items_each g r ps).0, λ s a. kept g s h k r (tidy_items g r) (settle h k (tidy_items h k)) a one.0)

  pub tidy_each : (x : Particle) → Throughout P x → Throughout P (tidy x)
  unfolding tidy
  tidy_each x w =
      let below = items_each x.head x.items w.1 in
      settle_each x.head x.items (tidy_items x.head x.items) w below.0 below.1

-- What only heads decide ------------------------------------------------------------------

-- a property of heads that passes from a sequence to the (1,1) choice that takes its pair
pub tidy_heads : (Q : Head → Type 0) → ((p : Occurs) → Q (sequence p) → Q (choice (exactly 1)) → Q (choice p)) → (x : Particle) → Throughout (λ h k. Q h) x → Throughout (λ h k. Q h) (tidy x)
tidy_heads Q taken = tidy_each (λ h k. Q h) (λ g s h k r rest x a b. a) (λ p k. taken p)

pub tidy_no_zero_maximum : (x : Particle) → Throughout NoZeroMaximum x → Throughout NoZeroMaximum (tidy x)
tidy_no_zero_maximum = tidy_heads (λ h. NoZeroMaximum h none) (λ p a b. a)

pub tidy_ordered : (x : Particle) → Throughout Ordered x → Throughout Ordered (tidy x)
tidy_ordered = tidy_heads (λ h. Ordered h none) (λ p a b. a)

-- No empty choice, where there is no zero maximum ------------------------------------------

pub item_some : (h : Head) (k r : Items) → ¬ (item h k r ≡ none)
item_some h k r e = cc

pub then_some : (x y : Items) → ¬ (x ≡ none) → ¬ (x then y ≡ none)
unfolding ◌then◌
then_some none y n e = n refl
then_some (item h k r) y n e = item_some h k (r then y) e

-- the two premises together
abbrev pub Plain : Head → Items → Type 0
Plain h k = NoZeroMaximum h k × NoEmptyChoice h k

-- a choice keeps something of each such item
keep_some : (q : Occurs) (x : Particle) (rest : Items) → Plain x.head x.items → ¬ (keep (choice q) x rest ≡ none)
keep_some q x rest (z, n) =
    keep_cases (λ (y : Items). ¬ (y ≡ none)) (choice q) x rest (λ e. absurd (z (zero_is (pair_of x.head).max e)))
    (λ e. then_some x.items rest (splices_cases (λ (g h : Head). NoEmptyChoice h x.items → NoEmptyChoice g x.items) (λ q p o a. a) (λ q p o a. a) (choice q) x.head e n))
    (λ _ _. item_some x.head x.items rest)

plain_kept : (g : Head) → Group g → (h : Head) (k r rest : Items) (x : Particle) → Plain g (item h k r) → Plain x.head x.items → Plain g (keep g x rest)
plain_kept g e h k r rest x a b = group_cases (λ (g : Head). Plain g (item h k r) → Plain g (keep g x rest)) (λ p a. a) (λ p a. (a.0, keep_some p x rest b)) g e a

pub tidy_plain : (x : Particle) → Throughout Plain x → Throughout Plain (tidy x)
tidy_plain = tidy_each Plain plain_kept (λ p k a b. (a.0, b.1))

pub tidy_no_empty_choice : (x : Particle) → Throughout NoZeroMaximum x → Throughout NoEmptyChoice x → Throughout NoEmptyChoice (tidy x)
tidy_no_empty_choice x z n = throughout_map (λ h k a. a.1) (tidy x) (tidy_plain x (throughout_both (λ h k a b. (a, b)) x z n))

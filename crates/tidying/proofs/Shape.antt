-- The shape of a tidy tree, sentence by sentence, and that tidying leaves alone just the trees of that shape (document 02 §8). Assumes nothing.
use mathlib.Core.Bool.{true, false, false≢true}
use mathlib.Core.Logic.{◌↔◌}
use mathlib.Core.Path.{◌≡◌, refl, ap, sym, ◌∙◌, subst}
use native.Mathlib.Omega.{arith}
use Rattle.std.proofs.lemmas.Bool.{false_from_ne_true}
use Rattle.particle.specs.declared.MaxOccurs.{MaxOccurs}
use Rattle.particle.specs.declared.MaxOccurs.TheVariants.{Bounded}
use Rattle.particle.specs.declared.Occurs.{Occurs}
use Rattle.particle.specs.Occurs.{exactly, is_zero, is_once}
use Rattle.particle.specs.Tree.{Head, element, wildcard, sequence, choice, all, Items, none, item, Particle, pair_of, single}
use Rattle.particle.specs.Encode.{kind_number}
use Rattle.language.specs.Premises.{NoZeroMaximum}
use Rattle.language.proofs.Rounds.{once_is}
use Rattle.tidying.specs.Tidy.{splices, takes_pair, tidy}
use Rattle.tidying.specs.TidyTree.{Group, EachItem, EveryOutside, Outside, BelowOutside, Once, NoOwnKind, NoLoneItem, NoLoneChoice, TidyTree}
use Rattle.tidying.proofs.Steps.{group_cases, splices_cases, takes_cases, zero_is}
use Rattle.tidying.proofs.TidyTrees.{NoZero, TidyGroup, TidyItems, EachTidy, tidied_each, each_same}

-- Tests and what they say ------------------------------------------------------------------------

not_zero : (m : MaxOccurs) → is_zero m ≡ false → ¬ (m ≡ Bounded 0)
not_zero m f e = false≢true (sym f ∙ ap is_zero e)

zero_refuted : (m : MaxOccurs) → ¬ (m ≡ Bounded 0) → is_zero m ≡ false
zero_refuted m n = false_from_ne_true (is_zero m) (λ t. n (zero_is m t))

once_holds : (p : Occurs) → p ≡ exactly 1 → is_once p ≡ true
once_holds p e = ap is_once e

-- a (1,1) item of a group's own kind is one that it replaces by its items
own_splices : (g : Head) → Group g → (h : Head) → kind_number h ≡ kind_number g → Once h → splices g h ≡ true
own_splices g s h = group_cases (λ (g : Head). kind_number h ≡ kind_number g → Once h → splices g h ≡ true) (in_sequence_lem h) (in_choice_lem h) g s
  where
    in_sequence_lem : (h : Head) (p : Occurs) → kind_number h ≡ 2 → Once h → splices (sequence p) h ≡ true
    in_sequence_lem (element l q) p k o = absurd (omega arith)
    in_sequence_lem (wildcard l q) p k o = absurd (omega arith)
    in_sequence_lem (sequence q) p k o = once_holds q o
    in_sequence_lem (choice q) p k o = absurd (omega arith)
    in_sequence_lem (all q) p k o = absurd (omega arith)

    in_choice_lem : (h : Head) (p : Occurs) → kind_number h ≡ 3 → Once h → splices (choice p) h ≡ true
    in_choice_lem (element l q) p k o = absurd (omega arith)
    in_choice_lem (wildcard l q) p k o = absurd (omega arith)
    in_choice_lem (sequence q) p k o = absurd (omega arith)
    in_choice_lem (choice q) p k o = once_holds q o
    in_choice_lem (all q) p k o = absurd (omega arith)

splices_own : (g h : Head) → splices g h ≡ true → (kind_number h ≡ kind_number g) × Once h
splices_own = splices_cases (λ (g h : Head). (kind_number h ≡ kind_number g) × Once h) (λ q p o. (refl, once_is p o)) (λ q p o. (refl, once_is p o))

each_map : {Q R : Head → Type 0} → ((h : Head) → Q h → R h) → (x : Items) → EachItem Q x → EachItem R x
each_map f none q = tt
each_map f (item h k r) (q, qs) = (f h q, each_map f r qs)

-- From groups to sentences ------------------------------------------------------------------------

-- a sentence that follows for each record from what is so of each group
outside : (P : Head → Items → Type 0) → ((g : Head) (k : Items) → (Group g → TidyGroup g k) → P g k) → (x : Items) → TidyItems x → EveryOutside P x
unfolding TidyItems
outside P f none a = tt
outside P f (item h k r) a = ((f h k (λ s. (a.0 s).0), λ s. outside P f k (a.0 s).1), outside P f r a.1)

zero_outside : (k : Items) → NoZero k → TidyItems k → EveryOutside NoZeroMaximum k
unfolding TidyItems
zero_outside none z a = tt
zero_outside (item h k r) (z, zs) a = ((not_zero (pair_of h).max z, λ s. zero_outside k (a.0 s).0.no_zero (a.0 s).1), zero_outside r zs a.1)

own_kind : (g : Head) (k : Items) → (Group g → TidyGroup g k) → NoOwnKind g k
own_kind g k a s = each_map (λ h f e o. cc (own_splices g s h e o)) k (a s).no_own

lone_item : (g : Head) (k : Items) → (Group g → TidyGroup g k) → NoLoneItem g k
lone_item g k a s o = (a s).not_alone (once_holds (pair_of g) o)

lone_choice : (g : Head) (k : Items) → (Group g → TidyGroup g k) → NoLoneChoice g k
lone_choice g k a q t e i = subst (λ (g : Head). (Group g → TidyGroup g k) → ⊥) (sym e) (λ a. false≢true (sym ((a tt).not_paired (choice (exactly 1)) t i))) a

each_tidy : (x : Particle) → EachTidy x → TidyTree x
unfolding TidyItems
each_tidy x a = record {
  no_zero = λ s. zero_outside x.items (a.0 s).0.no_zero (a.0 s).1;
  no_own_kind = outside NoOwnKind own_kind (single x) a;
  no_lone_item = outside NoLoneItem lone_item (single x) a;
  no_lone_choice = outside NoLoneChoice lone_choice (single x) a;
}

-- From sentences to groups -------------------------------------------------------------------------

-- below each of the trees, outside all-groups, there is no maximum of 0
abbrev ZeroBelow : Items → Type 0
ZeroBelow none = Unit {0}
ZeroBelow (item h k r) = (Group h → EveryOutside NoZeroMaximum k) × ZeroBelow r

zero_below : (x : Items) → EveryOutside NoZeroMaximum x → ZeroBelow x
zero_below none z = tt
zero_below (item h k r) ((z, b), zs) = (b, zero_below r zs)

zero_heads : (x : Items) → EveryOutside NoZeroMaximum x → NoZero x
zero_heads none z = tt
zero_heads (item h k r) ((z, b), zs) = (zero_refuted (pair_of h).max z, zero_heads r zs)

tidy_group : (g : Head) → Group g → (k : Items) → EveryOutside NoZeroMaximum k → NoOwnKind g k → NoLoneItem g k → NoLoneChoice g k → TidyGroup g k
tidy_group g s k z a b c = record {
  no_zero = zero_heads k z;
  no_own = each_map (λ h n. false_from_ne_true (splices g h) (λ t. let o = splices_own g h t in n o.0 o.1)) k (a s);
  not_alone = λ t. b s (once_is (pair_of g) t);
  not_paired = λ h t i. false_from_ne_true (takes_pair g h) (λ e. takes_cases (λ (g h : Head). k ≡ item h t none → NoLoneChoice g k → ⊥) (λ q p o i c. c q t refl (i ∙ ap (λ (p : Occurs). item (choice p) t none) (once_is p o))) g h e i c);
}

tidy_each : (x : Items) → ZeroBelow x → EveryOutside NoOwnKind x → EveryOutside NoLoneItem x → EveryOutside NoLoneChoice x → TidyItems x
unfolding TidyItems
tidy_each none z a b c = tt
tidy_each (item h k r) (z, zs) ((a, below), later) ((b, below'), later') ((c, below''), later'') = (
  λ s. (tidy_group h s k (z s) a b c, tidy_each k (zero_below k (z s)) (below s) (below' s) (below'' s)),
  tidy_each r zs later later' later'',
)

tidy_tree : (x : Particle) → TidyTree x → EachTidy x
tidy_tree x a = tidy_each (single x) (a.no_zero, tt) a.no_own_kind a.no_lone_item a.no_lone_choice

-- The theorems -------------------------------------------------------------------------------------

pub tidied_is_tidy : (x : Particle) → TidyTree (tidy x)
tidied_is_tidy x = each_tidy (tidy x) (tidied_each x)

-- Below its root, outside all-groups, a tidied tree has no item of maximum 0.
pub no_zero_maximum_lem : (x : Particle) → BelowOutside NoZeroMaximum (tidy x)
no_zero_maximum_lem x = (tidied_is_tidy x).no_zero

-- No sequence or choice of it holds a (1,1) item of its own kind.
pub no_own_kind_lem : (x : Particle) → Outside NoOwnKind (tidy x)
no_own_kind_lem x = (tidied_is_tidy x).no_own_kind

-- No (1,1) sequence or choice of it holds exactly one item.
pub no_lone_item_lem : (x : Particle) → Outside NoLoneItem (tidy x)
no_lone_item_lem x = (tidied_is_tidy x).no_lone_item

-- No sequence of it holds one (1,1) choice alone.
pub no_lone_choice_lem : (x : Particle) → Outside NoLoneChoice (tidy x)
no_lone_choice_lem x = (tidied_is_tidy x).no_lone_choice

pub tidy_same : (x : Particle) → TidyTree x → tidy x ≡ x
tidy_same x a = each_same x (tidy_tree x a)

-- Tidying leaves alone just the tidy trees.
pub left_alone : (x : Particle) → (tidy x ≡ x) ↔ TidyTree x
left_alone x = (λ e. subst TidyTree e (tidied_is_tidy x), tidy_same x)

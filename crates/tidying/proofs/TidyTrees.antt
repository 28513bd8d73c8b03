-- Tidy trees group by group, in the words of tidying's own tests: what tidying gives is such a tree, and such a tree it leaves as it is. Assumes nothing.
use mathlib.Core.Bool.{true, false}
use mathlib.Core.Path.{◌≡◌, refl, ap, ap₂, ◌∙◌}
use native.Mathlib.Omega.{arith}
use Rattle.particle.specs.Occurs.{is_zero, is_once}
use Rattle.particle.specs.Tree.{Head, choice, Items, none, item, Particle, pair_of, single, count_i, ◌then◌}
use Rattle.tidying.specs.Tidy.{splices, put, keep, takes_pair, lone, closed, settle, tidy_items, tidy}
use Rattle.tidying.specs.TidyTree.{Group, EachItem}
use Rattle.tidying.proofs.Steps.{branch, settle_cases, closed_cases, keep_cases, splices_cases, takes_cases}

-- none of the trees has maximum 0
abbrev pub NoZero : Items → Type 0
NoZero = EachItem (λ h. is_zero (pair_of h).max ≡ false)

-- none of them is a (1,1) one of the group g's own kind
abbrev pub NoOwn : Head → Items → Type 0
NoOwn g = EachItem (λ h. splices g h ≡ false)

-- in a sequence or choice g with the items k there is nothing to drop, to replace or to close
pub record TidyGroup (g : Head) (k : Items) : Type 0 where
  pub no_zero : NoZero k
  pub no_own : NoOwn g k
  pub not_alone : is_once (pair_of g) ≡ true → ¬ (count_i k ≡ 1)
  pub not_paired : (h : Head) (t : Items) → k ≡ item h t none → takes_pair g h ≡ false

-- so it is in each sequence and choice of the trees that stands outside all-groups
unfoldable pub TidyItems : Items → Type 0
TidyItems none = Unit {0}
TidyItems (item h k r) = (Group h → TidyGroup h k × TidyItems k) × TidyItems r

abbrev pub EachTidy : Particle → Type 0
EachTidy x = TidyItems (single x)

each_then : (Q : Head → Type 0) (x y : Items) → EachItem Q x → EachItem Q y → EachItem Q (x then y)
unfolding ◌then◌
each_then Q none y a b = b
each_then Q (item h k r) y (q, a) b = (q, each_then Q r y a b)

tidy_then : (x y : Items) → TidyItems x → TidyItems y → TidyItems (x then y)
unfolding ◌then◌ TidyItems
tidy_then none y a b = b
tidy_then (item h k r) y a b = (a.0, tidy_then r y a.1 b)

-- what a group g keeps of its items
pub record KeptTidy (g : Head) (t : Items) : Type 0 where
  pub tidy_ones : TidyItems t
  pub no_zero : NoZero t
  pub no_own : NoOwn g t

-- the items of an item of the group's own kind
inner_kept : (g h : Head) (k : Items) → splices g h ≡ true → TidyItems (item h k none) → KeptTidy g k
unfolding TidyItems
inner_kept g h k e = splices_cases (λ (g h : Head). TidyItems (item h k none) → KeptTidy g k)
    (λ q p o a. let b = a.0 tt in record { tidy_ones = b.1; no_zero = b.0.no_zero; no_own = b.0.no_own })
    (λ q p o a. let b = a.0 tt in record { tidy_ones = b.1; no_zero = b.0.no_zero; no_own = b.0.no_own }) g h e

keep_kept : (g : Head) (x : Particle) (rest : Items) → EachTidy x → KeptTidy g rest → KeptTidy g (keep g x rest)
unfolding TidyItems
keep_kept g x rest a s =
    keep_cases (KeptTidy g) g x rest (λ _. s)
    (λ e. let i = inner_kept g x.head x.items e a in
    record { tidy_ones = tidy_then x.items rest i.tidy_ones s.tidy_ones; no_zero = each_then _ x.items rest i.no_zero s.no_zero; no_own = each_then _ x.items rest i.no_own s.no_own })
    (λ z e. record { tidy_ones = (a.0, s.tidy_ones); no_zero = (z, s.no_zero); no_own = (e, s.no_own) })

-- a group with what it kept, where nothing is left to close
tidy_group : (g : Head) (t : Items) → KeptTidy g t → (is_once (pair_of g) ≡ true → ¬ (count_i t ≡ 1)) → ((h : Head) (k : Items) → t ≡ item h k none → takes_pair g h ≡ false) → TidyGroup g t × TidyItems t
tidy_group g t s a b = (record { no_zero = s.no_zero; no_own = s.no_own; not_alone = a; not_paired = b }, s.tidy_ones)

lone_tidy : (g h : Head) (k : Items) → KeptTidy g (item h k none) → is_once (pair_of g) ≡ false → EachTidy (lone g h k)
unfolding TidyItems
lone_tidy g h k a n =
    branch EachTidy (takes_pair g h) (record { head = choice (pair_of g); items = k }) (record { head = g; items = item h k none })
    (λ e. takes_cases (λ (g h : Head). is_once (pair_of g) ≡ false → TidyItems (item h k none) → EachTidy (record { head = choice (pair_of g); items = k }))
    (λ q p o n a. let b = a.0 tt in (λ _. (record { no_zero = b.0.no_zero; no_own = b.0.no_own; not_alone = λ e. cc; not_paired = λ h t e. refl }, b.1), tt)) g h e n a.tidy_ones)
    (λ e. (λ _. tidy_group g (item h k none) a (λ o. cc) (λ h' t i. let f : h ≡ h' = cc in rw f at e), tt))

closed_tidy : (g : Head) (t : Items) → KeptTidy g t → EachTidy (closed g t)
unfolding TidyItems count_i
closed_tidy g none a = (λ _. tidy_group g none a (λ o e. omega arith) (λ h k e. cc), tt)
closed_tidy g (item h k none) a = branch EachTidy (is_once (pair_of g)) (record { head = h; items = k }) (lone g h k) (λ _. a.tidy_ones) (lone_tidy g h k a)
closed_tidy g (item h k (item h' k' r)) a =
    (λ _. tidy_group g (item h k (item h' k' r)) a (λ o e. omega arith) (λ h'' t e. cc), tt)

settle_tidy : (h : Head) (k t : Items) → (Group h → KeptTidy h t) → EachTidy (settle h k t)
unfolding TidyItems
settle_tidy h k t a = settle_cases EachTidy h k t (λ n. (λ s. absurd (n s), tt)) (λ s. closed_tidy h t (a s))

-- In particular a sequence keeps no (1,1) sequence: the Rust's arm for a lone one is never reached.
pub items_kept : (g : Head) (k : Items) → KeptTidy g (tidy_items g k)
unfolding tidy_items TidyItems
items_kept g none = record { tidy_ones = tt; no_zero = tt; no_own = tt }
items_kept g (item h k r) = keep_kept g (settle h k (tidy_items h k)) (tidy_items g r) (settle_tidy h k (tidy_items h k) (λ _. items_kept h k)) (items_kept g r)

pub tidied_each : (x : Particle) → EachTidy (tidy x)
unfolding tidy
tidied_each x = settle_tidy x.head x.items (tidy_items x.head x.items) (λ _. items_kept x.head x.items)

-- Tidying a tidy tree -------------------------------------------------------------------

closed_same : (g : Head) (t : Items) → TidyGroup g t → closed g t ≡ record { head = g; items = t }
unfolding count_i
closed_same g t a =
    closed_cases (λ (x : Particle). x ≡ record { head = g; items = t }) g t refl
    (λ h k e o. absurd (a.not_alone o (ap count_i e)))
    (λ h k e p. cc (p, a.not_paired h k e))

settle_same : (h : Head) (k : Items) → (Group h → TidyGroup h k × (tidy_items h k ≡ k)) → settle h k (tidy_items h k) ≡ record { head = h; items = k }
settle_same h k f = settle_cases (λ (x : Particle). x ≡ record { head = h; items = k }) h k (tidy_items h k) (λ _. refl) (λ s. ap (closed h) (f s).1 ∙ closed_same h k (f s).0)

keep_same : (g h : Head) (k r : Items) → is_zero (pair_of h).max ≡ false → splices g h ≡ false → keep g (record { head = h; items = k }) r ≡ item h k r
keep_same g h k r z e = rw (z, keep, e, put)

items_same : (g : Head) (k : Items) → TidyItems k → NoZero k → NoOwn g k → tidy_items g k ≡ k
unfolding tidy_items TidyItems
items_same g none a z n = refl
items_same g (item h k r) a (z, zs) (n, ns) =
    let one = settle_same h k (λ s. let b = a.0 s in (b.0, items_same h k b.1 b.0.no_zero b.0.no_own)) in
    ap₂ (keep g) one (items_same g r a.1 zs ns) ∙ keep_same g h k r z n

pub each_same : (x : Particle) → EachTidy x → tidy x ≡ x
unfolding tidy TidyItems
each_same x a = settle_same x.head x.items (λ s. let b = a.0 s in (b.0, items_same x.head x.items b.1 b.0.no_zero b.0.no_own))

pub tidy_twice : (x : Particle) → tidy (tidy x) ≡ tidy x
tidy_twice x = each_same (tidy x) (tidied_each x)

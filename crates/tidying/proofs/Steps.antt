-- The tests of tidying, and what follows where one holds. Assumes nothing.
use mathlib.Core.Bool.{Bool, true, false, false≢true}
use mathlib.Core.List.{List, ◌∷◌, ◌++◌}
use mathlib.Core.Path.{◌≡◌, refl, ap, subst}
use native.Mathlib.Omega.{arith}
use borrow.Author.Tests.{eqb-true}
use Rattle.particle.specs.declared.MaxOccurs.{MaxOccurs}
use Rattle.particle.specs.declared.MaxOccurs.TheVariants.{Bounded, Unbounded}
use Rattle.particle.specs.declared.Occurs.{Occurs}
use Rattle.particle.specs.Occurs.{is_zero, is_once}
use Rattle.particle.specs.Tree.{Head, element, wildcard, sequence, choice, all, Items, none, item, Particle, pair_of, fold, ◌then◌}
use Rattle.language.specs.Language.{AtMost}
use Rattle.tidying.specs.Tidy.{splices, put, keep, takes_pair, lone, closed, settle}
use Rattle.tidying.specs.TidyTree.{Group}

-- what holds on either side of a test holds of what it chooses
pub branch {ℓ κ} : {A : Type ℓ} (C : A → Type κ) (c : Bool) (a b : A) → (c ≡ true → C a) → (c ≡ false → C b) → C (elim c as (λ _. A) [ true ↦ a | false ↦ b ])
branch C true a b f g = f refl
branch C false a b f g = g refl

-- what holds of each sequence and each choice holds of each head that is one
pub group_cases {ℓ} : (C : Head → Type ℓ) → ((p : Occurs) → C (sequence p)) → ((p : Occurs) → C (choice p)) → (g : Head) → Group g → C g
group_cases C s c (element l p) e = absurd e
group_cases C s c (wildcard l p) e = absurd e
group_cases C s c (sequence p) e = s p
group_cases C s c (choice p) e = c p
group_cases C s c (all p) e = absurd e

-- a record is not altered, or is a group that is closed
pub settle_cases {ℓ} : (C : Particle → Type ℓ) (h : Head) (k t : Items) → (¬ (Group h) → C (record { head = h; items = k })) → (Group h → C (closed h t)) → C (settle h k t)
settle_cases C (element l p) k t f g = f (λ e. e)
settle_cases C (wildcard l p) k t f g = f (λ e. e)
settle_cases C (sequence p) k t f g = g tt
settle_cases C (choice p) k t f g = g tt
settle_cases C (all p) k t f g = f (λ e. e)

-- a group is as it is over its items, or its one item takes its place or its pair
pub closed_cases {ℓ} : (C : Particle → Type ℓ) (g : Head) (t : Items) → C (record { head = g; items = t })
    → ((h : Head) (k : Items) → t ≡ item h k none → is_once (pair_of g) ≡ true → C (record { head = h; items = k }))
    → ((h : Head) (k : Items) → t ≡ item h k none → takes_pair g h ≡ true → C (record { head = choice (pair_of g); items = k })) → C (closed g t)
closed_cases C g none same placed paired = same
closed_cases C g (item h k none) same placed paired =
    branch C (is_once (pair_of g)) (record { head = h; items = k }) (lone g h k) (placed h k refl)
    (λ _. branch C (takes_pair g h) (record { head = choice (pair_of g); items = k }) (record { head = g; items = item h k none }) (paired h k refl) (λ _. same))
closed_cases C g (item h k (item h' k' r)) same placed paired = same

-- of an item a group keeps nothing, its items, or the item itself
pub keep_cases {ℓ} : (C : Items → Type ℓ) (g : Head) (x : Particle) (rest : Items) → (is_zero (pair_of x.head).max ≡ true → C rest)
    → (splices g x.head ≡ true → C (x.items then rest)) → (is_zero (pair_of x.head).max ≡ false → splices g x.head ≡ false → C (item x.head x.items rest)) → C (keep g x rest)
keep_cases C g x rest dropped replaced kept =
    branch C (is_zero (pair_of x.head).max) rest (put g x rest) dropped (λ z. branch C (splices g x.head) (x.items then rest) (item x.head x.items rest) replaced (kept z))

-- an item that its group replaces by its items is a (1,1) sequence in a sequence, or a (1,1) choice in a choice
pub splices_cases {ℓ} : (C : Head → Head → Type ℓ) → ((q p : Occurs) → is_once p ≡ true → C (sequence q) (sequence p))
    → ((q p : Occurs) → is_once p ≡ true → C (choice q) (choice p)) → (g h : Head) → splices g h ≡ true → C g h
splices_cases C s c (sequence q) (sequence p) e = s q p e
splices_cases C s c (choice q) (choice p) e = c q p e
splices_cases C s c (element l q) h e = absurd (false≢true e)
splices_cases C s c (wildcard l q) h e = absurd (false≢true e)
splices_cases C s c (all q) h e = absurd (false≢true e)
splices_cases C s c (sequence q) (element l p) e = absurd (false≢true e)
splices_cases C s c (sequence q) (wildcard l p) e = absurd (false≢true e)
splices_cases C s c (sequence q) (choice p) e = absurd (false≢true e)
splices_cases C s c (sequence q) (all p) e = absurd (false≢true e)
splices_cases C s c (choice q) (element l p) e = absurd (false≢true e)
splices_cases C s c (choice q) (wildcard l p) e = absurd (false≢true e)
splices_cases C s c (choice q) (sequence p) e = absurd (false≢true e)
splices_cases C s c (choice q) (all p) e = absurd (false≢true e)

-- an item that takes its group's pair is a (1,1) choice in a sequence
pub takes_cases {ℓ} : (C : Head → Head → Type ℓ) → ((q p : Occurs) → is_once p ≡ true → C (sequence q) (choice p)) → (g h : Head) → takes_pair g h ≡ true → C g h
takes_cases C s (sequence q) (choice p) e = s q p e
takes_cases C s (element l q) h e = absurd (false≢true e)
takes_cases C s (wildcard l q) h e = absurd (false≢true e)
takes_cases C s (choice q) h e = absurd (false≢true e)
takes_cases C s (all q) h e = absurd (false≢true e)
takes_cases C s (sequence q) (element l p) e = absurd (false≢true e)
takes_cases C s (sequence q) (wildcard l p) e = absurd (false≢true e)
takes_cases C s (sequence q) (sequence p) e = absurd (false≢true e)
takes_cases C s (sequence q) (all p) e = absurd (false≢true e)

-- a maximum that the test finds to be 0 is 0
pub zero_is : (m : MaxOccurs) → is_zero m ≡ true → m ≡ Bounded 0
zero_is (Bounded n) t = ap Bounded (eqb-true n 0 t)
zero_is Unbounded t = absurd (false≢true t)

-- and then so is the minimum, the pair being in order
pub zero_min : (p : Occurs) → AtMost p.min p.max → is_zero p.max ≡ true → p.min ≡ 0
zero_min p o t = let l : AtMost p.min (Bounded 0) = subst (AtMost p.min) (zero_is p.max t) o in omega arith

-- a fold over one row of trees after another
pub fold_then {ℓ} : {A : Type ℓ} (f : Head → List A → A) (x y : Items) → fold f (x then y) ≡ fold f x ++ fold f y
unfolding fold ◌then◌
fold_then f none y = refl
fold_then f (item h k r) y = ap (◌∷◌ (f h (fold f k))) (fold_then f r y)

-- What some small trees allow: a sequence's names in order, any number of an unbounded leaf's, an all-group's names unbroken; and where a premise of `emptiable_allows` fails, so does it. Assumes nothing.
use mathlib.Core.Bool.{true}
use mathlib.Core.List.{List, [], ◌∷◌, cons≢nil}
use mathlib.Core.Logic.{◌⊎◌, inl, inr, ⊎_elim, ◌↔◌}
use mathlib.Core.Path.{◌≡◌, refl, ◌∙◌, subst}
use Prim.Native.Nat.{ℕ, zero, suc}
use native.Mathlib.Omega.{arith}
use lib.ListN.{replicate}
use Rattle.particle.specs.declared.MaxOccurs.TheVariants.{Bounded, Unbounded}
use Rattle.particle.specs.Occurs.{exactly}
use Rattle.particle.specs.Tree.{element, sequence, choice, all, none, item, Particle, fold}
use Rattle.particle.specs.Empty.{emptiable}
use Rattle.language.specs.Language.{InOrder, Inserted, here, later, AnyOrder, Rounds, Name, Names, Allows}
use Rattle.language.proofs.Words.{in_order_one}
use Rattle.language.proofs.Rounds.{Many, one_round, only_round}

-- leaf l has the one name l
abbrev pub own : Names
own l x = x ≡ l

name : (l : ℕ) → Name (own l) (l ∷ [])
name l = (l, refl, refl)

name_is : (l : ℕ) (u : List ℕ) → Name (own l) u → u ≡ l ∷ []
name_is l u (x, e, f) = cc

-- a is the leaf 1 and b the leaf 2; S[a,b] allows a b and no other word
abbrev pub a_then_b : Particle
a_then_b = record { head = sequence (exactly 1); items = item (element 1 (exactly 1)) none (item (element 2 (exactly 1)) none none) }

pub in_order : (w : List ℕ) → Allows own a_then_b w ↔ (w ≡ 1 ∷ 2 ∷ [])
unfolding Allows fold
in_order w = (
  λ r. go (only_round refl w r),
  λ e. rw e (one_round (omega arith) (omega arith) (1 ∷ 2 ∷ [])
      record { front = 1 ∷ []; back = 2 ∷ []; whole = refl; left = once 1; right = (in_order_one (2 ∷ [])).1 (once 2) }),
)
  where
    once : (l : ℕ) → Rounds (exactly 1) (Name (own l)) (l ∷ [])
    once l = one_round (omega arith) (omega arith) (l ∷ []) (name l)

    go : InOrder (Rounds (exactly 1) (Name (own 1)) ∷ Rounds (exactly 1) (Name (own 2)) ∷ []) w → w ≡ 1 ∷ 2 ∷ []
    go p =
        let e = name_is 1 p.front (only_round refl p.front p.left) in
        let f = name_is 2 p.back (only_round refl p.back ((in_order_one p.back).0 p.right)) in
        p.whole ∙ rw (e, f)

-- a(0,*) allows any number of a
abbrev pub any_a : Particle
any_a = record { head = element 1 (record { min = 0; max = Unbounded }); items = none }

pub endless : (n : ℕ) → Allows own any_a (replicate n 1)
unfolding Allows
endless n = record { number = n; least = omega arith; most = tt; rounds = go n }
  where
    go : (n : ℕ) → Many n (Name (own 1)) (replicate n 1)
    go zero = refl
    go (suc n) = record { front = 1 ∷ []; back = replicate n 1; whole = refl; left = name 1; right = go n }

-- A[a(2,2),b]
abbrev pub twice_and_once : Particle
twice_and_once = record { head = all (exactly 1); items = item (element 1 (exactly 2)) none (item (element 2 (exactly 1)) none none) }

-- b a a is allowed
pub baa : Allows own twice_and_once (2 ∷ 1 ∷ 1 ∷ [])
unfolding Allows fold
baa = one_round (omega arith) (omega arith) (2 ∷ 1 ∷ 1 ∷ []) (
  (2 ∷ []) ∷ (1 ∷ 1 ∷ []) ∷ [],
  refl,
  (
    1 ∷ 1 ∷ [],
    (2 ∷ []) ∷ [],
    later here,
    record {
      number = 2;
      least = omega arith;
      most = omega arith;
      rounds = record { front = 1 ∷ []; back = 1 ∷ []; whole = refl; left = name 1; right = record { front = 1 ∷ []; back = []; whole = refl; left = name 1; right = refl } };
    },
    (2 ∷ [], [], here, one_round (omega arith) (omega arith) (2 ∷ []) (name 2), refl),
  ),
)

two_names : (l : ℕ) (u : List ℕ) → Many 2 (Name (own l)) u → u ≡ l ∷ l ∷ []
two_names l u p =
    let e = name_is l p.front p.left in
    let f = name_is l p.right.front p.right.left in
    rw (p.whole, e, p.right.whole, f, p.right.right)

into_none : {x : List ℕ} {r s : List (List ℕ)} → Inserted x r s → r ≡ [] → s ≡ x ∷ []
into_none here e = cc
into_none (later i) e = absurd (cons≢nil e)

into_one : {x : List ℕ} {r s : List (List ℕ)} (y : List ℕ) → Inserted x r s → r ≡ y ∷ [] → (s ≡ x ∷ y ∷ []) ⊎ (s ≡ y ∷ x ∷ [])
into_one {x} y here e = inl (cc)
into_one {x} y (later {xs} {ys} i) e =
    let t : xs ≡ [] = cc in
    let f : ys ≡ x ∷ [] = into_none i t in
    inr (cc)

-- a b a is not: b breaks a's names
pub aba : ¬ (Allows own twice_and_once (1 ∷ 2 ∷ 1 ∷ []))
unfolding Allows fold
aba r = go (only_round refl (1 ∷ 2 ∷ 1 ∷ []) r)
  where
    go : AnyOrder (Rounds (exactly 2) (Name (own 1)) ∷ Rounds (exactly 1) (Name (own 2)) ∷ []) (1 ∷ 2 ∷ 1 ∷ []) → ⊥
    go (bs, j, (u, others, i, x, (v, others', i', y, e))) =
        let eu : u ≡ 1 ∷ 1 ∷ [] = two_names 1 u (subst (λ (n : ℕ). Many n (Name (own 1)) u) {x = x.number} {y = 2} (omega (arith, x.least, x.most)) x.rounds) in
        let ev : v ≡ 2 ∷ [] = name_is 2 v (only_round refl v y) in
        ⊎_elim
        (λ (f : bs ≡ u ∷ v ∷ []). let z : ◌≡◌ {A = ℕ} 1 2 = cc in omega arith)
        (λ (f : bs ≡ v ∷ u ∷ []). let z : ◌≡◌ {A = ℕ} 1 2 = cc in omega arith)
        (into_one v i (into_none i' e))

-- C[] is emptiable and allows no word: an empty choice has no round
abbrev pub empty_choice : Particle
empty_choice = record { head = choice (exactly 1); items = none }

pub empty_choice_lem : (emptiable empty_choice ≡ true) × ((w : List ℕ) → ¬ (Allows own empty_choice w))
unfolding emptiable Allows fold
empty_choice_lem = (refl, λ w r. only_round refl w r)

-- S(1,0)[] is emptiable and allows no word: no number of rounds lies within its pair
abbrev pub unordered : Particle
unordered = record { head = sequence (record { min = 1; max = Bounded 0 }); items = none }

pub unordered_pair : (emptiable unordered ≡ true) × ((w : List ℕ) → ¬ (Allows own unordered w))
unfolding emptiable Allows fold
unordered_pair = (refl, λ w r. omega (arith, r.least, r.most))

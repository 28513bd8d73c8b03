-- Words of one set repeated: a given number of them, and rounds whose number lies within a pair. Assumes nothing.
use mathlib.Core.Bool.{true}
use mathlib.Core.List.{List, [], ◌++◌}
use mathlib.Core.Path.{◌≡◌, refl, ap, ◌∙◌, subst}
use Prim.Native.Nat.{ℕ, zero, suc, ◌+◌, ◌*◌, ◌≤◌}
use native.Mathlib.Nat.{le_trans, zero-mul}
use native.Mathlib.Omega.{arith}
use lib.Dec.{leb, eqb}
use lib.ListN.{replicate, length, length-append, replicate-append-replicate}
use borrow.Author.Tests.{leb-true, eqb-true}
use Rattle.particle.specs.declared.MaxOccurs.{MaxOccurs}
use Rattle.particle.specs.declared.MaxOccurs.TheVariants.{Bounded, Unbounded}
use Rattle.particle.specs.declared.Occurs.{Occurs}
use Rattle.particle.specs.Occurs.{max_ok, range_ok, exactly, is_one, is_once}
use Rattle.particle.proofs.Tests.{and-true}
use Rattle.language.specs.Language.{Words, InOrder, AtMost, Rounds, Name}
use Rattle.language.proofs.AtMost.{zero_most, at_most}
use Rattle.language.proofs.Words.{◌⊆◌, ◌≐◌, followed_mono, in_order_append, in_order_one}

-- n words of W, one after another
abbrev pub Many : ℕ → Words → Words
Many n W = InOrder (replicate n W)

pub many_mono : (n : ℕ) {W X : Words} → W ⊆ X → Many n W ⊆ Many n X
many_mono zero f w p = p
many_mono (suc n) f w p = followed_mono f (many_mono n f) w p

pub many_append : (a b : ℕ) (W : Words) (u v : List ℕ) → Many a W u → Many b W v → Many (a + b) W (u ++ v)
many_append a b W u v p q = rw replicate-append-replicate at (in_order_append (replicate a W) (replicate b W) u v p q)

pub many_many : (n c : ℕ) {W : Words} (X : Words) → W ⊆ Many c X → Many n W ⊆ Many (n * c) X
many_many zero c X f w p = rw (zero-mul c) p
many_many (suc n) c X f w p =
    let e : suc n * c ≡ c + n * c = omega arith in
    rw (e, p.whole) (many_append c (n * c) X p.front p.back (f p.front p.left) (many_many n c X f p.back p.right))

pub many_empty : (n : ℕ) (W : Words) → W [] → Many n W []
many_empty zero W e = refl
many_empty (suc n) W e = record { front = []; back = []; whole = refl; left = e; right = many_empty n W e }

-- Rounds -------------------------------------------------------------------------

pub rounds_mono : {p q : Occurs} {W X : Words} → range_ok p q ≡ true → W ⊆ X → Rounds p W ⊆ Rounds q X
rounds_mono {p} {q} t f w r =
    let (lo, hi) = and-true (leb q.min p.min) (max_ok p.max q.max) t in
    record {
      number = r.number;
      least = le_trans (leb-true q.min p.min lo) r.least;
      most = at_most r.number p.max q.max hi r.most;
      rounds = many_mono r.number f w r.rounds;
    }

-- each round within X
pub rounds_each : {p : Occurs} {W X : Words} → W ⊆ X → Rounds p W ⊆ Rounds p X
rounds_each f w r = record { number = r.number; least = r.least; most = r.most; rounds = many_mono r.number f w r.rounds }

pub rounds_same : {p : Occurs} {W X : Words} → W ≐ X → Rounds p W ≐ Rounds p X
rounds_same e w = (rounds_each (λ u. (e u).0) w, rounds_each (λ u. (e u).1) w)

-- no round, where the minimum is 0
pub no_round : {p : Occurs} {W : Words} → p.min ≡ 0 → Rounds p W []
no_round {p} e = record { number = 0; least = omega arith; most = zero_most p.max; rounds = refl }

-- one round, where the pair has 1 within it
pub one_round : {p : Occurs} {W : Words} → p.min ≤ 1 → AtMost 1 p.max → W ⊆ Rounds p W
one_round lo hi w x = record { number = 1; least = lo; most = hi; rounds = (in_order_one w).1 x }

-- just one round, where the pair lies within (1,1)
pub only_round : {p : Occurs} {W : Words} → range_ok p (exactly 1) ≡ true → Rounds p W ⊆ W
only_round {p} {W} t w r =
    let (lo, hi) = and-true (leb 1 p.min) (max_ok p.max (Bounded 1)) t in
    let one : r.number ≡ 1 = omega (arith, leb-true 1 p.min lo, r.least, at_most r.number p.max (Bounded 1) hi r.most) in
    (in_order_one w).0 (subst (λ (n : ℕ). Many n W w) one r.rounds)

-- as few rounds as the pair asks, where each may be empty
pub empty_rounds : {p : Occurs} {W : Words} → AtMost p.min p.max → W [] → Rounds p W []
empty_rounds {p} {W} o e = record { number = p.min; least = omega arith; most = o; rounds = many_empty p.min W e }

-- the pair (1,1)
one_is : (m : MaxOccurs) → is_one m ≡ true → m ≡ Bounded 1
one_is (Bounded n) t = ap Bounded (eqb-true n 1 t)
one_is Unbounded t = cc

pub once_is : (p : Occurs) → is_once p ≡ true → p ≡ exactly 1
once_is p t =
    let (l, h) = and-true (eqb p.min 1) (is_one p.max) t in
    let e : p.min ≡ 1 = eqb-true p.min 1 l in
    let f : p.max ≡ Bounded 1 = one_is p.max h in
    λ i. record { min = e i; max = f i }

-- a (1,1) record gives its one round
pub once_same : {p : Occurs} {W : Words} → is_once p ≡ true → Rounds p W ≐ W
once_same {p} {W} t = rw (once_is p t) (λ w. (only_round refl w, one_round (omega arith) (omega arith) w))

-- Names of a set ---------------------------------------------------------------------

pub names_length : (S : ℕ → Type 0) (n : ℕ) (w : List ℕ) → Many n (Name S) w → length w ≡ n
names_length S zero w p = ap length p
names_length S (suc n) w p =
    let e : length p.front ≡ 1 = ap length p.left.2 in
    ap length p.whole ∙ (length-append p.front p.back ∙ omega (arith, e, names_length S n p.back p.right))

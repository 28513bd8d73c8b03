-- The rule keeps the order of marks: where the marks of items and wrapped groups settle, and the verdicts do, so does the rule's mark. Only pairs of less weight are asked for, and what holds of the derived tree's heads holds of theirs. Assumes nothing.
use mathlib.Core.Bool.{Bool, true, false, ◌&&◌, ◌||◌}
use Prim.Native.Nat.{ℕ, suc, ◌+◌, ◌*◌, ◌≤◌, ◌<◌}
use native.Mathlib.Omega.{arith}
use lib.Dec.{leb}
use Rattle.particle.specs.declared.Occurs.{Occurs}
use Rattle.particle.specs.Occurs.{range_ok, exactly}
use Rattle.particle.specs.Tree.{Head, element, wildcard, sequence, choice, all, Items, none, item, Particle, size_i, count_i}
use Rattle.particle.specs.Empty.{emptiable}
use Rattle.totals.specs.Total.{total, total_ok}
use Rattle.language.specs.Premises.{Every, Throughout}
use Rattle.rules.specs.Verdicts.{Mark, fails, Leaves, Tables}
use Rattle.rules.specs.Combine.{◌or_fails◌, ◌and_then◌}
use Rattle.rules.specs.Element.{max_restrict, element_restrict}
use Rattle.rules.specs.Walk.{◌⟦◌⟧, Judge, recurse_ordered, alternatives, each_member, Found, absent, found, take_named, recurse_unordered}
use Rattle.rules.specs.Rule.{any_number, times_count, base_once, group_wildcard, rule}
use Rattle.rules.proofs.Settles.{◌⊑◌, stays, and_settles, or_settles, readings_settle, step_settles}

-- Weights: every mark that an entry of the rule asks for is of less weight than the entry ---------------------------------

abbrev is_group : Head → Bool
is_group (element l p) = false
is_group (wildcard l p) = false
is_group (sequence p) = true
is_group (choice p) = true
is_group (all p) = true

-- a wrap may be pending, unless both are groups; it weighs more than the record that it adds
abbrev pending : (d b : Head) → ℕ
pending d b = elim (is_group d && is_group b) [ true ↦ 0 | false ↦ 3 ]

pub pending_most : (d b : Head) → pending d b ≤ 3
pending_most d b = go (is_group d && is_group b)
  where
    go : (c : Bool) → elim c as (λ _. ℕ) [ true ↦ 0 | false ↦ 3 ] ≤ 3
    go true = omega arith
    go false = omega arith

unfoldable pub weight : (d b : Particle) → ℕ
weight d b = 2 * (size_i d.items + size_i b.items) + pending d.head b.head

-- Q may be supposed of the heads of the derived trees, where it passes to an element that counts once and holds of sequences and choices
pub record Kept (Q : Head → Type 0) : Type 0 where
  pub counted : (l : ℕ) (p : Occurs) → Q (element l p) → Q (element l (exactly 1))
  pub in_sequence : (p : Occurs) → Q (sequence p)
  pub in_choice : (p : Occurs) → Q (choice p)

-- a test that no verdict decides, and then a mark
guarded : (c : Bool) (r : ℕ) {n n' : Mark} → n ⊑ n' → c or_fails r and_then n ⊑ c or_fails r and_then n'
guarded c r = and_settles {m = c or_fails r} stays

second_settles : (q : Occurs) (k : ℕ) {n n' : Mark} → n ⊑ n' → base_once q k and_then n ⊑ base_once q k and_then n'
second_settles q k = and_settles {m = base_once q k} stays

-- each verdict of T settles to that of T'
pub record TablesSettle (T T' : Tables) : Type 0 where
  pub first : (l m : ℕ) → T.first l m ⊑ T'.first l m
  pub second : (l m : ℕ) → T.second l m ⊑ T'.second l m

module _ (Q : Head → Type 0) where
  -- Q of each record of a derived tree, and of a row of them
  abbrev pub Of : Particle → Type 0
  Of = Throughout (λ h k. Q h)

  abbrev pub OfEach : Items → Type 0
  OfEach = Every (λ h k. Q h)

  -- J's marks of pairs of weight below n settle to J''s
  abbrev pub Below : ℕ → Judge → Judge → Type 0
  Below n J J' = (d b : Particle) → Of d → weight d b < n → J d b ⊑ J' d b

  -- J's marks of derived trees of at most a records and base trees of at most b settle to J''s
  abbrev Inside : (a b : ℕ) → Judge → Judge → Type 0
  Inside a b J J' = (x y : Particle) → Of x → size_i x.items < a → size_i y.items < b → J x y ⊑ J' x y

  inside : {J J' : Judge} (n a b : ℕ) → 2 * (a + b) ≤ n → Below n J J' → Inside a b J J'
  unfolding weight
  inside n a b h H x y o f g = H x y o (omega (arith, pending_most x.head y.head))

  -- The rules over several items ----------------------------------------------------------------------------------------

  module _ (J J' : Judge) (a b : ℕ) (H : Inside a b J J') where
    walk_settles : (lax : Bool) (ds bs : Items) → OfEach ds → size_i ds ≤ a → size_i bs ≤ b → recurse_ordered J lax ds bs ⊑ recurse_ordered J' lax ds bs
    unfolding recurse_ordered size_i
    walk_settles lax ds none os f g = stays
    walk_settles lax none (item hb kb rb) os f g = stays
    walk_settles lax (item hd kd rd) (item hb kb rb) (o, os) f g =
        step_settles (lax || emptiable (hb ⟦ kb ⟧)) (H (hd ⟦ kd ⟧) (hb ⟦ kb ⟧) o (omega arith) (omega arith)) (walk_settles lax rd rb os (omega arith) (omega arith))
        (walk_settles lax (item hd kd rd) rb (o, os) f (omega arith))

    alternatives_settle : (r : ℕ) (x : Particle) (bs : Items) → Of x → size_i x.items < a → size_i bs ≤ b → alternatives J r x bs ⊑ alternatives J' r x bs
    unfolding alternatives size_i
    alternatives_settle r x none o f g = stays
    alternatives_settle r x (item h k rb) o f g = or_settles (H x (h ⟦ k ⟧) o f (omega arith)) (alternatives_settle r x rb o f (omega arith))

  each_settles : (f f' : Particle → Mark) (a : ℕ) → ((x : Particle) → Of x → size_i x.items < a → f x ⊑ f' x) → (ds : Items) → OfEach ds → size_i ds ≤ a → each_member f ds ⊑ each_member f' ds
  unfolding each_member size_i
  each_settles f f' a H none os g = stays
  each_settles f f' a H (item h k r) (o, os) g = and_settles (H (h ⟦ k ⟧) o (omega arith)) (each_settles f f' a H r os (omega arith))

module _ (L : Leaves) (T T' : Tables) (F : TablesSettle T T') where
  element_settles : (l : ℕ) (p : Occurs) (m : ℕ) (q : Occurs) → element_restrict T l p m q ⊑ element_restrict T' l p m q
  element_settles l p m q = and_settles (F.first l m) (guarded (leb q.min p.min) 122 (and_settles {m = max_restrict p.max q.max} stays (F.second l m)))

  unordered_settles : (ds bs : Items) → recurse_unordered L T ds bs ⊑ recurse_unordered L T' ds bs
  unfolding recurse_unordered
  unordered_settles none bs = stays
  unordered_settles (item (element l p) k r) bs = go (λ others. unordered_settles r others) (take_named L (L.local_name l) bs)
    where
      go : ((others : Items) → recurse_unordered L T r others ⊑ recurse_unordered L T' r others) → (f : Found)
          → elim f as (λ _. Mark) [ absent ↦ fails 108 | found m q others ↦ element_restrict T l p m q and_then recurse_unordered L T r others ]
          ⊑ elim f as (λ _. Mark) [ absent ↦ fails 108 | found m q others ↦ element_restrict T' l p m q and_then recurse_unordered L T' r others ]
      go ih absent = stays
      go ih (found m q others) = and_settles (element_settles l p m q) (ih others)
  unordered_settles (item (wildcard l p) k r) bs = stays
  unordered_settles (item (sequence p) k r) bs = stays
  unordered_settles (item (choice p) k r) bs = stays
  unordered_settles (item (all p) k r) bs = stays

  -- One entry of the rule ------------------------------------------------------------------------------------------------

  module _ (Q : Head → Type 0) (kept : Kept Q) (J J' : Judge) where
    group_settles : (d : Head) (di : Items) (m : ℕ) (q : Occurs) (bi : Items) → OfEach Q di → Below Q (2 * (size_i di + size_i bi) + 3) J J' → group_wildcard L T J d di m q bi ⊑ group_wildcard L T' J' d di m q bi
    unfolding weight
    group_settles d di m q bi os H = guarded (total_ok (total (d ⟦ di ⟧)) q) 113
        (each_settles Q _ _ (size_i di) (λ x o f. H x (wildcard m any_number ⟦ bi ⟧) o (omega (arith, pending_most x.head (wildcard m any_number)))) di os (omega arith))

    pub rule_settles : (d : Head) (di : Items) (b : Head) (bi : Items) → Of Q (d ⟦ di ⟧) → Below Q (weight (d ⟦ di ⟧) (b ⟦ bi ⟧)) J J' → rule L T J d di b bi ⊑ rule L T' J' d di b bi
    unfolding rule weight size_i
    rule_settles (element l p) di (element m q) bi (o, os) H = element_settles l p m q
    rule_settles (element l p) di (wildcard m q) bi (o, os) H = guarded (range_ok p q) 101 (F.second l m)
    rule_settles (element l p) di (sequence q) bi (o, os) H =
        readings_settle (H (sequence p ⟦ item (element l (exactly 1)) di none ⟧) (sequence q ⟦ bi ⟧) (kept.in_sequence p, ((kept.counted l p o, os), tt)) (omega arith))
        (second_settles q 110 (walk_settles Q J J' (suc (size_i di)) (size_i bi) (inside Q _ _ _ (omega arith) H) false (item (element l p) di none) bi ((o, os), tt) (omega arith) (omega arith)))
    rule_settles (element l p) di (choice q) bi (o, os) H =
        readings_settle (H (choice p ⟦ item (element l (exactly 1)) di none ⟧) (choice q ⟦ bi ⟧) (kept.in_choice p, ((kept.counted l p o, os), tt)) (omega arith))
        (second_settles q 112 (alternatives_settle Q J J' (suc (size_i di)) (size_i bi) (inside Q _ _ _ (omega arith) H) 111 (element l p ⟦ di ⟧) bi (o, os) (omega arith) (omega arith)))
    rule_settles (element l p) di (all q) bi (o, os) H = stays
    rule_settles (wildcard l p) di (element m q) bi (o, os) H = stays
    rule_settles (wildcard l p) di (wildcard m q) bi (o, os) H = guarded (range_ok p q) 103 (guarded (leb (L.strength m) (L.strength l)) 104 (F.second l m))
    rule_settles (wildcard l p) di (sequence q) bi (o, os) H = stays
    rule_settles (wildcard l p) di (choice q) bi (o, os) H = stays
    rule_settles (wildcard l p) di (all q) bi (o, os) H = stays
    rule_settles (sequence p) di (element m q) bi (o, os) H = H (sequence p ⟦ di ⟧) (sequence (exactly 1) ⟦ item (element m q) bi none ⟧) (o, os) (omega arith)
    rule_settles (sequence p) di (wildcard m q) bi (o, os) H = group_settles (sequence p) di m q bi os (λ x y o' f. H x y o' (omega arith))
    rule_settles (sequence p) di (sequence q) bi (o, os) H = guarded (range_ok p q) 105 (walk_settles Q J J' (size_i di) (size_i bi) (inside Q _ _ _ (omega arith) H) false di bi os (omega arith) (omega arith))
    rule_settles (sequence p) di (choice q) bi (o, os) H = guarded (total_ok (times_count p (count_i di)) q) 116
        (each_settles Q _ _ (size_i di) (λ x o' f. alternatives_settle Q J J' (size_i di) (size_i bi) (inside Q _ _ _ (omega arith) H) 117 x bi o' f (omega arith)) di os (omega arith))
    rule_settles (sequence p) di (all q) bi (o, os) H = guarded (range_ok p q) 118 (unordered_settles di bi)
    rule_settles (choice p) di (element m q) bi (o, os) H = H (choice p ⟦ di ⟧) (choice (exactly 1) ⟦ item (element m q) bi none ⟧) (o, os) (omega arith)
    rule_settles (choice p) di (wildcard m q) bi (o, os) H = group_settles (choice p) di m q bi os (λ x y o' f. H x y o' (omega arith))
    rule_settles (choice p) di (sequence q) bi (o, os) H = stays
    rule_settles (choice p) di (choice q) bi (o, os) H = guarded (range_ok p q) 106 (walk_settles Q J J' (size_i di) (size_i bi) (inside Q _ _ _ (omega arith) H) true di bi os (omega arith) (omega arith))
    rule_settles (choice p) di (all q) bi (o, os) H = stays
    rule_settles (all p) di (element m q) bi (o, os) H = stays
    rule_settles (all p) di (wildcard m q) bi (o, os) H = group_settles (all p) di m q bi os (λ x y o' f. H x y o' (omega arith))
    rule_settles (all p) di (sequence q) bi (o, os) H = stays
    rule_settles (all p) di (choice q) bi (o, os) H = stays
    rule_settles (all p) di (all q) bi (o, os) H = guarded (range_ok p q) 107 (unordered_settles di bi)

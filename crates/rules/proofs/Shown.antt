-- The reasons that a mark shows: whatever combines marks keeps to them. Of the second reading nothing is asked, since where both readings fail the reason is the first's. Assumes nothing.
use mathlib.Core.Bool.{Bool, true, false, ◌&&◌, ◌||◌}
use mathlib.Core.Path.{◌≡◌, refl, subst}
use Prim.Native.Nat.{ℕ, zero, suc}
use lib.Dec.{leb}
use borrow.Author.Tests.{le-leb}
use Rattle.particle.specs.declared.MaxOccurs.{MaxOccurs}
use Rattle.particle.specs.declared.MaxOccurs.TheVariants.{Bounded, Unbounded}
use Rattle.particle.specs.declared.Occurs.{Occurs}
use Rattle.particle.specs.Occurs.{range_ok, exactly}
use Rattle.particle.specs.Tree.{Head, element, wildcard, sequence, choice, all, Items, none, item, Particle, pair_of, count_i}
use Rattle.particle.specs.Empty.{optional, emptiable}
use Rattle.particle.proofs.Tests.{both_true, right_true}
use Rattle.totals.specs.Total.{total, total_ok}
use Rattle.tidying.specs.Tidy.{tidy}
use Rattle.rules.specs.Verdicts.{Mark, passes, undecided, fails, Leaves, Tables}
use Rattle.rules.specs.Combine.{◌or_fails◌, ◌and_then◌, ◌or_else◌, combine_readings}
use Rattle.rules.specs.Element.{max_restrict, element_restrict}
use Rattle.rules.specs.Walk.{◌⟦◌⟧, Judge, used_up, left_over, recurse_ordered, alternatives, each_member, Found, absent, found, take_named, untaken, recurse_unordered}
use Rattle.rules.specs.Rule.{any_number, times_count, group_wildcard, rule}
use Rattle.rules.specs.Mark.{early_pass, steps, restrict_to, restrict, mark_tidied, mark}
use Rattle.rules.proofs.Settles.{step}
use Rattle.rules.specs.Shown.{can_show, OfPaper, PaperVerdicts, ReasonsShown}

-- a mark that shows no other reason
abbrev Shown : Mark → Type 0
Shown passes = Unit {0}
Shown undecided = Unit {0}
Shown (fails r) = can_show r ≡ true

test_shown : (c : Bool) (r : ℕ) → can_show r ≡ true → Shown (c or_fails r)
test_shown true r e = tt
test_shown false r e = e

and_shown : (m n : Mark) → Shown m → Shown n → Shown (m and_then n)
and_shown passes n s t = t
and_shown undecided n s t = tt
and_shown (fails r) n s t = s

or_shown : (m n : Mark) → Shown m → Shown n → Shown (m or_else n)
or_shown passes n s t = tt
or_shown undecided passes s t = tt
or_shown undecided undecided s t = tt
or_shown undecided (fails r) s t = tt
or_shown (fails r) n s t = t

-- of the second reading nothing is asked
readings_shown : (m n : Mark) → Shown m → Shown (combine_readings m n)
readings_shown passes n s = tt
readings_shown undecided passes s = tt
readings_shown undecided undecided s = tt
readings_shown undecided (fails r) s = tt
readings_shown (fails r) passes s = tt
readings_shown (fails r) undecided s = tt
readings_shown (fails r) (fails s') s = s

step_shown : (m a b : Mark) (c : Bool) → Shown m → Shown a → Shown b → Shown (step m a b c)
step_shown passes a b c s t u = t
step_shown undecided a b c s t u = tt
step_shown (fails r) a b true s t u = u
step_shown (fails r) a b false s t u = s

guarded : (c : Bool) (r : ℕ) → can_show r ≡ true → (n : Mark) → Shown n → Shown (c or_fails r and_then n)
guarded c r e n = and_shown (c or_fails r) n (test_shown c r e)

-- a test whose failing ends it
skipped : (c : Bool) (r : ℕ) → can_show r ≡ true → (n : Mark) → Shown n → Shown (elim c as (λ _. Mark) [ true ↦ n | false ↦ fails r ])
skipped true r e n s = s
skipped false r e n s = e

paper_shown : (m : Mark) → OfPaper m → Shown m
paper_shown passes p = tt
paper_shown undecided p = tt
paper_shown (fails r) p = right_true ((leb 101 r && leb r 109) || (leb 113 r && leb r 124)) _ (both_true (le-leb 140 r p.0) (le-leb r 152 p.1))

-- The rules over several items -------------------------------------------------------------------

used_up_lem : (ds : Items) → Shown (used_up ds)
used_up_lem none = tt
used_up_lem (item h k r) = refl

left_over_lem : (bs : Items) → Shown (left_over bs)
unfolding left_over
left_over_lem none = tt
left_over_lem (item h k r) = skipped (emptiable (h ⟦ k ⟧)) 121 refl (left_over r) (left_over_lem r)

untaken_shown : (bs : Items) → Shown (untaken bs)
unfolding untaken
untaken_shown none = tt
untaken_shown (item h k r) = skipped (optional (pair_of h)) 109 refl (untaken r) (untaken_shown r)

abbrev AllShown : Judge → Type 0
AllShown J = (x y : Particle) → Shown (J x y)

module _ (J : Judge) (H : AllShown J) where
  walk_shown : (lax : Bool) (ds bs : Items) → Shown (recurse_ordered J lax ds bs)
  unfolding recurse_ordered
  walk_shown lax ds none = used_up_lem ds
  walk_shown true none (item hb kb rb) = tt
  walk_shown false none (item hb kb rb) = left_over_lem (item hb kb rb)
  walk_shown lax (item hd kd rd) (item hb kb rb) =
      step_shown (J (hd ⟦ kd ⟧) (hb ⟦ kb ⟧)) (recurse_ordered J lax rd rb) (recurse_ordered J lax (item hd kd rd) rb) (lax || emptiable (hb ⟦ kb ⟧)) (H (hd ⟦ kd ⟧) (hb ⟦ kb ⟧)) (walk_shown lax rd rb) (walk_shown lax (item hd kd rd) rb)

  alternatives_shown : (r : ℕ) → can_show r ≡ true → (x : Particle) (bs : Items) → Shown (alternatives J r x bs)
  unfolding alternatives
  alternatives_shown r e x none = e
  alternatives_shown r e x (item h k rb) = or_shown (J x (h ⟦ k ⟧)) (alternatives J r x rb) (H x (h ⟦ k ⟧)) (alternatives_shown r e x rb)

each_shown : (f : Particle → Mark) → ((x : Particle) → Shown (f x)) → (ds : Items) → Shown (each_member f ds)
unfolding each_member
each_shown f H none = tt
each_shown f H (item h k r) = and_shown (f (h ⟦ k ⟧)) (each_member f r) (H (h ⟦ k ⟧)) (each_shown f H r)

max_shown : (p q : MaxOccurs) → Shown (max_restrict p q)
max_shown (Bounded d) (Bounded b) = test_shown (leb d b) 124 refl
max_shown (Bounded d) Unbounded = tt
max_shown Unbounded (Bounded b) = refl
max_shown Unbounded Unbounded = tt

module _ (L : Leaves) (T : Tables) (P : PaperVerdicts T) where
  second_shown : (l m : ℕ) → Shown (T.second l m)
  second_shown l m = paper_shown (T.second l m) (P.second l m)

  element_shown : (l : ℕ) (p : Occurs) (m : ℕ) (q : Occurs) → Shown (element_restrict T l p m q)
  element_shown l p m q = and_shown (T.first l m) _ (paper_shown (T.first l m) (P.first l m))
      (guarded (leb q.min p.min) 122 refl _ (and_shown (max_restrict p.max q.max) (T.second l m) (max_shown p.max q.max) (second_shown l m)))

  unordered_shown : (ds bs : Items) → Shown (recurse_unordered L T ds bs)
  unfolding recurse_unordered
  unordered_shown none bs = untaken_shown bs
  unordered_shown (item (element l p) k r) bs = go (λ others. unordered_shown r others) (take_named L (L.local_name l) bs)
    where
      go : ((others : Items) → Shown (recurse_unordered L T r others)) → (f : Found)
          → Shown (elim f as (λ _. Mark) [ absent ↦ fails 108 | found m q others ↦ element_restrict T l p m q and_then recurse_unordered L T r others ])
      go ih absent = refl
      go ih (found m q others) = and_shown (element_restrict T l p m q) (recurse_unordered L T r others) (element_shown l p m q) (ih others)
  unordered_shown (item (wildcard l p) k r) bs = refl
  unordered_shown (item (sequence p) k r) bs = refl
  unordered_shown (item (choice p) k r) bs = refl
  unordered_shown (item (all p) k r) bs = refl

  -- One entry of the rule ---------------------------------------------------------------------------

  module _ (J : Judge) (H : AllShown J) where
    group_shown : (d : Head) (di : Items) (m : ℕ) (q : Occurs) (bi : Items) → Shown (group_wildcard L T J d di m q bi)
    group_shown d di m q bi = guarded (total_ok (total (d ⟦ di ⟧)) q) 113 refl _ (each_shown (λ x. J x (wildcard m any_number ⟦ bi ⟧)) (λ x. H x (wildcard m any_number ⟦ bi ⟧)) di)

    rule_shown : (d : Head) (di : Items) (b : Head) (bi : Items) → Shown (rule L T J d di b bi)
    unfolding rule
    rule_shown (element l p) di (element m q) bi = element_shown l p m q
    rule_shown (element l p) di (wildcard m q) bi = guarded (range_ok p q) 101 refl _ (second_shown l m)
    rule_shown (element l p) di (sequence q) bi = readings_shown (J (sequence p ⟦ item (element l (exactly 1)) di none ⟧) (sequence q ⟦ bi ⟧)) _ (H _ _)
    rule_shown (element l p) di (choice q) bi = readings_shown (J (choice p ⟦ item (element l (exactly 1)) di none ⟧) (choice q ⟦ bi ⟧)) _ (H _ _)
    rule_shown (element l p) di (all q) bi = tt
    rule_shown (wildcard l p) di (element m q) bi = refl
    rule_shown (wildcard l p) di (wildcard m q) bi = guarded (range_ok p q) 103 refl _ (guarded (leb (L.strength m) (L.strength l)) 104 refl _ (second_shown l m))
    rule_shown (wildcard l p) di (sequence q) bi = refl
    rule_shown (wildcard l p) di (choice q) bi = refl
    rule_shown (wildcard l p) di (all q) bi = refl
    rule_shown (sequence p) di (element m q) bi = H _ _
    rule_shown (sequence p) di (wildcard m q) bi = group_shown (sequence p) di m q bi
    rule_shown (sequence p) di (sequence q) bi = guarded (range_ok p q) 105 refl _ (walk_shown J H false di bi)
    rule_shown (sequence p) di (choice q) bi = guarded (total_ok (times_count p (count_i di)) q) 116 refl _ (each_shown (λ x. alternatives J 117 x bi) (λ x. alternatives_shown J H 117 refl x bi) di)
    rule_shown (sequence p) di (all q) bi = guarded (range_ok p q) 118 refl _ (unordered_shown di bi)
    rule_shown (choice p) di (element m q) bi = H _ _
    rule_shown (choice p) di (wildcard m q) bi = group_shown (choice p) di m q bi
    rule_shown (choice p) di (sequence q) bi = refl
    rule_shown (choice p) di (choice q) bi = guarded (range_ok p q) 106 refl _ (walk_shown J H true di bi)
    rule_shown (choice p) di (all q) bi = refl
    rule_shown (all p) di (element m q) bi = tt
    rule_shown (all p) di (wildcard m q) bi = group_shown (all p) di m q bi
    rule_shown (all p) di (sequence q) bi = refl
    rule_shown (all p) di (choice q) bi = refl
    rule_shown (all p) di (all q) bi = guarded (range_ok p q) 107 refl _ (unordered_shown di bi)

  restrict_to_shown : (n : ℕ) → AllShown (restrict_to L T n)
  unfolding restrict_to
  restrict_to_shown zero = λ d b. tt
  restrict_to_shown (suc n) = λ d b. rule_shown (restrict_to L T n) (restrict_to_shown n) d.head d.items b.head b.items

  mark_shown : AllShown (mark L T)
  unfolding mark mark_tidied restrict
  mark_shown d b =
      let x = tidy d in
      let y = tidy b in
      go (early_pass x y) (restrict L T x y) (restrict_to_shown (steps x y) x y)
    where
      go : (c : Bool) (x : Mark) → Shown x → Shown (elim c as (λ _. Mark) [ true ↦ passes | false ↦ x ])
      go true x s = tt
      go false x s = s

pub reasons_shown : ReasonsShown
reasons_shown L T P d b r e = subst Shown e (mark_shown L T P d b)

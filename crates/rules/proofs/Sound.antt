-- Demand 3, second half, for the rule: where it passes, the derived tree allows no more than the base as the rules take it, an empty choice having an empty round, if that holds of the items and wrapped groups that it asks for. So it holds of the mark. Assumes nothing.
use mathlib.Core.Bool.{true, false, not, false≢true}
use mathlib.Core.List.{List}
use mathlib.Core.Logic.{inl, ⊎_elim}
use mathlib.Core.Path.{◌≡◌, refl, ap, subst}
use Prim.Native.Nat.{ℕ, zero, suc, ◌*◌, ◌≤◌}
use native.Mathlib.Nat.{le_trans, mul-le-mul_right}
use native.Mathlib.Omega.{arith}
use lib.Dec.{leb}
use lib.ListN.{length}
use borrow.Author.Tests.{leb-true}
use Rattle.particle.specs.declared.MaxOccurs.{MaxOccurs}
use Rattle.particle.specs.declared.MaxOccurs.TheVariants.{Bounded, Unbounded}
use Rattle.particle.specs.declared.Occurs.{Occurs}
use Rattle.particle.specs.Occurs.{max_ok, range_ok, exactly, is_zero}
use Rattle.particle.specs.Tree.{Head, element, wildcard, sequence, choice, all, Items, none, item, Particle, count_i, fold}
use Rattle.particle.proofs.Tests.{and-true}
use Rattle.totals.specs.Exact.{exact_total}
use Rattle.totals.specs.Total.{total, total_ok}
use Rattle.totals.proofs.Within.{ok_exact}
use Rattle.language.specs.Language.{Words, OneOf, AtMost, Rounds, Name, Names, Allows}
use Rattle.language.specs.Premises.{Every, Throughout}
use Rattle.language.proofs.AtMost.{at_most}
use Rattle.language.proofs.Words.{◌⊆◌, in_order_one, one_of_one}
use Rattle.language.proofs.Premises.{every_map}
use Rattle.language.proofs.Rounds.{Many, many_many, rounds_mono, rounds_each, one_round, only_round, names_length}
use Rattle.language.proofs.Wider.{one_or_none, Wider}
use Rattle.language.proofs.Joining.{AllWithin, one_of_within, in_order_many, in_order_within, rounds_within, any_order_within, names_closed}
use Rattle.language.proofs.Lengths.{Within, exact_length}
use Rattle.rules.specs.Verdicts.{Mark, Leaves, Tables}
use Rattle.rules.specs.Combine.{◌or_fails◌, ◌and_then◌}
use Rattle.rules.specs.Walk.{◌⟦◌⟧, Judge, recurse_ordered, alternatives, each_member, recurse_unordered}
use Rattle.rules.specs.Rule.{any_number, times_count_max, exact_times_count, times_count, base_once, group_wildcard, rule}
use Rattle.rules.specs.Mark.{steps, restrict_to, restrict}
use Rattle.rules.specs.Demand.{NamesAmong}
use Rattle.rules.proofs.Passing.{Passes, and_passes, test_passes, guard_passes, readings_pass}
use Rattle.rules.proofs.SoundElements.{Known, each, each_wider, wildcard_names, element_sound, unordered_sound, in_order_any}
use Rattle.rules.proofs.SoundWalk.{Regular, Sound, walk_in_order, walk_one_of, alternatives_sound, each_sound}

-- a maximum that is not 0 allows a round
one_most : (m : MaxOccurs) → not (is_zero m) ≡ true → AtMost 1 m
one_most (Bounded zero) n = absurd (false≢true n)
one_most (Bounded (suc m)) n = omega arith
one_most Unbounded n = tt

-- where the second reading passes, the base allows one round
second_passes : (q : Occurs) (k : ℕ) (m : Mark) → Passes (base_once q k and_then m) → (q.min ≤ 1) × AtMost 1 q.max × Passes m
second_passes q k m t =
    let (s, u) = and_passes (base_once q k) m t in
    let (h, z) = guard_passes (leb q.min 1) k (not (is_zero q.max) or_fails 125) s in
    (leb-true q.min 1 h, one_most q.max (test_passes (not (is_zero q.max)) 125 z), u)

-- as many names as the word is long, and its length within a pair within q
names_in_range : (S : ℕ → Type 0) (t q : Occurs) → range_ok t q ≡ true → (w : List ℕ) → Within (length w) t → Rounds any_number (Name S) w → Rounds q (Name S) w
names_in_range S t q h w (lo, hi) r =
    let (l, m) = and-true (leb q.min t.min) (max_ok t.max q.max) h in
    record {
      number = length w;
      least = le_trans (leb-true q.min t.min l) lo;
      most = at_most (length w) t.max q.max m hi;
      rounds = rw (names_length S r.number w r.rounds) r.rounds;
    }

times_most : (x : MaxOccurs) (n c : ℕ) → AtMost n x → AtMost (n * c) (times_count_max x c)
times_most (Bounded m) n c h = mul-le-mul_right c h
times_most Unbounded n c h = tt

-- rounds of c words each are so many times c words
rounds_times : {p q : Occurs} (c : ℕ) {W X : Words} → total_ok (times_count p c) q ≡ true → W ⊆ Many c X → Rounds p W ⊆ Rounds q X
rounds_times {p} {q} c {X} h f w r =
    let (l, m) = and-true (leb q.min (p.min * c)) (max_ok (times_count_max p.max c) q.max) (ok_exact (exact_times_count p c) q h) in
    record {
      number = r.number * c;
      least = omega (arith, leb-true q.min (p.min * c) l, mul-le-mul_right c r.least);
      most = at_most (r.number * c) (times_count_max p.max c) q.max m (times_most p.max r.number c r.most);
      rounds = many_many r.number c X f w r.rounds;
    }

each_length : (names : Names) (k : Items) → length (each names k) ≡ count_i k
unfolding fold count_i
each_length names none = refl
each_length names (item h k r) = ap suc (each_length names r)

-- Wrapped groups: an element is a group of its pair that holds it once, and a (1,1) group that holds it as it is.
module _ (names : Names) (l : ℕ) (p : Occurs) (k : Items) where
  moved_to_sequence : Allows names (element l p ⟦ k ⟧) ⊆ Allows names (sequence p ⟦ item (element l (exactly 1)) k none ⟧)
  unfolding Allows fold
  moved_to_sequence = rounds_each (λ u x. (in_order_one u).1 (one_round (omega arith) (omega arith) u x))

  moved_to_choice : Allows names (element l p ⟦ k ⟧) ⊆ Allows names (choice p ⟦ item (element l (exactly 1)) k none ⟧)
  unfolding Allows fold
  moved_to_choice = rounds_each (λ u x. inl (one_round (omega arith) (omega arith) u x))

  out_of_sequence : Wider names (sequence (exactly 1) ⟦ item (element l p) k none ⟧) ⊆ Wider names (element l p ⟦ k ⟧)
  unfolding Wider fold
  out_of_sequence w x = (in_order_one w).0 (only_round refl w x)

  out_of_choice : Wider names (choice (exactly 1) ⟦ item (element l p) k none ⟧) ⊆ Wider names (element l p ⟦ k ⟧)
  unfolding Wider fold
  out_of_choice w x = (one_of_one (Rounds p (Name (names l))) w).0 (only_round refl w x)

-- One entry of the rule ---------------------------------------------------------------------------------------------------

module _ (L : Leaves) (T : Tables) (derived base : Names) (N : NamesAmong L T derived base) where
  module _ (J : Judge) (S : Sound L derived base J) where
    -- a group against a wildcard, where whatever holds each member holds the group
    group_sound : (d : Head) (di : Items) (m : ℕ) (q : Occurs) (bi : Items) → Every (Known L) di → Throughout (Regular L) (wildcard m q ⟦ bi ⟧) → Passes (group_wildcard L T J d di m q bi)
        → (AllWithin (each derived di) (Rounds any_number (Name (base m))) → Allows derived (d ⟦ di ⟧) ⊆ Rounds any_number (Name (base m)))
        → Allows derived (d ⟦ di ⟧) ⊆ Wider base (wildcard m q ⟦ bi ⟧)
    unfolding Allows Wider total
    group_sound d di m q bi ks (R, rs) t f w x =
        let R' : Regular L (wildcard m any_number) bi = record { known = R.known; ordered = tt } in
        let member : Particle → Mark = λ y. J y (wildcard m any_number ⟦ bi ⟧) in
        let (h, s) = guard_passes (total_ok (total (d ⟦ di ⟧)) q) 113 (each_member member di) t in
        let inside = each_sound L derived base member (Rounds any_number (Name (base m))) (λ y K s. S y (wildcard m any_number ⟦ bi ⟧) K (R', rs) s) di ks s in
        names_in_range (base m) (exact_total (d ⟦ di ⟧)) q (ok_exact (exact_total (d ⟦ di ⟧)) q h) w (exact_length derived (d ⟦ di ⟧) w x) (f inside w x)

    pub rule_sound : (d : Head) (di : Items) (b : Head) (bi : Items) → Throughout (Known L) (d ⟦ di ⟧) → Throughout (Regular L) (b ⟦ bi ⟧) → Passes (rule L T J d di b bi) → Allows derived (d ⟦ di ⟧) ⊆ Wider base (b ⟦ bi ⟧)
    unfolding rule Allows Wider
    rule_sound (element l p) di (element m q) bi (K, ks) (R, rs) t = element_sound L T derived base N l p m q K R.known t
    rule_sound (element l p) di (wildcard m q) bi ((k, e), ks) (R, rs) t =
        let (h, s) = guard_passes (range_ok p q) 101 (T.second l m) t in
        rounds_mono h (wildcard_names L T derived base N l m k R.known.0 R.known.1 s)
    rule_sound (element l p) di (sequence q) bi (K, ks) (R, rs) t =
        let wrapped = sequence p ⟦ item (element l (exactly 1)) di none ⟧ in
        let own = item (element l p) di none in
        λ w x. ⊎_elim
        (λ s. S wrapped (sequence q ⟦ bi ⟧) (tt, ((K, ks), tt)) (R, rs) s w (moved_to_sequence derived l p di w x))
        (λ s. let (least, most, s') = second_passes q 110 (recurse_ordered J false own bi) s in
        one_round least most w (walk_in_order L derived base J S own bi ((K, ks), tt) rs s' w (unfold fold in (in_order_one w).1 x)))
        (readings_pass (J wrapped (sequence q ⟦ bi ⟧)) (base_once q 110 and_then recurse_ordered J false own bi) t)
    rule_sound (element l p) di (choice q) bi (K, ks) (R, rs) t =
        let wrapped = choice p ⟦ item (element l (exactly 1)) di none ⟧ in
        let own = element l p ⟦ di ⟧ in
        λ w x. ⊎_elim
        (λ s. S wrapped (choice q ⟦ bi ⟧) (tt, ((K, ks), tt)) (R, rs) s w (moved_to_choice derived l p di w x))
        (λ s. let (least, most, s') = second_passes q 112 (alternatives J 111 own bi) s in
        one_round least most w (one_or_none (each_wider base bi) w (alternatives_sound L derived base J S 111 own bi (K, ks) rs s' w x)))
        (readings_pass (J wrapped (choice q ⟦ bi ⟧)) (base_once q 112 and_then alternatives J 111 own bi) t)
    rule_sound (element l p) di (all q) bi ks rs t = absurd t
    rule_sound (wildcard l p) di (element m q) bi ks rs t = absurd t
    rule_sound (wildcard l p) di (wildcard m q) bi ((k, e), ks) (R, rs) t =
        let (h, t') = guard_passes (range_ok p q) 103 (leb (L.strength m) (L.strength l) or_fails 104 and_then T.second l m) t in
        let (_, s) = guard_passes (leb (L.strength m) (L.strength l)) 104 (T.second l m) t' in
        rounds_mono h (wildcard_names L T derived base N l m k R.known.0 R.known.1 s)
    rule_sound (wildcard l p) di (sequence q) bi ks rs t = absurd t
    rule_sound (wildcard l p) di (choice q) bi ks rs t = absurd t
    rule_sound (wildcard l p) di (all q) bi ks rs t = absurd t
    rule_sound (sequence p) di (element m q) bi ks (R, rs) t =
        λ w x. out_of_sequence base m q bi w
        (S (sequence p ⟦ di ⟧) (sequence (exactly 1) ⟦ item (element m q) bi none ⟧) ks (record { known = tt; ordered = omega arith }, ((R, rs), tt)) t w x)
    rule_sound (sequence p) di (wildcard m q) bi (K, ks) rs t =
        group_sound (sequence p) di m q bi ks rs t (λ inside. rounds_within (names_closed (base m)) (in_order_within (names_closed (base m)) (each derived di) inside))
    rule_sound (sequence p) di (sequence q) bi (K, ks) (R, rs) t =
        let (h, s) = guard_passes (range_ok p q) 105 (recurse_ordered J false di bi) t in
        rounds_mono h (walk_in_order L derived base J S di bi ks rs s)
    rule_sound (sequence p) di (choice q) bi (K, ks) (R, rs) t =
        let one : Words = OneOf (each_wider base bi) in
        let (h, s) = guard_passes (total_ok (times_count p (count_i di)) q) 116 (each_member (λ x. alternatives J 117 x bi) di) t in
        let inside = each_sound L derived base (λ x. alternatives J 117 x bi) one (λ x K s. alternatives_sound L derived base J S 117 x bi K rs s) di ks s in
        λ w x. rounds_each (one_or_none (each_wider base bi)) w (rounds_times (count_i di) h (λ w x. subst (λ (n : ℕ). Many n one w) (each_length derived di) (in_order_many (each derived di) one inside w x)) w x)
    rule_sound (sequence p) di (all q) bi (K, ks) (R, rs) t =
        let (h, s) = guard_passes (range_ok p q) 118 (recurse_unordered L T di bi) t in
        rounds_mono h (λ w x. unordered_sound L T derived base N di bi ks (every_map (λ h k r. r.known) bi rs) s w (in_order_any (each derived di) w x))
    rule_sound (choice p) di (element m q) bi ks (R, rs) t =
        λ w x. out_of_choice base m q bi w
        (S (choice p ⟦ di ⟧) (choice (exactly 1) ⟦ item (element m q) bi none ⟧) ks (record { known = tt; ordered = omega arith }, ((R, rs), tt)) t w x)
    rule_sound (choice p) di (wildcard m q) bi (K, ks) rs t =
        group_sound (choice p) di m q bi ks rs t (λ inside. rounds_within (names_closed (base m)) (one_of_within (each derived di) (Rounds any_number (Name (base m))) inside))
    rule_sound (choice p) di (sequence q) bi ks rs t = absurd t
    rule_sound (choice p) di (choice q) bi (K, ks) (R, rs) t =
        let (h, s) = guard_passes (range_ok p q) 106 (recurse_ordered J true di bi) t in
        rounds_mono h (λ w x. one_or_none (each_wider base bi) w (walk_one_of L derived base J S di bi ks rs s w x))
    rule_sound (choice p) di (all q) bi ks rs t = absurd t
    rule_sound (all p) di (element m q) bi ks rs t = absurd t
    rule_sound (all p) di (wildcard m q) bi (K, ks) rs t =
        group_sound (all p) di m q bi ks rs t (λ inside. rounds_within (names_closed (base m)) (any_order_within (names_closed (base m)) (each derived di) inside))
    rule_sound (all p) di (sequence q) bi ks rs t = absurd t
    rule_sound (all p) di (choice q) bi ks rs t = absurd t
    rule_sound (all p) di (all q) bi (K, ks) (R, rs) t =
        let (h, s) = guard_passes (range_ok p q) 107 (recurse_unordered L T di bi) t in
        rounds_mono h (unordered_sound L T derived base N di bi ks (every_map (λ h k r. r.known) bi rs) s)

  restrict_to_sound : (n : ℕ) → Sound L derived base (restrict_to L T n)
  unfolding restrict_to
  restrict_to_sound zero = λ d b ks rs t. absurd t
  restrict_to_sound (suc n) = λ d b. rule_sound (restrict_to L T n) (restrict_to_sound n) d.head d.items b.head b.items

  pub restrict_sound : Sound L derived base (restrict L T)
  unfolding restrict
  restrict_sound d b = restrict_to_sound (steps d b) d b

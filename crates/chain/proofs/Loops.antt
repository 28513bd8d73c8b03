-- What the loops over the levels keep: what is left of their counts and of their trees. Assumes nothing.
use Rattle.std.specs.Prelude.{Result, Ok, Err}
use Rattle.std.specs.Int.{from_bool}
use mathlib.Core.Path.{◌≡◌, refl, ap, sym, ◌∙◌}
use mathlib.Core.Bool.{Bool, true, false, not, cond}
use mathlib.Core.List.{List, [], ◌∷◌}
use Prim.Native.Nat.{ℕ, zero, suc, ◌+◌, ◌*◌, ◌-◌, ◌≤◌, ◌<◌}
use native.Mathlib.Omega.{arith}
use lib.Dec.{eqb}
use lib.ListN.{length, take, drop, length-drop}
use lib.Seq.{drop-drop, length-take-le}
use borrow.Author.Tests.{ne_eqb}
use Rattle.particle.specs.Record.{record_size, half}
use Rattle.particle.proofs.Records.{half_drop}
use Rattle.intake.specs.declared.Fault.{Fault}
use Rattle.intake.specs.Scan.{or_else}
use Rattle.entries.specs.Answer.{refusal_alone}
use Rattle.chain.specs.Layout.{level_count, count_size, count_in, counts_in, count_at, counts, sum, trees_part, levels_in, levels}
use Rattle.chain.specs.Answer.{chain_ok, levels_refusal}
use Rattle.chain.specs.Nested.{present_in}
use Rattle.chain.proofs.Levels.{trees_length}

-- the counts of the levels from i on, of n
abbrev counts_from : (c : List ℕ) (n i : ℕ) → List ℕ
counts_from c n i = counts_in (n - i) (drop (count_at i) c)

module _ (c : List ℕ) (n i : ℕ) where
  -- the level i has k records
  counts_turn : i < n → {k : ℕ} → k ≡ count_in (drop (count_at i) c) → counts_from c n i ≡ k ∷ counts_from c n (i + 1)
  unfolding counts_in
  counts_turn h e =
      let q : n - i ≡ suc (n - (i + 1)) = omega arith in
      let d : count_at i + count_size ≡ count_at (i + 1) = omega arith in
      rw (q, drop-drop count_size (count_at i) c, d, e)

  counts_none : n ≤ i → counts_from c n i ≡ []
  unfolding counts_in
  counts_none h =
      let q : n - i ≡ 0 = omega arith in
      rw q

  -- the count of the level i can be read
  pub count_there : {m : ℕ} → n ≡ m → count_at m ≤ length c → i < n → count_at i + count_size ≤ length c
  count_there e l h = omega arith

-- the count whose two bytes start at `at`
pub count_read : (c : List ℕ) {at n : ℕ} → n ≡ half c at → {place : ℕ} → at ≡ place → n ≡ count_in (drop place c)
count_read c f {place} e =
    let z : place ≡ place + 0 = omega arith in
    f ∙ (ap (half c) (e ∙ z) ∙ sym (half_drop place c 0))

all_counts : (c : List ℕ) {n : ℕ} → n ≡ level_count c → counts_from c n 0 ≡ counts c
all_counts c {n} e =
    let q : n - 0 ≡ level_count c = omega arith in
    rw q

-- How many trees and records --------------------------------------------------------------

-- i of the n levels have so many trees and records, and with the others there are as many as the chain has
pub record Counted (c : List ℕ) (n trees records i : ℕ) : Type 0 where
  pub within : i ≤ n
  pub few : trees ≤ i
  pub small : records ≤ 65536 * i
  pub trees_left : present_in (counts c) ≡ trees + present_in (counts_from c n i)
  pub records_left : sum (counts c) ≡ records + sum (counts_from c n i)

-- a level of k records has m trees
present_cons : (k : ℕ) (ns : List ℕ) {m : ℕ} → m ≡ from_bool (not (eqb k 0)) → (present_in (k ∷ ns) ≡ m + present_in ns) × (m ≤ 1)
unfolding present_in
present_cons zero ns e = (omega arith, omega arith)
present_cons (suc k) ns e =
    let f = rw (ne_eqb (suc k) 0 (λ z. omega arith)) at e in
    (omega arith, omega arith)

module _ {c : List ℕ} {n trees records i : ℕ} (v : Counted c n trees records i) where
  -- the level i has k records, and so m trees
  pub counted_next : i < n → {k : ℕ} → k ≡ count_in (drop (count_at i) c) → k < 65536 → {m : ℕ} → m ≡ from_bool (not (eqb k 0)) → Counted c n (trees + m) (records + k) (i + 1)
  unfolding sum
  counted_next h {k} e low f =
      let turn = counts_turn c n i h e in
      let p = present_cons k (counts_from c n (i + 1)) f in
      record {
        within = omega arith;
        few = omega (arith, v.few);
        small = omega (arith, v.small);
        trees_left = omega (arith, v.trees_left, ap present_in turn, p.0);
        records_left = omega (arith, v.records_left, ap sum turn);
      }

  module _ (h : n ≤ i) where
    pub trees_counted : trees ≡ present_in (counts c)
    unfolding present_in
    trees_counted = omega (arith, v.trees_left, ap present_in (counts_none c n i h))

    pub records_counted : records ≡ sum (counts c)
    unfolding sum
    records_counted = omega (arith, v.records_left, ap sum (counts_none c n i h))

-- The trees' refusals ---------------------------------------------------------------------

-- the trees of the levels from i on stand in rest, and their first refusal is the chain's
pub record LevelsLeft (c : List ℕ) (n : ℕ) (rest : List ℕ) (i : ℕ) : Type 0 where
  pub within : i ≤ n
  pub refusal : levels_refusal (levels c) ≡ levels_refusal (levels_in (counts_from c n i) rest)
  pub size : length rest ≡ record_size * sum (counts_from c n i)

pub levels_start : (c : List ℕ) → chain_ok c ≡ true → {n : ℕ} → n ≡ level_count c → {rest : List ℕ} → rest ≡ trees_part c → LevelsLeft c n rest 0
unfolding levels
levels_start c ok e f = record { within = omega arith; refusal = rw (all_counts c e, f); size = rw (all_counts c e, f) (trees_length c ok) }

-- the refusal of the levels after i, of k records, whose tree rest starts with
abbrev later_refusal : (c : List ℕ) (n i k : ℕ) (rest : List ℕ) → Result (Unit {0}) Fault
later_refusal c n i k rest = levels_refusal (levels_in (counts_from c n (i + 1)) (drop (record_size * k) rest))

-- the refusal of a level of k records
levels_cons : (k : ℕ) (ks rest : List ℕ) → record_size * k ≤ length rest
    → levels_refusal (levels_in (k ∷ ks) rest)
    ≡ cond (eqb (length (take (record_size * k) rest)) 0) (levels_refusal (levels_in ks (drop (record_size * k) rest))) (or_else (refusal_alone (take (record_size * k) rest)) (levels_refusal (levels_in ks (drop (record_size * k) rest))))
unfolding levels_in levels_refusal
levels_cons zero ks rest l = refl
levels_cons (suc k) ks rest l = rw (ne_eqb (length (take (record_size * suc k) rest)) 0 (λ q. omega (arith, length-take-le (record_size * suc k) rest l)))

module _ {c : List ℕ} {n : ℕ} {rest : List ℕ} {i : ℕ} (v : LevelsLeft c n rest i) (h : i < n) {k : ℕ} (e : k ≡ count_in (drop (count_at i) c)) where
  turn : counts_from c n i ≡ k ∷ counts_from c n (i + 1)
  turn = counts_turn c n i h e

  pub level_within : record_size * k ≤ length rest
  unfolding sum
  level_within = omega (arith, v.size, ap sum turn)

  -- the level's tree is t, and b whether that is absent
  module _ {t : List ℕ} (is : t ≡ take (record_size * k) rest) {b : Bool} (absent : b ≡ eqb (length t) 0) where
    found : levels_refusal (levels c) ≡ cond b (later_refusal c n i k rest) (or_else (refusal_alone t) (later_refusal c n i k rest))
    found = v.refusal ∙ (ap (λ (ks : List ℕ). levels_refusal (levels_in ks rest)) turn ∙ rw (absent, is) (levels_cons k (counts_from c n (i + 1)) rest level_within))

    next : {later : List ℕ} → later ≡ drop (record_size * k) rest → levels_refusal (levels c) ≡ later_refusal c n i k rest → LevelsLeft c n later (i + 1)
    unfolding sum
    next e r = record { within = omega arith; refusal = rw e r; size = rw e (omega (arith, v.size, ap sum turn, length-drop (record_size * k) rest)) }

    pub level_absent : b ≡ true → {later : List ℕ} → later ≡ drop (record_size * k) rest → LevelsLeft c n later (i + 1)
    level_absent z e = next e (found ∙ rw z)

    module _ (z : b ≡ false) where
      pub level_accepted : Ok tt ≡ refusal_alone t → {later : List ℕ} → later ≡ drop (record_size * k) rest → LevelsLeft c n later (i + 1)
      level_accepted a e = next e (found ∙ rw (z, ← a))

      pub level_refused : {f : Fault} → Err f ≡ refusal_alone t → Err f ≡ levels_refusal (levels c)
      level_refused a = sym (found ∙ rw (z, ← a))

pub levels_done : {c : List ℕ} {n : ℕ} {rest : List ℕ} {i : ℕ} → LevelsLeft c n rest i → n ≤ i → Ok tt ≡ levels_refusal (levels c)
unfolding levels_in levels_refusal
levels_done {c} {n} {i = i} v h = sym (v.refusal ∙ rw (counts_none c n i h))

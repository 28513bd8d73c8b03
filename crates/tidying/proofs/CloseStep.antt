-- A group closed over the items that it keeps: one item left takes its place or its pair, or its record is written before them. Assumes nothing.
use mathlib.Core.Path.{◌≡◌, refl, ap, sym, ◌∙◌}
use mathlib.Core.Bool.{Bool, true, false}
use mathlib.Core.List.{List}
use Prim.Native.Nat.{ℕ, ◌+◌, ◌-◌, ◌≤◌}
use native.Mathlib.Omega.{arith}
use lib.ListN.{length, take, drop}
use Rattle.particle.specs.declared.Record.{Record}
use Rattle.particle.specs.Occurs.{is_once}
use Rattle.particle.specs.Record.{record_size, record_at, record_bytes, range_of}
use Rattle.particle.specs.Tree.{Head, choice, Items, none, item, Particle, single, pair_of, count_i, head_of}
use Rattle.particle.specs.Encode.{record_of}
use Rattle.particle.specs.Write.{overwrite}
use Rattle.particle.proofs.Fields.{with_count, with_pair}
use Rattle.particle.proofs.Laws.{part_is}
use Rattle.particle.proofs.Heads.{pair_record}
use Rattle.particle.proofs.RoundTrip.{head_record}
use Rattle.tidying.specs.declared.Kept.{Kept}
use Rattle.tidying.specs.Tidy.{takes_pair, lone, closed}
use Rattle.tidying.specs.Laid.{Laid, Removed, KeptStand}
use Rattle.tidying.proofs.Steps.{takes_cases}
use Rattle.tidying.proofs.LaidTrees.{laid_over, laid_within, laid_before, laid_long, laid_record, laid_open, laid_moved, laid_write}

-- the one tree of a row
record One (x : Items) : Type 0 where
  pub head : Head
  pub items : Items
  pub is : x ≡ item head items none

one_of : (x : Items) → count_i x ≡ 1 → One x
unfolding count_i
one_of none e = absurd (omega arith)
one_of (item h k none) e = record { head = h; items = k; is = refl }
one_of (item h k (item h' k' r)) e = absurd (omega arith)

closed_many : (g : Head) (x : Items) → (count_i x ≡ 1 → ⊥) → closed g x ≡ record { head = g; items = x }
unfolding count_i
closed_many g none n = refl
closed_many g (item h k none) n = absurd (n refl)
closed_many g (item h k (item h' k' r)) n = refl

-- an item that takes a pair is a choice
is_choice : (g h : Head) → takes_pair g h ≡ true → h ≡ choice (pair_of h)
is_choice = takes_cases (λ (g h : Head). h ≡ choice (pair_of h)) (λ q p e. refl)

module _ {kept : Kept} {out : List ℕ} (s : KeptStand kept out) {before : List ℕ} {x : Items}
    (l : kept.at + record_size ≤ length before) (n : kept.count ≡ count_i x) (a : Laid before out (kept.at + record_size) kept.end x) where
  -- what the group becomes is laid from `at` to r
  abbrev Closed : (after : List ℕ) (r : ℕ) → Type 0
  Closed after r = Laid before after kept.at r (single (closed (head_of kept.group) x))

  into : {after : List ℕ} {r : ℕ} (p : Particle) → closed (head_of kept.group) x ≡ p → Laid before after kept.at r (single p) → Closed after r
  into p e c = rw e c

  -- the group's record is written before the items
  abbrev Headed : (after : List ℕ) → Type 0
  Headed after = after ≡ overwrite kept.at (record_bytes (with_count kept.group kept.count)) out

  over : {after : List ℕ} → Headed after → Laid before after kept.at kept.end (item (head_of kept.group) x none)
  over e =
      let c : with_count kept.group kept.count ≡ record_of (head_of kept.group) (count_i x) = ap (λ (q : Record). with_count q kept.count) (sym s.faithful) ∙ ap (record_of (head_of kept.group)) n in
      laid_write kept.at l a (head_of kept.group) (e ∙ ap (λ (q : Record). overwrite kept.at (record_bytes q) out) c)

  pub many : {after : List ℕ} → (kept.count ≡ 1 → ⊥) → Headed after → Closed after kept.end
  many m e = into (record { head = head_of kept.group; items = x }) (closed_many (head_of kept.group) x (λ z. m (n ∙ z))) (over e)

  module _ (o : kept.count ≡ 1) where
    one : One x
    one = one_of x (sym n ∙ o)

    alone : Laid before out (kept.at + record_size) kept.end (item one.head one.items none)
    alone = rw one.is at a

    closed_is : closed (head_of kept.group) x ≡ closed (head_of kept.group) (item one.head one.items none)
    closed_is = ap (closed (head_of kept.group)) one.is

    once_is : {u : Bool} → u ≡ is_once (range_of kept.group) → is_once (pair_of (head_of kept.group)) ≡ u
    once_is e = ap is_once (pair_record kept.group) ∙ sym e

    pub takes_place : {u : Bool} {after : List ℕ} {r : ℕ} → u ≡ is_once (range_of kept.group) → u ≡ true → Removed out after kept.at kept.end → r ≡ kept.end - record_size → Closed after r
    takes_place e u r q = rw q (into (record { head = one.head; items = one.items }) (closed_is ∙ rw (once_is e ∙ u, closed)) (laid_moved kept.at l alone r))

    -- h is the record of the one item, and p whether it takes the group's pair
    module _ {u p : Bool} (eu : u ≡ is_once (range_of kept.group)) (u_not : u ≡ false) {h : Record}
        (eh : h ≡ record_at (take (length out - (kept.at + record_size)) (drop (kept.at + record_size) out))) (ep : p ≡ takes_pair (head_of kept.group) (head_of h)) where
      u' : is_once (pair_of (head_of kept.group)) ≡ false
      u' = once_is eu ∙ u_not

      h_is : h ≡ record_of one.head (count_i one.items)
      h_is = eh ∙ (ap record_at (part_is out (kept.at + record_size)) ∙ laid_record l alone)

      p_is : takes_pair (head_of kept.group) one.head ≡ p
      p_is = ap (takes_pair (head_of kept.group)) (sym (ap head_of h_is ∙ head_record one.head (count_i one.items))) ∙ sym ep

      pub takes_pair_lem : {middle after : List ℕ} {r : ℕ} → p ≡ true → middle ≡ overwrite (kept.at + record_size) (record_bytes (with_pair h kept.group)) out → Removed middle after kept.at kept.end → r ≡ kept.end - record_size → Closed after r
      takes_pair_lem {middle} t e r q =
          let t' : takes_pair (head_of kept.group) one.head ≡ true = p_is ∙ t in
          let h_is' : h ≡ record_of (choice (pair_of one.head)) (count_i one.items) = h_is ∙ ap (λ (q : Head). record_of q (count_i one.items)) (is_choice (head_of kept.group) one.head t') in
          let c : with_pair h kept.group ≡ record_of (choice (pair_of (head_of kept.group))) (count_i one.items) = ap (λ (q : Record). with_pair q kept.group) h_is' ∙ ap (λ (q : Record). with_pair (record_of (choice (pair_of one.head)) (count_i one.items)) q) (sym s.faithful) in
          let w : kept.at + record_size + record_size ≤ length out = omega (arith, laid_long l alone, laid_within l alone) in
          let b : Laid out middle (kept.at + record_size) kept.end (item (choice (pair_of (head_of kept.group))) one.items none) = laid_write (kept.at + record_size) w (laid_open l alone) (choice (pair_of (head_of kept.group))) (e ∙ ap (λ (q : Record). overwrite (kept.at + record_size) (record_bytes q) out) c) in
          rw q (into (record { head = choice (pair_of (head_of kept.group)); items = one.items }) (closed_is ∙ rw (u', closed, t', lone)) (laid_moved kept.at l (laid_over (laid_before l alone) b) r))

      pub stays : {after : List ℕ} → p ≡ false → Headed after → Closed after kept.end
      stays t e =
          let t' : takes_pair (head_of kept.group) one.head ≡ false = p_is ∙ t in
          into (record { head = head_of kept.group; items = x }) (closed_is ∙ rw (u', closed, t', lone) (ap (λ (y : Items). record { head = head_of kept.group; items = y }) (sym one.is))) (over e)

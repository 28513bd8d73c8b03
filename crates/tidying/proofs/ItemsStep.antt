-- The loop of `tidy_items`: what is written after each item, and what is left to read. Assumes nothing.
use mathlib.Core.Path.{◌≡◌, refl, ap, sym, ◌∙◌}
use mathlib.Core.Bool.{Bool, true}
use mathlib.Core.List.{List}
use Prim.Native.Nat.{ℕ, suc, ◌+◌, ◌*◌, ◌-◌, ◌≤◌, ◌<◌}
use native.Mathlib.Omega.{arith}
use mir.Syntax.{w64}
use mir.Val.{Fits}
use lib.ListN.{length, take, drop}
use Rattle.particle.specs.declared.Record.{Record}
use Rattle.particle.specs.Record.{record_size, max_records, record_at}
use Rattle.particle.specs.Tree.{Items, none, item, single, ◌then◌, take_i, count_i, size_i, head_of, records, tree}
use Rattle.particle.specs.Rows.{Row, row, run_size, items_part, later_part}
use Rattle.particle.specs.Encode.{Faithful}
use Rattle.particle.proofs.Trees.{count_i_le}
use Rattle.particle.proofs.Laws.{part_is, row_le, row_is, row_one, row_sizes, run_is, run_within, items_row, items_shorter, later_row, later_shorter}
use Rattle.particle.proofs.EncodeParts.{count_then, items_faithful, later_faithful}
use Rattle.particle.proofs.RoundTrip.{then_none}
use Rattle.tidying.specs.declared.Kept.{Kept}
use Rattle.tidying.specs.declared.Written.{Written}
use Rattle.tidying.specs.Tidy.{keep, closed, tidy_items, tidy, is_tidied}
use Rattle.tidying.specs.Laid.{tidied, Room, Laid, ItemStands, KeepsAfter, KeptStand, Closes, Writes}
use Rattle.tidying.proofs.Sizes.{keep_smaller, tidy_smaller}
use Rattle.tidying.proofs.LaidTrees.{laid_none, laid_then, laid_within, laid_long}
use Rattle.tidying.proofs.KeepStep.{keep_then}
use Rattle.tidying.proofs.TreeStep.{tree_size, record_fits, record_is, tidied_group}

-- items in another order of brackets
then_assoc : (x y z : Items) → (x then y) then z ≡ x then (y then z)
unfolding ◌then◌
then_assoc none y z = refl
then_assoc (item h k r) y z = ap (λ (s : Items). item h k s) (then_assoc r y z)

-- the tree t is to be written from `at` on; i of its n items are read, the others are left, from `rest` on
pub record ItemsLeft (t before : List ℕ) (at : ℕ) (kept : Kept) (out : List ℕ) (read : ℕ) (rest : List ℕ) (n i : ℕ) : Type 0 where
  pub root : kept.group ≡ record_at t
  pub there : kept.at ≡ at
  pub group : is_tidied (head_of kept.group) ≡ true
  pub place : Room t 1 before kept.at
  pub done : Items
  pub laid : Laid before out (kept.at + record_size) kept.end done
  pub counted : kept.count ≡ count_i done
  pub all : tidy_items (head_of kept.group) (row kept.group.count (items_part t)) ≡ done then tidy_items (head_of kept.group) (row (n - i) rest)
  pub unread : read + record_size * size_i (row (n - i) rest) ≡ run_size t
  pub room : kept.end + record_size * size_i (row (n - i) rest) ≤ length out
  pub same : length out ≡ length before
  pub trees : Row (n - i) rest
  pub faithful : Faithful (records rest)
  pub shorter : length rest < length t

-- what is read of a tree is within it
pub read_within : {t before out : List ℕ} {at : ℕ} {x : Items} {r : Written} → Writes t before out at x r → r.read ≤ length t
read_within {t} w = omega (arith, w.read, run_within t)

-- no item is read
pub none_read : {g : Record} {t before : List ℕ} {at : ℕ} {s : List ℕ} {b : Bool} → Room t 1 before at → g ≡ record_at t → s ≡ items_part t → b ≡ is_tidied (head_of g) → b ≡ true
    → ItemsLeft t before at (record { group = g; at = at; count = 0; end = at + record_size }) before record_size s g.count 0
unfolding count_i ◌then◌
none_read {g} {t} {before} {at} q e p y y' =
    let z : g.count - 0 ≡ g.count = omega arith in
    rw p (record {
      root = e;
      there = refl;
      group = sym y ∙ y';
      place = q;
      done = none;
      laid = laid_none before (at + record_size);
      counted = refl;
      all = rw z;
      unread = rw z (omega (arith, run_is t, tree_size q e));
      room = rw z (omega (arith, q.room, tree_size q e));
      same = refl;
      trees = rw (z, e) (items_row q.trees);
      faithful = items_faithful q.trees q.faithful;
      shorter = items_shorter q.trees;
    })

module _ {t before : List ℕ} {at : ℕ} {kept : Kept} {out : List ℕ} {read : ℕ} {rest : List ℕ} {n i : ℕ} (a : ItemsLeft t before at kept out read rest n i) where
  out_small : length out ≤ record_size * max_records
  out_small = omega (arith, a.place.small, a.same)

  pub kept_stand : KeptStand kept out
  kept_stand =
      let l = count_i_le a.done in
      record {
        faithful = record_is a.place a.root;
        long = omega (arith, a.counted, l, a.laid.size);
        within = omega (arith, a.room);
        few = omega (arith, a.counted, l, a.laid.size, a.room, out_small);
      }

  -- one item more
  module _ (some : i < n) where
    more : Row (suc (n - (i + 1))) rest
    more =
        let z : n - i ≡ suc (n - (i + 1)) = omega arith in
        rw z at a.trees

    split : row (n - i) rest ≡ item (tree rest).head (tree rest).items (row (n - (i + 1)) (later_part rest))
    split =
        let z : n - i ≡ suc (n - (i + 1)) = omega arith in
        rw z (row_is more)

    sizes : size_i (row (n - i) rest) ≡ size_i (row 1 rest) + size_i (row (n - (i + 1)) (later_part rest))
    sizes =
        let z : n - i - 1 ≡ n - (i + 1) = omega arith in
        rw z at (row_sizes a.trees (omega arith))

    pub item_room : Room rest 1 out kept.end
    item_room = record { trees = row_le (omega arith) more; faithful = a.faithful; room = omega (arith, a.room, sizes); small = out_small }

    -- the item is written
    module _ {middle : List ℕ} {x : Written} (w : Writes rest out middle kept.end (tidied rest) x) where
      pub item_stands : ItemStands kept middle x.end
      item_stands = record { long = laid_long kept_stand.within w.laid; within = laid_within kept_stand.within w.laid; few = kept_stand.few }

      fewer : size_i (tidied rest) ≤ size_i (row 1 rest)
      fewer = rw (row_one (row_le (omega arith) more)) (tidy_smaller (tree rest))

      pub read_fits : Fits w64 (read + x.read)
      read_fits = omega (arith, w.read, a.unread, sizes, run_is rest, run_is t, a.place.room, a.place.small)

      pub item_read : {after : List ℕ} {k : Kept} {next : List ℕ} → length middle ≡ length out → length after ≡ length middle → KeepsAfter kept middle x.end k after
          → next ≡ take (length rest - x.read) (drop x.read rest)
          → ItemsLeft t before at k after (read + x.read) next n (i + 1)
      unfolding tidy_items tidy
      item_read {after} {k} {next} same same' f e =
          let g = head_of kept.group in
          let y = keep g (tidy (tree rest)) none in
          let later = tidy_items g (row (n - (i + 1)) (later_part rest)) in
          let b = f.keeps out (tidy (tree rest)) kept_stand.within w.laid in
          let p : next ≡ later_part rest = e ∙ (part_is rest x.read ∙ ap (λ (m : ℕ). drop m rest) w.read) in
          let m : keep g (tidy (tree rest)) later ≡ y then later = keep_then g (tidy (tree rest)) later in
          rw p (record {
            root = f.group ∙ a.root;
            there = f.at ∙ a.there;
            group = rw f.group a.group;
            place = rw f.at a.place;
            done = a.done then y;
            laid = rw f.at (laid_then a.laid b.0);
            counted = omega (arith, a.counted, b.1, count_then a.done y);
            all = rw f.group (a.all ∙ (rw split (ap (λ (z : Items). a.done then z) m) ∙ sym (then_assoc a.done y later)));
            unread = omega (arith, w.read, a.unread, sizes, run_is rest);
            room = omega (arith, a.room, sizes, b.0.size, keep_smaller g (tidy (tree rest)), fewer);
            same = same' ∙ (same ∙ a.same);
            trees = later_row more;
            faithful = later_faithful rest a.faithful;
            shorter = omega (arith, a.shorter, later_shorter more);
          })

  -- every item is read
  module _ (none_left : n ≤ i) where
    last : row (n - i) rest ≡ none
    unfolding take_i
    last =
        let z : n - i ≡ 0 = omega arith in
        rw z

    pub all_read : read ≡ run_size t
    unfolding size_i
    all_read =
        let u : read + record_size * size_i none ≡ run_size t = rw last at a.unread in
        omega arith

    pub closes : {after : List ℕ} {r : ℕ} → Closes kept out after r → Laid before after at r (tidied t)
    unfolding tidy_items
    closes c =
        let d : tidy_items (head_of kept.group) (row kept.group.count (items_part t)) ≡ a.done = a.all ∙ (rw last (then_none a.done)) in
        let x : tidied t ≡ single (closed (head_of kept.group) a.done) = tidied_group a.place a.root a.group ∙ ap (λ (z : Items). single (closed (head_of kept.group) z)) d in
        rw (x, ← a.there) (c before a.done (record_fits a.place a.root) a.counted a.laid)

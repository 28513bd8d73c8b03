-- The loop of `measure`: from a byte on, each record that has items is measured, and the trees are those that they were. Assumes nothing.
use mathlib.Core.Bool.{Bool}
use mathlib.Core.Path.{◌≡◌, refl, ap, sym, ◌∙◌}
use mathlib.Core.List.{List, [], ◌∷◌}
use Prim.Native.Nat.{ℕ, suc, ◌+◌, ◌*◌, ◌-◌, ◌/◌, ◌%◌, ◌≤◌, ◌<◌}
use native.Mathlib.Omega.{arith}
use lib.ListN.{length, take, drop, get_or, set, length-drop, length-set}
use lib.Seq.{sets, length-sets, take-take, take-add, drop_at, length-take-le, drop-drop, drop-length, get_or-take, take-set-le, drop-set-lt, drop-set-add, get_or-set_same, get_or-set_other}
use Rattle.particle.specs.declared.Record.{Record}
use Rattle.particle.specs.Record.{record_size, max_records, at_kind, at_leaf, at_count, at_unbounded, at_zero, at_size, at_min, at_max, half, half_bytes, word, record_at}
use Rattle.particle.specs.Tree.{take_i, count_i, size_i, head_of, build, records, decode, first_of, tree}
use Rattle.particle.specs.Rows.{Complete, Row, row, items_part}
use Rattle.particle.specs.Empty.{emptiable}
use Rattle.particle.specs.Runs.{note_of, Noted, Measured, Run, RowFound}
use Rattle.particle.specs.declared.measured.Found.{Found}
use Rattle.particle.proofs.Fields.{with_notes}
use Rattle.particle.proofs.Records.{records_cons, records_short, records_drop, length_records}
use Rattle.particle.proofs.Trees.{complete_drop, size_i_split, size_i_build}
use Rattle.particle.proofs.Laws.{part_is}
use Rattle.particle.proofs.RoundTrip.{halves}

-- the notes stored in the three zero bytes of a record, of which the head reads none
module _ (s : List ℕ) (e v : ℕ) where
  abbrev Stored : List ℕ
  Stored = sets s at_zero (e ∷ half_bytes v)

  other : (i : ℕ) → (i ≡ at_zero → ⊥) → (i ≡ at_size → ⊥) → (i ≡ suc at_size → ⊥) → get_or Stored i 0 ≡ get_or s i 0
  other i k m n = get_or-set_other (set (set s at_zero e) at_size (v % 256)) (suc at_size) i (v / 256) 0 n ∙ (get_or-set_other (set s at_zero e) at_size i (v % 256) 0 m ∙ get_or-set_other s at_zero i e 0 k)

  before_it : (i : ℕ) → i < at_zero → get_or Stored i 0 ≡ get_or s i 0
  before_it i h = other i (λ q. omega arith) (λ q. omega arith) (λ q. omega arith)

  after_it : (i : ℕ) → suc at_size < i → get_or Stored i 0 ≡ get_or s i 0
  after_it i h = other i (λ q. omega arith) (λ q. omega arith) (λ q. omega arith)

  word_past : (i : ℕ) → suc at_size < i → word Stored i ≡ word s i
  word_past i h = rw (after_it i h, after_it (i + 1) (omega arith), after_it (i + 2) (omega arith), after_it (i + 3) (omega arith))

  notes_stored : record_size ≤ length s → record_at Stored ≡ with_notes (record_at s) e v
  notes_stored h =
      let one = set s at_zero e in
      let two = set one at_size (v % 256) in
      let empty : get_or Stored at_zero 0 ≡ e = get_or-set_other two (suc at_size) at_zero (v / 256) 0 (λ q. omega arith) ∙ (get_or-set_other one at_size at_zero (v % 256) 0 (λ q. omega arith) ∙ get_or-set_same s at_zero e 0 (omega arith)) in
      let low : get_or Stored at_size 0 ≡ v % 256 = get_or-set_other two (suc at_size) at_size (v / 256) 0 (λ q. omega arith) ∙ get_or-set_same one at_size (v % 256) 0 (omega (arith, length-set s at_zero e)) in
      let high : get_or Stored (at_size + 1) 0 ≡ v / 256 = get_or-set_same two (suc at_size) (v / 256) 0 (omega (arith, length-set one at_size (v % 256), length-set s at_zero e)) in
      let size : half Stored at_size ≡ v = rw (low, high) (halves v) in
      rw (empty, size, before_it at_kind (omega arith), before_it at_leaf (omega arith), before_it at_count (omega arith), before_it (at_count + 1) (omega arith), before_it at_unbounded (omega arith), word_past at_min (omega arith), word_past at_max (omega arith))

-- a record is its bytes
word_front : (n i : ℕ) (s : List ℕ) → i + 4 ≤ n → word (take n s) i ≡ word s i
word_front n i s h = rw (get_or-take n s i 0 (omega arith), get_or-take n s (i + 1) 0 (omega arith), get_or-take n s (i + 2) 0 (omega arith), get_or-take n s (i + 3) 0 (omega arith))

record_front : (s : List ℕ) → record_at (take record_size s) ≡ record_at s
record_front s =
    let b : (i : ℕ) → i < record_size → get_or (take record_size s) i 0 ≡ get_or s i 0 = λ i h. get_or-take record_size s i 0 h in
    let w : (i : ℕ) → i + 4 ≤ record_size → word (take record_size s) i ≡ word s i = λ i h. word_front record_size i s h in
    rw (b at_kind (omega arith), b at_leaf (omega arith), b at_count (omega arith), b (at_count + 1) (omega arith), b at_unbounded (omega arith), b at_zero (omega arith), b at_size (omega arith), b (at_size + 1) (omega arith), w at_min (omega arith), w at_max (omega arith))

-- from `at` on; one tree was lent
pub record MeasuredFrom (before t : List ℕ) (at : ℕ) : Type 0 where
  pub whole : Row 1 before
  pub few : length before ≤ record_size * max_records
  pub same : length t ≡ length before
  pub even : at % record_size ≡ 0
  pub within : at ≤ length before
  pub front : take at t ≡ take at before
  pub trees : decode (drop at t) ≡ decode (drop at before)
  pub complete : Complete (records (drop at t))
  pub measured : Measured (records (drop at t))

module _ {before : List ℕ} where
  -- from the end, n records on
  pub none_measured : {n : ℕ} → n ≡ length (records before) → Row 1 before → length before ≤ record_size * max_records → MeasuredFrom before before (record_size * n)
  unfolding Complete Measured
  none_measured {n} count w few =
      let end : record_size * n ≡ length before = omega (arith, w.even, length_records before) in
      let e : records (drop (length before) before) ≡ [] = rw (drop-length before) (records_short [] (omega arith)) in
      rw end (record { whole = w; few = few; same = refl; even = w.even; within = omega arith; front = refl; trees = refl; complete = rw e tt; measured = rw e tt })

  pub all_measured : {t : List ℕ} {at : ℕ} → MeasuredFrom before t at → at ≤ 0 → Run 1 t × (tree t ≡ tree before)
  unfolding tree
  all_measured {t} {at} a h =
      let z : at ≡ 0 = omega arith in
      let b : MeasuredFrom before t 0 = rw z at a in
      (record { row = record { even = omega (arith, b.whole.even, b.same); complete = b.complete; enough = rw b.trees b.whole.enough }; measured = b.measured; few = omega (arith, b.few, b.same) }, ap first_of b.trees)

  -- the next record is the one before them
  pub one_more : {t : List ℕ} {i : ℕ} → MeasuredFrom before t (record_size * i) → 0 < i → MeasuredFrom before t (record_size * (i - 1) + record_size)
  one_more {t} {i} a h =
      let e : record_size * (i - 1) + record_size ≡ record_size * i = omega arith in
      rw e a

  -- one turn: the record at p, and what stands after it
  module _ {t : List ℕ} (p : ℕ) (a : MeasuredFrom before t (p + record_size)) where
    pub record_long : record_size ≤ length (drop p t)
    record_long = omega (arith, a.within, a.same, length-drop p t)

    -- the record there is the one that it was
    record_bytes_lem : (l : List ℕ) → p + record_size ≤ length l → take record_size (drop p l) ≡ drop p (take (p + record_size) l)
    record_bytes_lem l h =
        sym (ap (drop p) (take-add p record_size l)
        ∙ drop_at (take p l) (take record_size (drop p l)) p (length-take-le p l (omega arith)))

    record_same : record_at (drop p t) ≡ record_at (drop p before)
    record_same =
        sym (record_front (drop p t))
        ∙ (ap record_at (record_bytes_lem t (omega (arith, a.within, a.same)) ∙ (ap (drop p) a.front ∙ sym (record_bytes_lem before a.within)))
        ∙ record_front (drop p before))

    count_same : (record_at (drop p t)).count ≡ (record_at (drop p before)).count
    count_same = ap (λ (r : Record). r.count) record_same

    -- its items, and the records from there on
    from_items : (l : List ℕ) → drop record_size (drop p l) ≡ drop (p + record_size) l
    from_items l = drop-drop record_size p l

    from_here : (l : List ℕ) → record_size ≤ length (drop p l) → records (drop p l) ≡ record_at (drop p l) ∷ records (drop (p + record_size) l)
    from_here l h = records_cons (drop p l) h ∙ ap (λ (k : List ℕ). record_at (drop p l) ∷ records k) (from_items l)

    count_fits : (record_at (drop p before)).count ≤ count_i (decode (drop (p + record_size) t))
    unfolding Complete decode
    count_fits =
        let h : record_size ≤ length (drop p before) = omega (arith, a.within, length-drop p before) in
        let k : p ≡ record_size * (p / record_size) = omega (arith, a.even) in
        let c : Complete (records (drop p before)) = rw (k, records_drop (p / record_size) before) (complete_drop (p / record_size) (records before) a.whole.complete) in
        let d : Complete (record_at (drop p before) ∷ records (drop (p + record_size) before)) = rw (from_here before h) at c in
        rw a.trees d.0

    -- with the record there as it was, or with its notes where it has items
    record_measured : {after : List ℕ} (r : Record) → length after ≡ length t → take p after ≡ take p t → drop (p + record_size) after ≡ drop (p + record_size) t → record_at (drop p after) ≡ r
        → head_of r ≡ head_of (record_at (drop p before)) → r.count ≡ (record_at (drop p before)).count
        → (0 < r.count → Noted r (build (r ∷ records (drop (p + record_size) t)))) → MeasuredFrom before after p
    unfolding Complete Measured decode build
    record_measured {after} r same front back is head count notes =
        let h : record_size ≤ length (drop p before) = omega (arith, a.within, length-drop p before) in
        let h' : record_size ≤ length (drop p after) = omega (arith, a.within, a.same, same, length-drop p after) in
        let rs : records (drop p after) ≡ r ∷ records (drop (p + record_size) t) = from_here after h' ∙ rw (is, back) in
        record {
          whole = a.whole;
          few = a.few;
          same = same ∙ a.same;
          even = omega (arith, a.even);
          within = omega (arith, a.within);
          front = front ∙ (sym (take-take p (p + record_size) t (omega arith)) ∙ (ap (take p) a.front ∙ take-take p (p + record_size) before (omega arith)));
          trees = rw (rs, from_here before h, head, count, a.trees);
          complete = rw rs (rw count count_fits, a.complete);
          measured = rw rs (notes, a.measured);
        }

    -- a record without items stays as it is
    pub bare_measured : {count : ℕ} → count ≡ (record_at (drop p t)).count → count ≤ 0 → MeasuredFrom before t p
    bare_measured c z = record_measured (record_at (drop p t)) refl refl refl refl (ap head_of record_same) count_same (λ g. absurd (omega (arith, c, z, g)))

    -- one with `count` items
    module _ {count : ℕ} (c : count ≡ (record_at (drop p t)).count) (g : 0 < count) where
      -- whose bytes are lent as `&t[at..]`
      abbrev Here : List ℕ
      Here = take (length t - p) (drop p t)

      here_is : Here ≡ drop p t
      here_is = part_is t p

      items_measured : Run (record_at (drop p t)).count (drop (p + record_size) t)
      items_measured = record {
        row = record { even = omega (arith, a.whole.even, a.same, a.even, a.within, length-drop (p + record_size) t); complete = a.complete; enough = omega (arith, count_same, count_fits) };
        measured = a.measured;
        few = omega (arith, a.few, a.same, length-drop (p + record_size) t);
      }

      pub tree_lent : Row 1 Here
      unfolding Complete decode build count_i
      tree_lent =
          let rs : records (drop p t) ≡ record_at (drop p t) ∷ records (drop (p + record_size) t) = from_here t record_long in
          rw here_is (record {
            even = omega (arith, a.whole.even, a.same, a.even, a.within, length-drop p t);
            complete = rw rs (omega (arith, items_measured.row.enough), a.complete);
            enough = rw rs (omega arith);
          })

      -- its items' bytes are lent as `&t[at + RECORD_SIZE..]`
      abbrev Rest : List ℕ
      Rest = take (length t - (p + record_size)) (drop (p + record_size) t)

      rest_is : Rest ≡ drop (p + record_size) t
      rest_is = part_is t (p + record_size)

      pub items_lent : Run count Rest
      items_lent = rw (rest_is, c) items_measured

      pub some_lent : 0 < (record_at Here).count
      some_lent = rw here_is (omega (arith, c, g))

      -- x is what they are found to be
      module _ {x : Found} (f : RowFound count Rest x) where
        pub found_lent : RowFound (record_at Here).count (items_part Here) x
        found_lent = rw (here_is, from_items t) (rw (rest_is, c) at f)

        size_is : x.len / record_size + 1 ≡ suc (size_i (row (record_at (drop p t)).count (drop (p + record_size) t)))
        size_is =
            let q : x.len ≡ record_size * size_i (row count (drop (p + record_size) t)) = rw rest_is at f.len in
            rw (← c) (omega (arith, q))

        pub size_fits : x.len / record_size + 1 ≤ max_records
        unfolding decode
        size_fits = omega (arith, size_is, size_i_split (record_at (drop p t)).count (build (records (drop (p + record_size) t))), size_i_build (records (drop (p + record_size) t)), length_records (drop (p + record_size) t), length-drop (p + record_size) t, a.same, a.few)

        -- e is what is noted
        module _ {e : ℕ} {empty : Bool} (q : e ≡ note_of empty) (is : empty ≡ emptiable (tree Here)) where
          notes : Noted (with_notes (record_at (drop p t)) e (x.len / record_size + 1)) (build (with_notes (record_at (drop p t)) e (x.len / record_size + 1) ∷ records (drop (p + record_size) t)))
          unfolding tree decode build take_i size_i
          notes =
              let r = with_notes (record_at (drop p t)) e (x.len / record_size + 1) in
              let same : tree Here ≡ first_of (build (r ∷ records (drop (p + record_size) t))) = rw (here_is, from_here t record_long) in
              record { empty = q ∙ ap note_of (is ∙ ap emptiable same); size = size_is ∙ omega arith }

          pub noted_measured : {after : List ℕ} → after ≡ sets (set t (p + at_zero) e) (p + at_size) (half_bytes (x.len / record_size + 1)) → MeasuredFrom before after p
          noted_measured s =
              let v = x.len / record_size + 1 in
              let q : suc (p + at_size) ≡ p + suc at_size = omega arith in
              let one = set t (p + at_zero) e in
              let two = set one (p + at_size) (v % 256) in
              rw s
              (record_measured (with_notes (record_at (drop p t)) e v) (length-sets one (p + at_size) (half_bytes v) ∙ length-set t (p + at_zero) e)
              (take-set-le p two (suc (p + at_size)) (v / 256) (omega arith) ∙ (take-set-le p one (p + at_size) (v % 256) (omega arith) ∙ take-set-le p t (p + at_zero) e (omega arith)))
              (drop-set-lt (p + record_size) two (suc (p + at_size)) (v / 256) (omega arith) ∙ (drop-set-lt (p + record_size) one (p + at_size) (v % 256) (omega arith) ∙ drop-set-lt (p + record_size) t (p + at_zero) e (omega arith)))
              (ap record_at (ap (λ (i : ℕ). drop p (set two i (v / 256))) q ∙ (drop-set-add p two (suc at_size) (v / 256) ∙ ap (λ (l : List ℕ). set l (suc at_size) (v / 256)) (drop-set-add p one at_size (v % 256) ∙ ap (λ (l : List ℕ). set l at_size (v % 256)) (drop-set-add p t at_zero e)))) ∙ notes_stored (drop p t) e v record_long)
              (ap head_of record_same) count_same (λ _. notes))

-- What holds of each record, or of the record at each place of the bytes, holds of each record of the trees that they are. Assumes nothing.
use mathlib.Core.List.{List, [], ◌∷◌}
use Prim.Native.Nat.{ℕ, zero, suc, ◌+◌, ◌/◌}
use lib.ListN.{length, drop}
use lib.Seq.{drop-drop}
use Rattle.particle.specs.declared.Record.{Record}
use Rattle.particle.specs.Record.{record_size, record_at}
use Rattle.particle.specs.Tree.{Head, Items, none, item, single, take_i, drop_i, head_of, build, records_n, records, decode, tree}
use Rattle.particle.specs.Rows.{Row, row, items_part}
use Rattle.particle.proofs.Laws.{tree_is}

-- P holds of each record's head
unfoldable pub EachHead : (Head → Type 0) → Items → Type 0
EachHead P none = Unit {0}
EachHead P (item h k r) = P h × EachHead P k × EachHead P r

module _ (P : Head → Type 0) where
  each_take : (n : ℕ) (x : Items) → EachHead P x → EachHead P (take_i n x)
  unfolding EachHead take_i
  each_take zero x e = tt
  each_take (suc n) none e = tt
  each_take (suc n) (item h k r) e = (e.0, e.1, each_take n r e.2)

  each_drop : (n : ℕ) (x : Items) → EachHead P x → EachHead P (drop_i n x)
  unfolding EachHead drop_i
  each_drop zero x e = e
  each_drop (suc n) none e = tt
  each_drop (suc n) (item h k r) e = each_drop n r e.2

  -- P holds of the head of each of the records
  unfoldable pub OfRecords : List Record → Type 0
  OfRecords [] = Unit {0}
  OfRecords (r ∷ rs) = P (head_of r) × OfRecords rs

  pub each_records : (rs : List Record) → OfRecords rs → EachHead P (build rs)
  unfolding EachHead OfRecords build
  each_records [] f = tt
  each_records (r ∷ rs) f =
      let e = each_records rs f.1 in
      (f.0, each_take r.count _ e, each_drop r.count _ e)

  -- P holds of the record at each place of t
  abbrev pub Everywhere : List ℕ → Type 0
  Everywhere t = (i : ℕ) → P (head_of (record_at (drop i t)))

  later_places : (t : List ℕ) → Everywhere t → (n : ℕ) → Everywhere (drop n t)
  later_places t f n i = rw (drop-drop i n t) (f (n + i))

  each_build : (n : ℕ) (t : List ℕ) → Everywhere t → EachHead P (build (records_n n t))
  unfolding EachHead build records_n
  each_build zero t f = tt
  each_build (suc n) t f =
      let e = each_build n (drop record_size t) (later_places t f record_size) in
      (f 0, each_take (record_at t).count _ e, each_drop (record_at t).count _ e)

  pub each_row : (n : ℕ) (t : List ℕ) → Everywhere t → EachHead P (row n t)
  unfolding decode records
  each_row n t f = each_take n _ (each_build (length t / record_size) t f)

  pub each_tree : {t : List ℕ} → Row 1 t → Everywhere t → EachHead P (single (tree t))
  unfolding EachHead
  each_tree {t} w f = rw (tree_is w) (f 0, each_row (record_at t).count (items_part t) (later_places t f record_size), tt)

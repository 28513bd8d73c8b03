-- What `tidy_tree` leaves where it calls nothing: a tree without items, or one that is copied as it is. Assumes nothing.
use mathlib.Core.Path.{◌≡◌, refl, ap, sym, ◌∙◌}
use mathlib.Core.Bool.{Bool, true, false, true≢false, false≢true}
use mathlib.Core.List.{List}
use Prim.Native.Nat.{ℕ, suc, ◌+◌, ◌≤◌}
use native.Mathlib.Omega.{arith}
use mir.Syntax.{w64}
use mir.Val.{Fits}
use lib.ListN.{length}
use Rattle.particle.specs.declared.Record.{Record}
use Rattle.particle.specs.Record.{record_size, record_at, record_bytes}
use Rattle.particle.specs.Tree.{Head, element, wildcard, sequence, choice, all, Items, none, item, Particle, single, take_i, count_i, size_i, head_of, tree}
use Rattle.particle.specs.Rows.{row, items_part}
use Rattle.particle.specs.Encode.{record_of}
use Rattle.particle.specs.Write.{overwrite}
use Rattle.particle.proofs.Laws.{tree_is, row_one, run_is}
use Rattle.particle.proofs.EncodeParts.{first_faithful}
use Rattle.tidying.specs.declared.Written.{Written}
use Rattle.tidying.specs.Tidy.{closed, settle, tidy_items, tidy, is_tidied}
use Rattle.tidying.specs.Laid.{tidied, Room, Writes}
use Rattle.tidying.proofs.LaidTrees.{laid_none, laid_write}

-- a sequence or choice is closed over its tidied items, any other tree is left as it is
tidy_group : (x : Particle) → is_tidied x.head ≡ true → tidy x ≡ closed x.head (tidy_items x.head x.items)
unfolding tidy
tidy_group x e = go x.head x.items (tidy_items x.head x.items) e
  where
    go : (h : Head) (k t : Items) → is_tidied h ≡ true → settle h k t ≡ closed h t
    go (element l p) k t e = absurd (false≢true e)
    go (wildcard l p) k t e = absurd (false≢true e)
    go (sequence p) k t e = refl
    go (choice p) k t e = refl
    go (all p) k t e = absurd (false≢true e)

tidy_other : (x : Particle) → is_tidied x.head ≡ false → tidy x ≡ x
unfolding tidy
tidy_other x e = go x.head x.items (tidy_items x.head x.items) e
  where
    go : (h : Head) (k t : Items) → is_tidied h ≡ false → settle h k t ≡ record { head = h; items = k }
    go (element l p) k t e = refl
    go (wildcard l p) k t e = refl
    go (sequence p) k t e = absurd (true≢false e)
    go (choice p) k t e = absurd (true≢false e)
    go (all p) k t e = refl

-- a tree without items is tidy
tidy_bare : (h : Head) → tidy (record { head = h; items = none }) ≡ record { head = h; items = none }
unfolding tidy tidy_items
tidy_bare (element l p) = refl
tidy_bare (wildcard l p) = refl
tidy_bare (sequence p) = refl
tidy_bare (choice p) = refl
tidy_bare (all p) = refl

module _ {t out : List ℕ} {at : ℕ} (q : Room t 1 out at) {g : Record} (e : g ≡ record_at t) where
  pub tree_parts : tree t ≡ record { head = head_of g; items = row g.count (items_part t) }
  tree_parts = rw e (tree_is q.trees)

  pub tree_size : size_i (row 1 t) ≡ suc (size_i (row g.count (items_part t)))
  unfolding size_i
  tree_size = rw (row_one q.trees, tree_parts) (omega arith)

  pub record_fits : at + record_size ≤ length out
  record_fits = omega (arith, q.room, tree_size)

  pub record_end_fits : Fits w64 (at + record_size)
  record_end_fits = omega (arith, record_fits, q.small)

  pub record_is : record_of (head_of g) g.count ≡ g
  record_is = rw e (first_faithful q.trees q.faithful)

  -- the record alone
  pub bare : {after : List ℕ} → g.count ≡ 0 → after ≡ overwrite at (record_bytes g) out → Writes t out after at (tidied t) (record { read = record_size; end = at + record_size })
  unfolding take_i count_i size_i
  bare {after} z w =
      let p : tree t ≡ record { head = head_of g; items = none } = tree_parts ∙ rw z in
      let x : tidied t ≡ item (head_of g) none none = ap (λ (y : Particle). single (tidy y)) p ∙ ap single (tidy_bare (head_of g)) in
      let c : g ≡ record_of (head_of g) 0 = sym record_is ∙ ap (record_of (head_of g)) z in
      record {
        read = sym (run_is t ∙ rw (row_one q.trees, p) (omega arith));
        laid = rw x (laid_write at record_fits (laid_none out (at + record_size)) (head_of g) (w ∙ ap (λ (r : Record). overwrite at (record_bytes r) out) c));
      }

  -- the tree as it is
  pub unaltered : {after : List ℕ} {r : Written} {b : Bool} → b ≡ is_tidied (head_of g) → b ≡ false → Writes t out after at (row 1 t) r → Writes t out after at (tidied t) r
  unaltered n n' a =
      let h : is_tidied (tree t).head ≡ false = ap (λ (x : Particle). is_tidied x.head) tree_parts ∙ (sym n ∙ n') in
      let x : row 1 t ≡ tidied t = row_one q.trees ∙ ap single (sym (tidy_other (tree t) h)) in
      record { read = a.read; laid = rw x at a.laid }

  -- a group closed over its tidied items
  pub tidied_group : is_tidied (head_of g) ≡ true → tidied t ≡ single (closed (head_of g) (tidy_items (head_of g) (row g.count (items_part t))))
  tidied_group y = ap (λ (x : Particle). single (tidy x)) tree_parts ∙ ap single (tidy_group _ y)

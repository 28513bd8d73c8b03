-- The bytes of an item are the encoding of that item. Assumes nothing.
use mathlib.Core.Path.{◌≡◌, refl, ap, sym, subst, ◌∙◌}
use mathlib.Core.List.{List, [], ◌∷◌, ◌++◌, append_assoc}
use Prim.Native.Nat.{ℕ, zero, suc, ◌*◌, ◌≤◌, ◌<◌}
use native.Mathlib.Numerals.{add-one}
use native.Mathlib.Omega.{arith}
use lib.ListN.{length, take, drop, length-append}
use lib.Seq.{take_at}
use Rattle.particle.specs.declared.Record.{Record}
use Rattle.particle.specs.Record.{record_size, record_at, record_bytes}
use Rattle.particle.specs.Tree.{Items, none, item, Particle, take_i, drop_i, size_i, records, decode, tree}
use Rattle.particle.specs.Rows.{Row, row, run_size, items_part, item_start, item_run}
use Rattle.particle.specs.Encode.{flat, joined, encode, Bytes, Faithful}
use Rattle.particle.proofs.Records.{records_drop}
use Rattle.particle.proofs.Laws.{tree_is}
use Rattle.particle.proofs.ItemWalk.{Walk, begin, run_passed}
use Rattle.particle.proofs.RoundTrip.{encode_decode, flat_split, bytes_drop}

pub joined_append : (a b : List Record) → joined (a ++ b) ≡ joined a ++ joined b
unfolding joined
joined_append [] b = refl
joined_append (r ∷ a) b = ap (λ (x : List ℕ). record_bytes r ++ x) (joined_append a b) ∙ sym (append_assoc (record_bytes r) (joined a) (joined b))

length_joined : (rs : List Record) → length (joined rs) ≡ record_size * length rs
unfolding joined
length_joined [] = refl
length_joined (r ∷ rs) = omega (arith, length_joined rs)

length_flat : (x : Items) → length (flat x) ≡ size_i x
unfolding flat size_i
length_flat none = refl
length_flat (item h k r) = omega (arith, length-append (flat k) (flat r), length_flat k, length_flat r)

-- an encoding has a record's length for each record
pub length_encode : (x : Items) → length (encode x) ≡ record_size * size_i x
unfolding encode
length_encode x = length_joined (flat x) ∙ ap (λ (n : ℕ). record_size * n) (length_flat x)

-- the first n trees' bytes, and the bytes after them
pub encode_split : (n : ℕ) (x : Items) → encode x ≡ encode (take_i n x) ++ encode (drop_i n x)
unfolding encode
encode_split n x = ap joined (sym (flat_split n x)) ∙ joined_append (flat (take_i n x)) (flat (drop_i n x))

pub faithful_drop : (k : ℕ) (rs : List Record) → Faithful rs → Faithful (drop k rs)
unfolding Faithful
faithful_drop zero rs f = f
faithful_drop (suc k) [] f = f
faithful_drop (suc k) (r ∷ rs) f = faithful_drop k rs f.1

drop_take : (k n : ℕ) (x : Items) → k < n → take_i 1 (drop_i k (take_i n x)) ≡ take_i 1 (drop_i k x)
unfolding take_i drop_i
drop_take k zero x h = absurd (omega arith)
drop_take zero (suc n) none h = refl
drop_take zero (suc n) (item h k r) l = refl
drop_take (suc k) (suc n) none h = refl
drop_take (suc k) (suc n) (item h i r) l = drop_take k n r (omega arith)

-- the first tree's run is its encoding
pub run_encodes : {n : ℕ} (s : List ℕ) → Bytes s → Row n s → Faithful (records s) → take (run_size s) s ≡ encode (row 1 s)
unfolding run_size
run_encodes s b w f =
    let e : s ≡ encode (row 1 s) ++ encode (drop_i 1 (decode s)) = sym (encode_decode s b w.even w.complete f) ∙ encode_split 1 (decode s) in
    ap (λ (x : List ℕ). take (run_size s) x) e ∙ take_at (encode (row 1 s)) (encode (drop_i 1 (decode s))) (run_size s) (length_encode (row 1 s))

-- a walk stands where its item starts
placed : {t : List ℕ} {k at i : ℕ} → Walk t k at i → Walk t k (item_start i t) i
placed {t} {k} {at} {i} g = subst (λ (a : ℕ). Walk t k a i) g.start g

walk_to : {t : List ℕ} {k : ℕ} → Row 1 t → k < (record_at t).count → (i : ℕ) → i ≤ k → Walk t k (item_start i t) i
walk_to w h zero l = placed (begin w h)
walk_to {t} {k} w h (suc i) l = subst (λ (j : ℕ). Walk t k (item_start j t) j) (add-one i) (placed (run_passed (walk_to w h i (omega arith)) l refl))

-- The k-th item's bytes are the encoding of the root's k-th item.
pub item_encodes : (t : List ℕ) (k : ℕ) → Bytes t → Row 1 t → Faithful (records t) → k < (record_at t).count → item_run k t ≡ encode (take_i 1 (drop_i k (tree t).items))
unfolding item_run item_start
item_encodes t k b w f h =
    let at = item_start k t in
    let g = walk_to w h k (omega arith) in
    let m : at ≡ record_size * suc (size_i (row k (items_part t))) = omega arith in
    let f' : Faithful (records (drop at t)) = rw (m, records_drop (suc (size_i (row k (items_part t)))) t) (faithful_drop (suc (size_i (row k (items_part t)))) (records t) f) in
    let items : (tree t).items ≡ row (record_at t).count (items_part t) = ap (λ (p : Particle). p.items) (tree_is w) in
    run_encodes (drop at t) (bytes_drop at t b) g.left f'
    ∙ ap encode (ap (take_i 1) g.trees ∙ (sym (drop_take k (record_at t).count (decode (items_part t)) h) ∙ ap (λ (x : Items). take_i 1 (drop_i k x)) (sym items)))

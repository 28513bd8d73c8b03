-- Every byte string is a chain of levels, or is refused as one: the layout's test passes the chains of 1 to `max_levels` levels and nothing else. Assumes nothing.
use mathlib.Core.Bool.{true}
use mathlib.Core.List.{List, [], ◌∷◌, ◌++◌, map, flatten}
use mathlib.Core.Logic.{◌↔◌}
use mathlib.Core.Option.{Option, none, some}
use mathlib.Core.Path.{◌≡◌, refl, ap, sym, ◌∙◌}
use Prim.Native.Nat.{ℕ, zero, suc, ◌+◌, ◌*◌, ◌/◌, ◌^◌, ◌≤◌, ◌<◌}
use native.Mathlib.Omega.{arith}
use lib.ListN.{length, take, drop, length-append, length-take, length-drop, length-map, take-append-drop}
use lib.Seq.{take_at, drop_at}
use Rattle.particle.specs.Record.{record_size}
use Rattle.particle.specs.Encode.{Bytes}
use Rattle.particle.proofs.RoundTrip.{halves, half_bytes_lem, byte_at, bytes_drop}
use Rattle.particle.proofs.Widths.{bytes_append}
use Rattle.sheet.specs.Fits.{Each}
use Rattle.chain.specs.Layout.{level_count, count_size, counts_in, counts_bytes, count_at, counts, sum, trees_part, level_in, levels_in, levels}
use Rattle.chain.specs.Effective.{present}
use Rattle.chain.specs.Answer.{chain_ok}
use Rattle.chain.specs.Fits.{records_of, chain_bytes, LevelFits, ChainFits}
use Rattle.chain.proofs.Levels.{IsChain, chain_ok_lem, is_chain, trees_length, chain_trees}

-- From levels to bytes -----------------------------------------------------------------------

length_counts : (ns : List ℕ) → length (counts_bytes ns) ≡ count_size * length ns
unfolding counts_bytes
length_counts [] = refl
length_counts (n ∷ ns) = omega (arith, length_counts ns)

counts_back : (ns rest : List ℕ) → counts_in (length ns) (counts_bytes ns ++ rest) ≡ ns
unfolding counts_bytes counts_in
counts_back [] rest = refl
counts_back (n ∷ ns) rest = rw (halves n, counts_back ns rest)

length_present : (ls : List (Option (List ℕ))) → Each LevelFits ls → length (flatten (present ls)) ≡ record_size * sum (map records_of ls)
unfolding Each present flatten sum
length_present [] f = refl
length_present (none ∷ ls) f = omega (arith, length_present ls f.1)
length_present (some t ∷ ls) f = omega (arith, length-append t (flatten (present ls)), length_present ls f.1, f.0.0)

level_back : (t rest : List ℕ) (n : ℕ) → length t ≡ record_size * n → 1 ≤ n → level_in n (t ++ rest) ≡ some t
level_back t rest zero e l = absurd (omega arith)
level_back t rest (suc n) e l = ap {B = Option (List ℕ)} some (take_at t rest (record_size * suc n) e)

levels_in_back : (ls : List (Option (List ℕ))) → Each LevelFits ls → levels_in (map records_of ls) (flatten (present ls)) ≡ ls
unfolding Each present flatten levels_in
levels_in_back [] f = refl
levels_in_back (none ∷ ls) f = ap (λ (ks : List (Option (List ℕ))). none ∷ ks) (levels_in_back ls f.1)
levels_in_back (some t ∷ ls) f =
    let n : ℕ = length t / record_size in
    let e : length t ≡ record_size * n = omega (arith, f.0.0) in
    let rest = flatten (present ls) in
    rw (level_back t rest n e f.0.1, drop_at t rest (record_size * n) e, levels_in_back ls f.1)

module _ (ls : List (Option (List ℕ))) where
  trees_back : trees_part (chain_bytes ls) ≡ flatten (present ls)
  unfolding chain_bytes
  trees_back =
      let ns = map records_of ls in
      let e : count_at (length ls) ≡ suc (length (counts_bytes ns)) = omega (arith, length_counts ns, length-map ls records_of) in
      rw e (drop_at (counts_bytes ns) (flatten (present ls)) (length (counts_bytes ns)) refl)

  all_counts : counts (chain_bytes ls) ≡ map records_of ls
  unfolding chain_bytes
  all_counts = rw (← length-map ls records_of) (counts_back (map records_of ls) (flatten (present ls)))

  -- the levels are found again
  pub levels_back : ChainFits ls → levels (chain_bytes ls) ≡ ls
  unfolding levels
  levels_back f = rw (all_counts, trees_back) (levels_in_back ls f.each)

  fits_chain : ChainFits ls → IsChain (chain_bytes ls)
  unfolding chain_bytes
  fits_chain f =
      let ns = map records_of ls in
      let l = length-append (counts_bytes ns) (flatten (present ls)) in
      record { some = f.some; few = f.few; whole = omega (arith, l, length_counts ns, length-map ls records_of, length_present ls f.each, ap sum all_counts) }

-- the chain of levels that are bytes is bytes
counts_bytes_lem : (ls : List (Option (List ℕ))) → Each LevelFits ls → Bytes (counts_bytes (map records_of ls))
unfolding Each Bytes counts_bytes
counts_bytes_lem [] f = tt
counts_bytes_lem (none ∷ ls) f = (omega arith, (omega arith, counts_bytes_lem ls f.1))
counts_bytes_lem (some t ∷ ls) f = (omega arith, (omega (arith, f.0.2), counts_bytes_lem ls f.1))

flatten_bytes : (ts : List (List ℕ)) → Each Bytes ts → Bytes (flatten ts)
unfolding Each Bytes flatten
flatten_bytes [] b = tt
flatten_bytes (t ∷ ts) b = bytes_append t (flatten ts) b.0 (flatten_bytes ts b.1)

pub fits_bytes : (ls : List (Option (List ℕ))) → ChainFits ls → Each Bytes (present ls) → Bytes (chain_bytes ls)
unfolding Bytes chain_bytes
fits_bytes ls f b = (omega (arith, f.few), bytes_append (counts_bytes (map records_of ls)) (flatten (present ls)) (counts_bytes_lem ls f.each) (flatten_bytes (present ls) b))

-- From bytes to levels -----------------------------------------------------------------------

length_counts_in : (n : ℕ) (s : List ℕ) → length (counts_in n s) ≡ n
unfolding counts_in
length_counts_in zero s = refl
length_counts_in (suc n) s = ap suc (length_counts_in n (drop count_size s))

length_levels_in : (ns s : List ℕ) → length (levels_in ns s) ≡ length ns
unfolding levels_in
length_levels_in [] s = refl
length_levels_in (n ∷ ns) s = ap suc (length_levels_in ns (drop (record_size * n) s))

counts_read : (n : ℕ) (s : List ℕ) → Bytes s → count_size * n ≤ length s → counts_bytes (counts_in n s) ≡ take (count_size * n) s
unfolding counts_bytes counts_in Bytes
counts_read zero s b l = refl
counts_read (suc n) [] b l = absurd (omega arith)
counts_read (suc n) (x ∷ []) b l = absurd (omega arith)
counts_read (suc n) (x ∷ y ∷ s) b l =
    let e : count_size * suc n ≡ suc (suc (count_size * n)) = omega arith in
    ap (λ (u : List ℕ). u ++ counts_bytes (counts_in n s)) (half_bytes_lem x y b.0) ∙ rw e (ap (λ (u : List ℕ). x ∷ y ∷ u) (counts_read n s b.1.1 (omega arith)))

counts_low : (n : ℕ) (s : List ℕ) → Bytes s → Each (λ k. k < 2 ^ 16) (counts_in n s)
unfolding counts_in Each
counts_low zero s b = tt
counts_low (suc n) s b = (omega (arith, byte_at s b 0, byte_at s b 1), counts_low n (drop count_size s) (bytes_drop count_size s b))

level_count_lem : (n m : ℕ) (s : List ℕ) → length s ≡ record_size * (n + m) → records_of (level_in n s) ≡ n
level_count_lem zero m s e = refl
level_count_lem (suc n) m s e = omega (arith, length-take (record_size * suc n) s)

level_fits : (n m : ℕ) (s : List ℕ) → n < 2 ^ 16 → length s ≡ record_size * (n + m) → LevelFits (level_in n s)
level_fits zero m s l e = tt
level_fits (suc n) m s l e = let z = length-take (record_size * suc n) s in (omega arith, omega arith, omega arith)

levels_in_fit : (ns s : List ℕ) → Each (λ k. k < 2 ^ 16) ns → length s ≡ record_size * sum ns → (map records_of (levels_in ns s) ≡ ns) × Each LevelFits (levels_in ns s)
unfolding levels_in sum Each
levels_in_fit [] s l e = (refl, tt)
levels_in_fit (n ∷ ns) s l e =
    let r = levels_in_fit ns (drop (record_size * n) s) l.1 (omega (arith, length-drop (record_size * n) s)) in
    (rw (level_count_lem n (sum ns) s e, r.0), (level_fits n (sum ns) s l.0 e, r.1))

module _ (c : List ℕ) (b : Bytes c) (k : chain_ok c ≡ true) where
  read : (map records_of (levels c) ≡ counts c) × Each LevelFits (levels c)
  unfolding levels
  read = levels_in_fit (counts c) (trees_part c) (counts_low (level_count c) (drop (count_at 0) c) (bytes_drop (count_at 0) c b)) (trees_length c k)

  length_levels : length (levels c) ≡ level_count c
  unfolding levels
  length_levels = length_levels_in (counts c) (trees_part c) ∙ length_counts_in (level_count c) (drop (count_at 0) c)

  chain_fits : ChainFits (levels c)
  chain_fits = record { some = rw length_levels (chain_ok_lem c k).some; few = rw length_levels (chain_ok_lem c k).few; each = read.1 }

-- the chain of the levels is the bytes
bytes_back : (c : List ℕ) → Bytes c → chain_ok c ≡ true → c ≡ chain_bytes (levels c)
unfolding Bytes chain_bytes
bytes_back [] b k = absurd (omega (arith, (chain_ok_lem [] k).some))
bytes_back (n ∷ s) b k =
    let c : List ℕ = n ∷ s in
    let e : count_at n ≡ suc (count_size * n) = omega arith in
    let l : count_size * n ≤ length s = omega (arith, (chain_ok_lem c k).whole) in
    rw (length_levels c b k, (read c b k).0, counts_read n s b.1 l, chain_trees c k, e) (ap (λ (u : List ℕ). n ∷ u) (sym (take-append-drop (count_size * n) s)))

pub chain_iff : (c : List ℕ) → Bytes c → (chain_ok c ≡ true) ↔ ((ls : List (Option (List ℕ))) × (c ≡ chain_bytes ls) × ChainFits ls)
chain_iff c b = (
  λ k. (levels c, bytes_back c b k, chain_fits c b k),
  λ (ls, e, f). ap chain_ok e ∙ is_chain (chain_bytes ls) (fits_chain ls f),
)

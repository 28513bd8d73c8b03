-- The levels of a chain: how many are present, what their bytes are one after another, and what their acceptance says of each. Assumes nothing.
use Rattle.std.specs.Prelude.{Ok}
use mathlib.Core.Bool.{true, ◌&&◌}
use mathlib.Core.List.{List, [], ◌∷◌, map, flatten}
use mathlib.Core.Option.{Option, none, some}
use mathlib.Core.Path.{◌≡◌, refl, ap}
use Prim.Native.Nat.{ℕ, zero, suc, ◌*◌, ◌≤◌}
use native.Mathlib.Omega.{arith}
use lib.Dec.{eqb, leb}
use lib.ListN.{length, drop, take-append-drop, length-drop}
use borrow.Author.Tests.{leb-true, eqb-true, le-leb, eq-eqb}
use Rattle.particle.specs.Record.{record_size}
use Rattle.particle.specs.Tree.{Particle, tree}
use Rattle.particle.specs.Encode.{Bytes}
use Rattle.particle.proofs.RoundTrip.{bytes_drop, bytes_take}
use Rattle.particle.proofs.Tests.{and-true, both_true}
use Rattle.intake.specs.Scan.{alone}
use Rattle.intake.proofs.AcceptedFits.{or_else_lem}
use Rattle.entries.specs.Answer.{refusal_alone}
use Rattle.sheet.specs.Fits.{Each}
use Rattle.chain.specs.Layout.{max_levels, level_count, count_at, counts, sum, whole_length, trees_part, levels_in, levels}
use Rattle.chain.specs.Effective.{present}
use Rattle.chain.specs.Answer.{chain_ok, levels_refusal, trees_of}
use Rattle.chain.specs.Nested.{present_in}
use Rattle.chain.specs.Facts.{AcceptedIn}

-- By their counts --------------------------------------------------------------------

pub count_present : (ns s : List ℕ) → length (present (levels_in ns s)) ≡ present_in ns
unfolding levels_in present present_in
count_present [] s = refl
count_present (zero ∷ ns) s = count_present ns s
count_present (suc n ∷ ns) s = ap suc (count_present ns (drop (record_size * suc n) s))

-- the trees that are present are all the bytes
flatten_levels : (ns s : List ℕ) → length s ≡ record_size * sum ns → flatten (present (levels_in ns s)) ≡ s
unfolding levels_in present flatten sum
flatten_levels [] [] e = refl
flatten_levels [] (b ∷ s) e = absurd (omega arith)
flatten_levels (zero ∷ ns) s e = flatten_levels ns s (omega arith)
flatten_levels (suc n ∷ ns) s e =
    let k = record_size * suc n in
    rw (flatten_levels ns (drop k s) (omega (arith, length-drop k s))) (take-append-drop k s)

bytes_levels : (ns s : List ℕ) → Bytes s → Each Bytes (present (levels_in ns s))
unfolding levels_in present Each
bytes_levels [] s b = tt
bytes_levels (zero ∷ ns) s b = bytes_levels ns s b
bytes_levels (suc n ∷ ns) s b =
    let k = record_size * suc n in
    (bytes_take k s b, bytes_levels ns (drop k s) (bytes_drop k s b))

-- By what they hold ------------------------------------------------------------------

pub trees_present : (ls : List (Option (List ℕ))) → present (trees_of ls) ≡ map tree (present ls)
unfolding trees_of present
trees_present [] = refl
trees_present (none ∷ ls) = trees_present ls
trees_present (some t ∷ ls) = ap (λ (xs : List Particle). tree t ∷ xs) (trees_present ls)

pub accepted_levels : (ls : List (Option (List ℕ))) → levels_refusal ls ≡ Ok tt → Each (AcceptedIn alone) (present ls)
unfolding levels_refusal present Each
accepted_levels [] e = tt
accepted_levels (none ∷ ls) e = accepted_levels ls e
accepted_levels (some t ∷ ls) e = let o = or_else_lem (refusal_alone t) (levels_refusal ls) e in (o.0, accepted_levels ls o.1)

pub absent_accepted : (ls : List (Option (List ℕ))) → present ls ≡ [] → levels_refusal ls ≡ Ok tt
unfolding levels_refusal present
absent_accepted [] e = refl
absent_accepted (none ∷ ls) e = absent_accepted ls e
absent_accepted (some t ∷ ls) e = absurd (omega (arith, ap length e))

-- Of a chain -------------------------------------------------------------------------

-- what the layout's test says
pub record IsChain (c : List ℕ) : Type 0 where
  pub some : 1 ≤ level_count c
  pub few : level_count c ≤ max_levels
  pub whole : length c ≡ whole_length c

pub chain_ok_lem : (c : List ℕ) → chain_ok c ≡ true → IsChain c
unfolding chain_ok
chain_ok_lem c e =
    let p = and-true (leb 1 (level_count c)) (leb (level_count c) max_levels && eqb (length c) (whole_length c)) e in
    let q = and-true (leb (level_count c) max_levels) (eqb (length c) (whole_length c)) p.1 in
    record { some = leb-true 1 (level_count c) p.0; few = leb-true (level_count c) max_levels q.0; whole = eqb-true (length c) (whole_length c) q.1 }

pub is_chain : (c : List ℕ) → IsChain c → chain_ok c ≡ true
unfolding chain_ok
is_chain c i = both_true (le-leb 1 (level_count c) i.some) (both_true (le-leb (level_count c) max_levels i.few) (eq-eqb (length c) (whole_length c) i.whole))

pub trees_length : (c : List ℕ) → chain_ok c ≡ true → length (trees_part c) ≡ record_size * sum (counts c)
trees_length c e =
    let w = (chain_ok_lem c e).whole in
    omega (arith, length-drop (count_at (level_count c)) c)

pub chain_trees : (c : List ℕ) → chain_ok c ≡ true → flatten (present (levels c)) ≡ trees_part c
unfolding levels
chain_trees c e = flatten_levels (counts c) (trees_part c) (trees_length c e)

pub chain_bytes_lem : (c : List ℕ) → Bytes c → Each Bytes (present (levels c))
unfolding levels
chain_bytes_lem c b = bytes_levels (counts c) (trees_part c) (bytes_drop (count_at (level_count c)) c b)

pub chain_count : (c : List ℕ) → length (present (levels c)) ≡ present_in (counts c)
unfolding levels
chain_count c = count_present (counts c) (trees_part c)

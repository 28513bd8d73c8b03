-- Small chains, by computation: what they join to, what is written, and what is turned away. Assumes nothing.
use mathlib.Core.List.{List, [], ◌∷◌, ◌++◌, flatten}
use mathlib.Core.Option.{Option, none, some}
use mathlib.Core.Path.{◌≡◌, refl}
use Prim.Native.Nat.{ℕ, ◌+◌, ◌*◌, ◌-◌}
use lib.ListN.{replicate}
use Rattle.particle.specs.Occurs.{exactly}
use Rattle.particle.specs.Record.{record_size}
use Rattle.particle.specs.Tree.{element, sequence, none as no_items, Particle, single, ◌then◌, take_i, drop_i, count_i, size_i, build, records_n, records, decode, tree}
use Rattle.particle.specs.Encode.{flat, joined, encode}
use Rattle.tidying.specs.Depth.{depth_of}
use Rattle.intake.specs.declared.Refusal.TheVariants.{Buffer, Chain, Limit}
use Rattle.intake.specs.Limits.{max_depth}
use Rattle.intake.specs.Number.{refusal_number}
use Rattle.intake.specs.Scan.{waiting, scan, refusal_in}
use Rattle.entries.specs.Answer.{gives, refused}
use Rattle.chain.specs.Layout.{max_levels, counts_in, counts_bytes, sum, levels_in, levels}
use Rattle.chain.specs.Effective.{extend_by, effective_particle, present}
use Rattle.chain.specs.Answer.{chain_ok, levels_refusal, trees_of, joined_tree, chain_answer, chain_buffer}
use Rattle.chain.specs.Fits.{chain_bytes}

-- the elements a, b and c, each once, and S[x,y]
abbrev pub leaf : ℕ → Particle
leaf l = record { head = element l (exactly 1); items = no_items }

abbrev pub a : Particle
a = leaf 0

abbrev b : Particle
b = leaf 1

abbrev c : Particle
c = leaf 2

abbrev S : Particle → Particle → Particle
S x y = record { head = sequence (exactly 1); items = single x then single y }

-- a level that is present, and one that is absent
abbrev pub has : Particle → Option (List ℕ)
has x = some (encode (single x))

abbrev pub absent : Option (List ℕ)
absent = none

-- a, an absent level and b are joined to S[a,b]: three records in a buffer that is just long enough, and a later byte keeps its value
pub joined_pair :
    (joined_tree (chain_bytes (has a ∷ absent ∷ has b ∷ [])) ≡ some (S a b))
    × (chain_answer (chain_bytes (has a ∷ absent ∷ has b ∷ [])) (replicate (record_size * 3) 7) ≡ gives (some 3))
    × (chain_buffer (chain_bytes (has a ∷ absent ∷ has b ∷ [])) (replicate (record_size * 3 + 1) 7) ≡ encode (single (S a b)) ++ (7 ∷ []))
unfolding ◌then◌ chain_bytes counts_bytes present flatten encode joined flat levels levels_in counts_in sum trees_of effective_particle extend_by chain_answer chain_buffer chain_ok levels_refusal refusal_in scan waiting tree decode records records_n build take_i drop_i count_i size_i depth_of
joined_pair = (refl, refl, refl)

-- a, b and c nest to the left
pub joined_left : joined_tree (chain_bytes (has a ∷ has b ∷ has c ∷ [])) ≡ some (S (S a b) c)
unfolding ◌then◌ chain_bytes counts_bytes present flatten encode joined flat levels levels_in counts_in trees_of effective_particle extend_by tree decode records records_n build take_i drop_i count_i
joined_left = refl

-- where every level is absent there is no content, whatever the buffer
pub all_absent : chain_answer (2 ∷ 0 ∷ 0 ∷ 0 ∷ 0 ∷ []) [] ≡ gives none
unfolding levels levels_in counts_in sum trees_of effective_particle extend_by chain_answer chain_ok levels_refusal
all_absent = refl

-- no byte, no level, one level too many, one byte too many
pub no_chains :
    (chain_answer [] [] ≡ refused (refusal_number Chain))
    × (chain_answer (0 ∷ []) [] ≡ refused (refusal_number Chain))
    × (chain_answer (chain_bytes (replicate (max_levels + 1) absent)) [] ≡ refused (refusal_number Chain))
    × (chain_answer (chain_bytes (has a ∷ []) ++ (0 ∷ [])) [] ≡ refused (refusal_number Chain))
unfolding chain_bytes counts_bytes present flatten encode joined flat count_i counts_in sum chain_answer chain_ok
no_chains = (refl, refl, refl, refl)

-- as many leaves as the tree may be deep are joined, and one more is too deep; one byte too few is too short
pub joined_limits :
    (chain_answer (chain_bytes (replicate max_depth (has a))) (replicate (record_size * (2 * max_depth - 1)) 7) ≡ gives (some (2 * max_depth - 1)))
    × (chain_answer (chain_bytes (replicate (max_depth + 1) (has a))) [] ≡ refused (refusal_number Limit))
    × (chain_answer (chain_bytes (has a ∷ [])) (replicate (record_size - 1) 7) ≡ refused (refusal_number Buffer))
unfolding ◌then◌ chain_bytes counts_bytes present flatten encode joined flat levels levels_in counts_in sum trees_of effective_particle extend_by chain_answer chain_ok levels_refusal refusal_in scan waiting tree decode records records_n build take_i drop_i count_i size_i depth_of
joined_limits = (refl, refl, refl)

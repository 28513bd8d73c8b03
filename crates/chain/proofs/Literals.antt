-- The literals of document 02 §1, each as the document prints it: 17 levels are a chain and 18 are refused 15, and a joined tree over a limit is refused 16. Assumes nothing.
use mathlib.Core.List.{[], flatten}
use mathlib.Core.Option.{none}
use mathlib.Core.Path.{◌≡◌, refl}
use Prim.Native.Nat.{◌+◌}
use lib.ListN.{replicate}
use Rattle.particle.specs.Tree.{◌then◌, take_i, drop_i, count_i, size_i, build, records_n, records, decode, tree}
use Rattle.particle.specs.Encode.{flat, joined, encode}
use Rattle.tidying.specs.Depth.{depth_of}
use Rattle.intake.specs.Limits.{max_depth}
use Rattle.intake.specs.Scan.{waiting, scan, refusal_in}
use Rattle.entries.specs.Answer.{gives, refused}
use Rattle.chain.specs.Layout.{max_levels, counts_in, counts_bytes, sum, levels_in, levels}
use Rattle.chain.specs.Effective.{extend_by, effective_particle, present}
use Rattle.chain.specs.Answer.{chain_ok, levels_refusal, trees_of, chain_answer}
use Rattle.chain.specs.Fits.{chain_bytes}
use Rattle.chain.proofs.Examples.{a, has, absent}

pub levels_limit :
    (max_levels ≡ 17)
    × (chain_answer (chain_bytes (replicate 17 absent)) [] ≡ gives none)
    × (chain_answer (chain_bytes (replicate 18 absent)) [] ≡ refused 15)
    × (chain_answer (chain_bytes (replicate (max_depth + 1) (has a))) [] ≡ refused 16)
unfolding ◌then◌ chain_bytes counts_bytes present flatten encode joined flat levels levels_in counts_in sum trees_of effective_particle extend_by chain_answer chain_ok levels_refusal refusal_in scan waiting tree decode records records_n build take_i drop_i count_i size_i depth_of
levels_limit = (refl, refl, refl, refl)

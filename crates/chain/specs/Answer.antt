-- What joining a chain into a lent buffer answers, and what the buffer then holds. Assumes nothing: these are definitions.
use Rattle.std.specs.Prelude.{Bool, cond, ◌&&◌, ◌||◌, List, [], ◌∷◌, ℕ, ◌*◌, eqb, leb, ltb, length, Result, Ok, Err, Some, None}
use Rattle.std.specs.Prelude as rust
use Rattle.std.proofs.Math.Option.{Option, none, some}
use Rattle.particle.specs.Record.{record_size, max_records}
use Rattle.particle.specs.Tree.{Particle, single, size_i, tree}
use Rattle.particle.specs.Encode.{encode}
use Rattle.tidying.specs.Depth.{depth_of}
use Rattle.intake.specs.declared.Fault.{Fault}
use Rattle.intake.specs.declared.Refusal.{Refusal}
use Rattle.intake.specs.declared.Refusal.TheVariants.{Buffer, Derived, Chain, Limit}
use Rattle.intake.specs.Limits.{max_depth}
use Rattle.intake.specs.Number.{refusal_number}
use Rattle.intake.specs.Scan.{or_else}
use Rattle.entries.specs.Answer.{Answer, gives, refused, refusal_alone}
use Rattle.entries.specs.TidyAnswer.{starting_with}
use Rattle.chain.specs.Layout.{max_levels, level_count, whole_length, levels}
use Rattle.chain.specs.Effective.{effective_particle}

-- 15: a chain of 0 or over `max_levels` levels, or of a length unlike its counts
unfoldable pub chain_ok : List ℕ → Bool
chain_ok c = leb 1 (level_count c) && (leb (level_count c) max_levels && eqb (length c) (whole_length c))

-- 10 to 14: the first refusal of the trees that are present, each as a tree alone
unfoldable pub levels_refusal : List (Option (List ℕ)) → Result (Unit {0}) Fault
levels_refusal [] = Ok tt
levels_refusal (none ∷ later) = levels_refusal later
levels_refusal (some t ∷ later) = or_else (refusal_alone t) (levels_refusal later)

-- the trees of the levels
unfoldable pub trees_of : List (Option (List ℕ)) → List (Option Particle)
trees_of [] = []
trees_of (none ∷ later) = none ∷ trees_of later
trees_of (some t ∷ later) = some (tree t) ∷ trees_of later

-- the chain's levels joined
abbrev pub joined_tree : List ℕ → Option Particle
joined_tree c = effective_particle (trees_of (levels c))

-- 16: over `max_records` records or `max_depth`
abbrev pub over_limits : Particle → Bool
over_limits x = ltb max_records (size_i (single x)) || ltb max_depth (depth_of (single x))

-- 16, then 2 for a buffer shorter than the joined tree; else its record count. 'No content' asks nothing of the buffer
abbrev pub content_answer : Option Particle → (room : ℕ) → Answer (Option ℕ)
content_answer none room = gives none
content_answer (some x) room =
    cond (over_limits x) (refused (refusal_number Limit))
    (cond (ltb room (record_size * size_i (single x))) (refused (refusal_number Buffer))
    (gives (some (size_i (single x)))))

abbrev pub after_levels : Result (Unit {0}) Fault → Answer (Option ℕ) → Answer (Option ℕ)
after_levels (Err f) next = refused (refusal_number (Derived f))
after_levels (Ok _) next = next

-- 15, then 10 to 14, then 16, then 2; else the joined tree's record count, or none for 'no content'
unfoldable pub chain_answer : (c out : List ℕ) → Answer (Option ℕ)
chain_answer c out =
    cond (chain_ok c)
    (after_levels (levels_refusal (levels c)) (content_answer (joined_tree c) (length out)))
    (refused (refusal_number Chain))

-- the buffer after this answer: a refusal and 'no content' write nothing; else the joined tree stands at the start, every later byte as it was
abbrev pub buffer_after : Answer (Option ℕ) → Option Particle → List ℕ → List ℕ
buffer_after (refused n) content out = out
buffer_after (gives none) content out = out
buffer_after (gives (some n)) none out = out
buffer_after (gives (some n)) (some x) out = starting_with (encode (single x)) out

unfoldable pub chain_buffer : (c out : List ℕ) → List ℕ
chain_buffer c out = buffer_after (chain_answer c out) (joined_tree c) out

-- what each case of the entry's result stands for; its option is Rust's
abbrev pub joined_meaning : Result (rust.Option ℕ) Refusal → Answer (Option ℕ)
joined_meaning (Ok (Some n)) = gives (some n)
joined_meaning (Ok None) = gives none
joined_meaning (Err r) = refused (refusal_number r)

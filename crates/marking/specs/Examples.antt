-- Document 01's P examples over what the entries answer. Assumes nothing: these are definitions.
use Rattle.std.specs.Prelude.{List, [], ◌∷◌, ◌≡◌, ℕ}
use Rattle.particle.specs.Tree.{Particle, single, size_i, tree}
use Rattle.particle.specs.Encode.{encode}
use Rattle.totals.specs.Total.{total}
use Rattle.rules.specs.Examples.{Example, marked, totals, tidied}
use Rattle.entries.specs.Answer.{gives, refusal_alone, answer}
use Rattle.entries.specs.TidyAnswer.{starting_with, tidy_answer, tidy_buffer}
use Rattle.sheet.specs.declared.bodies.Leaf.{Leaf}
use Rattle.sheet.specs.Fits.{Paper, encode_sheet}
use Rattle.marking.specs.Answer.{mark_sheet}

-- the letters a, b, c and the wildcard w; equal letters ok, others 140
abbrev pub letter : (name : ℕ) → Leaf
letter name = record { kind = 0; process = 0; name = name }

abbrev pub any_letter : Leaf
any_letter = record { kind = 1; process = 0; name = 0 }

abbrev pub equal_ok : List ℕ
equal_ok =
    0 ∷ 140 ∷ 140 ∷ 140
    ∷ 140 ∷ 0 ∷ 140 ∷ 140
    ∷ 140 ∷ 140 ∷ 0 ∷ 140
    ∷ 140 ∷ 140 ∷ 140 ∷ 0
    ∷ []

-- the paper of d | b
abbrev pub letters_paper : (derived base : Particle) → Paper
letters_paper d b = record { leaves = letter 0 ∷ letter 1 ∷ letter 2 ∷ any_letter ∷ []; first = equal_ok; second = equal_ok; derived = d; base = b }

-- An example over what the entries answer: d | b as a sheet; a tree alone as its bytes, which are also the buffer lent to tidy it into.
abbrev pub Answered : Example → Type 0
Answered (marked d b m) = mark_sheet (encode_sheet (letters_paper d b)) ≡ gives m
Answered (totals x range) = answer (refusal_alone (encode (single x))) (total (tree (encode (single x)))) ≡ gives range
Answered (tidied x y) =
    (tidy_answer (encode (single x)) (encode (single x)) ≡ gives (size_i (single y)))
    × (tidy_buffer (encode (single x)) (encode (single x)) ≡ starting_with (encode (single y)) (encode (single x)))

abbrev pub AllAnswered : List Example → Type 0
AllAnswered [] = Unit {0}
AllAnswered (e ∷ es) = Answered e × AllAnswered es

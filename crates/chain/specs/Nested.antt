-- What the functions that join ask and leave: trees one after another, and the sequences that are nested about them. Assumes nothing: these are definitions.
use Rattle.std.specs.Prelude.{false, List, [], ◌∷◌, ◌++◌, ◌≡◌, ℕ, zero, suc, ◌+◌, ◌*◌, ◌≤◌, length, take, Result, Ok, Err}
use Rattle.std.proofs.Math.Option.{Option, some}
use Rattle.particle.specs.declared.Record.{Record}
use Rattle.particle.specs.Occurs.{exactly}
use Rattle.particle.specs.Record.{record_size, record_bytes}
use Rattle.particle.specs.Tree.{sequence, Particle, single}
use Rattle.particle.specs.Encode.{record_of, encode}
use Rattle.intake.specs.declared.Refusal.{Refusal}
use Rattle.intake.specs.Number.{refusal_number}
use Rattle.intake.specs.Scan.{alone}
use Rattle.intake.specs.Accepted.{TreeFits}
use Rattle.entries.specs.Answer.{Answer, gives, refused}
use Rattle.chain.specs.Answer.{over_limits, content_answer, buffer_after}

-- how many of the counts are not 0
unfoldable pub present_in : List ℕ → ℕ
present_in [] = 0
present_in (zero ∷ ns) = present_in ns
present_in (suc n ∷ ns) = suc (present_in ns)

-- the record of a (1,1) sequence of two
abbrev pub both_record : Record
both_record = record_of (sequence (exactly 1)) 2

-- n of them, and then the bytes t
unfoldable pub nested : ℕ → List ℕ → List ℕ
nested zero t = t
nested (suc n) t = record_bytes both_record ++ nested n t

-- up to `end`, out has n such records and then the bytes t
pub record Nests (n : ℕ) (t out : List ℕ) (end : ℕ) : Type 0 where
  pub size : end ≡ record_size * n + length t
  pub within : end ≤ length out
  pub holds : take end out ≡ nested n t

-- the tree x is t with n sequences nested about it, and it fits as a tree alone unless it breaks a limit
pub record Joins (n : ℕ) (t : List ℕ) (x : Particle) : Type 0 where
  pub bytes : encode (single x) ≡ nested n t
  pub fits : over_limits x ≡ false → TreeFits alone x

-- a joined tree's record count, or a refusal
abbrev pub counted : Result ℕ Refusal → Answer (Option ℕ)
counted (Ok n) = gives (some n)
counted (Err r) = refused (refusal_number r)

-- r is the answer to such a tree, and after is what the buffer then holds
pub record Joining (n : ℕ) (t before after : List ℕ) (r : Result ℕ Refusal) : Type 0 where
  pub answer : (x : Particle) → Joins n t x → counted r ≡ content_answer (some x) (length before)
  pub buffer : (x : Particle) → Joins n t x → after ≡ buffer_after (counted r) (some x) before

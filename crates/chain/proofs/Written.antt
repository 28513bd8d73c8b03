-- What is written is the joined tree: it is accepted alone, and it fits the leaves that the chain's trees fit. Assumes nothing.
use mathlib.Core.Bool.{false}
use mathlib.Core.List.{List, [], ◌∷◌}
use mathlib.Core.Option.{Option, some}
use mathlib.Core.Path.{◌≡◌, ap, sym, ◌∙◌}
use Prim.Native.Nat.{ℕ, ◌*◌}
use native.Mathlib.Omega.{arith}
use lib.ListN.{length, drop}
use lib.Seq.{take_at}
use Rattle.particle.specs.Record.{record_size}
use Rattle.particle.specs.Tree.{Particle, single, size_i, tree}
use Rattle.particle.specs.Encode.{encode, Bytes}
use Rattle.particle.proofs.ItemEncodes.{length_encode}
use Rattle.particle.proofs.Encoded.{encoded_tree}
use Rattle.intake.specs.Scan.{alone}
use Rattle.intake.proofs.AcceptedFits.{accepted_fits}
use Rattle.intake.proofs.FitsAccepted.{fits_accepted}
use Rattle.entries.specs.Answer.{Answer, gives, refused}
use Rattle.sheet.specs.Fits.{Each}
use Rattle.chain.specs.Layout.{levels}
use Rattle.chain.specs.Answer.{joined_tree, over_limits, chain_answer, chain_buffer}
use Rattle.chain.specs.Facts.{written_bytes, JoinedAccepted, AcceptedIn, JoinedFitsLeaves, JoinedLone}
use Rattle.chain.proofs.Extending.{join_all}
use Rattle.chain.proofs.Levels.{accepted_levels, chain_bytes_lem}
use Rattle.chain.proofs.Joined.{joined_is, tree_fits}
use Rattle.chain.proofs.Answered.{Sound, Reached, no_chain, bad_tree, no_content, too_large, too_short, joins, reached}

-- the joined tree x of n records was answered
pub record Given (c : List ℕ) (n : ℕ) (x : Particle) : Type 0 where
  pub sound : Sound c
  pub is : joined_tree c ≡ some x
  pub within : over_limits x ≡ false
  pub count : n ≡ size_i (single x)

pub not_given : {n : ℕ} {o : Option ℕ} → refused n ≡ gives o → ⊥
not_given e = cc

pub given : (c out : List ℕ) (n : ℕ) → chain_answer c out ≡ gives (some n) → (x : Particle) × Given c n x
given c out n = go (reached c out)
  where
    go : {a : Answer (Option ℕ)} → Reached c out a → a ≡ gives (some n) → (x : Particle) × Given c n x
    go (no_chain k) e = absurd (not_given e)
    go (bad_tree k f) e = absurd (not_given e)
    go (no_content s i) e = cc
    go (too_large s i l) e = absurd (not_given e)
    go (too_short s i l) e = absurd (not_given e)
    go (joins {x} s i l r) e = (x, record { sound = s; is = i; within = l; count = cc })

-- the bytes written are its encoding
pub written_is : (c out : List ℕ) (n : ℕ) → chain_answer c out ≡ gives (some n) → {x : Particle} → Given c n x → written_bytes c out n ≡ encode (single x)
unfolding chain_buffer
written_is c out n e {x} g =
    let l : length (encode (single x)) ≡ record_size * n = omega (arith, length_encode (single x), g.count) in
    rw (e, g.is) (take_at (encode (single x)) (drop (length (encode (single x))) out) (record_size * n) l)

pub joined_fits_leaves : JoinedFitsLeaves
joined_fits_leaves c out n (b, e) known a =
    let (x, g) = given c out n e in
    rw (written_is c out n e g) (fits_accepted known x (tree_fits c b known a g.is g.within))

-- As a tree alone ------------------------------------------------------------------------

pub joined_accepted : JoinedAccepted
joined_accepted c out n (b, e) =
    let (x, g) = given c out n e in
    (joined_fits_leaves c out n (b, e) alone (accepted_levels (levels c) g.sound.accepted), rw (written_is c out n e g, encoded_tree x) g.is)

-- one tree that is present stands as it is
pub joined_lone : JoinedLone
unfolding join_all Each
joined_lone c t p =
    let i : joined_tree c ≡ some (tree t) = joined_is c p in (
      i,
      λ out n (b, e).
          let (x, g) = given c out n e in
          let same : x ≡ tree t = let j = g.is in cc in
          let a : Each (AcceptedIn alone) (t ∷ []) = rw p at (accepted_levels (levels c) g.sound.accepted) in
          let bs : Each Bytes (t ∷ []) = rw p at (chain_bytes_lem c b) in
          written_is c out n e g ∙ (ap (λ (y : Particle). encode (single y)) same ∙ sym (accepted_fits alone t bs.0 a.0).0),
    )

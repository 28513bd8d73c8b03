-- The check accepts the bytes of trees that meet document 01's conditions, of each such tree, and nothing else. Assumes nothing.
use Rattle.std.specs.Prelude.{Ok}
use mathlib.Core.Path.{◌≡◌, ap, sym, ◌∙◌}
use mathlib.Core.List.{List}
use mathlib.Core.Logic.{◌↔◌}
use Prim.Native.Nat.{ℕ}
use Rattle.particle.specs.Tree.{Particle, single, decode, first_of, tree}
use Rattle.particle.specs.Encode.{encode, Bytes}
use Rattle.particle.proofs.RoundTrip.{decode_encode}
use Rattle.intake.specs.Faults.{Known}
use Rattle.intake.specs.Scan.{refusal_in}
use Rattle.intake.specs.Accepted.{TreeFits}
use Rattle.intake.proofs.FitsAccepted.{fits_accepted}
use Rattle.intake.proofs.AcceptedFits.{accepted_fits}

pub accepted_iff : (known : Known) (t : List ℕ) → Bytes t → (refusal_in known t ≡ Ok tt) ↔ ((x : Particle) × (t ≡ encode (single x)) × TreeFits known x)
accepted_iff known t b = (
  λ e. let f = accepted_fits known t b e in (tree t, f.0, f.1),
  λ x. ap (refusal_in known) x.1 ∙ fits_accepted known x.0 x.2,
)

-- no bytes are of two trees
pub one_tree : (x y : Particle) → encode (single x) ≡ encode (single y) → x ≡ y
one_tree x y e = ap first_of (sym (decode_encode (single x)) ∙ (ap decode e ∙ decode_encode (single y)))

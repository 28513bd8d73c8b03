-- Every encoding of a tree that fits is accepted. Assumes nothing.
use Rattle.std.specs.Prelude.{Result, Ok}
use Rattle.intake.specs.declared.Fault.{Fault}
use mathlib.Core.Path.{◌≡◌, refl, ap, sym, ◌∙◌}
use mathlib.Core.Bool.{Bool, false}
use mathlib.Core.List.{List, [], ◌∷◌, ◌++◌, append_assoc, append-nil}
use Prim.Native.Nat.{ℕ, suc, ◌+◌}
use native.Mathlib.Omega.{arith}
use lib.Dec.{eqb}
use lib.ListN.{length}
use Rattle.particle.specs.declared.Record.{Record}
use Rattle.particle.specs.Tree.{Items, none, item, Particle, single, count_i, size_i, records}
use Rattle.particle.specs.Encode.{kind_number, record_of, flat, encode}
use Rattle.particle.proofs.RoundTrip.{records_joined}
use Rattle.particle.proofs.ItemEncodes.{length_encode}
use Rattle.intake.specs.Faults.{Known}
use Rattle.intake.specs.Scan.{Level, level, waiting, or_else, scan, refusal_in}
use Rattle.intake.specs.Accepted.{is_all, TreesFit, TreeFits}
use Rattle.intake.proofs.Steps.{nothing_awaited, awaited}
use Rattle.intake.proofs.Checking.{Sized, scanned}
use Rattle.intake.proofs.Heads.{all_kind, fits_clean}

read : (x : Items) → records (encode x) ≡ flat x ++ []
unfolding encode
read x = records_joined (flat x) ∙ sym (append-nil (flat x))

module _ (known : Known) where
  -- trees that fit are read, where they and n more are awaited
  flat_scan : (x : Items) (rs : List Record) (m n : ℕ) → m ≡ count_i x + n → (a : Bool) (st : List Level) → TreesFit known x (suc (length st)) a → scan known (flat x ++ rs) (level m a ∷ st) ≡ scan known rs (level n a ∷ st)
  unfolding flat count_i TreesFit
  flat_scan none rs m n e a st f =
      let e' : m ≡ n = omega arith in
      rw e'
  flat_scan (item h k r) rs m n e a st f =
      let e' : m ≡ suc (count_i r + n) = omega arith in
      let next : List Level = level (count_i k) (eqb (kind_number h) 4) ∷ level (count_i r + n) a ∷ st in
      rw e'
      (awaited known (record_of h (count_i k)) ((flat k ++ flat r) ++ rs) (count_i r + n) a st
      ∙ (ap (λ (c : Result (Unit {0}) Fault). or_else c (scan known ((flat k ++ flat r) ++ rs) next)) (fits_clean f.0)
      ∙ rw
      (append_assoc (flat k) (flat r) rs, all_kind h)
      (flat_scan k (flat r ++ rs) (count_i k) 0 (omega arith) (is_all h) (level (count_i r + n) a ∷ st) f.1
      ∙ (nothing_awaited known (flat r ++ rs) (is_all h) (level (count_i r + n) a ∷ st)
      ∙ flat_scan r rs (count_i r + n) n refl a st f.2))))

  nothing_left : scan known [] (level 0 false ∷ []) ≡ Ok tt
  unfolding scan waiting
  nothing_left = refl

  size : (x : Particle) → TreeFits known x → Sized (encode (single x))
  unfolding size_i
  size x f =
      let l = length_encode (single x) in
      record { some = λ z. omega arith; few = omega (arith, f.few); even = omega arith }

pub fits_accepted : (known : Known) (x : Particle) → TreeFits known x → refusal_in known (encode (single x)) ≡ Ok tt
unfolding count_i
fits_accepted known x f =
    scanned known (encode (single x)) (size known x f)
    ∙ (ap (λ (rs : List Record). scan known rs (level 1 false ∷ [])) (read (single x))
    ∙ (flat_scan known (single x) [] 1 0 refl false [] f.each
    ∙ nothing_left known))

-- A rule's check of a range, and what follows it. `ok` is what the check found of r and q, and p is r as the rule has it. Assumes nothing.
use mathlib.Core.Bool.{Bool, true, false}
use mathlib.Core.Path.{◌≡◌, sym, ap, ◌∙◌}
use Prim.Native.Nat.{ℕ}
use Rattle.particle.specs.declared.Occurs.{Occurs}
use Rattle.rules.specs.Verdicts.{Mark, fails}
use Rattle.rules.specs.Combine.{◌or_fails◌, ◌and_then◌}

-- the test is `range_ok` of a pair, or `total_ok` of a total range
module _ {A : Type 0} (test : A → Occurs → Bool) {ok : Bool} {r p : A} (q : Occurs) (e : ok ≡ test r q) (is : r ≡ p) where
  ok_is : test p q ≡ ok
  ok_is = ap (λ (x : A). test x q) (sym is) ∙ sym e

  pub check_fails : {n k : ℕ} (rest : Mark) → n ≡ k → ok ≡ false → fails n ≡ test p q or_fails k and_then rest
  check_fails rest same n = rw (ok_is ∙ n, same)

  pub check_holds : (k : ℕ) {m rest : Mark} → ok ≡ true → m ≡ rest → m ≡ test p q or_fails k and_then rest
  check_holds k y a = rw (ok_is ∙ y) a

-- the reason for one of two kinds
pub reason_is : (reason : Bool → ℕ) (b : Bool) {a : Bool} → a ≡ b → reason b ≡ reason a
reason_is reason b e = ap reason (sym e)

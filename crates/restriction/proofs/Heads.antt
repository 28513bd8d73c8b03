-- A record's head by its kind number, with the pair that a call of `restrict` sees. Assumes nothing.
use mathlib.Core.Bool.{Bool, true, false}
use mathlib.Core.Path.{◌≡◌, refl, sym, ap, ◌∙◌}
use Prim.Native.Nat.{ℕ, zero, suc}
use native.Mathlib.Omega.{arith}
use Rattle.particle.specs.declared.Occurs.{Occurs}
use Rattle.particle.specs.Occurs.{exactly}
use Rattle.particle.specs.Tree.{Items, none, item, pair_of, head_from}
use Rattle.particle.specs.Encode.{kind_number}
use Rattle.particle.proofs.ByKind.{group_kind, other_kind, any_kind}
use Rattle.particle.proofs.Heads.{pair_kind}
use Rattle.rules.specs.Rule.{any_number}
use Rattle.restriction.specs.Views.{once_head, each_once, any_head}

pub once_never : (x : Items) → each_once false x ≡ x
unfolding each_once
once_never none = refl
once_never (item h k r) = rw (once_never r)

module _ (l : ℕ) (p : Occurs) where
  -- only an element's pair is altered, and only a wildcard's
  pub once_element : (once : Bool) (k : ℕ) {q : Occurs} → q ≡ exactly 1 → once ≡ true → k ≡ 0 → q ≡ pair_of (once_head once (head_from k l p))
  once_element once k i o e = rw (o, e) i

  pub any_wildcard : (any : Bool) (k : ℕ) → any ≡ true → k ≡ 1 → any_number ≡ pair_of (any_head any (head_from k l p))
  any_wildcard any k a e = rw (a, e)

  pub once_same : (once : Bool) (k : ℕ) → (once ≡ true → k ≡ 0 → ⊥) → head_from k l p ≡ once_head once (head_from k l p)
  once_same true k z = other_kind (λ h. h ≡ once_head true h) l p refl refl refl refl k (z refl)
  once_same false k z = refl

  pub any_same : (any : Bool) (k : ℕ) → (any ≡ true → k ≡ 1 → ⊥) → head_from k l p ≡ any_head any (head_from k l p)
  any_same true zero z = refl
  any_same true (suc zero) z = absurd (z refl refl)
  any_same true (suc (suc k)) z = group_kind (λ h. h ≡ any_head true h) l p refl refl refl (suc (suc k)) (omega arith)
  any_same false k z = refl

  pub once_kept : (once : Bool) (k : ℕ) → (once ≡ true → k ≡ 0 → ⊥) → p ≡ pair_of (once_head once (head_from k l p))
  once_kept once k z = sym (pair_kind k l p) ∙ ap pair_of (once_same once k z)

  pub any_kept : (any : Bool) (k : ℕ) → (any ≡ true → k ≡ 1 → ⊥) → p ≡ pair_of (any_head any (head_from k l p))
  any_kept any k z = sym (pair_kind k l p) ∙ ap pair_of (any_same any k z)

  -- the head again, from its kind number, and with another pair that a call sees
  pub head_again : (k : ℕ) → head_from (kind_number (head_from k l p)) l p ≡ head_from k l p
  head_again k = any_kind (λ h. head_from (kind_number h) l p ≡ h) l p refl refl refl refl refl k

  pub once_again : (once : Bool) (k : ℕ) → once_head once (head_from k l p) ≡ head_from (kind_number (head_from k l p)) l (pair_of (once_head once (head_from k l p)))
  once_again true k = any_kind (λ h. once_head true h ≡ head_from (kind_number h) l (pair_of (once_head true h))) l p refl refl refl refl refl k
  once_again false k = any_kind (λ h. h ≡ head_from (kind_number h) l (pair_of h)) l p refl refl refl refl refl k

  pub any_again : (any : Bool) (k : ℕ) → any_head any (head_from k l p) ≡ head_from (kind_number (head_from k l p)) l (pair_of (any_head any (head_from k l p)))
  any_again true k = any_kind (λ h. any_head true h ≡ head_from (kind_number h) l (pair_of (any_head true h))) l p refl refl refl refl refl k
  any_again false k = once_again false k

-- Tidying takes a record away or leaves the tree as it is, so that the record count tells whether a tree is tidy. Assumes nothing.
use mathlib.Core.Logic.{◌⊎◌, inl, inr, ⊎_elim, ◌↔◌}
use mathlib.Core.Path.{◌≡◌, refl, ap, ap₂}
use Prim.Native.Nat.{◌<◌}
use native.Mathlib.Omega.{arith}
use Rattle.particle.specs.Tree.{Head, Items, none, item, Particle, single, size_i}
use Rattle.particle.proofs.EncodeParts.{size_then}
use Rattle.tidying.specs.Tidy.{keep, closed, settle, tidy_items, tidy}
use Rattle.tidying.specs.TidyTree.{TidyTree}
use Rattle.tidying.proofs.Steps.{settle_cases, closed_cases, keep_cases}
use Rattle.tidying.proofs.Shape.{left_alone}

-- x has fewer records than y, or is y
abbrev Fewer : Items → Items → Type 0
Fewer x y = (size_i x < size_i y) ⊎ (x ≡ y)

abbrev FewerTree : Particle → Particle → Type 0
FewerTree x y = (size_i (single x) < size_i (single y)) ⊎ (x ≡ y)

chained : {x y z : Items} → Fewer x y → Fewer y z → Fewer x z
chained (inl a) (inl b) = inl (omega arith)
chained (inl a) (inr e) = inl (rw e at a)
chained (inr e) f = rw e f

beside : (x : Particle) (h : Head) (k r s : Items) → FewerTree x (record { head = h; items = k }) → Fewer r s → Fewer (item x.head x.items r) (item h k s)
unfolding size_i
beside x h k r s (inl a) (inl b) = inl (omega arith)
beside x h k r s (inl a) (inr e) = let n : size_i r ≡ size_i s = ap size_i e in inl (omega arith)
beside x h k r s (inr e) (inl b) = let n : size_i (single x) ≡ size_i (item h k none) = ap (λ (y : Particle). size_i (single y)) e in inl (omega arith)
beside x h k r s (inr e) (inr f) = inr (ap₂ (λ (y : Particle) (t : Items). item y.head y.items t) e f)

keep_fewer : (g : Head) (x : Particle) (rest : Items) → Fewer (keep g x rest) (item x.head x.items rest)
unfolding size_i
keep_fewer g x rest = keep_cases (λ (y : Items). Fewer y (item x.head x.items rest)) g x rest (λ _. inl (omega arith)) (λ _. inl (omega (arith, size_then x.items rest))) (λ _ _. inr refl)

closed_fewer : (g : Head) (t : Items) → FewerTree (closed g t) (record { head = g; items = t })
unfolding size_i
closed_fewer g t =
    closed_cases (λ (x : Particle). FewerTree x (record { head = g; items = t })) g t (inr refl)
    (λ h k e _. inl (omega (arith, ap size_i e)))
    (λ h k e _. inl (omega (arith, ap size_i e)))

-- a group over fewer items
over : (h : Head) (k t : Items) → Fewer t k → FewerTree (closed h t) (record { head = h; items = k })
unfolding size_i
over h k t (inl a) = ⊎_elim (λ b. inl (omega arith)) (λ e. let n : size_i (single (closed h t)) ≡ size_i (item h t none) = ap (λ (y : Particle). size_i (single y)) e in inl (omega arith)) (closed_fewer h t)
over h k t (inr e) = rw (← e) (closed_fewer h t)

settle_fewer : (h : Head) (k t : Items) → Fewer t k → FewerTree (settle h k t) (record { head = h; items = k })
settle_fewer h k t f = settle_cases (λ (x : Particle). FewerTree x (record { head = h; items = k })) h k t (λ _. inr refl) (λ _. over h k t f)

items_fewer : (g : Head) (k : Items) → Fewer (tidy_items g k) k
unfolding tidy_items
items_fewer g none = inr refl
items_fewer g (item h k r) =
    let x = settle h k (tidy_items h k) in
    chained (keep_fewer g x (tidy_items g r)) (beside x h k (tidy_items g r) r (settle_fewer h k (tidy_items h k) (items_fewer h k)) (items_fewer g r))

pub tidy_fewer : (x : Particle) → (size_i (single (tidy x)) < size_i (single x)) ⊎ (tidy x ≡ x)
unfolding tidy
tidy_fewer x = settle_fewer x.head x.items (tidy_items x.head x.items) (items_fewer x.head x.items)

-- A tree is tidy just where tidying leaves its record count.
pub count_tells : (x : Particle) → (size_i (single (tidy x)) ≡ size_i (single x)) ↔ TidyTree x
count_tells x = (
  λ e. (left_alone x).0 (⊎_elim (λ l. absurd (omega arith)) (λ s. s) (tidy_fewer x)),
  λ a. ap (λ (y : Particle). size_i (single y)) ((left_alone x).1 a),
)

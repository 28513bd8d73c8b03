-- What tidying keeps, or changes in one direction only: whatever a fold makes of a tree, if each step of tidying does so. Assumes nothing.
use mathlib.Core.Bool.{true}
use mathlib.Core.List.{List, [], ◌∷◌, ◌++◌, append_assoc}
use mathlib.Core.Path.{◌≡◌}
use Rattle.particle.specs.Occurs.{is_zero, is_once}
use Rattle.particle.specs.Tree.{Head, choice, Items, none, item, Particle, pair_of, fold}
use Rattle.language.specs.Premises.{Every, BelowRoot, Throughout}
use Rattle.tidying.specs.Tidy.{splices, keep, takes_pair, closed, settle, tidy_items, tidy}
use Rattle.tidying.specs.TidyTree.{Group}
use Rattle.tidying.proofs.Steps.{settle_cases, closed_cases, keep_cases, fold_then}

-- what f makes of a tree
abbrev pub value_of {ℓ} : {A : Type ℓ} → (Head → List A → A) → Particle → A
value_of f x = f x.head (fold f x.items)

module _ {ℓ} {A : Type ℓ} (P : Head → Items → Type 0) (f : Head → List A → A) (◌≲◌ : A → A → Type 0) where
  infix 20 ◌≲◌
  -- after ≲ before, for each step of tidying: ≲ is a preorder, and for a sequence or choice g there is a law for each step, P holding of the records
  pub record StepsKept : Type ℓ where
    pub itself : (a : A) → a ≲ a
    pub chained : (a b c : A) → a ≲ b → b ≲ c → a ≲ c
    -- an item is tidied
    pub tidied : (g : Head) → Group g → (before : List A) (a b : A) (after : List A) → a ≲ b → f g (before ++ a ∷ after) ≲ f g (before ++ b ∷ after)
    -- an item of maximum 0 is dropped
    pub dropped : (g : Head) → Group g → (h : Head) (k : Items) → is_zero (pair_of h).max ≡ true → P h k → (before after : List A) → f g (before ++ after) ≲ f g (before ++ f h (fold f k) ∷ after)
    -- a (1,1) item of the group's own kind is replaced by its items
    pub spliced : (g h : Head) (k : Items) → splices g h ≡ true → P h k → (before after : List A) → f g (before ++ (fold f k ++ after)) ≲ f g (before ++ f h (fold f k) ∷ after)
    -- the one item left takes the place of a (1,1) group
    pub placed : (g : Head) → Group g → is_once (pair_of g) ≡ true → (a : A) → a ≲ f g (a ∷ [])
    -- the one item left takes the group's pair
    pub paired : (g h : Head) → takes_pair g h ≡ true → (xs : List A) → f (choice (pair_of g)) xs ≲ f g (f h xs ∷ [])

module _ {ℓ} {A : Type ℓ} {P : Head → Items → Type 0} {f : Head → List A → A} {◌≲◌ : A → A → Type 0} (L : StepsKept P f ◌≲◌)
    (kept : (x : Particle) → Throughout P x → Throughout P (tidy x)) where
  infix 20 ◌≲◌
  keep_value : (g : Head) → Group g → (before : List A) (x : Particle) (rest : Items) → P x.head x.items → f g (before ++ fold f (keep g x rest)) ≲ f g (before ++ value_of f x ∷ fold f rest)
  unfolding fold
  keep_value g s before x rest p =
      keep_cases (λ (y : Items). f g (before ++ fold f y) ≲ f g (before ++ value_of f x ∷ fold f rest)) g x rest
      (λ z. L.dropped g s x.head x.items z p before (fold f rest))
      (λ e. rw (fold_then f x.items rest) (L.spliced g x.head x.items e p before (fold f rest)))
      (λ _ _. L.itself _)

  closed_value : (g : Head) → Group g → (t : Items) → value_of f (closed g t) ≲ f g (fold f t)
  unfolding fold
  closed_value g s t =
      closed_cases (λ (x : Particle). value_of f x ≲ f g (fold f t)) g t (L.itself _)
      (λ h k e o. rw e (L.placed g s o (f h (fold f k))))
      (λ h k e p. rw e (L.paired g h p (fold f k)))

  -- a record, where what a group keeps of its items makes what they make
  settle_value : (h : Head) (k t : Items) → (Group h → f h (fold f t) ≲ f h (fold f k)) → value_of f (settle h k t) ≲ f h (fold f k)
  settle_value h k t e = settle_cases (λ (x : Particle). value_of f x ≲ f h (fold f k)) h k t (λ _. L.itself _) (λ s. L.chained _ _ _ (closed_value h s t) (e s))

  items_value : (g : Head) → Group g → (before : List A) (k : Items) → Every P k → f g (before ++ fold f (tidy_items g k)) ≲ f g (before ++ fold f k)
  unfolding fold tidy_items tidy
  items_value g s before none ps = L.itself _
  items_value g s before (item h k r) (w, ps) =
      let x = settle h k (tidy_items h k) in
      L.chained _ _ _ (keep_value g s before x (tidy_items g r) (kept (record { head = h; items = k }) w).0)
      (L.chained _ _ _ (simp append_assoc at (items_value g s (before ++ value_of f x ∷ []) r ps))
      (L.tidied g s before (value_of f x) (f h (fold f k)) (fold f r) (settle_value h k (tidy_items h k) (λ s. items_value h s [] k w.1))))

  -- of the root itself nothing is asked
  pub tidy_keeps : (x : Particle) → BelowRoot P x → value_of f (tidy x) ≲ value_of f x
  unfolding tidy
  tidy_keeps x ps = settle_value x.head x.items (tidy_items x.head x.items) (λ s. items_value x.head s [] x.items ps)

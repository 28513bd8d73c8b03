-- What tidying makes of a base: where pairs are in order and no choice is empty, the tidied tree allows no more than the tree, even if a choice that tidying has emptied counts as the rules count it. A zero maximum may be anywhere. Assumes nothing.
use mathlib.Core.Bool.{true}
use mathlib.Core.List.{List, [], ◌∷◌}
use mathlib.Core.Logic.{◌⊎◌, inl, inr, ⊎_elim}
use mathlib.Core.Path.{◌≡◌, refl, sym, subst}
use Rattle.particle.specs.declared.Occurs.{Occurs}
use Rattle.particle.specs.Occurs.{is_zero, is_once}
use Rattle.particle.specs.Tree.{Head, element, wildcard, sequence, choice, all, Items, none, item, Particle, pair_of, fold, ◌then◌}
use Rattle.language.specs.Language.{Words, Followed, InOrder, OneOf, Names, words_from, Allows}
use Rattle.language.specs.Premises.{Every, Throughout, Ordered, NoEmptyChoice}
use Rattle.language.proofs.Words.{◌⊆◌, followed_mono, in_order_joined, in_order_one, one_of_joined}
use Rattle.language.proofs.Rounds.{rounds_each, once_same}
use Rattle.language.proofs.Wider.{OneOrNone, one_or_none, wider_from, Wider, wider_same}
use Rattle.language.proofs.Emptiness.{zero_wider}
use Rattle.tidying.specs.Tidy.{splices, keep, takes_pair, lone, closed, settle, tidy_items, tidy}
use Rattle.tidying.specs.TidyTree.{Group}
use Rattle.tidying.proofs.Steps.{branch, group_cases, settle_cases, keep_cases, splices_cases, takes_cases, zero_is, fold_then}
use Rattle.tidying.proofs.Premises.{item_some, then_some, tidy_ordered}

-- a round of a sequence or choice, and a round where an empty choice has an empty one
abbrev round : Head → List Words → Words
round (element l p) Ws w = ⊥
round (wildcard l p) Ws w = ⊥
round (sequence p) Ws w = InOrder Ws w
round (choice p) Ws w = OneOf Ws w
round (all p) Ws w = ⊥

abbrev wider_round : Head → List Words → Words
wider_round (element l p) Ws w = ⊥
wider_round (wildcard l p) Ws w = ⊥
wider_round (sequence p) Ws w = InOrder Ws w
wider_round (choice p) Ws w = OneOrNone Ws w
wider_round (all p) Ws w = ⊥

module _ (names : Names) where
  abbrev words : Items → List Words
  words k = fold (words_from names) k

  abbrev wide : Items → List Words
  wide k = fold (wider_from names) k

  -- What a group keeps of its items --------------------------------------------------------

  -- an item that is dropped
  zero_gives : (x : Particle) → Ordered x.head x.items → is_zero (pair_of x.head).max ≡ true → Wider names x []
  unfolding Wider
  zero_gives x o z = zero_wider names x.head (wide x.items) o (zero_is (pair_of x.head).max z)

  -- an item that is replaced by its items
  spliced : (Ws : List Words) (g h : Head) → splices g h ≡ true → round g Ws ⊆ wider_from names h Ws
  spliced Ws = splices_cases (λ (g h : Head). round g Ws ⊆ wider_from names h Ws) (λ q p o w y. (once_same o w).1 y) (λ q p o w y. (once_same o w).1 (one_or_none Ws w y))

  in_order_keep : (p : Occurs) (x : Particle) (rest : Items) → Ordered x.head x.items → InOrder (wide (keep (sequence p) x rest)) ⊆ Followed (Wider names x) (InOrder (wide rest))
  unfolding fold Wider
  in_order_keep p x rest o =
      keep_cases (λ (y : Items). InOrder (wide y) ⊆ Followed (Wider names x) (InOrder (wide rest))) (sequence p) x rest
      (λ z w y. record { front = []; back = w; whole = refl; left = zero_gives x o z; right = y })
      (λ e w y. followed_mono (spliced (wide x.items) (sequence p) x.head e) (λ u v. v) w ((in_order_joined (wide x.items) (wide rest) w).0 (subst (λ (Ws : List Words). InOrder Ws w) (fold_then (wider_from names) x.items rest) y)))
      (λ _ _ w y. y)

  one_of_keep : (p : Occurs) (x : Particle) (rest : Items) → OneOf (wide (keep (choice p) x rest)) ⊆ (λ w. Wider names x w ⊎ OneOf (wide rest) w)
  unfolding fold Wider
  one_of_keep p x rest =
      keep_cases (λ (y : Items). OneOf (wide y) ⊆ (λ w. Wider names x w ⊎ OneOf (wide rest) w)) (choice p) x rest
      (λ _ w y. inr y)
      (λ e w y. ⊎_elim (λ a. inl (spliced (wide x.items) (choice p) x.head e w a)) inr ((one_of_joined (wide x.items) (wide rest) w).0 (subst (λ (Ws : List Words). OneOf Ws w) (fold_then (wider_from names) x.items rest) y)))
      (λ _ _ w y. y)

  -- where a choice keeps nothing, its first item gives the empty word
  none_kept : (p : Occurs) (x : Particle) (rest : Items) → Ordered x.head x.items → keep (choice p) x rest ≡ none → Wider names x []
  unfolding fold Wider
  none_kept p x rest o =
      keep_cases (λ (y : Items). y ≡ none → Wider names x []) (choice p) x rest
      (λ z _. zero_gives x o z)
      (emptied x.items (choice p) x.head)
      (λ _ _ n. absurd (item_some x.head x.items rest n))
    where
      emptied : (k : Items) (g h : Head) → splices g h ≡ true → k then rest ≡ none → wider_from names h (wide k) []
      emptied none = splices_cases (λ (g h : Head). none then rest ≡ none → wider_from names h (wide none) []) (λ q p o n. (once_same o []).1 refl) (λ q p o n. (once_same o []).1 refl)
      emptied (item h' k r) = λ g h e n. absurd (then_some (item h' k r) rest (item_some h' k r) n)

  -- A group, from what it keeps ---------------------------------------------------------------

  one_round_of : (g : Head) → Group g → (W : Words) → W ⊆ wider_round g (W ∷ [])
  one_round_of g s W w y = group_cases (λ (g : Head). wider_round g (W ∷ []) w) (λ p. (in_order_one w).1 y) (λ p. inl y) g s

  rounds_of : (g : Head) → Group g → (Ws Xs : List Words) → wider_round g Ws ⊆ round g Xs → wider_from names g Ws ⊆ words_from names g Xs
  rounds_of g s Ws Xs = group_cases (λ (g : Head). wider_round g Ws ⊆ round g Xs → wider_from names g Ws ⊆ words_from names g Xs) (λ p. rounds_each) (λ p. rounds_each) g s

  -- one item is left
  lone_within : (g : Head) → Group g → (h : Head) (k : Items) (Xs : List Words) → wider_round g (wider_from names h (wide k) ∷ []) ⊆ round g Xs → Wider names (lone g h k) ⊆ words_from names g Xs
  unfolding fold Wider
  lone_within g s h k Xs f =
      branch (λ (y : Particle). Wider names y ⊆ words_from names g Xs) (takes_pair g h) (record { head = choice (pair_of g); items = k }) (record { head = g; items = item h k none })
      (λ e. takes_cases (λ (g h : Head). wider_round g (wider_from names h (wide k) ∷ []) ⊆ round g Xs → wider_from names (choice (pair_of g)) (wide k) ⊆ words_from names g Xs)
      (λ q p o f. rounds_each (λ w y. f w ((in_order_one w).1 ((once_same o w).1 y)))) g h e f)
      (λ _. rounds_of g s (wider_from names h (wide k) ∷ []) Xs f)

  placed : (g : Head) → Group g → is_once (pair_of g) ≡ true → (Xs : List Words) → round g Xs ⊆ words_from names g Xs
  placed g s o Xs = group_cases (λ (g : Head). is_once (pair_of g) ≡ true → round g Xs ⊆ words_from names g Xs) (λ p o w y. (once_same o w).1 y) (λ p o w y. (once_same o w).1 y) g s o

  closed_within : (g : Head) → Group g → (t : Items) (Xs : List Words) → wider_round g (wide t) ⊆ round g Xs → Wider names (closed g t) ⊆ words_from names g Xs
  unfolding fold Wider
  closed_within g s none Xs f = rounds_of g s [] Xs f
  closed_within g s (item h k none) Xs f =
      branch (λ (y : Particle). Wider names y ⊆ words_from names g Xs) (is_once (pair_of g)) (record { head = h; items = k }) (lone g h k)
      (λ o w y. placed g s o Xs w (f w (one_round_of g s (wider_from names h (wide k)) w y)))
      (λ _. lone_within g s h k Xs f)
  closed_within g s (item h k (item h' k' r)) Xs f = rounds_of g s (wide (item h k (item h' k' r))) Xs f

  -- The items of a tree ---------------------------------------------------------------------------

  -- a choice that keeps nothing has an item that gives the empty word
  abbrev Emptied : Head → Items → Type 0
  Emptied (element l p) k = Unit {0}
  Emptied (wildcard l p) k = Unit {0}
  Emptied (sequence p) k = Unit {0}
  Emptied (choice p) k = tidy_items (choice p) k ≡ none → ¬ (k ≡ none) → OneOf (words k) []
  Emptied (all p) k = Unit {0}

  abbrev Kept : Head → Items → Type 0
  Kept g k = (round g (wide (tidy_items g k)) ⊆ round g (words k)) × Emptied g k

  kept_round : (g : Head) → Group g → (k : Items) → NoEmptyChoice g k → Kept g k → wider_round g (wide (tidy_items g k)) ⊆ round g (words k)
  unfolding fold
  kept_round g s k = group_cases (λ (g : Head). NoEmptyChoice g k → Kept g k → wider_round g (wide (tidy_items g k)) ⊆ round g (words k)) (λ p n i. i.0) (λ p n i. go p n i (tidy_items (choice p) k) refl) g s
    where
      go : (p : Occurs) → ¬ (k ≡ none) → Kept (choice p) k → (t : Items) → tidy_items (choice p) k ≡ t → OneOrNone (wide t) ⊆ OneOf (words k)
      go p n i none e w y = subst (OneOf (words k)) (sym y) (i.1 e n)
      go p n i (item h k' r) e w y = i.0 w (subst (λ (t : Items). OneOf (wide t) w) (sym e) y)

  settle_within : (h : Head) (k : Items) → Throughout NoEmptyChoice (record { head = h; items = k }) → (Group h → Kept h k) → Wider names (settle h k (tidy_items h k)) ⊆ words_from names h (words k)
  unfolding Allows
  settle_within h k (n, ns) i =
      settle_cases (λ (y : Particle). Wider names y ⊆ words_from names h (words k)) h k (tidy_items h k)
      (λ _ w y. subst (λ (W : Words). W w) (wider_same names (record { head = h; items = k }) (n, ns)) y)
      (λ s. closed_within h s (tidy_items h k) (words k) (kept_round h s k n (i s)))

  items_within : (k : Items) → Every Ordered k → Every NoEmptyChoice k → (g : Head) → Group g → Kept g k
  unfolding tidy_items tidy fold
  items_within none os ns g s = group_cases (λ (g : Head). Kept g none) (λ p. (λ w y. y, tt)) (λ p. (λ w y. y, λ e n. absurd (n refl))) g s
  items_within (item h k r) (o, os) (n, ns) g s =
      let x = settle h k (tidy_items h k) in
      let ordered = (tidy_ordered (record { head = h; items = k }) o).0 in
      let first = settle_within h k n (λ s. items_within k o.1 n.1 h s) in
      group_cases (λ (g : Head). Kept g r → Kept g (item h k r))
      (λ p i. (λ w y. followed_mono first i.0 w (in_order_keep p x (tidy_items (sequence p) r) ordered w y), tt))
      (λ p i. (λ w y. ⊎_elim (λ a. inl (first w a)) (λ b. inr (i.0 w b)) (one_of_keep p x (tidy_items (choice p) r) w y), λ e _. inl (first [] (none_kept p x (tidy_items (choice p) r) ordered e))))
      g s (items_within r os ns g s)

  pub tidied_within : (x : Particle) → Throughout Ordered x → Throughout NoEmptyChoice x → Wider names (tidy x) ⊆ Allows names x
  unfolding tidy Allows
  tidied_within x o n = settle_within x.head x.items n (λ s. items_within x.items o.1 n.1 x.head s)

-- Tidying keeps what a tree allows, where the tree has no zero maximum below its root; where pairs are in order, the tidied tree allows no more. Assumes nothing.
use mathlib.Core.Bool.{true}
use mathlib.Core.List.{List, [], ◌∷◌, ◌++◌}
use mathlib.Core.Logic.{inl, inr, ⊎_elim, ◌↔◌}
use mathlib.Core.Path.{◌≡◌, refl}
use Prim.Native.Nat.{ℕ}
use Rattle.particle.specs.Occurs.{is_once}
use Rattle.particle.specs.Tree.{Head, element, wildcard, sequence, choice, all, Particle, pair_of, fold}
use Rattle.language.specs.Language.{Words, InOrder, OneOf, Names, words_from, Allows}
use Rattle.language.specs.Premises.{BelowRoot, NoZeroMaximum, Ordered}
use Rattle.language.proofs.Words.{◌⊆◌, ◌≐◌, same, turned, ◌⟫◌, followed_mono, followed_same, in_order_joined, in_order_one, or_same, one_of_joined, one_of_one}
use Rattle.language.proofs.Rounds.{rounds_each, rounds_same, no_round, once_same}
use Rattle.tidying.specs.Tidy.{splices, takes_pair, tidy}
use Rattle.tidying.specs.TidyTree.{Group}
use Rattle.tidying.proofs.Steps.{group_cases, splices_cases, takes_cases, zero_is, zero_min}
use Rattle.tidying.proofs.Premises.{tidy_no_zero_maximum, tidy_ordered}
use Rattle.tidying.proofs.FoldsKept.{StepsKept, tidy_keeps}

-- the same sets before
in_order_after : (before Ws Xs : List Words) → InOrder Ws ⊆ InOrder Xs → InOrder (before ++ Ws) ⊆ InOrder (before ++ Xs)
in_order_after [] Ws Xs f = f
in_order_after (W ∷ before) Ws Xs f = followed_mono (λ w x. x) (in_order_after before Ws Xs f)

one_of_after : (before Ws Xs : List Words) → OneOf Ws ⊆ OneOf Xs → OneOf (before ++ Ws) ⊆ OneOf (before ++ Xs)
one_of_after [] Ws Xs f = f
one_of_after (W ∷ before) Ws Xs f = λ w. ⊎_elim inl (λ x. inr (one_of_after before Ws Xs f w x))

module _ (names : Names) where
  -- a group whose items after the first ones give a word of Ws in place of one of Xs
  after_within : (g : Head) → Group g → (before Ws Xs : List Words) → InOrder Ws ⊆ InOrder Xs → OneOf Ws ⊆ OneOf Xs → words_from names g (before ++ Ws) ⊆ words_from names g (before ++ Xs)
  after_within g s before Ws Xs i o = group_cases (λ (g : Head). words_from names g (before ++ Ws) ⊆ words_from names g (before ++ Xs)) (λ p. rounds_each (in_order_after before Ws Xs i)) (λ p. rounds_each (one_of_after before Ws Xs o)) g s

  tidied : (g : Head) → Group g → (before : List Words) (W X : Words) (after : List Words) → W ⊆ X → words_from names g (before ++ W ∷ after) ⊆ words_from names g (before ++ X ∷ after)
  tidied g s before W X after f = after_within g s before (W ∷ after) (X ∷ after) (followed_mono f (λ w x. x)) (λ w. ⊎_elim (λ x. inl (f w x)) inr)

  -- an item that gives the empty word is dropped
  dropped : (g : Head) → Group g → (before : List Words) (W : Words) (after : List Words) → W [] → words_from names g (before ++ after) ⊆ words_from names g (before ++ W ∷ after)
  dropped g s before W after e = after_within g s before after (W ∷ after) (λ w x. record { front = []; back = w; whole = refl; left = e; right = x }) (λ w. inr)

  spliced : (Ws : List Words) (g h : Head) → splices g h ≡ true → (before after : List Words) → words_from names g (before ++ (Ws ++ after)) ≐ words_from names g (before ++ words_from names h Ws ∷ after)
  spliced Ws = splices_cases (λ (g h : Head). (before after : List Words) → words_from names g (before ++ (Ws ++ after)) ≐ words_from names g (before ++ words_from names h Ws ∷ after))
      (λ q p o before after. let e = in_order_joined Ws after ⟫ followed_same (turned (once_same o)) (same (InOrder after)) in
      rounds_same (λ w. (in_order_after before (Ws ++ after) (words_from names (sequence p) Ws ∷ after) (λ u. (e u).0) w, in_order_after before (words_from names (sequence p) Ws ∷ after) (Ws ++ after) (λ u. (e u).1) w)))
      (λ q p o before after. let e = one_of_joined Ws after ⟫ or_same (turned (once_same o)) (same (OneOf after)) in
      rounds_same (λ w. (one_of_after before (Ws ++ after) (words_from names (choice p) Ws ∷ after) (λ u. (e u).0) w, one_of_after before (words_from names (choice p) Ws ∷ after) (Ws ++ after) (λ u. (e u).1) w)))

  placed : (g : Head) → Group g → is_once (pair_of g) ≡ true → (W : Words) → words_from names g (W ∷ []) ≐ W
  placed g s o W = group_cases (λ (g : Head). is_once (pair_of g) ≡ true → words_from names g (W ∷ []) ≐ W) (λ p o. once_same o ⟫ in_order_one) (λ p o. once_same o ⟫ one_of_one W) g s o

  paired : (Ws : List Words) (g h : Head) → takes_pair g h ≡ true → words_from names g (words_from names h Ws ∷ []) ≐ words_from names (choice (pair_of g)) Ws
  paired Ws = takes_cases (λ (g h : Head). words_from names g (words_from names h Ws ∷ []) ≐ words_from names (choice (pair_of g)) Ws) (λ q p o. rounds_same (in_order_one ⟫ once_same o))

  words_kept : StepsKept NoZeroMaximum (words_from names) ◌≐◌
  words_kept = record {
    itself = same;
    chained = λ W X Y e f. e ⟫ f;
    tidied = λ g s before W X after e w. (tidied g s before W X after (λ u. (e u).0) w, tidied g s before X W after (λ u. (e u).1) w);
    dropped = λ g s h k z n before after. absurd (n (zero_is (pair_of h).max z));
    spliced = λ g h k e p. spliced (fold (words_from names) k) g h e;
    placed = λ g s o W. turned (placed g s o W);
    paired = λ g h e Ws. turned (paired Ws g h e);
  }

  pub tidy_allows : (x : Particle) → BelowRoot NoZeroMaximum x → (w : List ℕ) → Allows names (tidy x) w ↔ Allows names x w
  unfolding Allows
  tidy_allows = tidy_keeps words_kept tidy_no_zero_maximum

  -- With a zero maximum below the root -------------------------------------------------------

  -- no round, where the minimum is 0
  optional_gives : (h : Head) (Ws : List Words) → (pair_of h).min ≡ 0 → words_from names h Ws []
  optional_gives (element l p) Ws = no_round
  optional_gives (wildcard l p) Ws = no_round
  optional_gives (sequence p) Ws = no_round
  optional_gives (choice p) Ws = no_round
  optional_gives (all p) Ws = no_round

  words_within : StepsKept Ordered (words_from names) ◌⊆◌
  words_within = record {
    itself = λ W w x. x;
    chained = λ W X Y f g w x. g w (f w x);
    tidied = tidied;
    dropped = λ g s h k z o before after. dropped g s before (words_from names h (fold (words_from names) k)) after (optional_gives h (fold (words_from names) k) (zero_min (pair_of h) o z));
    spliced = λ g h k e p before after w. (spliced (fold (words_from names) k) g h e before after w).0;
    placed = λ g s o W w. (placed g s o W w).1;
    paired = λ g h e Ws w. (paired Ws g h e w).1;
  }

  pub tidy_allows_no_more : (x : Particle) → BelowRoot Ordered x → (w : List ℕ) → Allows names (tidy x) w → Allows names x w
  unfolding Allows
  tidy_allows_no_more = tidy_keeps words_within tidy_ordered

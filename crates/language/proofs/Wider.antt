-- What a tree allows if an empty choice has an empty round, as `emptiable` counts it: what the rules of the mark take a base for. A tree without an empty choice allows just this. Assumes nothing.
use mathlib.Core.List.{List, [], ◌∷◌}
use mathlib.Core.Path.{◌≡◌, refl, ap, ◌∙◌}
use Rattle.particle.specs.Tree.{Head, element, wildcard, sequence, choice, all, Items, none, item, Particle, fold}
use Rattle.language.specs.Language.{Words, InOrder, OneOf, AnyOrder, Rounds, Name, Names, words_from, Allows}
use Rattle.language.specs.Premises.{Every, Throughout, NoEmptyChoice}
use Rattle.language.proofs.Words.{◌⊆◌}

-- a word of one of the sets; the empty word where there is none
abbrev pub OneOrNone : List Words → Words
OneOrNone [] w = w ≡ []
OneOrNone (W ∷ Ws) w = OneOf (W ∷ Ws) w

pub one_or_none : (Ws : List Words) → OneOf Ws ⊆ OneOrNone Ws
one_or_none [] w x = absurd x
one_or_none (W ∷ Ws) w x = x

-- `words_from` but for the empty choice
abbrev pub wider_from : Names → Head → List Words → Words
wider_from names (element l p) Ws = Rounds p (Name (names l))
wider_from names (wildcard l p) Ws = Rounds p (Name (names l))
wider_from names (sequence p) Ws = Rounds p (InOrder Ws)
wider_from names (choice p) Ws = Rounds p (OneOrNone Ws)
wider_from names (all p) Ws = Rounds p (AnyOrder Ws)

unfoldable pub Wider : Names → Particle → Words
Wider names x = wider_from names x.head (fold (wider_from names) x.items)

module _ (names : Names) where
  record_same : (h : Head) (k : Items) → NoEmptyChoice h k → wider_from names h (fold (words_from names) k) ≡ words_from names h (fold (words_from names) k)
  unfolding fold
  record_same (element l p) k n = refl
  record_same (wildcard l p) k n = refl
  record_same (sequence p) k n = refl
  record_same (choice p) none n = absurd (n refl)
  record_same (choice p) (item h k r) n = refl
  record_same (all p) k n = refl

  items_same : (k : Items) → Every NoEmptyChoice k → fold (wider_from names) k ≡ fold (words_from names) k
  unfolding fold
  items_same none ns = refl
  items_same (item h k r) ((n, ns), ns') =
      ap (λ (W : Words). W ∷ fold (wider_from names) r) (ap (wider_from names h) (items_same k ns) ∙ record_same h k n)
      ∙ ap (λ (Ws : List Words). words_from names h (fold (words_from names) k) ∷ Ws) (items_same r ns')

  pub wider_same : (x : Particle) → Throughout NoEmptyChoice x → Wider names x ≡ Allows names x
  unfolding Wider Allows
  wider_same x (n, ns) = ap (wider_from names x.head) (items_same x.items ns) ∙ record_same x.head x.items n

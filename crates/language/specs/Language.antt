-- What a tree allows (document 01, 'What a tree allows'). A word is a sequence of names; names are whole numbers. Assumes nothing: these are definitions.
use Rattle.std.specs.Prelude.{◌≡◌, List, [], ◌∷◌, ◌++◌, ◌⊎◌, ℕ, ◌≤◌, replicate}
use Rattle.particle.specs.declared.MaxOccurs.{MaxOccurs}
use Rattle.particle.specs.declared.MaxOccurs.TheVariants.{Bounded, Unbounded}
use Rattle.particle.specs.declared.Occurs.{Occurs}
use Rattle.particle.specs.Tree.{Head, element, wildcard, sequence, choice, all, Particle, fold}

-- a set of words
abbrev pub Words : Type 1
Words = List ℕ → Type 0

-- w is a word of W and then a word of X
pub record Followed (W X : List ℕ → Type 0) (w : List ℕ) : Type 0 where
  pub front : List ℕ
  pub back : List ℕ
  pub whole : w ≡ front ++ back
  pub left : W front
  pub right : X back

-- a word of each set, in order
abbrev pub InOrder : List Words → Words
InOrder [] w = w ≡ []
InOrder (W ∷ Ws) w = Followed W (InOrder Ws) w

-- a word of one of the sets
abbrev pub OneOf : List Words → Words
OneOf [] w = ⊥
OneOf (W ∷ Ws) w = W w ⊎ OneOf Ws w

-- ys is xs with x put in at some place
pub data Inserted {A : Type 0} (x : A) : List A → List A → Type 0 where
  here : {xs : List A} → Inserted x xs (x ∷ xs)
  later : {y : A} {xs ys : List A} → Inserted x xs ys → Inserted x (y ∷ xs) (y ∷ ys)

-- the blocks are a word of each set, in any order
abbrev pub Blocks : List Words → List (List ℕ) → Type 0
Blocks [] bs = bs ≡ []
Blocks (W ∷ Ws) bs = (u : List ℕ) × (others : List (List ℕ)) × Inserted u others bs × W u × Blocks Ws others

abbrev pub joined : List (List ℕ) → List ℕ
joined [] = []
joined (u ∷ us) = u ++ joined us

-- a word of each set, in any order, each unbroken
abbrev pub AnyOrder : List Words → Words
AnyOrder Ws w = (bs : List (List ℕ)) × (w ≡ joined bs) × Blocks Ws bs

abbrev pub AtMost : ℕ → MaxOccurs → Type 0
AtMost n (Bounded m) = n ≤ m
AtMost n Unbounded = Unit {0}

-- rounds, each a word of W, one after another, their number within the pair
pub record Rounds (p : Occurs) (W : List ℕ → Type 0) (w : List ℕ) : Type 0 where
  pub number : ℕ
  pub least : p.min ≤ number
  pub most : AtMost number p.max
  pub rounds : InOrder (replicate number W) w

-- one name of a set
abbrev pub Name : (ℕ → Type 0) → Words
Name S w = (x : ℕ) × S x × (w ≡ x ∷ [])

-- names l x: the leaf l has the name x
abbrev pub Names : Type 1
Names = ℕ → ℕ → Type 0

-- what a record allows, from what each of its items allows: a round of a leaf is one name of its set; of a sequence its items' words in order;
-- of a choice one item's word, and an empty choice has no round; of an all-group its items' words in any order, each unbroken
abbrev pub words_from : Names → Head → List Words → Words
words_from names (element l p) Ws = Rounds p (Name (names l))
words_from names (wildcard l p) Ws = Rounds p (Name (names l))
words_from names (sequence p) Ws = Rounds p (InOrder Ws)
words_from names (choice p) Ws = Rounds p (OneOf Ws)
words_from names (all p) Ws = Rounds p (AnyOrder Ws)

-- what a tree allows, the leaves having these names
unfoldable pub Allows : Names → Particle → Words
Allows names x = words_from names x.head (fold (words_from names) x.items)

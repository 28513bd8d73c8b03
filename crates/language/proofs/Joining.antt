-- Sets that hold the empty word and every join of their words: what is made of words of such a set is a word of it. Assumes nothing.
use mathlib.Core.List.{List, [], ◌∷◌, ◌++◌}
use mathlib.Core.Logic.{inl, inr}
use mathlib.Core.Path.{refl, sym, subst}
use Prim.Native.Nat.{ℕ, zero, suc, ◌+◌}
use native.Mathlib.Omega.{arith}
use lib.ListN.{length}
use Rattle.particle.specs.declared.MaxOccurs.TheVariants.{Unbounded}
use Rattle.particle.specs.declared.Occurs.{Occurs}
use Rattle.language.specs.Language.{Words, Followed, InOrder, OneOf, Inserted, here, later, Blocks, joined, AnyOrder, Rounds, Name}
use Rattle.language.proofs.Words.{◌⊆◌, followed_mono}
use Rattle.language.proofs.Rounds.{Many, many_append, no_round}

pub record Closed (X : List ℕ → Type 0) : Type 0 where
  pub empty : X []
  pub join : (u v : List ℕ) → X u → X v → X (u ++ v)

-- each of the sets is within X
abbrev pub AllWithin : List Words → Words → Type 0
AllWithin [] X = Unit {0}
AllWithin (W ∷ Ws) X = (W ⊆ X) × AllWithin Ws X

pub one_of_within : (Ws : List Words) (X : Words) → AllWithin Ws X → OneOf Ws ⊆ X
one_of_within [] X _ w none = elim none [ ]
one_of_within (W ∷ Ws) X (f, fs) w (inl x) = f w x
one_of_within (W ∷ Ws) X (f, fs) w (inr x) = one_of_within Ws X fs w x

-- one word of each of n sets is n words of X
pub in_order_many : (Ws : List Words) (X : Words) → AllWithin Ws X → InOrder Ws ⊆ Many (length Ws) X
in_order_many [] X fs w p = p
in_order_many (W ∷ Ws) X (f, fs) w p = followed_mono f (in_order_many Ws X fs) w p

module _ {X : Words} (C : Closed X) where
  followed_within : {W Y : Words} → W ⊆ X → Y ⊆ X → Followed W Y ⊆ X
  followed_within f g w p = subst X (sym p.whole) (C.join p.front p.back (f p.front p.left) (g p.back p.right))

  pub in_order_within : (Ws : List Words) → AllWithin Ws X → InOrder Ws ⊆ X
  in_order_within [] fs w p = subst X (sym p) C.empty
  in_order_within (W ∷ Ws) (f, fs) w p = followed_within f (in_order_within Ws fs) w p

  many_within : (n : ℕ) {W : Words} → W ⊆ X → Many n W ⊆ X
  many_within zero f w p = subst X (sym p) C.empty
  many_within (suc n) f w p = followed_within f (many_within n f) w p

  pub rounds_within : {p : Occurs} {W : Words} → W ⊆ X → Rounds p W ⊆ X
  rounds_within f w r = many_within r.number f w r.rounds

  abbrev EachBlock : List (List ℕ) → Type 0
  EachBlock [] = Unit {0}
  EachBlock (u ∷ us) = X u × EachBlock us

  insert_block : {u : List ℕ} {r s : List (List ℕ)} → Inserted u r s → X u → EachBlock r → EachBlock s
  insert_block here x xs = (x, xs)
  insert_block (later i) x (y, ys) = (y, insert_block i x ys)

  blocks_within : (Ws : List Words) → AllWithin Ws X → (bs : List (List ℕ)) → Blocks Ws bs → EachBlock bs
  blocks_within [] fs bs p = subst EachBlock (sym p) tt
  blocks_within (W ∷ Ws) (f, fs) bs (u, others, i, x, rest) = insert_block i (f u x) (blocks_within Ws fs others rest)

  joined_within : (bs : List (List ℕ)) → EachBlock bs → X (joined bs)
  joined_within [] xs = C.empty
  joined_within (u ∷ us) (x, xs) = C.join u (joined us) x (joined_within us xs)

  pub any_order_within : (Ws : List Words) → AllWithin Ws X → AnyOrder Ws ⊆ X
  any_order_within Ws fs w (bs, e, b) = subst X (sym e) (joined_within bs (blocks_within Ws fs bs b))

-- any number of names of a set
pub names_closed : (S : ℕ → Type 0) → Closed (Rounds (record { min = 0; max = Unbounded }) (Name S))
names_closed S = record {
  empty = no_round refl;
  join = λ u v p q. record { number = p.number + q.number; least = omega arith; most = tt; rounds = many_append p.number q.number (Name S) u v p.rounds q.rounds };
}

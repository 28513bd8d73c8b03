-- Sets of words: when one is within another, when two are equal, and words of several sets one after another, of one of them, or in any order. Assumes nothing.
use mathlib.Core.List.{List, [], ◌∷◌, ◌++◌, append-nil, append_assoc}
use mathlib.Core.Logic.{◌⊎◌, inl, inr, ⊎_elim, ◌↔◌}
use mathlib.Core.Path.{refl, ap, sym, ◌∙◌, subst}
use Prim.Native.Nat.{ℕ}
use Rattle.language.specs.Language.{Words, Followed, InOrder, OneOf, Inserted, here, later}

infix 20 ◌⊆◌
-- every word of W is one of X
abbrev pub ◌⊆◌ : Words → Words → Type 0
W ⊆ X = (w : List ℕ) → W w → X w

infix 20 ◌≐◌
-- W and X have the same words
abbrev pub ◌≐◌ : Words → Words → Type 0
W ≐ X = (w : List ℕ) → W w ↔ X w

pub same : (W : Words) → W ≐ W
same W w = (λ x. x, λ x. x)

pub turned : {W X : Words} → W ≐ X → X ≐ W
turned e w = ((e w).1, (e w).0)

infixr 30 ◌⟫◌
pub ◌⟫◌ : {W X Y : Words} → W ≐ X → X ≐ Y → W ≐ Y
◌⟫◌ e f w = (λ x. (f w).0 ((e w).0 x), λ y. (e w).1 ((f w).1 y))

-- One after another ------------------------------------------------------------

pub followed_mono : {W W' X X' : Words} → W ⊆ W' → X ⊆ X' → Followed W X ⊆ Followed W' X'
followed_mono f g w r = record { front = r.front; back = r.back; whole = r.whole; left = f r.front r.left; right = g r.back r.right }

pub followed_same : {W W' X X' : Words} → W ≐ W' → X ≐ X' → Followed W X ≐ Followed W' X'
followed_same e f w = (followed_mono (λ u. (e u).0) (λ u. (f u).0) w, followed_mono (λ u. (e u).1) (λ u. (f u).1) w)

pub in_order_append : (Ws Xs : List Words) (u v : List ℕ) → InOrder Ws u → InOrder Xs v → InOrder (Ws ++ Xs) (u ++ v)
in_order_append [] Xs u v p q = rw p q
in_order_append (W ∷ Ws) Xs u v p q = record {
  front = p.front;
  back = p.back ++ v;
  whole = ap (λ (u : List ℕ). u ++ v) p.whole ∙ append_assoc p.front p.back v;
  left = p.left;
  right = in_order_append Ws Xs p.back v p.right q;
}

in_order_split : (Ws Xs : List Words) → InOrder (Ws ++ Xs) ⊆ Followed (InOrder Ws) (InOrder Xs)
in_order_split [] Xs w p = record { front = []; back = w; whole = refl; left = refl; right = p }
in_order_split (W ∷ Ws) Xs w p =
    let s = in_order_split Ws Xs p.back p.right in
    record {
      front = p.front ++ s.front;
      back = s.back;
      whole = p.whole ∙ (ap (λ (u : List ℕ). p.front ++ u) s.whole ∙ sym (append_assoc p.front s.front s.back));
      left = record { front = p.front; back = s.front; whole = refl; left = p.left; right = s.left };
      right = s.right;
    }

pub in_order_joined : (Ws Xs : List Words) → InOrder (Ws ++ Xs) ≐ Followed (InOrder Ws) (InOrder Xs)
in_order_joined Ws Xs w = (in_order_split Ws Xs w, λ p. rw p.whole (in_order_append Ws Xs p.front p.back p.left p.right))

pub in_order_one : {W : Words} → InOrder (W ∷ []) ≐ W
in_order_one {W} w = (
  λ p. subst W (sym (p.whole ∙ (ap (λ (v : List ℕ). p.front ++ v) p.right ∙ append-nil p.front))) p.left,
  λ x. record { front = w; back = []; whole = sym (append-nil w); left = x; right = refl },
)

-- One of several -----------------------------------------------------------------

pub or_same : {W W' X X' : Words} → W ≐ W' → X ≐ X' → (λ w. W w ⊎ X w) ≐ (λ w. W' w ⊎ X' w)
or_same e f w = (⊎_elim (λ x. inl ((e w).0 x)) (λ x. inr ((f w).0 x)), ⊎_elim (λ x. inl ((e w).1 x)) (λ x. inr ((f w).1 x)))

pub one_of_joined : (Ws Xs : List Words) → OneOf (Ws ++ Xs) ≐ (λ w. OneOf Ws w ⊎ OneOf Xs w)
one_of_joined [] Xs w = (inr, ⊎_elim (λ x. absurd x) (λ x. x))
one_of_joined (W ∷ Ws) Xs w =
    let e = one_of_joined Ws Xs w in (
      ⊎_elim (λ x. inl (inl x)) (λ y. ⊎_elim (λ x. inl (inr x)) inr (e.0 y)),
      ⊎_elim (⊎_elim inl (λ x. inr (e.1 (inl x)))) (λ x. inr (e.1 (inr x))),
    )

pub one_of_one : (W : Words) → OneOf (W ∷ []) ≐ W
one_of_one W w = (⊎_elim (λ x. x) (λ x. absurd x), inl)

-- In any order ---------------------------------------------------------------------

-- of two insertions either may come first
pub swap_inserted : {A : Type 0} {x y : A} {r s t : List A} → Inserted x r s → Inserted y s t → (u : List A) × Inserted y r u × Inserted x u t
swap_inserted {y} {r} i here = (y ∷ r, here, later i)
swap_inserted here (later {ys} j) = (ys, j, here)
swap_inserted (later {y = z} i) (later j) =
    let (u, k, l) = swap_inserted i j in
    (z ∷ u, later k, later l)

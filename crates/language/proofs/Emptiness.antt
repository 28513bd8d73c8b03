-- A tree is emptiable where it allows the empty word; where its pairs are in order and it has no empty choice, only there. Assumes nothing.
use mathlib.Core.Bool.{Bool, true, ◌||◌, false≢true}
use mathlib.Core.List.{List, [], ◌∷◌, ◌++◌, nil≢cons}
use mathlib.Core.Logic.{inl, inr, ⊎_elim}
use mathlib.Core.Path.{◌≡◌, refl, ap, sym, ◌∙◌, subst}
use Prim.Native.Nat.{ℕ, zero, suc, ◌≤◌}
use native.Mathlib.Omega.{arith}
use borrow.Author.Tests.{eqb-true, eq-eqb}
use Rattle.particle.specs.declared.MaxOccurs.TheVariants.{Bounded}
use Rattle.particle.specs.declared.Occurs.{Occurs}
use Rattle.particle.specs.Tree.{Head, element, wildcard, sequence, choice, all, Items, none, item, Particle, pair_of, fold}
use Rattle.particle.specs.Empty.{every, some, is_empty, optional, emptiable_from, emptiable}
use Rattle.particle.proofs.Folds.{Matches, ended, next, fold_matches}
use Rattle.particle.proofs.Tests.{and-true, or-true, both_true, left_true, right_true}
use Rattle.language.specs.Language.{Words, InOrder, OneOf, Inserted, here, later, Blocks, joined, AnyOrder, AtMost, Rounds, Name, Names, words_from, Allows}
use Rattle.language.specs.Premises.{Every, Throughout, Ordered, NoEmptyChoice}
use Rattle.language.proofs.Rounds.{Many, no_round, empty_rounds, names_length}
use Rattle.language.proofs.Wider.{wider_from, Wider, wider_same}

-- Emptiable trees allow the empty word --------------------------------------------

abbrev Gives : Words → Bool → Type 0
Gives W e = e ≡ true → W []

every_gives : {Ws : List Words} {es : List Bool} → Matches Gives Ws es → every es ≡ true → InOrder Ws []
every_gives ended t = refl
every_gives (next {b = e} {ys = es} m ms) t =
    let (s, u) = and-true e (every es) t in
    record { front = []; back = []; whole = refl; left = m s; right = every_gives ms u }

some_gives : {Ws : List Words} {es : List Bool} → Matches Gives Ws es → some es ≡ true → OneOf Ws []
some_gives ended t = absurd (false≢true t)
some_gives (next {b = e} {ys = es} m ms) t = ⊎_elim (λ s. inl (m s)) (λ u. inr (some_gives ms u)) (or-true e (some es) t)

blocks_give : {Ws : List Words} {es : List Bool} → Matches Gives Ws es → every es ≡ true → (bs : List (List ℕ)) × ([] ≡ joined bs) × Blocks Ws bs
blocks_give ended t = ([], refl, refl)
blocks_give (next {b = e} {ys = es} m ms) t =
    let (s, u) = and-true e (every es) t in
    let (bs, j, b) = blocks_give ms u in
    ([] ∷ bs, j, ([], bs, here, m s, b))

-- a group of pair p, whose rounds W may be empty where c says so
group_gives : (p : Occurs) (W : Words) (c : Bool) → AtMost p.min p.max → (c ≡ true → W []) → (optional p || c) ≡ true → Rounds p W []
group_gives p W c o f t = ⊎_elim (λ z. no_round (eqb-true p.min 0 z)) (λ u. empty_rounds o (f u)) (or-true (optional p) c t)

module _ (names : Names) where
  -- a record of minimum 0 has no round
  pub optional_wider : (h : Head) (Ws : List Words) → optional (pair_of h) ≡ true → wider_from names h Ws []
  optional_wider (element l p) Ws t = no_round (eqb-true p.min 0 t)
  optional_wider (wildcard l p) Ws t = no_round (eqb-true p.min 0 t)
  optional_wider (sequence p) Ws t = no_round (eqb-true p.min 0 t)
  optional_wider (choice p) Ws t = no_round (eqb-true p.min 0 t)
  optional_wider (all p) Ws t = no_round (eqb-true p.min 0 t)

  -- one of maximum 0 neither, its pair being in order
  pub zero_wider : (h : Head) (Ws : List Words) → AtMost (pair_of h).min (pair_of h).max → (pair_of h).max ≡ Bounded 0 → wider_from names h Ws []
  zero_wider h Ws o e =
      let least : AtMost (pair_of h).min (Bounded 0) = subst (AtMost (pair_of h).min) e o in
      optional_wider h Ws (eq-eqb (pair_of h).min 0 (omega arith))

  -- the words of each item
  abbrev each : Items → List Words
  each k = fold (wider_from names) k

  record_gives : (h : Head) (k : Items) → Ordered h k → Matches Gives (each k) (fold emptiable_from k) → Gives (wider_from names h (each k)) (emptiable_from h (fold emptiable_from k))
  unfolding fold
  record_gives (element l p) k o m = optional_wider (element l p) (each k)
  record_gives (wildcard l p) k o m = optional_wider (wildcard l p) (each k)
  record_gives (sequence p) k o m = group_gives p (InOrder (each k)) (every (fold emptiable_from k)) o (every_gives m)
  record_gives (choice p) none o m = λ t. empty_rounds o refl
  record_gives (choice p) (item h k r) o m = group_gives p (OneOf (each (item h k r))) (some (fold emptiable_from (item h k r))) o (some_gives m)
  record_gives (all p) k o m = group_gives p (AnyOrder (each k)) (every (fold emptiable_from k)) o (blocks_give m)

  items_give : (k : Items) → Every Ordered k → Matches Gives (each k) (fold emptiable_from k)
  unfolding fold
  items_give none os = ended
  items_give (item h k r) ((o, os), os') = next (record_gives h k o (items_give k os)) (items_give r os')

  pub emptiable_wider : (x : Particle) → Throughout Ordered x → emptiable x ≡ true → Wider names x []
  unfolding emptiable Wider
  emptiable_wider x (o, os) = record_gives x.head x.items o (items_give x.items os)

  pub emptiable_allows : (x : Particle) → Throughout Ordered x → Throughout NoEmptyChoice x → emptiable x ≡ true → Allows names x []
  emptiable_allows x os ns t = subst (λ (W : Words). W []) (wider_same names x ns) (emptiable_wider x os t)

-- Trees that allow the empty word are emptiable --------------------------------------

abbrev Tells : Words → Bool → Type 0
Tells W e = W [] → e ≡ true

append_empty : (u v : List ℕ) → [] ≡ u ++ v → (u ≡ []) × ([] ≡ v)
append_empty [] v e = (refl, e)
append_empty (x ∷ u) v e = absurd (nil≢cons e)

every_tells : {Ws : List Words} {es : List Bool} → Matches Tells Ws es → InOrder Ws [] → every es ≡ true
every_tells ended p = refl
every_tells (next {a = W} {b = e} {xs = Ws} {ys = es} m ms) p =
    let (f, g) = append_empty p.front p.back p.whole in
    both_true (m (subst W f p.left)) (every_tells ms (subst (InOrder Ws) (sym g) p.right))

some_tells : {Ws : List Words} {es : List Bool} → Matches Tells Ws es → OneOf Ws [] → some es ≡ true
some_tells ended p = absurd p
some_tells (next {b = e} {ys = es} m ms) (inl x) = left_true e (some es) (m x)
some_tells (next {b = e} {ys = es} m ms) (inr x) = right_true e (some es) (some_tells ms x)

inserted_empty : {u : List ℕ} {r s : List (List ℕ)} → Inserted u r s → [] ≡ joined s → (u ≡ []) × ([] ≡ joined r)
inserted_empty {u} {r} here e = append_empty u (joined r) e
inserted_empty (later {y} {xs} {ys} i) e =
    let (f, g) = append_empty y (joined ys) e in
    let (f', g') = inserted_empty i g in
    (f', g' ∙ ap (λ (z : List ℕ). z ++ joined xs) (sym f))

blocks_tell : {Ws : List Words} {es : List Bool} → Matches Tells Ws es → (bs : List (List ℕ)) → [] ≡ joined bs → Blocks Ws bs → every es ≡ true
blocks_tell ended bs j b = refl
blocks_tell (next {a = W} {b = e} {ys = es} m ms) bs j (u, others, i, x, rest) =
    let (f, g) = inserted_empty i j in
    both_true (m (subst W f x)) (blocks_tell ms others g rest)

rounds_tell : (p : Occurs) (W : Words) (c : Bool) → (W [] → c ≡ true) → Rounds p W [] → (optional p || c) ≡ true
rounds_tell p W c f r = go r.number r.least r.rounds
  where
    go : (n : ℕ) → p.min ≤ n → Many n W [] → (optional p || c) ≡ true
    go zero h q = left_true (optional p) c (eq-eqb p.min 0 (omega arith))
    go (suc n) h q = right_true (optional p) c (f (subst W (append_empty q.front q.back q.whole).0 q.left))

names_tell : (S : ℕ → Type 0) (p : Occurs) → Rounds p (Name S) [] → optional p ≡ true
names_tell S p r = eq-eqb p.min 0 (omega (arith, r.least, names_length S r.number [] r.rounds))

module _ (names : Names) where
  record_tells : (h : Head) (Ws : List Words) (es : List Bool) → Matches Tells Ws es → Tells (words_from names h Ws) (emptiable_from h es)
  record_tells (element l p) Ws es m = names_tell (names l) p
  record_tells (wildcard l p) Ws es m = names_tell (names l) p
  record_tells (sequence p) Ws es m = rounds_tell p (InOrder Ws) (every es) (every_tells m)
  record_tells (choice p) Ws es m = rounds_tell p (OneOf Ws) (is_empty es || some es) (λ x. right_true (is_empty es) (some es) (some_tells m x))
  record_tells (all p) Ws es m = rounds_tell p (AnyOrder Ws) (every es) (λ (bs, j, b). blocks_tell m bs j b)

  pub allows_emptiable : (x : Particle) → Allows names x [] → emptiable x ≡ true
  unfolding Allows emptiable
  allows_emptiable x = record_tells x.head (fold (words_from names) x.items) (fold emptiable_from x.items) (fold_matches Tells (words_from names) emptiable_from record_tells x.items)

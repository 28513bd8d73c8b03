-- Demand 3, second half, for leaves and all-groups: where the element verdict passes, and where the taking of base elements by name passes. Assumes nothing.
use mathlib.Core.Bool.{Bool, true, false}
use mathlib.Core.List.{List, [], ◌∷◌, ◌++◌}
use mathlib.Core.Path.{◌≡◌, refl, ap, sym, ◌∙◌}
use Prim.Native.Nat.{ℕ, zero, suc, ◌<◌}
use lib.Dec.{leb, eqb}
use lib.ListN.{replicate}
use Rattle.particle.specs.declared.Occurs.{Occurs}
use Rattle.particle.specs.Tree.{Head, element, wildcard, sequence, choice, all, Items, none, item, pair_of, fold}
use Rattle.particle.specs.Empty.{optional}
use Rattle.particle.proofs.Tests.{both_true}
use Rattle.language.specs.Language.{Words, InOrder, Inserted, here, later, Blocks, joined, AnyOrder, Rounds, Name, Names, words_from}
use Rattle.language.specs.Premises.{Every}
use Rattle.language.proofs.Words.{◌⊆◌, swap_inserted}
use Rattle.language.proofs.Rounds.{rounds_mono}
use Rattle.language.proofs.Wider.{wider_from}
use Rattle.language.proofs.Emptiness.{optional_wider}
use Rattle.rules.specs.Verdicts.{Mark, passes, fails, Leaves, Tables}
use Rattle.rules.specs.Combine.{◌or_fails◌, ◌and_then◌}
use Rattle.rules.specs.Element.{max_restrict, element_restrict}
use Rattle.rules.specs.Walk.{Found, absent, found, behind, take_named, untaken, recurse_unordered}
use Rattle.rules.specs.Demand.{AllOk, NamesAmong, LeafKnown}
use Rattle.rules.proofs.Passing.{Passes, pass_is, and_passes, guard_passes, skip_passes, max_passes}

-- a leaf is known, of a record
abbrev pub Known : Leaves → Head → Items → Type 0
Known L h k = LeafKnown L h

-- the words of each item; of a base item as the rules take it, where an empty choice has an empty round
abbrev pub each : Names → Items → List Words
each names k = fold (words_from names) k

abbrev pub each_wider : Names → Items → List Words
each_wider names k = fold (wider_from names) k

-- The element that was taken ------------------------------------------------------------------------

-- bs has an element of leaf m and pair q, and beside it the others
data Taken (m : ℕ) (q : Occurs) : (bs others : Items) → Type 0 where
  first : {k r : Items} → Taken m q (item (element m q) k r) r
  next : {h : Head} {k r o : Items} → Taken m q r o → Taken m q (item h k r) (item h k o)

abbrev IsTaken : Items → Found → Type 0
IsTaken bs absent = Unit {0}
IsTaken bs (found m q others) = Taken m q bs others

behind_taken : (h : Head) (k r : Items) (f : Found) → IsTaken r f → IsTaken (item h k r) (behind h k f)
behind_taken h k r absent t = tt
behind_taken h k r (found m q others) t = next t

named_taken : (L : Leaves) (n : ℕ) (bs : Items) → IsTaken bs (take_named L n bs)
unfolding take_named
named_taken L n none = tt
named_taken L n (item (element m q) k r) = go (eqb (L.local_name m) n) (behind_taken (element m q) k r (take_named L n r) (named_taken L n r))
  where
    go : (c : Bool) → IsTaken (item (element m q) k r) (behind (element m q) k (take_named L n r))
        → IsTaken (item (element m q) k r) (elim c as (λ _. Found) [ true ↦ found m q r | false ↦ behind (element m q) k (take_named L n r) ])
    go true t = first
    go false t = t
named_taken L n (item (wildcard m q) k r) = behind_taken (wildcard m q) k r (take_named L n r) (named_taken L n r)
named_taken L n (item (sequence q) k r) = behind_taken (sequence q) k r (take_named L n r) (named_taken L n r)
named_taken L n (item (choice q) k r) = behind_taken (choice q) k r (take_named L n r) (named_taken L n r)
named_taken L n (item (all q) k r) = behind_taken (all q) k r (take_named L n r) (named_taken L n r)

-- what holds of every item holds of the one taken and of the others
taken_every : (P : Head → Items → Type 0) {m : ℕ} {q : Occurs} {bs o : Items} → Taken m q bs o → Every P bs → ((k : Items) × P (element m q) k) × Every P o
taken_every P (first {k}) ((p, ps), rs) = ((k, p), rs)
taken_every P (next t) (ps, rs) =
    let (x, os) = taken_every P t rs in
    (x, (ps, os))

-- Empty blocks behind others ------------------------------------------------------------------------

abbrev blanks : ℕ → List (List ℕ)
blanks n = replicate n []

joined_blanks : (bs : List (List ℕ)) (n : ℕ) → joined (bs ++ blanks n) ≡ joined bs
joined_blanks [] zero = refl
joined_blanks [] (suc n) = joined_blanks [] n
joined_blanks (u ∷ us) n = ap (λ (w : List ℕ). u ++ w) (joined_blanks us n)

inserted_append : {A : Type 0} {x : A} {r s : List A} (t : List A) → Inserted x r s → Inserted x (r ++ t) (s ++ t)
inserted_append t here = here
inserted_append t (later i) = later (inserted_append t i)

-- Words of the derived leaf are words of the base leaf ------------------------------------------------

base_wildcard : (c : Bool) (f s : Mark) → s ≡ passes → AllOk c true f s
base_wildcard true f s e = e
base_wildcard false f s e = e

module _ (L : Leaves) (T : Tables) (derived base : Names) (N : NamesAmong L T derived base) where
  pub wildcard_names : (l m : ℕ) → l < L.count → m < L.count → L.is_wildcard m ≡ true → Passes (T.second l m) → Name (derived l) ⊆ Name (base m)
  wildcard_names l m k k' e s w (x, n, p) = (x, N l m k k' (rw e (base_wildcard (L.is_wildcard l) (T.first l m) (T.second l m) (pass_is (T.second l m) s))) x n, p)

  element_names : (l m : ℕ) → l < L.count → L.is_wildcard l ≡ false → m < L.count → L.is_wildcard m ≡ false → Passes (T.first l m) → Passes (T.second l m) → Name (derived l) ⊆ Name (base m)
  element_names l m k e k' e' f s w (x, n, p) = (x, N l m k k' (rw (e, e') (pass_is (T.first l m) f, pass_is (T.second l m) s)) x n, p)

  pub element_sound : (l : ℕ) (p : Occurs) (m : ℕ) (q : Occurs) → LeafKnown L (element l p) → LeafKnown L (element m q)
      → Passes (element_restrict T l p m q) → Rounds p (Name (derived l)) ⊆ Rounds q (Name (base m))
  element_sound l p m q (k, e) (k', e') t =
      let (f, t₁) = and_passes (T.first l m) (leb q.min p.min or_fails 122 and_then max_restrict p.max q.max and_then T.second l m) t in
      let (lo, t₂) = guard_passes (leb q.min p.min) 122 (max_restrict p.max q.max and_then T.second l m) t₁ in
      let (hi, s) = and_passes (max_restrict p.max q.max) (T.second l m) t₂ in
      rounds_mono (both_true lo (max_passes p.max q.max hi)) (element_names l m k e k' e' f s)

  -- untaken elements give empty blocks
  untaken_blocks : (bs : Items) → Passes (untaken bs) → (n : ℕ) × Blocks (each_wider base bs) (blanks n)
  unfolding untaken fold
  untaken_blocks none t = (0, refl)
  untaken_blocks (item h k r) t =
      let (e, t') = skip_passes (optional (pair_of h)) 109 (untaken r) t in
      let (n, b) = untaken_blocks r t' in
      (suc n, ([], blanks n, here, optional_wider base h (each_wider base k) e, b))

  insert_taken : {m : ℕ} {q : Occurs} {bs o : Items} {u : List ℕ} {r s : List (List ℕ)} → Taken m q bs o → Inserted u r s → Rounds q (Name (base m)) u → Blocks (each_wider base o) r → Blocks (each_wider base bs) s
  unfolding fold
  insert_taken {u} {r} first i x b = (u, r, i, x, b)
  insert_taken (next t) i x (y, r', j, x', b) =
      let (v, i', j') = swap_inserted j i in
      (y, v, j', x', insert_taken t i' x b)

  unordered_blocks : (ds bs : Items) → Every (Known L) ds → Every (Known L) bs → Passes (recurse_unordered L T ds bs)
      → (us : List (List ℕ)) → Blocks (each derived ds) us → (n : ℕ) × Blocks (each_wider base bs) (us ++ blanks n)
  unfolding recurse_unordered fold
  unordered_blocks none bs ks rs t us e =
      let (n, b) = untaken_blocks bs t in
      (n, rw e b)
  unordered_blocks (item (element l p) k r) bs ((K, ks'), ks) rs t us (u, others, i, x, b) =
      go (take_named L (L.local_name l) bs) (named_taken L (L.local_name l) bs) (λ o os t'. unordered_blocks r o ks os t' others b) t
    where
      go : (f : Found) → IsTaken bs f → ((o : Items) → Every (Known L) o → Passes (recurse_unordered L T r o) → (n : ℕ) × Blocks (each_wider base o) (others ++ blanks n))
          → Passes (elim f as (λ _. Mark) [ absent ↦ fails 108 | found m q o ↦ element_restrict T l p m q and_then recurse_unordered L T r o ])
          → (n : ℕ) × Blocks (each_wider base bs) (us ++ blanks n)
      go absent τ ih t = absurd t
      go (found m q o) τ ih t =
          let (v, t') = and_passes (element_restrict T l p m q) (recurse_unordered L T r o) t in
          let ((k', R), os) = taken_every (Known L) τ rs in
          let (n, b') = ih o os t' in
          (n, insert_taken τ (inserted_append (blanks n) i) (element_sound l p m q K R v u x) b')
  unordered_blocks (item (wildcard l p) k r) bs ks rs t us b = absurd t
  unordered_blocks (item (sequence p) k r) bs ks rs t us b = absurd t
  unordered_blocks (item (choice p) k r) bs ks rs t us b = absurd t
  unordered_blocks (item (all p) k r) bs ks rs t us b = absurd t

  pub unordered_sound : (ds bs : Items) → Every (Known L) ds → Every (Known L) bs → Passes (recurse_unordered L T ds bs) → AnyOrder (each derived ds) ⊆ AnyOrder (each_wider base bs)
  unordered_sound ds bs ks rs t w (us, j, b) =
      let (n, b') = unordered_blocks ds bs ks rs t us b in
      (us ++ blanks n, j ∙ sym (joined_blanks us n), b')

-- items in order are items in any order
pub in_order_any : (Ws : List Words) → InOrder Ws ⊆ AnyOrder Ws
in_order_any [] w p = ([], p, refl)
in_order_any (W ∷ Ws) w p =
    let (bs, j, b) = in_order_any Ws p.back p.right in
    (p.front ∷ bs, p.whole ∙ ap (λ (v : List ℕ). p.front ++ v) j, (p.front, bs, here, p.left, b))

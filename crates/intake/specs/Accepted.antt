-- Document 01's conditions on a tree, as a statement about the tree and not about its bytes. Assumes nothing: these are definitions.
use Rattle.std.specs.Prelude.{◌≡◌, Bool, true, false, ℕ, suc, ◌^◌, ◌≤◌, ◌<◌}
use Rattle.particle.specs.declared.MaxOccurs.{MaxOccurs}
use Rattle.particle.specs.declared.MaxOccurs.TheVariants.{Bounded, Unbounded}
use Rattle.particle.specs.Record.{max_records}
use Rattle.particle.specs.Tree.{Head, element, wildcard, sequence, choice, all, Items, none, item, Particle, pair_of, single, size_i}
use Rattle.intake.specs.Limits.{max_depth}
use Rattle.intake.specs.Faults.{Known}

-- a leaf has a known number and no items
abbrev pub LeafFits : Known → Head → Items → Type 0
LeafFits known (element l p) k = (known 0 l ≡ true) × (k ≡ none)
LeafFits known (wildcard l p) k = (known 1 l ≡ true) × (k ≡ none)
LeafFits known (sequence p) k = Unit {0}
LeafFits known (choice p) k = Unit {0}
LeafFits known (all p) k = Unit {0}

-- both numbers have 32 bits, and the minimum is not above a bounded maximum
abbrev pub MaxFits : ℕ → MaxOccurs → Type 0
MaxFits n (Bounded m) = (m < 2 ^ 32) × (n ≤ m)
MaxFits n Unbounded = n < 2 ^ 32

-- an all-group's maximum is 1
abbrev pub AllFits : Head → Type 0
AllFits (element l p) = Unit {0}
AllFits (wildcard l p) = Unit {0}
AllFits (sequence p) = Unit {0}
AllFits (choice p) = Unit {0}
AllFits (all p) = p.max ≡ Bounded 1

-- an item of an all-group is an element
abbrev pub MemberFits : Bool → Head → Type 0
MemberFits false h = Unit {0}
MemberFits true (element l p) = Unit {0}
MemberFits true (wildcard l p) = ⊥
MemberFits true (sequence p) = ⊥
MemberFits true (choice p) = ⊥
MemberFits true (all p) = ⊥

abbrev pub is_all : Head → Bool
is_all (element l p) = false
is_all (wildcard l p) = false
is_all (sequence p) = false
is_all (choice p) = false
is_all (all p) = true

-- one record at this depth, and its items
pub record RecordFits (known : Known) (h : Head) (k : Items) (depth : ℕ) (in_all : Bool) : Type 0 where
  pub leaf : LeafFits known h k
  pub pair : MaxFits (pair_of h).min (pair_of h).max
  pub group : AllFits h
  pub member : MemberFits in_all h
  pub shallow : depth ≤ max_depth

-- each record of the trees, the first ones being at this depth
unfoldable pub TreesFit : Known → Items → ℕ → Bool → Type 0
TreesFit known none depth in_all = Unit {0}
TreesFit known (item h k r) depth in_all = RecordFits known h k depth in_all × TreesFit known k (suc depth) (is_all h) × TreesFit known r depth in_all

-- a tree that meets document 01's conditions: at most `max_records` records, and each record in order
pub record TreeFits (known : Known) (x : Particle) : Type 0 where
  pub few : size_i (single x) ≤ max_records
  pub each : TreesFit known (single x) 1 false

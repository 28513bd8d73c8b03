-- The first refusal of a tree, record by record, with the groups that still await items. Assumes nothing: these are definitions.
use Rattle.std.specs.Prelude.{Bool, false, cond, not, ◌&&◌, ◌||◌, List, [], ◌∷◌, ℕ, suc, pred, ◌*◌, ◌%◌, eqb, ltb, length, get_or, Result, Ok, Err}
use Rattle.particle.specs.declared.Record.{Record}
use Rattle.particle.specs.Record.{record_size, max_records}
use Rattle.particle.specs.Tree.{records}
use Rattle.intake.specs.declared.Fault.{Fault}
use Rattle.intake.specs.declared.Fault.TheVariants.{Counts}
use Rattle.intake.specs.Limits.{max_leaves}
use Rattle.intake.specs.Faults.{Known, fault_of}

-- a group that is being read: how many items it still awaits, and whether it is an all-group
pub record Level : Type 0 where
  pub left : ℕ
  pub all : Bool

abbrev pub level : ℕ → Bool → Level
level n a = record { left = n; all = a }

-- the groups being read, innermost first, from the first that still awaits an item
unfoldable pub waiting : List Level → List Level
waiting [] = []
waiting (l ∷ ls) = cond (eqb l.left 0) (waiting ls) (l ∷ ls)

-- after the last record: items may be missing
abbrev pub ended : List Level → Result (Unit {0}) Fault
ended [] = Ok tt
ended (l ∷ ls) = Err Counts

abbrev pub or_else : Result (Unit {0}) Fault → Result (Unit {0}) Fault → Result (Unit {0}) Fault
or_else (Ok _) next = next
or_else (Err f) next = Err f

-- a record too many; else the record's own first fault; else what follows, where the record's items are awaited
abbrev pub stepped : Known → List Level → Record → (List Level → Result (Unit {0}) Fault) → Result (Unit {0}) Fault
stepped known [] r next = Err Counts
stepped known (l ∷ ls) r next =
    or_else (fault_of known r (suc (length ls)) l.all) (next (level r.count (eqb r.kind 4) ∷ level (pred l.left) l.all ∷ ls))

unfoldable pub scan : Known → List Record → List Level → Result (Unit {0}) Fault
scan known [] st = ended (waiting st)
scan known (r ∷ rs) st = stepped known (waiting st) r (λ st'. scan known rs st')

-- the first refusal of the tree t: no records, too many or a broken last one before any record is read
unfoldable pub refusal_in : Known → List ℕ → Result (Unit {0}) Fault
refusal_in known t =
    cond (eqb (length t) 0 || (ltb (record_size * max_records) (length t) || not (eqb (length t % record_size) 0)))
    (Err Counts)
    (scan known (records t) (level 1 false ∷ []))

-- the leaves of a tree alone: the numbers below `max_leaves`, of either kind
abbrev pub alone : Known
alone kind leaf = ltb leaf max_leaves

-- the leaves of a list of kinds, where 2 stands for either kind
abbrev pub listed : List ℕ → Known
listed kinds kind leaf = ltb leaf (length kinds) && (eqb (get_or kinds leaf 0) 2 || eqb (get_or kinds leaf 0) kind)

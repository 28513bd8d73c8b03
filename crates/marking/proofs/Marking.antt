-- What the functions of the marking owe, from what those that they call answer. Assumes nothing.
use Rattle.std.specs.Prelude.{Ok}
use mathlib.Core.Bool.{Bool, true}
use mathlib.Core.List.{List}
use mathlib.Core.Path.{◌≡◌, ap, ◌∙◌}
use Prim.Native.Nat.{ℕ, ◌≤◌}
use lib.ListN.{length}
use Rattle.particle.specs.declared.Record.{Record}
use Rattle.particle.specs.Occurs.{is_zero}
use Rattle.particle.specs.Record.{record_at, range_of}
use Rattle.particle.specs.Tree.{Particle, pair_of, records, tree}
use Rattle.particle.specs.Encode.{Faithful}
use Rattle.particle.specs.Rows.{Row}
use Rattle.particle.proofs.Laws.{tree_is}
use Rattle.particle.proofs.Heads.{pair_record}
use Rattle.tidying.specs.Tidy.{tidy}
use Rattle.rules.specs.Verdicts.{Mark}
use Rattle.rules.specs.Mark.{mark_tidied, mark}
use Rattle.verdicts.specs.Paper.{leaves_of, tables_of}
use Rattle.entries.specs.Answer.{Answer, gives}
use Rattle.sheet.specs.Layout.{contents_size, leaf_count, leaves_part, tables_part, derived_part, base_part}
use Rattle.sheet.specs.Refused.{contents_ok, sheet_refusal}
use Rattle.sheet.proofs.Contents.{contents}
use Rattle.sheet.proofs.AcceptedSheet.{passed, derived_row, base_row, derived_faithful, base_faithful}
use Rattle.marking.specs.Answer.{mark_of_sheet, mark_sheet}

-- the maximum of a tree's root is that of the record that its bytes start with
pub root_zero : (t : List ℕ) {r : Record} {x : Bool} → Row 1 t → r ≡ record_at t → x ≡ is_zero (range_of r).max → x ≡ is_zero (pair_of (tree t).head).max
root_zero t w e z = rw (tree_is w, pair_record (record_at t)) (rw e at z)

-- the mark of an accepted sheet, from its parts and the tidied trees
pub accepted_mark : (s : List ℕ) {m : Mark} {leaves tables : List ℕ} {n : ℕ} {d b : Particle} {t u : List ℕ}
    → leaves ≡ leaves_part s → tables ≡ tables_part s → n ≡ leaf_count s
    → t ≡ derived_part s → d ≡ tidy (tree t) → u ≡ base_part s → b ≡ tidy (tree u)
    → m ≡ mark_tidied (leaves_of leaves) (tables_of n tables) d b → m ≡ mark_of_sheet s
unfolding mark_of_sheet mark
accepted_mark s l t n td d tb b e = e ∙ rw (l, t, n, d, td, b, tb)

-- an accepted sheet
module _ (s : List ℕ) (a : sheet_refusal s ≡ Ok tt) where
  pub contents_ok_lem : contents_ok s ≡ true
  contents_ok_lem = (passed s a).contents

  pub contents_whole : contents_size ≤ length s
  contents_whole = (contents s contents_ok_lem).start

  -- t is one of its trees
  module _ {t : List ℕ} where
    pub derived_whole : t ≡ derived_part s → Row 1 t
    derived_whole e = rw e (derived_row (passed s a))

    pub derived_exact : t ≡ derived_part s → Faithful (records t)
    derived_exact e = rw e (derived_faithful (passed s a))

    pub base_whole : t ≡ base_part s → Row 1 t
    base_whole e = rw e (base_row (passed s a))

    pub base_exact : t ≡ base_part s → Faithful (records t)
    base_exact e = rw e (base_faithful (passed s a))

-- what marking an accepted sheet answers
pub marked : (s : List ℕ) → sheet_refusal s ≡ Ok tt → {m : Mark} {a : Answer Mark} → m ≡ mark_of_sheet s → a ≡ gives m → a ≡ mark_sheet s
unfolding mark_sheet
marked s e h a = a ∙ rw e (ap gives h)

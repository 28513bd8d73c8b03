-- The joined tree can be the base of a sheet: it is not refused for its base, and is accepted where the rest is in order. Assumes nothing.
use Rattle.std.specs.Prelude.{Result, Ok, Err}
use mathlib.Core.Bool.{Bool, true, false, cond}
use mathlib.Core.List.{List}
use mathlib.Core.Path.{◌≡◌, ap, sym, ◌∙◌}
use Prim.Native.Nat.{ℕ, suc}
use Rattle.particle.specs.Tree.{Head, element, wildcard, sequence, choice, all, Items, none as no_items, item, Particle, single, tree}
use Rattle.particle.specs.Encode.{encode}
use Rattle.particle.proofs.Encoded.{encoded_tree}
use Rattle.language.specs.Premises.{Every, Throughout}
use Rattle.intake.specs.declared.Fault.{Fault}
use Rattle.intake.specs.declared.Refusal.TheVariants.{Contents, Leaf, Verdict, Base, Derived}
use Rattle.intake.specs.Scan.{refusal_in, alone}
use Rattle.intake.specs.Accepted.{LeafFits, is_all, TreesFit, TreeFits}
use Rattle.intake.specs.Faults.{Known}
use Rattle.intake.proofs.FitsAccepted.{fits_accepted}
use Rattle.sheet.specs.Layout.{leaf_list, tables_part, base_part, derived_part}
use Rattle.sheet.specs.Refused.{contents_ok, leaves_ok, verdicts_ok, known_in, or_else, sheet_refusal}
use Rattle.sheet.specs.Fits.{known_by, PaperFits}
use Rattle.sheet.proofs.FitsAccepted as sheets
use Rattle.sheet.proofs.PaperParts.{base_part_lem}
use Rattle.chain.specs.Layout.{levels}
use Rattle.chain.specs.Facts.{Answers, written_bytes, AcceptedIn, JoinedBase, LeafKnown, JoinedBaseKinds, with_base, JoinedSheetAccepted}
use Rattle.chain.proofs.Levels.{accepted_levels}
use Rattle.chain.proofs.Joined.{tree_fits}
use Rattle.chain.proofs.Written.{given, written_is, joined_fits_leaves, joined_accepted}

-- a sheet whose base tree is accepted, by what its other checks find
no_base : (c l v : Bool) (d : Result (Unit {0}) Fault) (f : Fault) → cond c (cond l (cond v (or_else Derived d (Ok tt)) (Err Verdict)) (Err Leaf)) (Err Contents) ≡ Err (Base f) → ⊥
no_base true true true (Ok tt) f e = cc
no_base true true true (Err g) f e = cc
no_base true true false d f e = cc
no_base true false v d f e = cc
no_base false l v d f e = cc

base_passed : (s : List ℕ) → AcceptedIn (known_in s) (base_part s) → (f : Fault) → ¬ (sheet_refusal s ≡ Err (Base f))
unfolding sheet_refusal
base_passed s a f e =
    no_base (contents_ok s) (leaves_ok (leaf_list s)) (verdicts_ok (tables_part s)) (refusal_in (known_in s) (derived_part s)) f (rw a at e)

pub joined_base : JoinedBase
joined_base c out n g s p a = (base_passed s (rw p (joined_fits_leaves c out n g (known_in s) a)), rw p (joined_accepted c out n g).1)

-- Where its leaves have the joined tree's numbers and kinds ----------------------------------

leaf_fits : (known other : Known) (h : Head) (k : Items) → LeafFits other h k → LeafKnown known h k → LeafFits known h k
leaf_fits known other (element l p) k f e = (e, f.1)
leaf_fits known other (wildcard l p) k f e = (e, f.1)
leaf_fits known other (sequence p) k f e = tt
leaf_fits known other (choice p) k f e = tt
leaf_fits known other (all p) k f e = tt

leaves_fit : (known other : Known) (x : Items) (d : ℕ) (a : Bool) → TreesFit other x d a → Every (LeafKnown known) x → TreesFit known x d a
unfolding TreesFit
leaves_fit known other no_items d a f e = tt
leaves_fit known other (item h k r) d a f e = (
  record { leaf = leaf_fits known other h k f.0.leaf e.0.0; pair = f.0.pair; group = f.0.group; member = f.0.member; shallow = f.0.shallow },
  leaves_fit known other k (suc d) (is_all h) f.1 e.0.1,
  leaves_fit known other r d a f.2 e.1,
)

-- a tree that fits some leaves fits all that have its numbers and kinds
pub known_fits : (known other : Known) (x : Particle) → TreeFits other x → Throughout (LeafKnown known) x → TreeFits known x
known_fits known other x f e = record { few = f.few; each = leaves_fit known other (single x) 1 false f.each (e, tt) }

-- the bytes written are those of their tree, which fits all leaves that have its numbers and kinds
written_fits : (c out : List ℕ) (n : ℕ) → Answers c out n → (known : Known) → Throughout (LeafKnown known) (tree (written_bytes c out n))
    → (written_bytes c out n ≡ encode (single (tree (written_bytes c out n)))) × TreeFits known (tree (written_bytes c out n))
written_fits c out n (b, e) known l =
    let (x, g) = given c out n e in
    let w = written_is c out n e g in
    let same : tree (written_bytes c out n) ≡ x = ap tree w ∙ encoded_tree x in
    let f = tree_fits c b alone (accepted_levels (levels c) g.sound.accepted) g.is g.within in
    (w ∙ ap (λ (y : Particle). encode (single y)) (sym same), rw same (known_fits known alone x f (rw same at l)))

pub joined_base_kinds : JoinedBaseKinds
joined_base_kinds c out n g s p l =
    let (w, f) = written_fits c out n g (known_in s) (rw p at l) in
    (base_passed s (ap (refusal_in (known_in s)) (p ∙ w) ∙ fits_accepted (known_in s) (tree (written_bytes c out n)) f), rw p (joined_accepted c out n g).1)

pub joined_sheet_accepted : JoinedSheetAccepted
joined_sheet_accepted c out n g p f l =
    let (w, b) = written_fits c out n g (known_by p.leaves) l in
    let q : PaperFits (with_base p (tree (written_bytes c out n))) = record { some = f.some; few = f.few; leaves = f.leaves; first = f.first; second = f.second; derived = f.derived; base = b } in
    (sheets.fits_accepted (with_base p (tree (written_bytes c out n))) q, base_part_lem (with_base p (tree (written_bytes c out n))) q ∙ sym w)

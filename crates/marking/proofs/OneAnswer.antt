-- What the contract of `mark` says of an answer fixes its case and the values that it holds: the case is found again from the numbers. Assumes nothing.
use mathlib.Core.Bool.{cond, true}
use mathlib.Core.List.{List, [], ◌∷◌}
use mathlib.Core.Path.{◌≡◌, refl, ap, sym, ◌∙◌}
use Prim.Native.Nat.{ℕ}
use lib.Dec.{leb}
use borrow.Author.Tests.{le-leb}
use Rattle.rules.specs.Verdicts.{Mark, passes, undecided, fails}
use Rattle.rules.specs.Shown.{can_show}
use Rattle.intake.proofs.OneRefusal.{numbered, refusal_of, refusal_back}
use Rattle.verdicts.specs.declared.Reason.{Reason}
use Rattle.verdicts.specs.declared.Reason.TheVariants.{ElementWildcardRange, WildcardElement, WildcardRange, WeakerProcessContents, SequenceRange, ChoiceRange, AllRange, NotInAll, MissingFromAll, SequenceRequired, NoAlternative, ChoiceRequired, TotalRange, WildcardGroup, GroupKind, SequenceTotal, MemberAlternative, SequenceAllRange, MemberNotElement, NotAllowed, RequiredMissing, MinBelow, MaxUnbounded, MaxAbove, BaseMayNotOccur, Set}
use Rattle.verdicts.specs.Reasons.{reason_number}
use Rattle.entries.specs.Answer.{Answer, gives, refused}
use Rattle.marking.specs.declared.MarkAnswer.{MarkAnswer}
use Rattle.marking.specs.declared.MarkAnswer.TheVariants.{Passes, Undecided, Fails, Refused}
use Rattle.marking.specs.Answer.{mark_sheet, mark_meaning}
use Rattle.marking.proofs.Shown.{paper_range, sheet_reasons_shown}

-- the reasons of the rules
abbrev rule_reasons : List Reason
rule_reasons =
    ElementWildcardRange ∷ WildcardElement ∷ WildcardRange ∷ WeakerProcessContents ∷ SequenceRange ∷ ChoiceRange
    ∷ AllRange ∷ NotInAll ∷ MissingFromAll ∷ SequenceRequired ∷ NoAlternative ∷ ChoiceRequired
    ∷ TotalRange ∷ WildcardGroup ∷ GroupKind ∷ SequenceTotal ∷ MemberAlternative ∷ SequenceAllRange
    ∷ MemberNotElement ∷ NotAllowed ∷ RequiredMissing ∷ MinBelow ∷ MaxUnbounded ∷ MaxAbove
    ∷ BaseMayNotOccur
    ∷ []

abbrev reason_of : ℕ → Reason
reason_of n = cond (leb 140 n) (Set n) (numbered reason_number MinBelow rule_reasons n)

reason_back : (r : Reason) → can_show (reason_number r) ≡ true → reason_of (reason_number r) ≡ r
unfolding numbered
reason_back ElementWildcardRange e = refl
reason_back WildcardElement e = refl
reason_back WildcardRange e = refl
reason_back WeakerProcessContents e = refl
reason_back SequenceRange e = refl
reason_back ChoiceRange e = refl
reason_back AllRange e = refl
reason_back NotInAll e = refl
reason_back MissingFromAll e = refl
reason_back SequenceRequired e = refl
reason_back NoAlternative e = refl
reason_back ChoiceRequired e = refl
reason_back TotalRange e = refl
reason_back WildcardGroup e = refl
reason_back GroupKind e = refl
reason_back SequenceTotal e = refl
reason_back MemberAlternative e = refl
reason_back SequenceAllRange e = refl
reason_back MemberNotElement e = refl
reason_back NotAllowed e = refl
reason_back RequiredMissing e = refl
reason_back MinBelow e = refl
reason_back MaxUnbounded e = refl
reason_back MaxAbove e = refl
reason_back BaseMayNotOccur e = refl
reason_back (Set n) e =
    let p = paper_range n e in
    rw (le-leb 140 n p.0, le-leb n 152 p.1, le-leb 140 n p.0)

-- the case that stands for this
abbrev case_of : Answer Mark → MarkAnswer
case_of (gives passes) = Passes
case_of (gives undecided) = Undecided
case_of (gives (fails n)) = Fails (reason_of n)
case_of (refused n) = Refused (refusal_of n)

case_back : (s : List ℕ) (r : MarkAnswer) → mark_meaning r ≡ mark_sheet s → case_of (mark_sheet s) ≡ r
case_back s Passes e = ap case_of (sym e)
case_back s Undecided e = ap case_of (sym e)
case_back s (Fails r) e = ap case_of (sym e) ∙ ap Fails (reason_back r (sheet_reasons_shown s (reason_number r) (sym e)))
case_back s (Refused r) e = ap case_of (sym e) ∙ ap Refused (refusal_back r)

pub one_answer : (s : List ℕ) (r q : MarkAnswer) → mark_meaning r ≡ mark_sheet s → mark_meaning q ≡ mark_sheet s → r ≡ q
one_answer s r q e f = sym (case_back s r e) ∙ case_back s q f

-- The number of each reason, document 01's and document 02's, and the mark that a verdict of the code stands for. Assumes nothing: these are definitions.
use Rattle.std.specs.Prelude.{Bool, true, false, ℕ}
use Rattle.rules.specs.Verdicts.{Mark, passes, undecided, fails}
use Rattle.verdicts.specs.declared.Reason.{Reason}
use Rattle.verdicts.specs.declared.Reason.TheVariants.{ElementWildcardRange, WildcardElement, WildcardRange, WeakerProcessContents, SequenceRange, ChoiceRange, AllRange, NotInAll, MissingFromAll, SequenceRequired, NoAlternative, ChoiceRequired, TotalRange, WildcardGroup, GroupKind, SequenceTotal, MemberAlternative, SequenceAllRange, MemberNotElement, NotAllowed, RequiredMissing, MinBelow, MaxUnbounded, MaxAbove, BaseMayNotOccur, Set}
use Rattle.verdicts.specs.declared.Verdict.{Verdict}
use Rattle.verdicts.specs.declared.Verdict.TheVariants.{Ok, Unknown, Violation}
use Rattle.verdicts.specs.Paper.{paper_reason}

-- `Set` stands for the reasons that the paper sets, and for no reason of the rules.
abbrev pub reason_number : Reason → ℕ
reason_number ElementWildcardRange = 101
reason_number WildcardElement = 102
reason_number WildcardRange = 103
reason_number WeakerProcessContents = 104
reason_number SequenceRange = 105
reason_number ChoiceRange = 106
reason_number AllRange = 107
reason_number NotInAll = 108
reason_number MissingFromAll = 109
reason_number SequenceRequired = 110
reason_number NoAlternative = 111
reason_number ChoiceRequired = 112
reason_number TotalRange = 113
reason_number WildcardGroup = 114
reason_number GroupKind = 115
reason_number SequenceTotal = 116
reason_number MemberAlternative = 117
reason_number SequenceAllRange = 118
reason_number MemberNotElement = 119
reason_number NotAllowed = 120
reason_number RequiredMissing = 121
reason_number MinBelow = 122
reason_number MaxUnbounded = 123
reason_number MaxAbove = 124
reason_number BaseMayNotOccur = 125
reason_number (Set n) = paper_reason n

abbrev pub mark_of : Verdict → Mark
mark_of Ok = passes
mark_of Unknown = undecided
mark_of (Violation r) = fails (reason_number r)

-- `definite`: a mark where something undecided was seen before, or not
abbrev pub definite_of : (seen : Bool) → Mark → Mark
definite_of true m = undecided
definite_of false m = m

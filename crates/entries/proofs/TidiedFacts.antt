-- The facts of specs/TidyFacts.antt on the tree that is written: each is the theorem of TidiedKept.antt, wherever a tree is tidied. Assumes nothing.
use Rattle.entries.specs.TidyFacts.{WrittenNoZeroMaximum, WrittenNoOwnKind, WrittenNoLoneItem, WrittenNoLoneChoice, WrittenNoLonger, WrittenNoDeeper, WrittenMaximum, WrittenMinimum, WrittenEmptiable, WrittenAllowsNoMore, KeptAllows, KeptEmptiable, KeptTotal}
use Rattle.entries.proofs.TidiedKept as kept

pub wherever_written_no_zero_maximum : WrittenNoZeroMaximum
wherever_written_no_zero_maximum t out n a = kept.written_no_zero_maximum a

pub wherever_written_no_own_kind : WrittenNoOwnKind
wherever_written_no_own_kind t out n a = kept.written_no_own_kind a

pub wherever_written_no_lone_item : WrittenNoLoneItem
wherever_written_no_lone_item t out n a = kept.written_no_lone_item a

pub wherever_written_no_lone_choice : WrittenNoLoneChoice
wherever_written_no_lone_choice t out n a = kept.written_no_lone_choice a

pub wherever_written_no_longer : WrittenNoLonger
wherever_written_no_longer t out n a = kept.written_no_longer a

pub wherever_written_no_deeper : WrittenNoDeeper
wherever_written_no_deeper t out n a = kept.written_no_deeper a

pub wherever_written_maximum : WrittenMaximum
wherever_written_maximum t out n a = kept.written_maximum a

pub wherever_written_minimum : WrittenMinimum
wherever_written_minimum t out n a = kept.written_minimum a

pub wherever_written_emptiable : WrittenEmptiable
wherever_written_emptiable t out n a = kept.written_emptiable a

pub wherever_written_allows_no_more : WrittenAllowsNoMore
wherever_written_allows_no_more t out n a = kept.written_allows_no_more a

pub wherever_kept_allows : KeptAllows
wherever_kept_allows t out n a = kept.kept_allows a

pub wherever_kept_emptiable : KeptEmptiable
wherever_kept_emptiable t out n a = kept.kept_emptiable a

pub wherever_kept_total : KeptTotal
wherever_kept_total t out n a = kept.kept_total a

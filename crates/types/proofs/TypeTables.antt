-- A table of types is accepted just where each of its rows is in order; then the parents have smaller numbers, each chain ends at row 0 in no more links than the row's number, and the verdict is ok just where document 02 says. Assumes nothing.
use mathlib.Core.Path.{◌≡◌, refl}
use mathlib.Core.Bool.{Bool, true, false}
use mathlib.Core.List.{List, [], ◌∷◌}
use mathlib.Core.Logic.{◌↔◌}
use Prim.Native.Nat.{ℕ, zero, suc, ◌+◌, ◌<◌}
use native.Mathlib.Omega.{arith}
use lib.Dec.{leb}
use lib.ListN.{length, get_or}
use borrow.Author.Tests.{eqb-true, eq-eqb, ltb-true, lt-ltb, leb-true, leb-false, le-leb}
use Rattle.particle.proofs.Tests.{and-true}
use Rattle.types.specs.Derives.{any_type, any_simple_type, parent_of, Ordered}
use Rattle.types.specs.Table.{most_types, row_ok, rows_ok, table_ok, TypeTable}
use Rattle.types.specs.Answer.{type_answer, fill_answer, filled_sheet}
use Rattle.types.specs.Facts.{ChainsEnd, EndsWithin, OkExactly, TableFirst, ByRule}
use Rattle.types.proofs.Steps.{no_parent}
use Rattle.types.proofs.Chains.{chain_ends, derives_iff}
use Rattle.types.proofs.Verdicts.{ok_exactly}

-- The rows one by one ----------------------------------------------------------------

row_later : (row : ℕ) {p : ℕ} → any_simple_type < row → (row_ok row p ≡ true) ↔ (p < row)
row_later zero h = absurd (omega arith)
row_later (suc zero) h = absurd (omega arith)
row_later (suc (suc r)) {p} h = (ltb-true p (suc (suc r)), lt-ltb p (suc (suc r)))

-- the k-th of the rows from this number on
rows_at : (ps : List ℕ) (from k row : ℕ) → row ≡ from + k → rows_ok from ps ≡ true → k < length ps → row_ok row (get_or ps k any_type) ≡ true
unfolding rows_ok
rows_at [] from k row q e h = absurd (omega arith)
rows_at (p ∷ ps) from zero row q e h =
    let z : row ≡ from = omega arith in
    rw z (and-true (row_ok from p) _ e).0
rows_at (p ∷ ps) from (suc k) row q e h = rows_at ps (suc from) k row (omega arith) (and-true (row_ok from p) _ e).1 (omega arith)

rows_back : (ps : List ℕ) (from : ℕ) → ((k row : ℕ) → row ≡ from + k → k < length ps → row_ok row (get_or ps k any_type) ≡ true) → rows_ok from ps ≡ true
unfolding rows_ok
rows_back [] from f = refl
rows_back (p ∷ ps) from f = rw (f 0 from (omega arith) (omega arith), rows_back ps (suc from) (λ k row q h. f (suc k) row (omega arith) (omega arith)))

-- The whole table --------------------------------------------------------------------

module _ (parents : List ℕ) where
  in_order : table_ok parents ≡ true → TypeTable parents
  unfolding table_ok
  in_order e =
      let sizes = and-true (leb 1 (length parents)) _ e in
      let rest = and-true (leb (length parents) most_types) _ sizes.1 in
      let some = leb-true 1 (length parents) sizes.0 in
      record {
        least = some;
        most = leb-true (length parents) most_types rest.0;
        root = eqb-true _ any_type (rows_at parents 0 0 0 (omega arith) rest.1 some);
        simple = λ h. eqb-true _ any_type (rows_at parents 0 1 1 (omega arith) rest.1 h);
        later = λ row l h. (row_later row l).0 (rows_at parents 0 row row (omega arith) rest.1 h);
      }

  each_row : TypeTable parents → (k row : ℕ) → row ≡ 0 + k → k < length parents → row_ok row (get_or parents k any_type) ≡ true
  each_row t k row q h =
      let z : row ≡ k = omega arith in
      rw z (go k h)
    where
      go : (i : ℕ) → i < length parents → row_ok i (parent_of parents i) ≡ true
      go zero g = eq-eqb _ any_type t.root
      go (suc zero) g = eq-eqb _ any_type (t.simple g)
      go (suc (suc i)) g = (row_later (suc (suc i)) (omega arith)).1 (t.later (suc (suc i)) (omega arith) g)

  as_table : TypeTable parents → table_ok parents ≡ true
  unfolding table_ok
  as_table t = rw (le-leb 1 (length parents) t.least, le-leb (length parents) most_types t.most, rows_back parents 0 (each_row t))

  pub table_ok_iff : (table_ok parents ≡ true) ↔ TypeTable parents
  table_ok_iff = (in_order, as_table)

  -- parents have smaller numbers; a number that is no row has parent 0
  falls : TypeTable parents → (row : ℕ) → any_type < row → (out : Bool) → leb (length parents) row ≡ out → parent_of parents row < row
  falls t row h true q = omega (arith, no_parent parents row (leb-true (length parents) row q))
  falls t zero h false q = absurd (omega arith)
  falls t (suc zero) h false q = omega (arith, t.simple (leb-false (length parents) 1 q))
  falls t (suc (suc r)) h false q = t.later (suc (suc r)) (omega arith) (leb-false (length parents) (suc (suc r)) q)

  module _ (e : table_ok parents ≡ true) where
    pub table_ordered : Ordered parents
    table_ordered = record { root = (in_order e).root; falls = λ row h. falls (in_order e) row h (leb (length parents) row) refl }

    pub table_chains_end : ChainsEnd parents
    table_chains_end = chain_ends parents table_ordered

    pub table_ends_within : EndsWithin parents
    table_ends_within t = (derives_iff parents table_ordered t any_type).1 (table_chains_end t)

    pub table_ok_exactly : OkExactly parents
    table_ok_exactly = ok_exactly parents table_ordered

    -- What the entries answer
    pub table_by_rule : ByRule parents
    unfolding type_answer fill_answer
    table_by_rule = (λ d b. rw e, λ s types. rw e)

pub table_first : TableFirst
unfolding type_answer fill_answer filled_sheet
table_first parents e = (λ d b. rw e, λ s types. (rw e, rw e))

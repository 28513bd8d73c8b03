-- What `join` and `effective_particle` owe in each of their cases. Assumes nothing.
use Rattle.std.specs.Prelude.{Result, Ok, Err, is_ok, MatchResult}
use mathlib.Core.Path.{◌≡◌, refl, ap, sym, ◌∙◌}
use mathlib.Core.Bool.{Bool, true, false, not, true≢false}
use mathlib.Core.List.{List, ◌++◌}
use mathlib.Core.Option.{none, some}
use Prim.Native.Nat.{ℕ, ◌+◌, ◌*◌, ◌-◌, ◌^◌, ◌%◌, ◌≤◌, ◌<◌}
use native.Mathlib.Omega.{arith}
use lib.Dec.{ltb}
use lib.ListN.{length, take, drop}
use lib.Seq.{length-take-le}
use borrow.Author.Tests.{lt-ltb, le-ltb}
use borrow.Rule.Slice.Know.{Fit}
use borrow.Table.Referent.{f_int}
use mir.Syntax.{w8, w64}
use mir.Val.{Fits}
use Rattle.particle.specs.Record.{record_size, max_records}
use Rattle.particle.specs.Tree.{Particle, single, size_i, records}
use Rattle.particle.specs.Encode.{encode}
use Rattle.particle.proofs.Records.{length_records}
use Rattle.particle.proofs.EncodeParts.{bytes_from}
use Rattle.particle.proofs.ItemEncodes.{length_encode}
use Rattle.particle.proofs.Tests.{left_true}
use Rattle.intake.specs.declared.Fault.{Fault}
use Rattle.intake.specs.declared.Refusal.{Refusal}
use Rattle.intake.specs.declared.Refusal.TheVariants.{Buffer, Derived, Chain, Limit}
use Rattle.intake.specs.Number.{refusal_number}
use Rattle.entries.specs.Answer.{gives, refused, refusal_alone}
use Rattle.chain.specs.Layout.{counts, sum, trees_part, levels}
use Rattle.chain.specs.Answer.{chain_ok, levels_refusal, joined_tree, over_limits, content_answer, after_levels, chain_answer, chain_buffer}
use Rattle.chain.specs.Nested.{present_in, nested, Nests, Joins, counted, Joining}
use Rattle.chain.proofs.Levels.{trees_length}
use Rattle.chain.proofs.NestStep.{length_nested}
use Rattle.chain.proofs.Joined.{joined_none, joined_some, joins_size, joins_within, joins_refused}
use Rattle.chain.proofs.Answered.{not_chain, of_levels}

-- The answer by the joined tree x -----------------------------------------------------------

module _ (x : Particle) (room : ℕ) where
  over : over_limits x ≡ true → refused (refusal_number Limit) ≡ content_answer (some x) room
  over e = rw e

  short : over_limits x ≡ false → room < record_size * size_i (single x) → refused (refusal_number Buffer) ≡ content_answer (some x) room
  short e l = rw (e, lt-ltb _ _ l)

  given : over_limits x ≡ false → record_size * size_i (single x) ≤ room → {n : ℕ} → n ≡ size_i (single x) → gives (some n) ≡ content_answer (some x) room
  given e l c = rw (e, le-ltb _ _ l, c)

-- a check that found nothing
passed : (r : Result (Unit {0}) Fault) → is_ok r ≡ true → r ≡ Ok tt
passed (Ok _) e = refl
passed (Err f) e = absurd (true≢false (sym e))

-- `join`: k records are in t, and n sequences are nested about it -----------------------------

module _ (t : List ℕ) {k : ℕ} (e : k ≡ length (records t)) (n : ℕ) where
  pub count_fits : n < 256 → length t < 2 ^ 32 → Fits w64 (n + k)
  count_fits l m = omega (arith, e, length_records t)

  size_is : {x : Particle} → Joins n t x → n + k ≡ size_i (single x)
  size_is a = omega (arith, joins_size a, length_records t, e)

  pub too_many : max_records < n + k → (out : List ℕ) → Joining n t out out (Err Limit)
  too_many l out = record {
    answer = λ x a. over x (length out) (left_true (ltb max_records (size_i (single x))) _ (lt-ltb _ _ (rw (size_is a) at l)));
    buffer = λ x a. refl;
  }

  pub nest_room : n + k ≤ max_records → length t % record_size ≡ 0 → record_size * n + length t ≤ record_size * max_records
  nest_room l even = omega (arith, e, length_records t)

  -- up to `end`, the work has the tree, the check found r there, and b is whether that is a fault
  module _ {work : List ℕ} {end : ℕ} (w : Nests n t work end) where
    -- the part of the work that is read, as the borrow checker gives it
    pub work_length : end ≡ length (take end work)
    work_length = sym (length-take-le end work w.within)

    pub work_fits : {room : ℕ} → end ≤ room → length (take end work) ≤ room
    work_fits l = omega (arith, work_length)

    module _ {r : Result (Unit {0}) Fault} (f : r ≡ refusal_alone (take end work)) where
      found : r ≡ refusal_alone (nested n t)
      found = f ∙ ap refusal_alone w.holds

      pub too_deep : {b : Bool} → is_ok r ≡ not b → b ≡ true → (out : List ℕ) → Joining n t out out (Err Limit)
      too_deep g q out = record {
        answer = λ x a. over x (length out) (joins_refused a (λ z. true≢false (sym (ap is_ok (found ∙ z)) ∙ (g ∙ ap not q))));
        buffer = λ x a. refl;
      }

      module _ {b : Bool} (g : is_ok r ≡ not b) (q : b ≡ false) where
        within_limits : {x : Particle} → Joins n t x → over_limits x ≡ false
        within_limits a = joins_within a (sym found ∙ passed r (g ∙ ap not q))

        end_is : {x : Particle} → Joins n t x → end ≡ record_size * size_i (single x)
        end_is {x} a = omega (arith, w.size, length_nested n t, ap length a.bytes, length_encode (single x))

        pub too_short : (out : List ℕ) → length out < end → Joining n t out out (Err Buffer)
        too_short out l = record { answer = λ x a. short x (length out) (within_limits a) (rw (end_is a) at l); buffer = λ x a. refl }

        pub written : (out : List ℕ) → end ≤ length out → {s : List ℕ} → s ≡ take end work → Joining n t out (s ++ drop end out) (Ok (n + k))
        written out l {s} c = record {
          answer = λ x a. given x (length out) (within_limits a) (rw (end_is a) at l) (size_is a);
          buffer = λ x a.
              let e : end ≡ length (encode (single x)) = omega (arith, end_is a, length_encode (single x)) in
              ap (λ (y : List ℕ). y ++ drop end out) (c ∙ (w.holds ∙ sym a.bytes)) ∙ ap (λ (m : ℕ). encode (single x) ++ drop m out) e;
        }

-- `effective_particle` ---------------------------------------------------------------------

module _ (c out : List ℕ) {ok : Bool} (e : ok ≡ chain_ok c) where
  module _ (t : ok ≡ false) where
    failed : chain_ok c ≡ false
    failed = sym e ∙ t

    pub no_chain_lem : refused (refusal_number Chain) ≡ chain_answer c out
    no_chain_lem = sym (not_chain c out failed)

    pub no_chain_kept : out ≡ chain_buffer c out
    unfolding chain_buffer
    no_chain_kept = rw (← no_chain_lem)

  module _ (t : ok ≡ true) where
    pub is_chain : chain_ok c ≡ true
    is_chain = sym e ∙ t

    -- the trees are s, and have so many records
    module _ {s : List ℕ} (u : s ≡ trees_part c) where
      pub trees_even : length s % record_size ≡ 0
      trees_even = omega (arith, ap length u, trees_length c is_chain)

      pub trees_small : {k : ℕ} → k ≡ sum (counts c) → k < 2 ^ 24 → length s < 2 ^ 32
      trees_small d l = omega (arith, ap length u, trees_length c is_chain)

    -- the check of the levels found r
    module _ {r : Result (Unit {0}) Fault} (f : r ≡ levels_refusal (levels c)) where
      after_levels_lem : chain_answer c out ≡ after_levels r (content_answer (joined_tree c) (length out))
      after_levels_lem = of_levels c out is_chain (sym f)

      -- d is what is said of a refusal
      module _ (d : Refusal) (m : MatchResult r (λ x. ◌≡◌ {A = Result (Unit {0}) Refusal} (Err d) (Ok x)) (λ g. d ≡ Derived g)) where
        pub level_refused : refused (refusal_number d) ≡ chain_answer c out
        level_refused = go r refl m
          where
            go : (q : Result (Unit {0}) Fault) → r ≡ q → MatchResult q (λ x. ◌≡◌ {A = Result (Unit {0}) Refusal} (Err d) (Ok x)) (λ g. d ≡ Derived g) → refused (refusal_number d) ≡ chain_answer c out
            go (Ok x) e m = cc
            go (Err g) e m = rw m (sym (after_levels_lem ∙ rw e))

        pub level_refused_kept : out ≡ chain_buffer c out
        unfolding chain_buffer
        level_refused_kept = rw (← level_refused)

      module _ (p : true ≡ is_ok r) where
        accepted : r ≡ Ok tt
        accepted = passed r (sym p)

        content : chain_answer c out ≡ content_answer (joined_tree c) (length out)
        content = after_levels_lem ∙ rw accepted

        -- there are m trees
        module _ {m : ℕ} (o : m ≡ present_in (counts c)) where
          module _ (z : m ≡ 0) where
            pub no_content_lem : gives none ≡ chain_answer c out
            no_content_lem = sym (content ∙ rw (joined_none c (sym o ∙ z)))

            pub no_content_kept : out ≡ chain_buffer c out
            unfolding chain_buffer
            no_content_kept = rw (← no_content_lem)

          module _ (known : Fit (f_int w8) 0 c) (z : m ≡ 0 → ⊥) where
            joined : (x : Particle) × (joined_tree c ≡ some x) × Joins (m - 1) (trees_part c) x
            joined = joined_some c (bytes_from c (λ i. omega (arith, known i))) is_chain (sym f ∙ accepted) (m - 1) (omega (arith, o, z))

            module _ {after : List ℕ} {a : Result ℕ Refusal} {s : List ℕ} (u : s ≡ trees_part c) (v : Joining (m - 1) s out after a) where
              pub joined_answer : counted a ≡ chain_answer c out
              joined_answer = v.answer joined.0 (rw u joined.2) ∙ sym (content ∙ rw joined.1)

              pub joined_buffer : after ≡ chain_buffer c out
              unfolding chain_buffer
              joined_buffer = v.buffer joined.0 (rw u joined.2) ∙ rw (← joined_answer, joined.1)

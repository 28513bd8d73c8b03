-- Bytes to trees and back: decode undoes encode, and encode undoes decode on whole, complete and faithful records. Assumes nothing.
use mathlib.Core.Path.{◌≡◌, refl, ap, sym, ◌∙◌}
use mathlib.Core.List.{List, [], ◌∷◌, ◌++◌, append_assoc, append-nil}
use Prim.Native.Nat.{ℕ, zero, suc, ◌+◌, ◌*◌, ◌/◌, ◌%◌, ◌≤◌, ◌<◌}
use native.Mathlib.Nat.{add-zero}
use native.Mathlib.Numerals.{towards_suc}
use native.Mathlib.Omega.{arith}
use lib.ListN.{length, take, drop, get_or, length-drop}
use lib.Seq.{drop-cons}
use Rattle.particle.specs.declared.MaxOccurs.{MaxOccurs}
use Rattle.particle.specs.declared.MaxOccurs.TheVariants.{Bounded, Unbounded}
use Rattle.particle.specs.declared.Occurs.{Occurs}
use Rattle.particle.specs.declared.Record.{Record}
use Rattle.particle.specs.Record.{record_size, at_count, at_size, at_min, at_max, record_at, record_bytes, half, half_bytes, word, word_bytes, max_of}
use Rattle.particle.specs.Tree.{Head, element, wildcard, sequence, choice, all, Items, none, item, ◌then◌, take_i, drop_i, count_i, head_of, build, records, records_n, decode}
use Rattle.particle.specs.Encode.{mark_number, max_number, record_of, flat, joined, encode, Bytes, Faithful}
use Rattle.particle.specs.Rows.{Complete}
use Rattle.particle.proofs.Records.{records_cons, records_short}
use Rattle.particle.proofs.Trees.{count_i_take}

-- Trees and records ------------------------------------------------------------

max_of_lem : (m : MaxOccurs) → max_of (mark_number m) (max_number m) ≡ m
max_of_lem (Bounded n) = refl
max_of_lem Unbounded = refl

range_of_lem : (p : Occurs) (m : MaxOccurs) → m ≡ p.max → ◌≡◌ {A = Occurs} (record { min = p.min; max = m }) p
range_of_lem p m e = ap (λ (x : MaxOccurs). record { min = p.min; max = x }) e

pub head_record : (h : Head) (n : ℕ) → head_of (record_of h n) ≡ h
head_record (element l p) n = ap (element l) (range_of_lem p _ (max_of_lem p.max))
head_record (wildcard l p) n = ap (wildcard l) (range_of_lem p _ (max_of_lem p.max))
head_record (sequence p) n = ap sequence (range_of_lem p _ (max_of_lem p.max))
head_record (choice p) n = ap choice (range_of_lem p _ (max_of_lem p.max))
head_record (all p) n = ap all (range_of_lem p _ (max_of_lem p.max))

pub take_then : (x y : Items) → take_i (count_i x) (x then y) ≡ x
unfolding take_i count_i ◌then◌
take_then none y = refl
take_then (item h k r) y = ap (item h k) (take_then r y)

pub drop_then : (x y : Items) → drop_i (count_i x) (x then y) ≡ y
unfolding drop_i count_i ◌then◌
drop_then none y = refl
drop_then (item h k r) y = drop_then r y

pub then_none : (x : Items) → x then none ≡ x
unfolding ◌then◌
then_none none = refl
then_none (item h k r) = ap (item h k) (then_none r)

pub build_flat : (x : Items) (rs : List Record) → build (flat x ++ rs) ≡ x then build rs
unfolding flat build ◌then◌
build_flat none rs = refl
build_flat (item h k r) rs =
    let e : build ((flat k ++ flat r) ++ rs) ≡ k then (r then build rs) = ap build (append_assoc (flat k) (flat r) rs) ∙ (build_flat k (flat r ++ rs) ∙ ap (λ (y : Items). k then y) (build_flat r rs)) in
    rw (e, head_record h (count_i k), take_then k (r then build rs), drop_then k (r then build rs))

pub flat_split : (n : ℕ) (x : Items) → flat (take_i n x) ++ flat (drop_i n x) ≡ flat x
unfolding flat take_i drop_i
flat_split zero x = refl
flat_split (suc n) none = refl
flat_split (suc n) (item h k r) = ap (λ (y : List Record). record_of h (count_i k) ∷ y) (append_assoc (flat k) (flat (take_i n r)) (flat (drop_i n r)) ∙ ap (λ (y : List Record). flat k ++ y) (flat_split n r))

pub flat_build : (rs : List Record) → Complete rs → Faithful rs → flat (build rs) ≡ rs
unfolding Complete Faithful build flat
flat_build [] c f = refl
flat_build (r ∷ rs) c f = rw (count_i_take r.count (build rs) c.0, flat_split r.count (build rs), f.0, flat_build rs c.1 f.1)

-- Records and bytes ------------------------------------------------------------

pub halves : (n : ℕ) → n % 256 + n / 256 * 256 ≡ n
halves n = omega arith

pub quarters : (n : ℕ) → n % 256 + n / 256 % 256 * 256 + n / 65536 % 256 * 65536 + n / 16777216 * 16777216 ≡ n
quarters n = omega arith

pub record_bytes_lem : (r : Record) (t : List ℕ) → record_at (record_bytes r ++ t) ≡ r
record_bytes_lem r t = λ i. record { kind = r.kind; leaf = r.leaf; count = halves r.count i; unbounded = r.unbounded; zero = r.zero; size = halves r.size i; min = quarters r.min i; max = quarters r.max i }

pub records_joined : (rs : List Record) → records (joined rs) ≡ rs
unfolding joined
records_joined [] = records_short [] (omega arith)
records_joined (r ∷ rs) = records_cons (record_bytes r ++ joined rs) (omega arith) ∙ (ap (λ (x : Record). x ∷ records (joined rs)) (record_bytes_lem r (joined rs)) ∙ ap (λ (xs : List Record). r ∷ xs) (records_joined rs))

-- n bytes of t from the i-th on
unfoldable pub from : ℕ → ℕ → List ℕ → List ℕ
from zero i t = []
from (suc n) i t = get_or t i 0 ∷ from n (suc i) t

pub from_drop : (n i : ℕ) (t : List ℕ) → i + n ≤ length t → from n i t ++ drop (i + n) t ≡ drop i t
unfolding from
from_drop zero i t h = rw (add-zero i)
from_drop (suc n) i t h =
    let h₁ : suc i + n ≤ length t = omega arith in
    let e : i + suc n ≡ suc i + n = omega arith in
    rw (e, from_drop n (suc i) t h₁) (sym (drop-cons t i 0 (omega arith)))

-- the bytes of the number that two bytes are, and four
pub half_bytes_lem : (a b : ℕ) → a < 256 → half_bytes (a + b * 256) ≡ a ∷ b ∷ []
half_bytes_lem a b h =
    let low : (a + b * 256) % 256 ≡ a = omega arith in
    let high : (a + b * 256) / 256 ≡ b = omega arith in
    rw (low, high)

pub word_bytes_lem : (a b c d : ℕ) → a < 256 → b < 256 → c < 256 → word_bytes (a + b * 256 + c * 65536 + d * 16777216) ≡ a ∷ b ∷ c ∷ d ∷ []
word_bytes_lem a b c d ha hb hc =
    let n : ℕ = a + b * 256 + c * 65536 + d * 16777216 in
    let q₁ : n / 256 ≡ b + 256 * (c + 256 * d) = omega arith in
    let q₂ : n / 65536 ≡ c + 256 * d = omega arith in
    let e₀ : n % 256 ≡ a = omega arith in
    let e₁ : n / 256 % 256 ≡ b = rw q₁ (omega arith) in
    let e₂ : n / 65536 % 256 ≡ c = rw q₂ (omega arith) in
    let e₃ : n / 16777216 ≡ d = omega arith in
    rw (e₀, e₁, e₂, e₃)

pub byte_at : (t : List ℕ) → Bytes t → (i : ℕ) → get_or t i 0 < 256
unfolding Bytes
byte_at [] b i = omega arith
byte_at (x ∷ t) b zero = b.0
byte_at (x ∷ t) b (suc i) = byte_at t b.1 i

pub bytes_drop : (k : ℕ) (t : List ℕ) → Bytes t → Bytes (drop k t)
unfolding Bytes
bytes_drop zero t b = b
bytes_drop (suc k) [] b = b
bytes_drop (suc k) (x ∷ t) b = bytes_drop k t b.1

pub bytes_take : (k : ℕ) (t : List ℕ) → Bytes t → Bytes (take k t)
unfolding Bytes
bytes_take zero t b = tt
bytes_take (suc k) [] b = b
bytes_take (suc k) (x ∷ t) b = (b.0, bytes_take k t b.1)

-- and of the number at byte i
pub half_from : (t : List ℕ) → Bytes t → (i : ℕ) → half_bytes (half t i) ≡ from 2 i t
unfolding from
half_from t b i = half_bytes_lem (get_or t i 0) (get_or t (i + 1) 0) (byte_at t b i) ∙ simp towards_suc

pub word_from : (t : List ℕ) → Bytes t → (i : ℕ) → word_bytes (word t i) ≡ from 4 i t
unfolding from
word_from t b i = word_bytes_lem (get_or t i 0) (get_or t (i + 1) 0) (get_or t (i + 2) 0) (get_or t (i + 3) 0) (byte_at t b i) (byte_at t b (i + 1)) (byte_at t b (i + 2)) ∙ simp towards_suc

first_bytes : (t : List ℕ) → Bytes t → record_size ≤ length t → record_bytes (record_at t) ++ drop record_size t ≡ t
unfolding from
first_bytes t b h =
    (λ i. (record_at t).kind ∷ (record_at t).leaf ∷ ((half_from t b at_count i ++ ((record_at t).unbounded ∷ (record_at t).zero ∷ (half_from t b at_size i ++ (word_from t b at_min i ++ word_from t b at_max i)))) ++ drop record_size t))
    ∙ from_drop record_size 0 t h

joined_from : (n : ℕ) (t : List ℕ) → Bytes t → length t ≡ record_size * n → joined (records_n n t) ≡ t
unfolding joined records_n
joined_from zero [] b e = refl
joined_from zero (x ∷ t) b e = absurd (omega arith)
joined_from (suc n) t b e =
    let l : record_size ≤ length t = omega arith in
    let e₁ : length (drop record_size t) ≡ record_size * n = omega (arith, length-drop record_size t) in
    ap (λ (x : List ℕ). record_bytes (record_at t) ++ x) (joined_from n (drop record_size t) (bytes_drop record_size t b) e₁) ∙ first_bytes t b l

pub joined_records : (t : List ℕ) → Bytes t → length t % record_size ≡ 0 → joined (records t) ≡ t
unfolding records
joined_records t b e = joined_from (length t / record_size) t b (omega arith)

-- Both together ----------------------------------------------------------------

pub decode_encode : (x : Items) → decode (encode x) ≡ x
unfolding decode encode build
decode_encode x = ap build (records_joined (flat x) ∙ sym (append-nil (flat x))) ∙ (build_flat x [] ∙ then_none x)

-- whole records, each with its items, in which no field holds more than the tree says
pub encode_decode : (t : List ℕ) → Bytes t → length t % record_size ≡ 0 → Complete (records t) → Faithful (records t) → encode (decode t) ≡ t
unfolding decode encode
encode_decode t b e c f = ap joined (flat_build (records t) c f) ∙ joined_records t b e

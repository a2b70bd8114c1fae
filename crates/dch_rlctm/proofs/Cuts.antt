-- Units that are cut from one row of bits.
use Rattle.std.proofs.Common.{◌≡◌, ◌≢◌, ◌+◌, ◌-◌, ◌*◌, ◌<◌, ◌≤◌, ℕ, zero, suc, List, [], ◌∷◌, ◌++◌, All, Option, Some, true, false, length, take, drop, min, slice_get, arith, refl, sym, ap, ap₂, ◌∙◌, length-append, length-drop}
use Rattle.std.specs.Prelude.{◌==◌, not}
use Rattle.std.specs.List.{list_any, prefix_len}
use Rattle.std.specs.Option.{option_eq}
use Rattle.std.proofs.lemmas.Bool.{eq-eqb, lt-ltb, le-ltb}
use Rattle.std.proofs.lemmas.Bool.Decides.{nat_tests}
use Rattle.std.proofs.lemmas.List.{take_all, take-append-le, drop-append-le, length-take-le}
use Rattle.std.proofs.lemmas.List.Elements.{All-append}
use Rattle.dch_bits.specs.declared.bit.Bit.{Bit}
use Rattle.dch_bits.specs.declared.offer.Offer.TheVariants.{Accepted, Full}
use Rattle.dch_rlctm.specs.Waiting.{cut, front_of, is_size, total, IsStored, Waiting, answer_of}

total-push : (ns : List ℕ) (n : ℕ) → total (ns ++ n ∷ []) ≡ total ns + n
total-push [] n = omega arith
total-push (m ∷ ns) n = omega (arith, total-push ns n)

-- a unit more at the end
pub cut-push : (ns : List ℕ) (n : ℕ) (bits unit : List Bit) → length bits ≡ total ns → length unit ≡ n → cut (ns ++ n ∷ []) (bits ++ unit) ≡ cut ns bits ++ unit ∷ []
cut-push [] n [] unit whole size = ap (λ xs. xs ∷ []) (take_all n unit (omega arith))
cut-push [] n (b ∷ bits) unit whole size = absurd (omega arith)
cut-push (m ∷ ns) n bits unit whole size =
    let within : m ≤ length bits = omega arith in
    let rest : length (drop m bits) ≡ total ns = length-drop m bits ∙ omega arith in
    ap₂ (λ xs ys. xs ∷ ys) (take-append-le m bits unit within) (ap (cut (ns ++ n ∷ [])) (drop-append-le m bits unit within) ∙ cut-push ns n (drop m bits) unit rest size)

one : (n most : ℕ) → n ≤ most → All (λ m. m ≤ most) (n ∷ [])
one n most small zero d below = small
one n most small (suc k) d below = absurd (omega arith)

pub stored-push : (ns : List ℕ) (n most : ℕ) (bits unit : List Bit) → IsStored ns bits most → length unit ≡ n → n ≤ most → IsStored (ns ++ n ∷ []) (bits ++ unit) most
stored-push ns n most bits unit stored size small = record {
  whole = length-append bits unit ∙ (ap₂ (λ a b. a + b) stored.whole size ∙ sym (total-push ns n));
  small = All-append (λ m. m ≤ most) ns (n ∷ []) stored.small (one n most small);
}

tail : (n : ℕ) (ns : List ℕ) (most : ℕ) → All (λ m. m ≤ most) (n ∷ ns) → All (λ m. m ≤ most) ns
tail n ns most small = λ k d below. small (suc k) d (omega arith)

total_within : (ns : List ℕ) (most : ℕ) → All (λ m. m ≤ most) ns → total ns ≤ length ns * most
total_within [] most small = omega arith
total_within (m ∷ ns) most small = omega (arith, small 0 0 (omega arith), total_within ns most (tail m ns most small))

-- there is room for a unit where one more may wait
pub room : (ns : List ℕ) (most count n : ℕ) (bits : List Bit) → IsStored ns bits most → length ns < count → n ≤ most → length bits + n ≤ count * most
room ns most count n bits stored few small =
    let units : total ns ≤ length ns * most = total_within ns most stored.small in
    let more : suc (length ns) * most ≤ count * most = grind arith in
    omega (arith, stored.whole)

-- a size among these is within
pub among_within : (ns : List ℕ) (n most : ℕ) → list_any (λ m. m == n) ns ≡ true → All (λ m. m ≤ most) ns → n ≤ most
among_within [] n most some small = absurd (grind arith)
among_within (m ∷ ns) n most some small =
    let here : m ≤ most = small 0 0 (omega arith) in
    let later : list_any (λ m. m == n) ns ≡ true → n ≤ most = λ rest. among_within ns n most rest (tail m ns most small) in
    grind (arith, nat_tests)

-- the first unit is gone
pub stored-rest : (n : ℕ) (ns : List ℕ) (bits : List Bit) (most : ℕ) → IsStored (n ∷ ns) bits most → IsStored ns (drop n bits) most
stored-rest n ns bits most stored = record { whole = length-drop n bits ∙ omega (arith, stored.whole); small = tail n ns most stored.small }

-- how many numbers in front are n
pub alike_some : (ns : List ℕ) (n k : ℕ) → ((j : ℕ) → j < k → slice_get ns j ≡ Some n) → k ≤ prefix_len (λ m. m == n) ns
alike_some ns n zero same = omega arith
alike_some [] n (suc k) same = absurd (cc (same 0 (omega arith)))
alike_some (m ∷ ns) n (suc k) same =
    let first : m ≡ n = cc (same 0 (omega arith)) in
    let rest : k ≤ prefix_len (λ m. m == n) ns = alike_some ns n k (λ j below. same (suc j) (omega arith)) in
    grind (arith, nat_tests)

pub alike_all : (ns : List ℕ) (n k : ℕ) → slice_get ns k ≢ Some n → prefix_len (λ m. m == n) ns ≤ k
alike_all [] n k other = omega arith
alike_all (m ∷ ns) n zero other =
    let differs : m ≢ n = λ same. other (ap Some same) in
    grind (arith, nat_tests)
alike_all (m ∷ ns) n (suc k) other =
    let rest : prefix_len (λ m. m == n) ns ≤ k = alike_all ns n k other in
    grind (arith, nat_tests)

-- the sizes of the units are the sizes that they are cut to
pub alike-cut : (ns : List ℕ) (n : ℕ) (bits : List Bit) → length bits ≡ total ns → prefix_len (λ unit. length unit == n) (cut ns bits) ≡ prefix_len (λ m. m == n) ns
alike-cut [] n bits whole = refl
alike-cut (m ∷ ns) n bits whole =
    let size : length (take m bits) ≡ m = length-take-le m bits (omega arith) in
    let rest : length (drop m bits) ≡ total ns = length-drop m bits ∙ omega arith in
    rw (size, alike-cut ns n (drop m bits) rest) refl

pub length-cut : (ns : List ℕ) (bits : List Bit) → length (cut ns bits) ≡ length ns
length-cut [] bits = refl
length-cut (n ∷ ns) bits = ap suc (length-cut ns (drop n bits))

-- the front of units that are cut
pub front-cut : (ns : List ℕ) (n count : ℕ) (bits : List Bit) → slice_get ns 0 ≡ Some n → length bits ≡ total ns → min 64 (prefix_len (λ m. m == n) ns) ≡ count → front_of (cut ns bits) ≡ (n, count)
front-cut [] n count bits first whole so_many = absurd (cc first)
front-cut (m ∷ ns) n count bits first whole so_many =
    let same : m ≡ n = cc first in
    let size : length (take m bits) ≡ m = length-take-le m bits (omega arith) in
    let alike : prefix_len (λ unit. length unit == n) (cut (m ∷ ns) bits) ≡ prefix_len (λ m. m == n) (m ∷ ns) = alike-cut (m ∷ ns) n bits whole in
    ap₂ (λ a b. (a, b)) (size ∙ same) (ap (λ k. min 64 (prefix_len (λ unit. length unit == k) (cut (m ∷ ns) bits))) (size ∙ same) ∙ (ap (min 64) alike ∙ so_many))

-- a test that fails at the next one
pub stops : (ns : List ℕ) (n k : ℕ) (o : Option ℕ) → o ≡ slice_get ns k → not (option_eq (λ a b. a == b) o (Some n)) ≡ true → slice_get ns k ≢ Some n
stops ns n k o is differs same =
    let here : o ≡ Some n = is ∙ same in
    let equal : (n == n) ≡ true = eq-eqb n n refl in
    absurd (grind (arith, rw here at differs, equal))

pub counted : (ns : List ℕ) (n k : ℕ) → k < 64 → ((j : ℕ) → j < k → slice_get ns j ≡ Some n) → slice_get ns k ≢ Some n → min 64 (prefix_len (λ m. m == n) ns) ≡ k
counted ns n k few same other =
    let low : k ≤ prefix_len (λ m. m == n) ns = alike_some ns n k same in
    let high : prefix_len (λ m. m == n) ns ≤ k = alike_all ns n k other in
    omega arith

pub counted_all : (ns : List ℕ) (n k : ℕ) → 64 ≤ k → ((j : ℕ) → j < k → slice_get ns j ≡ Some n) → min 64 (prefix_len (λ m. m == n) ns) ≡ 64
counted_all ns n k many same =
    let low : k ≤ prefix_len (λ m. m == n) ns = alike_some ns n k same in
    omega arith

-- a unit of a good size is judged by the room
sized : (sizes : List ℕ) (unit : List Bit) → (length unit == 0) ≡ false → list_any (λ size. size == length unit) sizes ≡ true → is_size sizes (length unit) ≡ true
sized sizes unit some among = rw (some, among) refl

pub answer-accepted : (sizes : List ℕ) (unit : List Bit) (w : Waiting) → (length unit == 0) ≡ false → list_any (λ size. size == length unit) sizes ≡ true → length w.units < w.buffer → Accepted ≡ answer_of sizes unit w
answer-accepted sizes unit w some among room = rw (sized sizes unit some among, lt-ltb _ _ room) refl

pub answer-full : (sizes : List ℕ) (unit : List Bit) (w : Waiting) → (length unit == 0) ≡ false → list_any (λ size. size == length unit) sizes ≡ true → w.buffer ≤ length w.units → Full ≡ answer_of sizes unit w
answer-full sizes unit w some among room = rw (sized sizes unit some among, le-ltb _ _ room) refl

-- a unit that is put behind the others
pub record Puts (ns : List ℕ) (bits unit : List Bit) (most count capacity : ℕ) : Type 0 where
  pub stored : IsStored ns bits most
  pub full : capacity ≡ count * most
  pub few : length ns < count
  pub small : length unit ≤ most

pub put-whole : {ns : List ℕ} {bits unit : List Bit} {most count capacity : ℕ} → Puts ns bits unit most count capacity → (written : ℕ) → written ≡ min (length unit) (capacity - length bits) → take written unit ≡ unit
put-whole {ns} {bits} {unit} {most} {count} {capacity} puts written is =
    let fits : length bits + length unit ≤ count * most = room ns most count (length unit) bits puts.stored puts.few puts.small in
    take_all written unit (omega (arith, puts.full))

-- The distance of an index is the sum of the costs at its positions.
use Rattle.std.proofs.Common.{◌≡◌, ◌+◌, ◌-◌, ◌*◌, ◌/◌, ◌%◌, ◌<◌, ◌≤◌, ℕ, zero, suc, List, true, false, length, refl, ap, ap₂, sym, subst, ◌∙◌, arith, get_or, ⊎_elim}
use Rattle.std.specs.Prelude.{◌==◌, bit_xor, nat_lt, Bool, if◌then◌else◌}
use Rattle.std.proofs.lemmas.Bool.{eqb-true}
use Rattle.std.proofs.lemmas.Bool.Decides.{leb_tells}
use Rattle.std.proofs.lemmas.List.{get_or_past}
use Rattle.dch_bits.specs.declared.bit.Bit.{Bit}
use Rattle.dch_bits.specs.declared.bit.Bit.TheVariants.{Zero}
use Rattle.dch_bits.specs.Bits.{bit_of_number, number_of, plus, distance}
use Rattle.dch_tfci.specs.Tfci.{word_bit, period, sent, IsSize, IsNearest}
use Rattle.dch_tfci.specs.Transform.{place, differs, place_cost, cost, place_copies, cell, shown, run, IsStage, IsRoomy, IsPicked}
use Rattle.dch_tfci.proofs.Sums.{run-suc, run-same, run-split, run-shift}
use Rattle.dch_tfci.proofs.Words.{every, every_at, word_bit-lt, word_bit-xor}
use Rattle.dch_tfci.proofs.Distances.{length-sent, sent-at, differ_at, distance-run, number_of-plus, place_period, size_le}
use Rattle.dch_tfci.proofs.Places.{place-lt}
use Rattle.dch_tfci.proofs.Stages.{run-add, cost-opposite}

-- four runs of 32 as one
four_runs : (f : ℕ → ℕ) → run f 0 128 ≡ run (λ i. f i + f (32 + i) + f (64 + i) + f (96 + i)) 0 32
four_runs f =
    let a : run (λ i. f (32 + i)) 0 32 ≡ run f 32 32 = run-shift f 32 0 32 in
    let b : run (λ i. f (64 + i)) 0 32 ≡ run f 64 32 = run-shift f 64 0 32 in
    let c : run (λ i. f (96 + i)) 0 32 ≡ run f 96 32 = run-shift f 96 0 32 in
    let two : run f 0 32 + run (λ i. f (32 + i)) 0 32 ≡ run (λ i. f i + f (32 + i)) 0 32 = run-add f (λ i. f (32 + i)) (λ i. f i + f (32 + i)) 0 32 (λ k low high. refl) in
    let three : run (λ i. f i + f (32 + i)) 0 32 + run (λ i. f (64 + i)) 0 32 ≡ run (λ i. f i + f (32 + i) + f (64 + i)) 0 32 = run-add (λ i. f i + f (32 + i)) (λ i. f (64 + i)) (λ i. f i + f (32 + i) + f (64 + i)) 0 32 (λ k low high. refl) in
    let four : run (λ i. f i + f (32 + i) + f (64 + i)) 0 32 + run (λ i. f (96 + i)) 0 32 ≡ run (λ i. f i + f (32 + i) + f (64 + i) + f (96 + i)) 0 32 = run-add (λ i. f i + f (32 + i) + f (64 + i)) (λ i. f (96 + i)) (λ i. f i + f (32 + i) + f (64 + i) + f (96 + i)) 0 32 (λ k low high. refl) in
    omega (arith, a, b, c, two, three, four, run-split f 0 32 96, run-split f 32 32 64, run-split f 64 32 32)

-- the positions in order are the places in another
front_ok : every (λ i. place (1 + i) == i) 15 ≡ true
front_ok = refl

back_ok : every (λ i. place (17 + i) == 15 + i) 15 ≡ true
back_ok = refl

pub by_positions : (f : ℕ → ℕ) → run f 0 32 ≡ run (λ x. f (place x)) 0 32
by_positions f =
    let g : ℕ → ℕ = λ x. f (place x) in
    let front : run g 1 15 ≡ run f 0 15 = sym (run-shift g 1 0 15) ∙ run-same (λ i. g (1 + i)) f 0 15 (λ i low high. ap f (eqb-true (place (1 + i)) i (every_at (λ i. place (1 + i) == i) 15 i front_ok (omega arith)))) in
    let back : run g 17 15 ≡ run f 15 15 = sym (run-shift g 17 0 15) ∙ run-same (λ i. g (17 + i)) (λ i. f (15 + i)) 0 15 (λ i low high. ap f (eqb-true (place (17 + i)) (15 + i) (every_at (λ i. place (17 + i) == 15 + i) 15 i back_ok (omega arith)))) ∙ run-shift f 15 0 15 in
    omega (
      arith,
      front,
      back,
      run-suc g 0 31,
      run-split g 1 15 16,
      run-suc g 16 15,
      run-split f 0 15 17,
      run-split f 15 15 2,
      run-suc f 30 1,
      run-suc f 31 0,
    )

-- a received bit that differs from the bit of an index
differs-sent : (received : List Bit) (index j i k : ℕ) → IsSize (length received) → i < 32 → 32 * j + i ≡ k → differ_at received (sent index (length received)) k ≡ differs received (word_bit index i) k
differs-sent received index j i k kind inside here =
    let size : ℕ = length received in
    let bit : Bit = get_or received k Zero in
    ⊎_elim
    (λ (within : (nat_lt k size ≡ true) × (k < size)).
    let shows : get_or (sent index size) k Zero ≡ bit_of_number (word_bit index i) = sent-at index size k within.1 ∙ ap (λ n. bit_of_number (word_bit index (n % period size))) (sym here) ∙ ap (λ n. bit_of_number (word_bit index n)) (place_period size j i kind inside (omega (arith, within.1))) in
    ap (λ other. number_of (plus bit other)) shows ∙ number_of-plus bit (word_bit index i) (word_bit-lt index i)
    ∙ sym (ap (λ b. if b then (word_bit index i + number_of bit) % 2 else 0) within.0))
    (λ (past : (nat_lt k size ≡ false) × (size < suc k)).
    let end : size ≤ k = omega (arith, past.1) in
    ap₂ (λ a b. number_of (plus a b)) (get_or_past received k Zero end) (get_or_past (sent index size) k Zero (omega (arith, length-sent index size, end)))
    ∙ sym (ap (λ b. if b then (word_bit index i + number_of bit) % 2 else 0) past.0))
    (leb_tells (suc k) size)

pub distance-cost : (received : List Bit) (index : ℕ) → IsSize (length received) → distance received (sent index (length received)) ≡ run (cost received index) 0 32
distance-cost received index kind =
    let others : List Bit = sent index (length received) in
    distance-run received others 128 (sym (length-sent index (length received))) (size_le (length received) kind)
    ∙ four_runs (differ_at received others)
    ∙ run-same (λ i. differ_at received others i + differ_at received others (32 + i) + differ_at received others (64 + i) + differ_at received others (96 + i)) (λ i. place_cost received (word_bit index i) i) 0 32
    (λ i low high. omega (arith, differs-sent received index 0 i i kind high (omega arith), differs-sent received index 1 i (32 + i) kind high (omega arith), differs-sent received index 2 i (64 + i) kind high (omega arith), differs-sent received index 3 i (96 + i) kind high (omega arith)))
    ∙ by_positions (λ i. place_cost received (word_bit index i) i)

-- each received bit is one copy
abbrev one_copy : ℕ → ℕ → ℕ
one_copy size k = if nat_lt k size then 1 else 0

both_bits : (received : List Bit) (k : ℕ) → differs received 0 k + differs received 1 k ≡ one_copy (length received) k
both_bits received k = by_test (nat_lt k (length received)) (number_of (get_or received k Zero))
  where
    by_test : (b : Bool) (n : ℕ) → (if b then (0 + n) % 2 else 0) + (if b then (1 + n) % 2 else 0) ≡ (if b then 1 else 0)
    by_test true n = omega arith
    by_test false n = refl

all_copies : (size : ℕ) → IsSize size → run (one_copy size) 0 128 ≡ size
all_copies size kind = ⊎_elim (λ (short : size ≡ 30). rw short refl) (λ (long : size ≡ 120). rw long refl) kind

pub copies-size : (received : List Bit) → IsSize (length received) → run (place_copies received) 0 32 ≡ length received
copies-size received kind =
    sym (by_positions (λ i. place_cost received 0 i + place_cost received 1 i))
    ∙ run-same (λ i. place_cost received 0 i + place_cost received 1 i) (λ i. one_copy (length received) i + one_copy (length received) (32 + i) + one_copy (length received) (64 + i) + one_copy (length received) (96 + i)) 0 32
    (λ i low high. omega (arith, both_bits received i, both_bits received (32 + i), both_bits received (64 + i), both_bits received (96 + i)))
    ∙ sym (four_runs (one_copy (length received)))
    ∙ all_copies (length received) kind

-- the sixth basis sequence turns all bits over
sixth_sums : every (λ m. every (λ a. bit_xor (a + 64 * m) 32 == 32 + a + 64 * m) 32) 16 ≡ true
sixth_sums = refl

sixth_column : every (λ x. word_bit 32 (place x) == 1) 32 ≡ true
unfolding word_bit
sixth_column = refl

pub distance-opposite : (received : List Bit) (k m : ℕ) → IsSize (length received) → k < 32 → m < 16 → distance received (sent (32 + k + 64 * m) (length received)) + distance received (sent (k + 64 * m) (length received)) ≡ length received
distance-opposite received k m kind low lane =
    ap₂ (λ x y. x + y) (distance-cost received (32 + k + 64 * m) kind) (distance-cost received (k + 64 * m) kind)
    ∙ run-add (cost received (32 + k + 64 * m)) (cost received (k + 64 * m)) (place_copies received) 0 32 (λ x above below.
    let sum : bit_xor (k + 64 * m) 32 ≡ 32 + k + 64 * m = eqb-true (bit_xor (k + 64 * m) 32) (32 + k + 64 * m) (every_at (λ a. bit_xor (a + 64 * m) 32 == 32 + a + 64 * m) 32 k (every_at (λ m. every (λ a. bit_xor (a + 64 * m) 32 == 32 + a + 64 * m) 32) 16 m sixth_sums lane) low) in
    let column : word_bit 32 (place x) ≡ 1 = eqb-true (word_bit 32 (place x)) 1 (every_at (λ x. word_bit 32 (place x) == 1) 32 x sixth_column below) in
    cost-opposite received (word_bit (k + 64 * m) (place x)) (word_bit (32 + k + 64 * m) (place x)) (place x) (word_bit-lt (k + 64 * m) (place x))
    (ap (λ n. word_bit n (place x)) (sym sum) ∙ word_bit-xor (k + 64 * m) 32 (place x) ∙ ap (λ b. (word_bit (k + 64 * m) (place x) + b) % 2) column))
    ∙ copies-size received kind

-- a table of all distances
abbrev pub IsDistances : List Bit → List (List ℕ) → Type 0
IsDistances received costs = (k m : ℕ) → k < 32 → m < 16 → cell costs k m ≡ distance received (sent (k + 64 * m) (length received))

pub distances-le : (received : List Bit) (costs : List (List ℕ)) (k m : ℕ) → IsSize (length received) → IsDistances received costs → k < 32 → m < 16 → cell costs k m ≤ length received
distances-le received costs k m kind table low lane = omega (arith, table k m low lane, distance-opposite received k m kind low lane)

pub shown-distance : (received : List Bit) (costs : List (List ℕ)) (j m : ℕ) → IsSize (length received) → IsDistances received costs → j < 64 → m < 16 → shown costs (length received) j m ≡ distance received (sent (j + 64 * m) (length received))
shown-distance received costs j m kind table inside lane = ⊎_elim
    (λ (low : (nat_lt j 32 ≡ true) × (j < 32)). ap (λ b. if b then cell costs j m else length received - cell costs (j - 32) m) low.0 ∙ table j m low.1 lane)
    (λ (high : (nat_lt j 32 ≡ false) × (32 < suc j)).
    let k : ℕ = j - 32 in
    let same : 32 + k ≡ j = omega (arith, high.1) in
    ap (λ b. if b then cell costs j m else length received - cell costs k m) high.0
    ∙ subst (λ j. length received - cell costs k m ≡ distance received (sent (j + 64 * m) (length received))) same (omega (arith, table k m (omega (arith, inside)) lane, distance-opposite received k m kind (omega (arith, inside)) lane)))
    (leb_tells (suc j) 32)

-- the place of an index
parts_of : (index : ℕ) → index % 64 + 64 * (index / 64) ≡ index
parts_of index = omega arith

pub picked-nearest : (received : List Bit) (costs : List (List ℕ)) (index away : ℕ) → IsSize (length received) → IsDistances received costs → IsPicked costs (length received) index away → IsNearest received index away
picked-nearest received costs index away kind table picked =
    let exact : away ≡ distance received (sent index (length received)) = picked.exact ∙ at index picked.small in
    record {
      small = picked.small;
      exact = exact;
      least = λ other small. omega (arith, exact, bound other small, picked.small);
      first = λ other small same. omega (arith, exact, bound other small, same);
    }
  where
    at : (other : ℕ) → other < 1024 → shown costs (length received) (other % 64) (other / 64) ≡ distance received (sent other (length received))
    at other small = shown-distance received costs (other % 64) (other / 64) kind table (omega arith) (omega arith) ∙ ap (λ n. distance received (sent n (length received))) (parts_of other)

    bound : (other : ℕ) → other < 1024 → 1024 * away + index ≤ 1024 * distance received (sent other (length received)) + other
    bound other small = omega (arith, at other small, parts_of other, picked.least (other % 64) (other / 64) (omega arith) (omega arith))

-- the rows before the first step
one_or_less : (received : List Bit) (w k : ℕ) → differs received w k ≤ 1
one_or_less received w k = by_test (nat_lt k (length received)) ((w + number_of (get_or received k Zero)) % 2) (omega arith)
  where
    by_test : (b : Bool) (n : ℕ) → n < 2 → (if b then n else 0) ≤ 1
    by_test true n small = omega arith
    by_test false n small = omega arith

copies-le : (received : List Bit) (i : ℕ) → place_cost received 0 i + place_cost received 1 i ≤ 4
copies-le received i = omega (arith, both_bits received i, both_bits received (32 + i), both_bits received (64 + i), both_bits received (96 + i), one_le i, one_le (32 + i), one_le (64 + i), one_le (96 + i))
  where
    one_le : (k : ℕ) → one_copy (length received) k ≤ 1
    one_le k = by_test (nat_lt k (length received))
      where
        by_test : (b : Bool) → (if b then 1 else 0) ≤ 1
        by_test true = omega arith
        by_test false = omega arith

chosen_cost : (received : List Bit) (w i zero_cost one_cost : ℕ) → w < 2 → zero_cost ≡ place_cost received 0 i → one_cost ≡ place_cost received 1 i → (if w == 1 then one_cost else zero_cost) ≡ place_cost received w i
chosen_cost received zero i a b small first second = first
chosen_cost received (suc zero) i a b small first second = second
chosen_cost received (suc (suc w)) i a b small first second = absurd (omega arith)

pub first_stage : (received : List Bit) (zero_costs one_costs : List ℕ) (table : List (List ℕ)) (copies : List ℕ) → ((i : ℕ) → i < 32 → get_or zero_costs i 0 ≡ place_cost received 0 i) → ((i : ℕ) → i < 32 → get_or one_costs i 0 ≡ place_cost received 1 i) → ((x m : ℕ) → x < 32 → m < 16 → cell table x m ≡ (if word_bit (64 * m) (place x) == 1 then get_or one_costs (place x) 0 else get_or zero_costs (place x) 0)) → ((x : ℕ) → x < 32 → get_or copies x 0 ≡ get_or zero_costs (place x) 0 + get_or one_costs (place x) 0) → IsStage received 1 32 table copies × IsRoomy 4 table copies
first_stage received zero_costs one_costs table copies zeros ones cells totals = (
  record {
    cells = λ a u m below inside lane.
        let none : a ≡ 0 = omega arith in
        rw none (
        let here : 0 * 32 + u ≡ u = omega arith in
        let index : 0 + 64 * m ≡ 64 * m = omega arith in
        let start : u * 1 ≡ u = omega arith in
        ap (λ y. cell table y m) here ∙ at u m inside lane ∙ ap (λ n. cost received n u) (sym index) ∙ sym (ap (λ a. run (cost received (0 + 64 * m)) a 1) start ∙ single (cost received (0 + 64 * m)) u)
        );
    totals = λ a u below inside.
        let none : a ≡ 0 = omega arith in
        rw none (
        let here : 0 * 32 + u ≡ u = omega arith in
        let start : u * 1 ≡ u = omega arith in
        ap (λ y. get_or copies y 0) here ∙ total u inside ∙ sym (ap (λ a. run (place_copies received) a 1) start ∙ single (place_copies received) u)
        );
  },
  record {
    cells = λ y m inside lane. omega (arith, at y m inside lane, total y inside, part (word_bit (64 * m) (place y)) (place y) (word_bit-lt (64 * m) (place y)));
    few = λ y inside. omega (arith, total y inside, copies-le received (place y));
  },
)
  where
    single : (f : ℕ → ℕ) (a : ℕ) → run f a 1 ≡ f a
    single f a = omega (arith, run-suc f a 0)

    at : (x m : ℕ) → x < 32 → m < 16 → cell table x m ≡ cost received (64 * m) x
    at x m inside lane = cells x m inside lane ∙ chosen_cost received (word_bit (64 * m) (place x)) (place x) (get_or zero_costs (place x) 0) (get_or one_costs (place x) 0) (word_bit-lt (64 * m) (place x)) (zeros (place x) (place-lt x inside)) (ones (place x) (place-lt x inside))

    total : (x : ℕ) → x < 32 → get_or copies x 0 ≡ place_copies received x
    total x inside = totals x inside ∙ ap₂ (λ a b. a + b) (zeros (place x) (place-lt x inside)) (ones (place x) (place-lt x inside))

    part : (w i : ℕ) → w < 2 → place_cost received w i ≤ place_cost received 0 i + place_cost received 1 i
    part zero i small = omega arith
    part (suc zero) i small = omega arith
    part (suc (suc w)) i small = absurd (omega arith)

-- what five steps make
pub last_stage : (received : List Bit) (table : List (List ℕ)) (copies : List ℕ) → IsSize (length received) → IsStage received 32 1 table copies → IsDistances received table
last_stage received table copies kind stage = λ k m low lane.
    let here : k * 1 + 0 ≡ k = omega arith in
    sym (ap (λ y. cell table y m) here) ∙ stage.cells k 0 m low (omega arith) lane ∙ sym (distance-cost received (k + 64 * m) kind)

-- How many lists pass a test, and the ways in which a sequence goes on.
use Rattle.std.proofs.Common.{◌≡◌, ◌<◌, ◌≤◌, ◌+◌, ◌-◌, ◌*◌, ℕ, zero, suc, Bool, true, false, List, [], ◌∷◌, length, get_or, refl, sym, ap, ◌∙◌, arith, add-one}
use Rattle.std.specs.Prelude.{◌&&◌, if◌then◌else◌}
use Rattle.std.proofs.lemmas.Bool.{and_from, and_parts}
use Rattle.std.proofs.Math.Nat.{mul-le-mul_left}
use Rattle.dch_types.specs.declared.channel.Side.{Side}
use Rattle.dch_types.specs.Limits.{IsSide}
use Rattle.dch_types.specs.Sums.{total}
use Rattle.dch_types.proofs.Sums.{total_none, total_small, total_same}
use Rattle.dch_collision.specs.Sequences.{frames_of}
use Rattle.dch_collision.specs.Steps.{fits, previous_of}
use Rattle.dch_collision.specs.SequenceCounts.{how_many, goes_on, TellsLegal, ways_on, ways_with, legal_count}
use Rattle.dch_collision.proofs.Chains.{chain_legal, legal_chain, few_frames}

-- no list passes a test that none passes
none_pass : (bound count : ℕ) → how_many bound count (λ list. false) ≡ 0
unfolding how_many
none_pass bound zero = refl
none_pass bound (suc count) = total_none (λ c. how_many bound count (λ list. false)) bound (λ c. none_pass bound count)

-- a condition on the test
when_pass : (bound count : ℕ) (condition : Bool) (test : List ℕ → Bool)
    → how_many bound count (λ list. condition && test list) ≡ (if condition then how_many bound count test else 0)
when_pass bound count true test = refl
when_pass bound count false test = none_pass bound count

-- the number of lists of so many numbers below 128
abbrev most : ℕ → ℕ
most zero = 1
most (suc count) = 128 * most count

most_up : (count more : ℕ) → count ≤ more → most count ≤ most more
most_up zero zero order = omega arith
most_up zero (suc more) order = omega (arith, most_up zero more (omega arith))
most_up (suc count) zero order = absurd (omega arith)
most_up (suc count) (suc more) order = omega (arith, most_up count more (omega arith))

few_pass : (bound count : ℕ) (test : List ℕ → Bool) → bound ≤ 128 → how_many bound count test ≤ most count
unfolding how_many
few_pass bound zero test small = one (test [])
  where
    one : (b : Bool) → (if b then 1 else 0) ≤ 1
    one true = omega arith
    one false = omega arith
few_pass bound (suc count) test small =
    let each : total (λ c. how_many bound count (λ rest. test (c ∷ rest))) bound ≤ bound * most count
    = total_small (λ c. how_many bound count (λ rest. test (c ∷ rest))) bound (most count) (λ c. few_pass bound count (λ rest. test (c ∷ rest)) small) in
    omega (arith, each, times bound (most count) small)
  where
    times : (a b : ℕ) → a ≤ 128 → a * b ≤ 128 * b
    times a b order = omega (arith, mul-le-mul_left b order)

-- one way to go on where the TTI is over
pub ways_end : (side : Side) (i f previous : ℕ) → ways_on side i f (frames_of side i) previous ≡ 1
unfolding ways_on how_many goes_on
ways_end side i f previous = let none : frames_of side i - frames_of side i ≡ 0 = omega arith in rw none refl

-- one more radio frame
pub ways_more : (side : Side) (i f n previous : ℕ) → n < frames_of side i
    → ways_on side i f n previous ≡ total (ways_with side i f n previous) (length side.combinations)
unfolding ways_on how_many goes_on
ways_more side i f n previous within =
    let bound : ℕ = length side.combinations in
    let left : ℕ = frames_of side i - (n + 1) in
    let one : frames_of side i - n ≡ suc left = omega arith in
    ap (λ count. how_many bound count (goes_on side i f n previous)) one
    ∙ total_same (λ c. how_many bound left (λ rest. fits side i f n previous c && goes_on side i f (suc n) c rest))
    (λ c. if fits side i f n previous c then how_many bound left (goes_on side i f (n + 1) c) else 0) bound
    (λ c less. when_pass bound left (fits side i f n previous c) (goes_on side i f (suc n) c)
    ∙ ap (λ m. if fits side i f n previous c then how_many bound left (goes_on side i f m c) else 0) (sym (add-one n)))

-- at most 128 to the power of the radio frames that are left
pub ways_few : (side : Side) (i f n previous : ℕ) → IsSide side → i < length side.channels → 1 ≤ n → ways_on side i f n previous ≤ 562949953421312
unfolding ways_on
ways_few side i f n previous good inside later =
    let left : ℕ = frames_of side i - n in
    let few : left ≤ 7 = omega (arith, few_frames side i good inside) in
    omega (arith, few_pass (length side.combinations) left (goes_on side i f n previous) good.few_combinations, most_up left 7 few)

pub count_few : (side : Side) (i f : ℕ) → IsSide side → i < length side.channels → legal_count side i f ≤ 72057594037927936
count_few side i f good inside =
    omega (arith, few_pass (length side.combinations) (frames_of side i) (goes_on side i f 0 0) good.few_combinations, most_up (frames_of side i) 8 (few_frames side i good inside))

pub ways_all : (side : Side) (i f : ℕ) → ways_on side i f 0 0 ≡ legal_count side i f
unfolding ways_on
ways_all side i f = let all : frames_of side i - 0 ≡ frames_of side i = omega arith in ap (λ count. how_many (length side.combinations) count (goes_on side i f 0 0)) all

-- the combination before a radio frame, where one stands before the list
abbrev before : ℕ → List ℕ → ℕ → ℕ
before p list zero = p
before p list (suc k) = get_or list k 0

before_is : (c : ℕ) (rest : List ℕ) (k : ℕ) → before c rest k ≡ get_or (c ∷ rest) k 0
before_is c rest zero = refl
before_is c rest (suc k) = refl

before_none : (list : List ℕ) (k : ℕ) → before 0 list k ≡ previous_of list k
before_none list zero = refl
before_none list (suc k) = refl

-- a sequence goes on legally exactly where each of its combinations fits
goes_at : (side : Side) (i f : ℕ) (list : List ℕ) (n p k : ℕ) → goes_on side i f n p list ≡ true → k < length list
    → fits side i f (k + n) (before p list k) (get_or list k 0) ≡ true
unfolding goes_on
goes_at side i f [] n p k goes within = absurd (omega arith)
goes_at side i f (c ∷ rest) n p zero goes within =
    let same : 0 + n ≡ n = omega arith in
    ap (λ m. fits side i f m p c) same ∙ (and_parts (fits side i f n p c) (goes_on side i f (suc n) c rest) goes).0
goes_at side i f (c ∷ rest) n p (suc k) goes within =
    let same : suc k + n ≡ k + suc n = omega arith in
    ap (λ m. fits side i f m (get_or (c ∷ rest) k 0) (get_or rest k 0)) same
    ∙ ap (λ b. fits side i f (k + suc n) b (get_or rest k 0)) (sym (before_is c rest k))
    ∙ goes_at side i f rest (suc n) c k (and_parts (fits side i f n p c) (goes_on side i f (suc n) c rest) goes).1 (omega arith)

goes_from : (side : Side) (i f : ℕ) (list : List ℕ) (n p : ℕ)
    → ((k : ℕ) → k < length list → fits side i f (k + n) (before p list k) (get_or list k 0) ≡ true) → goes_on side i f n p list ≡ true
unfolding goes_on
goes_from side i f [] n p each = refl
goes_from side i f (c ∷ rest) n p each =
    let same : n ≡ 0 + n = omega arith in
    and_from (fits side i f n p c) (goes_on side i f (suc n) c rest) (ap (λ m. fits side i f m p c) same ∙ each 0 (omega arith))
    (goes_from side i f rest (suc n) c (λ k within.
    let next : k + suc n ≡ suc k + n = omega arith in
    ap (λ m. fits side i f m (before c rest k) (get_or rest k 0)) next
    ∙ ap (λ b. fits side i f (suc k + n) b (get_or rest k 0)) (before_is c rest k)
    ∙ each (suc k) (omega arith)))

pub tells_legal : (side : Side) (i f : ℕ) → IsSide side → TellsLegal side i f
tells_legal side i f good list is = (
  λ goes. chain_legal side i f list good is.whole
      (record {
        there = is.there;
        step = λ n within.
            let same : n ≡ n + 0 = omega arith in
            ap (λ m. fits side i f m (previous_of list n) (get_or list n 0)) same
            ∙ ap (λ b. fits side i f (n + 0) b (get_or list n 0)) (sym (before_none list n))
            ∙ goes_at side i f list 0 0 n goes within;
      }),
  λ legal. goes_from side i f list 0 0 (λ k within.
      let same : k + 0 ≡ k = omega arith in
      ap (λ m. fits side i f m (before 0 list k) (get_or list k 0)) same
      ∙ ap (λ b. fits side i f k b (get_or list k 0)) (before_none list k)
      ∙ (legal_chain side i f list good legal).step k within),
)

-- one more combination that may begin
pub with_fit : (side : Side) (i f n previous c : ℕ) → fits side i f n previous c ≡ true → ways_with side i f n previous c ≡ ways_on side i f (n + 1) c
with_fit side i f n previous c fit = rw fit refl

pub with_none : (side : Side) (i f n previous c : ℕ) → fits side i f n previous c ≡ false → ways_with side i f n previous c ≡ 0
with_none side i f n previous c misfit = rw misfit refl

-- The least distance: the code is linear, so it is what a walk costs at least that leaves state zero.
use Rattle.std.proofs.Common.{◌≡◌, ◌≢◌, ◌+◌, ◌-◌, ◌*◌, ◌<◌, ◌≤◌, ◌⊎◌, ℕ, zero, suc, List, [], ◌∷◌, ◌++◌, Bool, true, false, length, get_or, take, drop, arith, refl, ap, sym, subst, ◌∙◌, inl, inr, ⊎_elim}
use Rattle.std.specs.Prelude.{replicate, min}
use Rattle.std.proofs.lemmas.Bool.{cases_lt}
use Rattle.std.proofs.lemmas.List.{length-take-le, length-drop, take-append-drop, get_or-drop, length-replicate}
use Rattle.std.proofs.lemmas.Bool.Decides.{nat_tests}
use Rattle.dch_bits.specs.declared.bit.Bit.{Bit}
use Rattle.dch_bits.specs.declared.bit.Bit.TheVariants.{Zero, One}
use Rattle.dch_bits.specs.declared.bit.Vote.{Vote}
use Rattle.dch_bits.specs.Bits.{number_of, plus}
use Rattle.dch_coding.specs.declared.rate.Rate.{Rate}
use Rattle.dch_coding.specs.declared.rate.Rate.TheVariants.{Half, Third}
use Rattle.dch_coding.specs.Conv.{coded_length, encoded}
use Rattle.dch_coding.proofs.Codes.{length-encoded}
use Rattle.dch_coding.proofs.Linear.{sum, length-sum, get_or-sum, encoded-sum, sum-same, sum-zeros}
use Rattle.dch_trellis.specs.Distance.{copies_between, copies_at, AreOfZeros, AreToldApart, IsLeastDistance}
use Rattle.dch_trellis.specs.Nearest.{differing, disagreement, copies, all_copies, IsBlock}
use Rattle.dch_trellis.specs.Windows.{output}
use Rattle.dch_trellis.specs.Search.{BranchMetrics, branch_metric, is_free, path_metric, best, trace, ArePathMetrics}
use Rattle.dch_trellis.specs.Steps.{total, step_vote, IsStep}
use Rattle.dch_trellis.proofs.Ends.{opposite, output-newest}
use Rattle.dch_trellis.proofs.Found.{zero_at, all_zeros, closed_before, closed_after, admits_block, open_within}
use Rattle.dch_trellis.proofs.Least.{Admits, Admits-trace, best-le-path_metric, length-trace, path_metric-trace}
use Rattle.dch_trellis.proofs.Link.{tail, get_or-tail, length-tail, path_metric-disagreement}
use Rattle.dch_trellis.proofs.PathMetrics.{branch_metric-three, three-same, three-opposite}
use Rattle.dch_trellis.proofs.Rows.{costs_room}

-- what inputs cost from the first One on, at step k
abbrev pub away_cost : Rate → List Vote → ℕ → ℕ → ℕ → ℕ
away_cost rate votes size filler k = branch_metric rate votes k 0 One + best (branch_metric rate votes) (is_free size filler) (size + 8 - (k + 1)) (k + 1) 128

-- a number is the least of these costs, from the filler to step k
pub record IsLeastAway (rate : Rate) (votes : List Vote) (size filler k least : ℕ) : Type 0 where
  pub below : (j : ℕ) → filler ≤ j → j < k → least ≤ away_cost rate votes size filler j
  pub here : (j : ℕ) × (filler ≤ j) × (j < k) × (least ≡ away_cost rate votes size filler j)

pub least_first : (rate : Rate) (votes : List Vote) (size filler least : ℕ) → least ≡ away_cost rate votes size filler filler → IsLeastAway rate votes size filler (filler + 1) least
least_first rate votes size filler least same = record {
  below = λ j past before. (let is : filler ≡ j = omega arith in omega (arith, same, ap (away_cost rate votes size filler) is));
  here = (filler, omega arith, omega arith, same);
}

pub least_more : (rate : Rate) (votes : List Vote) (size filler k least cost : ℕ) → filler ≤ k → cost ≡ away_cost rate votes size filler k → IsLeastAway rate votes size filler k least → IsLeastAway rate votes size filler (k + 1) (min least cost)
least_more rate votes size filler k least cost past same before = record {
  below = λ j low high. ⊎_elim
      (λ (early : j < k). omega (arith, before.below j low early))
      (λ (late : k ≤ j). (let is : k ≡ j = omega arith in omega (arith, same, ap (away_cost rate votes size filler) is)))
      (cases_lt j k);
  here = ⊎_elim
      (λ (less : cost < least). (k, past, omega arith, omega (arith, same)))
      (λ (more : least ≤ cost). (before.here.0, before.here.1, omega (arith, before.here.2), omega (arith, before.here.3)))
      (cases_lt cost least);
}

-- the rows hold these costs
pub away-row : (rate : Rate) (votes : List Vote) (size filler k from cost : ℕ) (rows : List (List ℕ)) → k < size → from ≤ 0 → ArePathMetrics rate votes size filler from rows → cost ≡ branch_metric rate votes k 0 One + get_or (get_or rows (k + 1) []) 128 0 → cost ≡ away_cost rate votes size filler k
away-row rate votes size filler k from cost rows within first path_metrics same = same ∙ ap (λ n. branch_metric rate votes k 0 One + n) (path_metrics.at (k + 1) 128 (omega arith) (omega arith) (omega arith))

pub row_room : (rate : Rate) (votes : List Vote) (size filler k from : ℕ) (rows : List (List ℕ)) → k < size → from ≤ 0 → ArePathMetrics rate votes size filler from rows → length votes ≡ coded_length rate size → get_or (get_or rows (k + 1) []) 128 0 ≤ all_copies votes
row_room rate votes size filler k from rows within first path_metrics sized =
    let step : List Vote = step_vote rate votes k 0 ∷ step_vote rate votes k 1 ∷ step_vote rate votes k 2 ∷ [] in
    let stands : IsStep rate votes k step = record { first = refl; second = refl; third = refl } in
    omega (arith, costs_room rate votes step size filler k 128 from rows stands (omega arith) (omega arith) path_metrics sized (omega arith))

-- zeros cost nothing where all copies are zeros
zero-free : (rate : Rate) (votes : List Vote) (k : ℕ) → AreOfZeros votes → branch_metric rate votes k 0 Zero ≡ 0
unfolding branch_metric output
zero-free Half votes k zeros = omega (arith, zeros (2 * k + 0), zeros (2 * k + 1))
zero-free Third votes k zeros = omega (arith, zeros (3 * k + 0), zeros (3 * k + 1), zeros (3 * k + 2))

-- and the first One costs all copies of its step
pub one-total : (rate : Rate) (votes step : List Vote) (k : ℕ) → AreOfZeros votes → IsStep rate votes k step → branch_metric rate votes k 0 One ≡ total step
one-total rate votes step k zeros stands =
    branch_metric-three rate votes step k 0 One stands
    ∙ three-same rate votes step k (output rate (256 * 1 + 0)) (λ t. opposite (output rate (256 * 0 + 0) t)) stands (λ t within. output-newest rate 0 t (omega arith) within)
    ∙ three-opposite step (output rate (256 * 0 + 0))
    ∙ ap (λ n. total step - n) (sym (branch_metric-three rate votes step k 0 Zero stands) ∙ zero-free rate votes k zeros)
    ∙ whole (total step)
  where
    whole : (n : ℕ) → n - 0 ≡ n
    whole n = omega arith

-- inputs are zeros, or they cost no less than from their first One on
first_away : (p : BranchMetrics) (free : ℕ → Bool) (n : ℕ) (bits : List Bit) (k : ℕ) → k + length bits ≡ n → Admits free k bits → ((t : ℕ) → get_or bits t Zero ≡ Zero) ⊎ ((j : ℕ) × (k ≤ j) × (free j ≡ true) × (p j 0 One + best p free (n - (j + 1)) (j + 1) 128 ≤ path_metric p k 0 bits))
first_away p free n [] k end admits = inl (λ t. refl)
first_away p free n (One ∷ bits) k end admits =
    inr (k, omega arith, admits.0, omega (arith, best-le-path_metric p free (n - (k + 1)) (k + 1) 128 bits (omega arith) admits.1))
first_away p free n (Zero ∷ bits) k end admits = elim (first_away p free n bits (k + 1) (omega arith) admits) [
  | inl zeros ↦ inl (one_more bits zeros)
  | inr far ↦ inr (far.0, omega (arith, far.1), far.2, omega (arith, far.3))
]
  where
    one_more : (bits : List Bit) → ((t : ℕ) → get_or bits t Zero ≡ Zero) → (t : ℕ) → get_or (Zero ∷ bits) t Zero ≡ Zero
    one_more bits zeros zero = refl
    one_more bits zeros (suc t) = zeros t

open_at : (size filler k : ℕ) → filler ≤ k → k < size → is_free size filler k ≡ true
open_at size filler k past within = open_within size filler k (grind (arith, nat_tests)) within

-- a free step lies past the filler and before the tail
free_within : (size filler k : ℕ) → is_free size filler k ≡ true → (filler ≤ k) × (k < size)
free_within size filler k free = (
  ⊎_elim (λ (early : k < filler). absurd (clash (closed_before size filler k early))) (λ (past : filler ≤ k). past) (cases_lt k filler),
  ⊎_elim (λ (inside : k < size). inside) (λ (late : size ≤ k). absurd (clash (closed_after size filler k late))) (cases_lt k size),
)
  where
    clash : is_free size filler k ≡ false → ⊥
    clash closed = cc

-- the copies between two codes are those that speak against their sum
paid : (vote : Vote) (x y : Bit) → vote.ones ≡ 0 → copies vote * number_of (plus x y) ≡ differing vote (plus x y)
paid vote Zero Zero none = omega arith
paid vote Zero One none = omega arith
paid vote One Zero none = omega arith
paid vote One One none = omega arith

copies-sum : (votes : List Vote) (xs ys : List Bit) → length xs ≡ length votes → length ys ≡ length votes → AreOfZeros votes → copies_between (copies_at votes) xs ys ≡ disagreement votes (sum xs ys)
copies-sum [] [] ys first second zeros = refl
copies-sum [] (x ∷ xs) ys first second zeros = absurd (omega arith)
copies-sum (v ∷ votes) [] ys first second zeros = absurd (omega arith)
copies-sum (v ∷ votes) (x ∷ xs) [] first second zeros = absurd (omega arith)
copies-sum (v ∷ votes) (x ∷ xs) (y ∷ ys) first second zeros =
    omega (arith, paid v x y (zeros 0), copies-sum votes xs ys (omega arith) (omega arith) (λ j. zeros (suc j)))

copies-blocks : (rate : Rate) (votes : List Vote) (size : ℕ) (a b : List Bit) → length votes ≡ coded_length rate size → length a ≡ size → length b ≡ size → AreOfZeros votes → copies_between (copies_at votes) (encoded rate a) (encoded rate b) ≡ path_metric (branch_metric rate votes) 0 0 (sum a b ++ tail)
copies-blocks rate votes size a b sized first second zeros =
    copies-sum votes (encoded rate a) (encoded rate b) (length-encoded rate a ∙ ap (coded_length rate) first ∙ sym sized) (length-encoded rate b ∙ ap (coded_length rate) second ∙ sym sized) zeros
    ∙ ap (disagreement votes) (sym (encoded-sum rate a b (first ∙ sym second)))
    ∙ sym (path_metric-disagreement rate votes (sum a b) (sized ∙ ap (coded_length rate) (sym (length-sum a b (first ∙ sym second) ∙ first))))

-- the sum of two blocks is a block
sum_block : (size filler : ℕ) (a b : List Bit) → IsBlock size filler a → IsBlock size filler b → IsBlock size filler (sum a b)
sum_block size filler a b first second = record {
  sized = length-sum a b (first.sized ∙ sym second.sized) ∙ first.sized;
  filled = λ k early. rw (get_or-sum a b k, first.filled k early, second.filled k early) refl;
}

-- so no two blocks differ in less than the least cost
told_away : (rate : Rate) (votes : List Vote) (size filler least : ℕ) → length votes ≡ coded_length rate size → AreOfZeros votes → IsLeastAway rate votes size filler size least → AreToldApart (encoded rate) size filler (copies_at votes) least
told_away rate votes size filler least sized zeros is a b first second differ =
    let c : List Bit = sum a b in
    let shape : IsBlock size filler c = sum_block size filler a b first second in
    let cost : copies_between (copies_at votes) (encoded rate a) (encoded rate b) ≡ path_metric (branch_metric rate votes) 0 0 (c ++ tail) = copies-blocks rate votes size a b sized first.sized second.sized zeros in
    elim (first_away (branch_metric rate votes) (is_free size filler) (size + 8) (c ++ tail) 0 (omega (arith, length-tail c, shape.sized)) (admits_block size filler c shape)) [
      | inl none ↦ absurd (differ (sum-same a b (first.sized ∙ sym second.sized) (λ t. sym (get_or-tail c t) ∙ none t)))
      | inr far ↦
          let within : (filler ≤ far.0) × (far.0 < size) = free_within size filler far.0 far.2 in
          omega (arith, cost, far.3, is.below far.0 within.0 within.1)
    ]

-- so many zeros, and the inputs of least cost from a One at a step on
abbrev pub walk_away : BranchMetrics → (ℕ → Bool) → ℕ → ℕ → ℕ → List Bit
walk_away p free m at zero = One ∷ trace p free m (at + 1) 128
walk_away p free m at (suc d) = Zero ∷ walk_away p free m at d

length-walk_away : (p : BranchMetrics) (free : ℕ → Bool) (m at d : ℕ) → length (walk_away p free m at d) ≡ d + 1 + m
length-walk_away p free m at zero = omega (arith, length-trace p free m (at + 1) 128)
length-walk_away p free m at (suc d) = omega (arith, length-walk_away p free m at d)

one_at : (p : BranchMetrics) (free : ℕ → Bool) (m at d : ℕ) → get_or (walk_away p free m at d) d Zero ≡ One
one_at p free m at zero = refl
one_at p free m at (suc d) = one_at p free m at d

Admits-walk_away : (p : BranchMetrics) (free : ℕ → Bool) (m at d k : ℕ) → k + d ≡ at → free at ≡ true → Admits free k (walk_away p free m at d)
Admits-walk_away p free m at zero k here may =
    let is : at ≡ k = omega arith in
    (ap free (sym is) ∙ may, subst (λ n. Admits free (n + 1) (trace p free m (at + 1) 128)) is (Admits-trace p free m (at + 1) 128))
Admits-walk_away p free m at (suc d) k here may = Admits-walk_away p free m at d (k + 1) (omega arith) may

path_metric-walk_away : (p : BranchMetrics) (free : ℕ → Bool) (m at d k : ℕ) → k + d ≡ at → ((k : ℕ) → p k 0 Zero ≡ 0) → path_metric p k 0 (walk_away p free m at d) ≡ p at 0 One + best p free m (at + 1) 128
path_metric-walk_away p free m at zero k here none =
    let is : k ≡ at = omega arith in
    ap (λ n. p n 0 One + path_metric p (n + 1) 128 (trace p free m (at + 1) 128)) is ∙ ap (λ n. p at 0 One + n) (path_metric-trace p free m (at + 1) 128)
path_metric-walk_away p free m at (suc d) k here none = omega (arith, none k, path_metric-walk_away p free m at d (k + 1) (omega arith) none)

-- inputs that are admitted are a block and its tail
split_block : (size filler : ℕ) (walk : List Bit) → length walk ≡ size + 8 → Admits (is_free size filler) 0 walk → walk ≡ take size walk ++ tail
split_block size filler walk sized admits =
    let rest : drop size walk ≡ tail = all_zeros (drop size walk) 8 (omega (arith, length-drop size walk)) (λ j. get_or-drop size walk j Zero ∙ zero_at (is_free size filler) 0 walk (size + j) admits (closed_after size filler (0 + (size + j)) (omega arith))) in
    sym (take-append-drop size walk) ∙ ap (λ end. take size walk ++ end) rest

admitted_block : (size filler : ℕ) (walk : List Bit) → length walk ≡ size + 8 → Admits (is_free size filler) 0 walk → IsBlock size filler (take size walk)
admitted_block size filler walk sized admits = record {
  sized = length-take-le size walk (omega arith);
  filled = λ k early. sym (get_or-tail (take size walk) k) ∙ ap (λ bits. get_or bits k Zero) (sym (split_block size filler walk sized admits)) ∙ zero_at (is_free size filler) 0 walk k admits (closed_before size filler (0 + k) (omega arith));
}

-- zeros are a block
zeros_everywhere : (n k : ℕ) → get_or (replicate n Zero) k Zero ≡ Zero
zeros_everywhere zero k = refl
zeros_everywhere (suc n) zero = refl
zeros_everywhere (suc n) (suc k) = zeros_everywhere n k

zeros_block : (size filler : ℕ) → IsBlock size filler (replicate size Zero)
zeros_block size filler = record {
  sized = length-replicate size Zero;
  filled = λ k early. zeros_everywhere size k;
}

-- and zeros differ from some block in just the cost of its One at a step
reached_away : (rate : Rate) (votes : List Vote) (size filler k : ℕ) → length votes ≡ coded_length rate size → AreOfZeros votes → filler ≤ k → k < size → (a : List Bit) × (b : List Bit) × IsBlock size filler a × IsBlock size filler b × (a ≢ b) × (copies_between (copies_at votes) (encoded rate a) (encoded rate b) ≡ away_cost rate votes size filler k)
reached_away rate votes size filler k sized zeros past within =
    let p : BranchMetrics = branch_metric rate votes in
    let free : ℕ → Bool = is_free size filler in
    let m : ℕ = size + 8 - (k + 1) in
    let walk : List Bit = walk_away p free m k k in
    let long : length walk ≡ size + 8 = omega (arith, length-walk_away p free m k k) in
    let admits : Admits free 0 walk = Admits-walk_away p free m k k 0 (omega arith) (open_at size filler k past within) in
    let parts : walk ≡ take size walk ++ tail = split_block size filler walk long admits in
    let a : List Bit = replicate size Zero in
    let b : List Bit = take size walk in
    let shape : IsBlock size filler b = admitted_block size filler walk long admits in
    let one : get_or b k Zero ≡ One = sym (get_or-tail b k) ∙ ap (λ bits. get_or bits k Zero) (sym parts) ∙ one_at p free m k k in (
      a,
      b,
      zeros_block size filler,
      shape,
      (λ same. zero_one (sym (zeros_everywhere size k) ∙ ap (λ bits. get_or bits k Zero) same ∙ one)),
      copies-blocks rate votes size a b sized (length-replicate size Zero) shape.sized zeros
          ∙ ap (λ bits. path_metric p 0 0 (bits ++ tail)) (sum-zeros size b (sym shape.sized))
          ∙ ap (path_metric p 0 0) (sym parts)
          ∙ path_metric-walk_away p free m k k 0 (omega arith) (λ j. zero-free rate votes j zeros),
    )
  where
    zero_one : Zero ≡ One → ⊥
    zero_one clash = cc

-- the least of the costs is the least distance
pub least_away : (rate : Rate) (votes : List Vote) (size filler least : ℕ) → length votes ≡ coded_length rate size → AreOfZeros votes → IsLeastAway rate votes size filler size least → IsLeastDistance rate size filler (copies_at votes) least
least_away rate votes size filler least sized zeros is =
    let j : ℕ = is.here.0 in
    let pair : (a : List Bit) × (b : List Bit) × IsBlock size filler a × IsBlock size filler b × (a ≢ b) × (copies_between (copies_at votes) (encoded rate a) (encoded rate b) ≡ away_cost rate votes size filler j) = reached_away rate votes size filler j sized zeros is.here.1 is.here.2 in
    record {
      told = told_away rate votes size filler least sized zeros is;
      attained = (pair.0, pair.1, pair.2, pair.3, pair.4, pair.5 ∙ sym is.here.3);
    }

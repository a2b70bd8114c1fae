-- The input that the copies of a step tell.
use Rattle.std.proofs.Common.{◌≡◌, ◌+◌, ◌-◌, ◌*◌, ◌/◌, ◌%◌, ◌^◌, ◌<◌, ◌≤◌, ℕ, zero, suc, List, get_or, arith, refl, ap, sym, ◌∙◌, ⊎_elim}
use Rattle.std.specs.Prelude.{◌↔◌, IsTrue, min, bit_and, nat_eq}
use Rattle.std.proofs.lemmas.Bool.Decides.{nat_tests}
use Rattle.std.proofs.lemmas.Nat.{and_le_l}
use Rattle.std.proofs.lemmas.Nat.Bits.{bit_at_and}
use Rattle.dch_bits.specs.declared.bit.Bit.{Bit}
use Rattle.dch_bits.specs.declared.bit.Bit.TheVariants.{Zero, One}
use Rattle.dch_bits.specs.declared.bit.Vote.{Vote}
use Rattle.dch_bits.specs.Bits.{number_of, bit_of_number}
use Rattle.dch_coding.specs.declared.rate.Rate.{Rate}
use Rattle.dch_coding.specs.declared.rate.Rate.TheVariants.{Half, Third}
use Rattle.dch_coding.specs.Conv.{outputs}
use Rattle.dch_trellis.specs.Nearest.{differing}
use Rattle.dch_trellis.specs.Windows.{output, IsOutputs}
use Rattle.dch_trellis.specs.Search.{branch_metric}
use Rattle.dch_trellis.specs.Steps.{vote_at, IsStep}
use Rattle.dch_trellis.specs.Classes.{table_bit, class_at, class_metric}
use Rattle.dch_trellis.specs.Undamaged.{outputs_at, AreOutputs, fewest, step_fewest, is_more, more_zeros, more_ones, input_metric}
use Rattle.dch_trellis.proofs.Classes.{class_at-lt}
use Rattle.dch_trellis.proofs.Ends.{opposite, output-newest, output-oldest}
use Rattle.dch_trellis.proofs.PathMetrics.{halves, three, three-same, branch_metric-three}

fewest-le : (vote : Vote) (bit : Bit) → fewest vote ≤ differing vote bit
fewest-le vote Zero = omega arith
fewest-le vote One = omega arith

three-ge : (step : List Vote) (f : ℕ → Bit) → step_fewest step ≤ three step f
three-ge step f = omega (arith, fewest-le (vote_at step 0) (f 0), fewest-le (vote_at step 1) (f 1), fewest-le (vote_at step 2) (f 2))

-- no input costs less than the fewest
pub branch_metric-ge : (rate : Rate) (votes step : List Vote) (k s : ℕ) (b : Bit) → IsStep rate votes k step → step_fewest step ≤ branch_metric rate votes k s b
branch_metric-ge rate votes step k s b stands = omega (arith, branch_metric-three rate votes step k s b stands, three-ge step (output rate (256 * number_of b + s)))

is_more-le : (a b : ℕ) → is_more a b + is_more b a ≤ 1
is_more-le a b = grind (arith, nat_tests)

-- a bit that agrees where most copies speak costs the fewest
vote_fits : (vote : Vote) (c : ℕ) → c < 2 → min c (is_more vote.ones vote.zeros + is_more vote.zeros vote.ones) ≡ is_more vote.zeros vote.ones → differing vote (bit_of_number c) ≡ fewest vote
vote_fits vote zero small same = grind (arith, nat_tests)
vote_fits vote (suc zero) small same = grind (arith, nat_tests)
vote_fits vote (suc (suc c)) small same = absurd (omega arith)

fits_vote : (vote : Vote) (c : ℕ) → c < 2 → differing vote (bit_of_number c) ≡ fewest vote → min c (is_more vote.ones vote.zeros + is_more vote.zeros vote.ones) ≡ is_more vote.zeros vote.ones
fits_vote vote zero small same = grind (arith, nat_tests)
fits_vote vote (suc zero) small same = grind (arith, nat_tests)
fits_vote vote (suc (suc c)) small same = absurd (omega arith)

ap₃ : (f : ℕ → ℕ → ℕ → ℕ) (a b c x y z : ℕ) → a ≡ x → b ≡ y → c ≡ z → f a b c ≡ f x y z
ap₃ f a b c x y z first second third = rw (first, second, third) refl

-- the bits of a number of three
three_digits : (n a b c : ℕ) → a < 2 → b < 2 → c < 2 → n ≡ a + 2 * b + 4 * c → (n % 2 ≡ a) × (n / 2 % 2 ≡ b) × (n / 4 % 2 ≡ c)
three_digits n a b c first second third whole = (omega arith, omega arith, omega arith)

-- the bits at which outputs agree with the copies that speak
agreed : List Vote → ℕ → ℕ → ℕ
agreed step t c = min c (is_more (vote_at step t).ones (vote_at step t).zeros + is_more (vote_at step t).zeros (vote_at step t).ones)

and-digits : (step : List Vote) (n : ℕ) → n < 8 → bit_and n (more_zeros step + more_ones step) ≡ agreed step 0 (n % 2) + 2 * agreed step 1 (n / 2 % 2) + 4 * agreed step 2 (n / 4 % 2)
unfolding agreed
and-digits step n small =
    let v : ℕ → ℕ = λ t. is_more (vote_at step t).ones (vote_at step t).zeros in
    let w : ℕ → ℕ = λ t. is_more (vote_at step t).zeros (vote_at step t).ones in
    let d : ℕ = more_zeros step + more_ones step in
    let parts : (d % 2 ≡ v 0 + w 0) × (d / 2 % 2 ≡ v 1 + w 1) × (d / 4 % 2 ≡ v 2 + w 2) =
    three_digits d (v 0 + w 0) (v 1 + w 1) (v 2 + w 2) (omega (arith, is_more-le (vote_at step 0).ones (vote_at step 0).zeros)) (omega (arith, is_more-le (vote_at step 1).ones (vote_at step 1).zeros)) (omega (arith, is_more-le (vote_at step 2).ones (vote_at step 2).zeros)) (omega arith) in
    eight (bit_and n d) n d (omega (arith, and_le_l n d)) (bit_at_and n d 0) (bit_at_and n d 1) (bit_at_and n d 2)
    ∙ ap₃ (λ x y z. min (n % 2) x + 2 * min (n / 2 % 2) y + 4 * min (n / 4 % 2) z) _ _ _ _ _ _ parts.0 parts.1 parts.2
  where
    eight : (e n d : ℕ) → e < 8 → e / 2 ^ 0 % 2 ≡ min (n / 2 ^ 0 % 2) (d / 2 ^ 0 % 2) → e / 2 ^ 1 % 2 ≡ min (n / 2 ^ 1 % 2) (d / 2 ^ 1 % 2) → e / 2 ^ 2 % 2 ≡ min (n / 2 ^ 2 % 2) (d / 2 ^ 2 % 2) → e ≡ min (n % 2) (d % 2) + 2 * min (n / 2 % 2) (d / 2 % 2) + 4 * min (n / 4 % 2) (d / 4 % 2)
    eight e n d small first second third = omega arith

-- outputs fit a step exactly if they cost the fewest
pub fits-is : (step : List Vote) (n : ℕ) → n < 8 → (bit_and n (more_zeros step + more_ones step) ≡ more_ones step → class_metric step n ≡ step_fewest step) × (class_metric step n ≡ step_fewest step → bit_and n (more_zeros step + more_ones step) ≡ more_ones step)
unfolding agreed
fits-is step n small = (
  λ same.
      omega (arith, vote_fits (vote_at step 0) (n % 2) (omega arith) (digits same).0, vote_fits (vote_at step 1) (n / 2 % 2) (omega arith) (digits same).1, vote_fits (vote_at step 2) (n / 4 % 2) (omega arith) (digits same).2),
  λ least.
      and-digits step n small ∙ ap₃ (λ x y z. x + 2 * y + 4 * z) _ _ _ _ _ _
      (fits_vote (vote_at step 0) (n % 2) (omega arith) (each least).0) (fits_vote (vote_at step 1) (n / 2 % 2) (omega arith) (each least).1) (fits_vote (vote_at step 2) (n / 4 % 2) (omega arith) (each least).2),
)
  where
    digits : bit_and n (more_zeros step + more_ones step) ≡ more_ones step → (agreed step 0 (n % 2) ≡ is_more (vote_at step 0).zeros (vote_at step 0).ones) × (agreed step 1 (n / 2 % 2) ≡ is_more (vote_at step 1).zeros (vote_at step 1).ones) × (agreed step 2 (n / 4 % 2) ≡ is_more (vote_at step 2).zeros (vote_at step 2).ones)
    digits same = three_same _ _ _ _ _ _ (agreed-lt 0 (n % 2) (omega arith)) (agreed-lt 1 (n / 2 % 2) (omega arith)) (agreed-lt 2 (n / 4 % 2) (omega arith)) (omega (arith, is_more-le (vote_at step 0).zeros (vote_at step 0).ones)) (omega (arith, is_more-le (vote_at step 1).zeros (vote_at step 1).ones)) (omega (arith, is_more-le (vote_at step 2).zeros (vote_at step 2).ones)) (sym (and-digits step n small) ∙ same)
      where
        agreed-lt : (t c : ℕ) → c < 2 → agreed step t c < 2
        agreed-lt t c le = omega arith

        three_same : (a b c x y z : ℕ) → a < 2 → b < 2 → c < 2 → x < 2 → y < 2 → z < 2 → a + 2 * b + 4 * c ≡ x + 2 * y + 4 * z → (a ≡ x) × (b ≡ y) × (c ≡ z)
        three_same a b c x y z ha hb hc hx hy hz e = (omega arith, omega arith, omega arith)

    each : class_metric step n ≡ step_fewest step → (differing (vote_at step 0) (bit_of_number (n % 2)) ≡ fewest (vote_at step 0)) × (differing (vote_at step 1) (bit_of_number (n / 2 % 2)) ≡ fewest (vote_at step 1)) × (differing (vote_at step 2) (bit_of_number (n / 4 % 2)) ≡ fewest (vote_at step 2))
    each least =
        let first : fewest (vote_at step 0) ≤ differing (vote_at step 0) (bit_of_number (n % 2)) = fewest-le (vote_at step 0) (bit_of_number (n % 2)) in
        let second : fewest (vote_at step 1) ≤ differing (vote_at step 1) (bit_of_number (n / 2 % 2)) = fewest-le (vote_at step 1) (bit_of_number (n / 2 % 2)) in
        let third : fewest (vote_at step 2) ≤ differing (vote_at step 2) (bit_of_number (n / 4 % 2)) = fewest-le (vote_at step 2) (bit_of_number (n / 4 % 2)) in
        (omega arith, omega arith, omega arith)

-- no outputs cost less than the fewest
pub class_metric-ge : (step : List Vote) (n : ℕ) → step_fewest step ≤ class_metric step n
class_metric-ge step n = omega (arith, fewest-le (vote_at step 0) (bit_of_number (n % 2)), fewest-le (vote_at step 1) (bit_of_number (n / 2 % 2)), fewest-le (vote_at step 2) (bit_of_number (n / 4 % 2)))

class_metric-three : (step : List Vote) (n : ℕ) → class_metric step n ≡ three step (λ t. bit_of_number (n / 2 ^ t % 2))
class_metric-three step n =
    let first : n % 2 ≡ n / 2 ^ 0 % 2 = omega arith in
    ap (λ m. differing (vote_at step 0) (bit_of_number m) + differing (vote_at step 1) (bit_of_number (n / 2 % 2)) + differing (vote_at step 2) (bit_of_number (n / 4 % 2))) first

other_bit : (a b : ℕ) → a < 2 → b ≡ 1 - a → bit_of_number b ≡ opposite (bit_of_number a)
other_bit zero b small other = rw other refl
other_bit (suc zero) b small other = rw other refl
other_bit (suc (suc a)) b small other = absurd (omega arith)

-- the bits of seven less a number are the opposite ones
seven_bit : (n t : ℕ) → n < 8 → t < 3 → bit_of_number ((7 - n) / 2 ^ t % 2) ≡ opposite (bit_of_number (n / 2 ^ t % 2))
seven_bit n zero small within = other_bit (n / 2 ^ 0 % 2) ((7 - n) / 2 ^ 0 % 2) (omega arith) (omega arith)
seven_bit n (suc zero) small within = other_bit (n / 2 ^ 1 % 2) ((7 - n) / 2 ^ 1 % 2) (omega arith) (omega arith)
seven_bit n (suc (suc zero)) small within = other_bit (n / 2 ^ 2 % 2) ((7 - n) / 2 ^ 2 % 2) (omega arith) (omega arith)
seven_bit n (suc (suc (suc t))) small within = absurd (omega arith)

within_three : (rate : Rate) (t : ℕ) → t < outputs rate → t < 3
within_three Half t within = omega arith
within_three Third t within = omega arith

-- what an input costs is the branch metric
pub input_metric-is : (rate : Rate) (numbers : List ℕ) (votes step : List Vote) (k s : ℕ) (b : Bit) → AreOutputs rate numbers → IsStep rate votes k step → s < 256 → input_metric step (get_or numbers s 0) b ≡ branch_metric rate votes k s b
input_metric-is rate numbers votes step k s Zero outs stands small =
    let n : ℕ = get_or numbers s 0 in
    let window : s ≡ 256 * 0 + s = omega arith in
    class_metric-three step n
    ∙ three-same rate votes step k (λ t. bit_of_number (n / 2 ^ t % 2)) (output rate s) stands (λ t within. outs.at s t small within)
    ∙ ap (λ w. three step (output rate w)) window ∙ sym (branch_metric-three rate votes step k s Zero stands)
input_metric-is rate numbers votes step k s One outs stands small =
    let n : ℕ = get_or numbers s 0 in
    let window : s ≡ 256 * 0 + s = omega arith in
    class_metric-three step (7 - n)
    ∙ three-same rate votes step k (λ t. bit_of_number ((7 - n) / 2 ^ t % 2)) (output rate (256 * 1 + s)) stands
    (λ t within.
    seven_bit n t (outs.small s small) (within_three rate t within)
    ∙ ap opposite (outs.at s t small within ∙ ap (λ w. output rate w t) window) ∙ sym (output-newest rate s t small within))
    ∙ sym (branch_metric-three rate votes step k s One stands)

bit_of_number-of : (b : Bit) → bit_of_number (number_of b) ≡ b
bit_of_number-of Zero = refl
bit_of_number-of One = refl

number-lt : (b : Bit) → number_of b < 2
number-lt Zero = omega arith
number-lt One = omega arith

-- the bits of a class are those of the table
class_bit : (table : List (List Bit)) (i t : ℕ) → t < 3 → bit_of_number (class_at table i / 2 ^ t % 2) ≡ table_bit table i t
class_bit table i zero within =
    let digit : class_at table i / 2 ^ 0 % 2 ≡ number_of (table_bit table i 0) = omega (arith, number-lt (table_bit table i 0)) in
    ap bit_of_number digit ∙ bit_of_number-of (table_bit table i 0)
class_bit table i (suc zero) within =
    let digit : class_at table i / 2 ^ 1 % 2 ≡ number_of (table_bit table i 1) = omega (arith, number-lt (table_bit table i 0), number-lt (table_bit table i 1)) in
    ap bit_of_number digit ∙ bit_of_number-of (table_bit table i 1)
class_bit table i (suc (suc zero)) within =
    let digit : class_at table i / 2 ^ 2 % 2 ≡ number_of (table_bit table i 2) = omega (arith, number-lt (table_bit table i 0), number-lt (table_bit table i 1), number-lt (table_bit table i 2)) in
    ap bit_of_number digit ∙ bit_of_number-of (table_bit table i 2)
class_bit table i (suc (suc (suc t))) within = absurd (omega arith)

outputs_at-even : (table : List (List Bit)) (i : ℕ) → outputs_at table (2 * i) ≡ class_at table i
outputs_at-even table i =
    let even : 2 * i % 2 ≡ 0 = omega arith in
    let half : 2 * i / 2 ≡ i = omega arith in
    rw (even, half) refl

outputs_at-odd : (table : List (List Bit)) (i : ℕ) → outputs_at table (2 * i + 1) ≡ 7 - class_at table i
outputs_at-odd table i =
    let odd : (2 * i + 1) % 2 ≡ 1 = omega arith in
    let half : (2 * i + 1) / 2 ≡ i = omega arith in
    rw (odd, half) refl

-- the numbers of a table
pub outputs_read : (rate : Rate) (table : List (List Bit)) (numbers : List ℕ) → IsOutputs rate table → ((s : ℕ) → s < 256 → get_or numbers s 0 ≡ outputs_at table s) → AreOutputs rate numbers
outputs_read rate table numbers outs read = record {
  small = λ s small. ⊎_elim
      (λ (even : s ≡ 2 * (s / 2)). omega (arith, read s small, ap (outputs_at table) even, outputs_at-even table (s / 2), class_at-lt table (s / 2)))
      (λ (odd : s ≡ 2 * (s / 2) + 1). omega (arith, read s small, ap (outputs_at table) odd, outputs_at-odd table (s / 2)))
      (halves s);
  at = λ s t small within. ⊎_elim
      (λ (even : s ≡ 2 * (s / 2)).
      ap (λ n. bit_of_number (n / 2 ^ t % 2)) (read s small ∙ ap (outputs_at table) even ∙ outputs_at-even table (s / 2))
      ∙ class_bit table (s / 2) t (within_three rate t within) ∙ outs.at t (s / 2) within (omega arith) ∙ ap (λ s. output rate s t) (sym even))
      (λ (odd : s ≡ 2 * (s / 2) + 1).
      ap (λ n. bit_of_number (n / 2 ^ t % 2)) (read s small ∙ ap (outputs_at table) odd ∙ outputs_at-odd table (s / 2))
      ∙ seven_bit (class_at table (s / 2)) t (class_at-lt table (s / 2)) (within_three rate t within)
      ∙ ap opposite (class_bit table (s / 2) t (within_three rate t within) ∙ outs.at t (s / 2) within (omega arith))
      ∙ sym (output-oldest rate (s / 2) t within) ∙ ap (λ s. output rate s t) (sym odd))
      (halves s);
}

-- the bits of seven less a number
seven_digits : (n : ℕ) → n < 8 → ((7 - n) % 2 ≡ 1 - n % 2) × ((7 - n) / 2 % 2 ≡ 1 - n / 2 % 2) × ((7 - n) / 4 % 2 ≡ 1 - n / 4 % 2)
seven_digits n small = (omega arith, omega arith, omega arith)

-- the opposite outputs agree with the copies for One exactly where these agree with those for Zero
agreed-other : (step : List Vote) (t c : ℕ) → c < 2 → agreed step t c + agreed step t (1 - c) ≡ is_more (vote_at step t).ones (vote_at step t).zeros + is_more (vote_at step t).zeros (vote_at step t).ones
unfolding agreed
agreed-other step t c small = omega (arith, is_more-le (vote_at step t).ones (vote_at step t).zeros)

and-other : (step : List Vote) (n : ℕ) → n < 8 → bit_and n (more_zeros step + more_ones step) + bit_and (7 - n) (more_zeros step + more_ones step) ≡ more_zeros step + more_ones step
and-other step n small =
    let digits : ((7 - n) % 2 ≡ 1 - n % 2) × ((7 - n) / 2 % 2 ≡ 1 - n / 2 % 2) × ((7 - n) / 4 % 2 ≡ 1 - n / 4 % 2) = seven_digits n small in
    omega (arith, and-digits step n small, and-digits step (7 - n) (omega arith), ap (agreed step 0) digits.0, ap (agreed step 1) digits.1, ap (agreed step 2) digits.2, agreed-other step 0 (n % 2) (omega arith), agreed-other step 1 (n / 2 % 2) (omega arith), agreed-other step 2 (n / 4 % 2) (omega arith))

-- the same, as it is tested
pub zero-told : (step : List Vote) (n zeros ones : ℕ) → n < 8 → zeros ≡ more_zeros step → ones ≡ more_ones step → IsTrue (nat_eq (bit_and n (zeros + ones)) ones) ↔ (input_metric step n Zero ≡ step_fewest step)
zero-told step n zeros ones small zeros_are ones_are =
    let known = fits-is step n small in
    rw (zeros_are, ones_are) (λ test. known.0 (grind (arith, nat_tests)), λ least. (let same : bit_and n (more_zeros step + more_ones step) ≡ more_ones step = known.1 least in grind (arith, nat_tests)))

pub one-told : (step : List Vote) (n zeros ones : ℕ) → n < 8 → zeros ≡ more_zeros step → ones ≡ more_ones step → IsTrue (nat_eq (bit_and n (zeros + ones)) zeros) ↔ (input_metric step n One ≡ step_fewest step)
one-told step n zeros ones small zeros_are ones_are =
    let known = fits-is step (7 - n) (omega arith) in
    let other : bit_and n (more_zeros step + more_ones step) + bit_and (7 - n) (more_zeros step + more_ones step) ≡ more_zeros step + more_ones step = and-other step n small in
    rw (zeros_are, ones_are) (λ test. known.0 (let same : bit_and n (more_zeros step + more_ones step) ≡ more_zeros step = grind (arith, nat_tests) in omega arith), λ least. (let same : bit_and (7 - n) (more_zeros step + more_ones step) ≡ more_ones step = known.1 least in grind (arith, nat_tests)))

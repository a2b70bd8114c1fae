-- The error counter from bit to bit.
use Rattle.std.proofs.Common.{◌≡◌, ◌+◌, ◌-◌, ◌*◌, ◌<◌, ◌≤◌, ℕ, arith, refl}
use Rattle.std.proofs.Math.Nat.{add-mul, one-mul, lt_of_mul-lt-mul_right}
use Rattle.dch_frame.specs.declared.pattern.Steps.{Steps}
use Rattle.dch_frame.specs.declared.pattern.Kind.TheVariants.{Repeat, Puncture}
use Rattle.dch_frame.specs.Patterns.{changes, copies, copies_below, InRange}
use Rattle.dch_frame.proofs.Changes.{below-more, below_le, changes-zero, changes_bounds, counter_bounds, next_changes, next_counter, one_more}

-- the counter before bit m
abbrev pub counter_before : Steps → ℕ → ℕ
counter_before s m = s.e_ini + changes s m * s.e_plus - m * s.e_minus

pub first_counter : (s : Steps) → InRange s → s.e_ini ≡ counter_before s 0
first_counter s range = rw (changes-zero s range) (omega arith)

-- where the counter is at most e_minus, a bit is removed
pub removed : (s : Steps) (m counter : ℕ) → InRange s → s.e_minus ≤ s.e_plus → counter ≡ counter_before s m → counter ≤ s.e_minus → (counter + s.e_plus - s.e_minus ≡ counter_before s (m + 1)) × (copies (Puncture s) m ≡ 0)
removed s m counter range once here low =
    let bounds = counter_bounds s m counter range here in
    let after : ℕ = counter + s.e_plus - s.e_minus in
    let step : after + s.e_minus ≡ counter + 1 * s.e_plus = omega (arith, one-mul s.e_plus) in
    let least : 1 ≤ after = omega (arith, bounds.0) in
    let most : after ≤ s.e_plus = omega arith in
    (next_counter s m 1 counter after range here step least most, omega (arith, next_changes s m 1 counter after range here step least most))

-- and otherwise it is kept
pub kept : (s : Steps) (m counter : ℕ) → InRange s → counter ≡ counter_before s m → s.e_minus < counter → (counter - s.e_minus ≡ counter_before s (m + 1)) × (copies (Puncture s) m ≡ 1)
kept s m counter range here high =
    let bounds = counter_bounds s m counter range here in
    let after : ℕ = counter - s.e_minus in
    let step : after + s.e_minus ≡ counter + 0 * s.e_plus = omega arith in
    let least : 1 ≤ after = omega arith in
    let most : after ≤ s.e_plus = omega (arith, bounds.1) in
    (next_counter s m 0 counter after range here step least most, omega (arith, next_changes s m 0 counter after range here step least most))

-- copies of bit m were passed, up to a place: e_plus was added for each after the first
pub record IsRepeating (s : Steps) (m at counter : ℕ) : Type 0 where
  pub some : copies_below (Repeat s) m < at
  pub added : counter ≡ counter_before s m + (at - copies_below (Repeat s) m - 1) * s.e_plus
  pub bounded : counter ≤ s.e_minus + s.e_plus

pub repeating_first : (s : Steps) (m at counter : ℕ) → InRange s → counter ≡ counter_before s m → at ≡ copies_below (Repeat s) m → IsRepeating s m (at + 1) counter
repeating_first s m at counter range here place =
    let bounds = counter_bounds s m counter range here in
    let none : at + 1 - copies_below (Repeat s) m - 1 ≡ 0 = omega arith in
    record {
      some = omega arith;
      added = rw none (omega arith);
      bounded = omega (arith, bounds.1);
    }

-- where the counter is at most e_minus, the bit has one copy more
pub repeating_inside : (s : Steps) (m at counter : ℕ) → InRange s → IsRepeating s m at counter → counter ≤ s.e_minus → at < copies_below (Repeat s) (m + 1)
repeating_inside s m at counter range done low =
    let n : ℕ = at - copies_below (Repeat s) m - 1 in
    let now = changes_bounds s m range in
    let next = changes_bounds s (m + 1) range in
    let sum : (changes s m + n) * s.e_plus ≡ changes s m * s.e_plus + n * s.e_plus = add-mul (changes s m) n s.e_plus in
    let less : (changes s m + n) * s.e_plus < changes s (m + 1) * s.e_plus = omega (arith, now.1, next.1, sum, one_more m s.e_minus, done.added) in
    let fewer : changes s m + n < changes s (m + 1) = lt_of_mul-lt-mul_right s.e_plus less in
    omega (arith, fewer, done.some, below-more (Repeat s) m)

pub repeating_more : (s : Steps) (m at counter : ℕ) → IsRepeating s m at counter → counter ≤ s.e_minus → IsRepeating s m (at + 1) (counter + s.e_plus)
repeating_more s m at counter done low =
    let n : ℕ = at - copies_below (Repeat s) m - 1 in
    let more : at + 1 - copies_below (Repeat s) m - 1 ≡ n + 1 = omega (arith, done.some) in
    record {
      some = omega (arith, done.some);
      added = rw (more, one_more n s.e_plus) (omega (arith, done.added));
      bounded = omega arith;
    }

-- and otherwise it has no more
pub repeating_last : (s : Steps) (m at counter : ℕ) → InRange s → IsRepeating s m at counter → s.e_minus < counter → (counter - s.e_minus ≡ counter_before s (m + 1)) × (at ≡ copies_below (Repeat s) (m + 1))
repeating_last s m at counter range done high =
    let n : ℕ = at - copies_below (Repeat s) m - 1 in
    let before : ℕ = counter_before s m in
    let after : ℕ = counter - s.e_minus in
    let step : after + s.e_minus ≡ before + n * s.e_plus = omega (arith, done.added) in
    let least : 1 ≤ after = omega arith in
    let most : after ≤ s.e_plus = omega (arith, done.bounded) in
    (next_counter s m n before after range refl step least most, omega (arith, done.some, below-more (Repeat s) m, next_changes s m n before after range refl step least most))

-- the places of bit m lie within those of all bits
pub kept_fits : (s : Steps) (m len at counter : ℕ) → InRange s → counter ≡ counter_before s m → s.e_minus < counter → m < len → at ≡ copies_below (Puncture s) m → at < copies_below (Puncture s) len
kept_fits s m len at counter range here high inside place = omega (arith, place, (kept s m counter range here high).1, below-more (Puncture s) m, below_le (Puncture s) (m + 1) len (omega arith))

pub first_fits : (s : Steps) (m len at : ℕ) → m < len → at ≡ copies_below (Repeat s) m → at < copies_below (Repeat s) len
first_fits s m len at inside place = omega (arith, place, below-more (Repeat s) m, below_le (Repeat s) (m + 1) len (omega arith))

pub again_fits : (s : Steps) (m len at counter : ℕ) → InRange s → IsRepeating s m at counter → counter ≤ s.e_minus → m < len → at < copies_below (Repeat s) len
again_fits s m len at counter range done low inside = omega (arith, repeating_inside s m at counter range done low, below_le (Repeat s) (m + 1) len (omega arith))

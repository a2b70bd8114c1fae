-- Branch metrics by class, and the row of a step from them.
use Rattle.std.proofs.Common.{◌≡◌, ◌+◌, ◌-◌, ◌*◌, ◌/◌, ◌%◌, ◌<◌, ◌≤◌, ℕ, zero, suc, List, ◌∷◌, Bool, true, false, get_or, arith, refl}
use Rattle.std.specs.Prelude.{◌==◌, min, if◌then◌else◌}
use Rattle.dch_bits.specs.declared.bit.Bit.{Bit}
use Rattle.dch_bits.specs.declared.bit.Bit.TheVariants.{Zero, One}
use Rattle.dch_bits.specs.declared.bit.Vote.{Vote}
use Rattle.dch_bits.specs.Bits.{number_of}
use Rattle.dch_trellis.specs.Nearest.{differing}
use Rattle.dch_trellis.specs.Steps.{vote_at, total, near, row_path_metric}
use Rattle.dch_trellis.specs.Classes.{class_at, class_metric, zero_near, by_zero_near, lesser_near, row_near, table_bit}

-- the branch metric of a class
class_three : (step : List Vote) (a b c : Bit) → class_metric step (number_of a + 2 * number_of b + 4 * number_of c) ≡ differing (vote_at step 0) a + differing (vote_at step 1) b + differing (vote_at step 2) c
class_three step Zero Zero Zero = refl
class_three step Zero Zero One = refl
class_three step Zero One Zero = refl
class_three step Zero One One = refl
class_three step One Zero Zero = refl
class_three step One Zero One = refl
class_three step One One Zero = refl
class_three step One One One = refl

pub class_metric-near : (table : List (List Bit)) (step : List Vote) (i : ℕ) → class_metric step (class_at table i) ≡ near table step i
class_metric-near table step i = class_three step (table_bit table i 0) (table_bit table i 1) (table_bit table i 2)

number-small : (b : Bit) → number_of b ≤ 1
number-small Zero = omega arith
number-small One = omega arith

pub class_at-lt : (table : List (List Bit)) (i : ℕ) → class_at table i < 8
class_at-lt table i = omega (arith, number-small (table_bit table i 0), number-small (table_bit table i 1), number-small (table_bit table i 2))

pub lesser_near-even : (later near : List ℕ) (total i : ℕ) → lesser_near later near total (2 * i) ≡ min (get_or later i 0 + get_or near i 0) (get_or later (128 + i) 0 + (total - get_or near i 0))
lesser_near-even later near total i =
    let even : 2 * i % 2 ≡ 0 = omega arith in
    let half : 2 * i / 2 ≡ i = omega arith in
    rw (even, half) refl

pub lesser_near-odd : (later near : List ℕ) (total i : ℕ) → get_or near i 0 ≤ total → lesser_near later near total (2 * i + 1) ≡ min (get_or later i 0 + (total - get_or near i 0)) (get_or later (128 + i) 0 + get_or near i 0)
lesser_near-odd later near total i le =
    let odd : (2 * i + 1) % 2 ≡ 1 = omega arith in
    let half : (2 * i + 1) / 2 ≡ i = omega arith in
    let back : total - (total - get_or near i 0) ≡ get_or near i 0 = omega arith in
    rw (odd, half, back) refl

pub by_zero_near-even : (later near : List ℕ) (total i : ℕ) → by_zero_near later near total (2 * i) ≡ get_or later i 0 + get_or near i 0
by_zero_near-even later near total i =
    let even : 2 * i % 2 ≡ 0 = omega arith in
    let half : 2 * i / 2 ≡ i = omega arith in
    rw (even, half) refl

pub by_zero_near-odd : (later near : List ℕ) (total i : ℕ) → by_zero_near later near total (2 * i + 1) ≡ get_or later i 0 + (total - get_or near i 0)
by_zero_near-odd later near total i =
    let odd : (2 * i + 1) % 2 ≡ 1 = omega arith in
    let half : (2 * i + 1) / 2 ≡ i = omega arith in
    rw (odd, half) refl

-- with the branch metrics of a step the row is that of the step
pub row_near-is : (free : Bool) (later near_metrics : List ℕ) (t : ℕ) (table : List (List Bit)) (step : List Vote) (s : ℕ) → t ≡ total step → ((i : ℕ) → i < 128 → get_or near_metrics i 0 ≡ near table step i) → s < 256 → row_near free later near_metrics t s ≡ row_path_metric free later table step s
row_near-is free later near_metrics t table step s same metrics small =
    let here : get_or near_metrics (s / 2) 0 ≡ near table step (s / 2) = metrics (s / 2) (omega arith) in
    rw (same, here) refl

-- the row is at most a step above the row after it
pub row_near-le : (free : Bool) (later near_metrics : List ℕ) (t s : ℕ) → ((i : ℕ) → i < 128 → get_or near_metrics i 0 ≤ t) → s < 256 → row_near free later near_metrics t s ≤ get_or later (s / 2) 0 + t
row_near-le free later near_metrics t s le small = omega (arith, least free (by_zero_near later near_metrics t s) (get_or later (128 + s / 2) 0 + (t - zero_near near_metrics t s)), zero_le (s % 2 == 0) (get_or near_metrics (s / 2) 0) (le (s / 2) (omega arith)))
  where
    least : (f : Bool) (x y : ℕ) → (if f then min x y else x) ≤ x
    least true x y = omega arith
    least false x y = omega arith

    zero_le : (e : Bool) (n : ℕ) → n ≤ t → (if e then n else t - n) ≤ t
    zero_le true n le = omega arith
    zero_le false n le = omega arith

-- the first eight of a list that begins with eight of another
pub first_eight : (xs rest : List ℕ) (i : ℕ) → i < 8 → get_or (get_or xs 0 0 ∷ get_or xs 1 0 ∷ get_or xs 2 0 ∷ get_or xs 3 0 ∷ get_or xs 4 0 ∷ get_or xs 5 0 ∷ get_or xs 6 0 ∷ get_or xs 7 0 ∷ rest) i 0 ≡ get_or xs i 0
first_eight xs rest zero inside = refl
first_eight xs rest (suc zero) inside = refl
first_eight xs rest (suc (suc zero)) inside = refl
first_eight xs rest (suc (suc (suc zero))) inside = refl
first_eight xs rest (suc (suc (suc (suc zero)))) inside = refl
first_eight xs rest (suc (suc (suc (suc (suc zero))))) inside = refl
first_eight xs rest (suc (suc (suc (suc (suc (suc zero)))))) inside = refl
first_eight xs rest (suc (suc (suc (suc (suc (suc (suc zero))))))) inside = refl
first_eight xs rest (suc (suc (suc (suc (suc (suc (suc (suc i)))))))) inside = absurd (omega arith)

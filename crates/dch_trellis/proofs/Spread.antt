-- Any two states can meet after eight steps, so their least costs are near one another.
use Rattle.std.proofs.Common.{◌≡◌, ◌+◌, ◌*◌, ◌/◌, ◌^◌, ◌<◌, ◌≤◌, ℕ, zero, suc, List, [], ◌∷◌, Bool, true, false, arith, refl, ap}
use Rattle.std.specs.Prelude.{min, if◌then◌else◌}
use Rattle.dch_bits.specs.declared.bit.Bit.{Bit}
use Rattle.dch_bits.specs.declared.bit.Bit.TheVariants.{Zero, One}
use Rattle.dch_bits.specs.declared.bit.Vote.{Vote}
use Rattle.dch_coding.specs.declared.rate.Rate.{Rate}
use Rattle.dch_coding.specs.declared.rate.Rate.TheVariants.{Half, Third}
use Rattle.dch_trellis.specs.Nearest.{copies}
use Rattle.dch_trellis.specs.Windows.{after}
use Rattle.dch_trellis.specs.Search.{BranchMetrics, branch_metric, is_free, best}
use Rattle.dch_trellis.specs.Steps.{total, step_vote, IsStep}
use Rattle.dch_trellis.specs.Tiny.{IsLight}
use Rattle.dch_trellis.proofs.Room.{branch_metric-le}

-- a step has at most 15 copies
pub total-light : (rate : Rate) (votes step : List Vote) (k : ℕ) → IsStep rate votes k step → IsLight rate votes → total step ≤ 15
total-light Half votes step k stands light = omega (arith, ap copies stands.first, ap copies stands.second, ap copies stands.third, light (2 * k + 0), light (2 * k + 1))
total-light Third votes step k stands light = omega (arith, ap copies stands.first, ap copies stands.second, ap copies stands.third, light (3 * k + 0), light (3 * k + 1), light (3 * k + 2))

branch_metric-light : (rate : Rate) (votes : List Vote) (k s : ℕ) (b : Bit) → IsLight rate votes → branch_metric rate votes k s b ≤ 15
branch_metric-light rate votes k s b light =
    let step : List Vote = step_vote rate votes k 0 ∷ step_vote rate votes k 1 ∷ step_vote rate votes k 2 ∷ [] in
    let stands : IsStep rate votes k step = record { first = refl; second = refl; third = refl } in
    omega (arith, branch_metric-le rate votes step k s b stands, total-light rate votes step k stands light)

-- states that agree in all but their r + 1 lowest bits agree in all but r after the same input
halved : (s u r b : ℕ) → r < 8 → s / 2 ^ suc r ≡ u / 2 ^ suc r → (128 * b + s / 2) / 2 ^ r ≡ (128 * b + u / 2) / 2 ^ r
halved s u zero b small same = omega arith
halved s u (suc zero) b small same = omega arith
halved s u (suc (suc zero)) b small same = omega arith
halved s u (suc (suc (suc zero))) b small same = omega arith
halved s u (suc (suc (suc (suc zero)))) b small same = omega arith
halved s u (suc (suc (suc (suc (suc zero))))) b small same = omega arith
halved s u (suc (suc (suc (suc (suc (suc zero)))))) b small same = omega arith
halved s u (suc (suc (suc (suc (suc (suc (suc zero))))))) b small same = omega arith
halved s u (suc (suc (suc (suc (suc (suc (suc (suc r)))))))) b small same = absurd (omega arith)

joined_le : (f : Bool) (r a b c d n o p q : ℕ) → a ≤ 15 → b ≤ 15 → n ≤ p + r * 15 → o ≤ q + r * 15 → (if f then min (a + n) (b + o) else a + n) ≤ (if f then min (c + p) (d + q) else c + p) + suc r * 15
joined_le true r a b c d n o p q first second third fourth = omega arith
joined_le false r a b c d n o p q first second third fourth = omega arith

-- the cost from one such state is at most that from the other and the branch metrics of r steps
spread : (p : BranchMetrics) (free : ℕ → Bool) (r m k s u : ℕ) → ((k s : ℕ) (b : Bit) → p k s b ≤ 15) → r ≤ 8 → s / 2 ^ r ≡ u / 2 ^ r → best p free m k s ≤ best p free m k u + r * 15
spread p free zero m k s u light small same =
    let equal : s ≡ u = omega arith in
    let path_metrics : best p free m k s ≡ best p free m k u = ap (best p free m k) equal in
    omega arith
spread p free (suc r) zero k s u light small same = omega arith
spread p free (suc r) (suc m) k s u light small same =
    joined_le (free k) r (p k s Zero) (p k s One) (p k u Zero) (p k u One)
    (best p free m (k + 1) (after s Zero)) (best p free m (k + 1) (after s One)) (best p free m (k + 1) (after u Zero)) (best p free m (k + 1) (after u One))
    (light k s Zero) (light k s One)
    (spread p free r m (k + 1) (after s Zero) (after u Zero) light (omega arith) (halved s u r 0 (omega arith) same))
    (spread p free r m (k + 1) (after s One) (after u One) light (omega arith) (halved s u r 1 (omega arith) same))

-- so the costs of all states are within eight steps of one another
pub best-near : (rate : Rate) (votes : List Vote) (size filler m k s u : ℕ) → IsLight rate votes → s < 256 → u < 256 → best (branch_metric rate votes) (is_free size filler) m k s ≤ best (branch_metric rate votes) (is_free size filler) m k u + 120
best-near rate votes size filler m k s u light small other =
    let same : s / 2 ^ 8 ≡ u / 2 ^ 8 = omega arith in
    omega (arith, spread (branch_metric rate votes) (is_free size filler) 8 m k s u (λ k s b. branch_metric-light rate votes k s b light) (omega arith) same)

-- Rows of costs less a base.
use Rattle.std.proofs.Common.{◌≡◌, ◌≢◌, ◌+◌, ◌-◌, ◌/◌, ◌<◌, ◌≤◌, ◌&&◌, ℕ, suc, List, [], ◌∷◌, Bool, true, false, get_or, arith, refl, ap, sym, subst, ◌∙◌, ⊎_elim}
use Rattle.std.specs.Prelude.{min, nat_lt, if◌then◌else◌}
use Rattle.std.proofs.lemmas.Bool.Decides.{leb_tells}
use Rattle.std.proofs.lemmas.Bool.{cases_lt}
use Rattle.dch_bits.specs.declared.bit.Bit.{Bit}
use Rattle.dch_bits.specs.declared.bit.Bit.TheVariants.{Zero, One}
use Rattle.dch_bits.specs.declared.bit.Vote.{Vote}
use Rattle.dch_coding.specs.declared.rate.Rate.{Rate}
use Rattle.dch_trellis.specs.Windows.{after, IsOutputs}
use Rattle.dch_trellis.specs.Search.{branch_metric, is_free, best, takes_one, choice, trace}
use Rattle.dch_trellis.specs.Steps.{total, near, by_zero, by_one, row_path_metric, IsStep}
use Rattle.dch_trellis.specs.Classes.{row_near}
use Rattle.dch_trellis.specs.Tiny.{IsLight, IsLowered, IsLoweredFrom, IsFilled}
use Rattle.dch_trellis.specs.Undamaged.{IsLeastState}
use Rattle.dch_trellis.proofs.Classes.{row_near-is, row_near-le}
use Rattle.dch_trellis.proofs.PathMetrics.{zero_metric-is, one_metric-is}
use Rattle.dch_trellis.proofs.Spread.{best-near}

-- the costs by either input, less a base
pub by_zero-lowered : (rate : Rate) (table : List (List Bit)) (votes step : List Vote) (size filler k base s : ℕ) (later : List ℕ) → IsOutputs rate table → IsStep rate votes k step → s < 256 → IsLowered rate votes size filler (k + 1) base later → by_zero later table step s + base ≡ branch_metric rate votes k s Zero + best (branch_metric rate votes) (is_free size filler) (size + 8 - (k + 1)) (k + 1) (after s Zero)
by_zero-lowered rate table votes step size filler k base s later outs stands small lowered =
    let next : get_or later (s / 2) 0 + base ≡ best (branch_metric rate votes) (is_free size filler) (size + 8 - (k + 1)) (k + 1) (after s Zero) = lowered (s / 2) (omega arith) ∙ ap (best (branch_metric rate votes) (is_free size filler) (size + 8 - (k + 1)) (k + 1)) (zero_after s) in
    omega (arith, next, zero_metric-is rate table votes step k s outs stands small)
  where
    zero_after : (s : ℕ) → s / 2 ≡ after s Zero
    zero_after s = omega arith

pub by_one-lowered : (rate : Rate) (table : List (List Bit)) (votes step : List Vote) (size filler k base s : ℕ) (later : List ℕ) → IsOutputs rate table → IsStep rate votes k step → s < 256 → IsLowered rate votes size filler (k + 1) base later → by_one later table step s + base ≡ branch_metric rate votes k s One + best (branch_metric rate votes) (is_free size filler) (size + 8 - (k + 1)) (k + 1) (after s One)
by_one-lowered rate table votes step size filler k base s later outs stands small lowered =
    let next : get_or later (128 + s / 2) 0 + base ≡ best (branch_metric rate votes) (is_free size filler) (size + 8 - (k + 1)) (k + 1) (after s One) = lowered (128 + s / 2) (omega arith) in
    omega (arith, next, one_metric-is rate table votes step k s outs stands small)

-- one more row, with the base of the row after it
pub row_lowered : (rate : Rate) (table : List (List Bit)) (votes step : List Vote) (size filler k base : ℕ) (later row : List ℕ) → IsOutputs rate table → IsStep rate votes k step → k < size + 8 → IsLowered rate votes size filler (k + 1) base later → ((s : ℕ) → s < 256 → get_or row s 0 ≡ row_path_metric (is_free size filler k) later table step s) → IsLowered rate votes size filler k base row
row_lowered rate table votes step size filler k base later row outs stands within lowered same = λ s small.
    let m : ℕ = size + 8 - (k + 1) in
    let left : size + 8 - k ≡ suc m = omega arith in
    ap (λ x. x + base) (same s small)
    ∙ raised (is_free size filler k) _ _ _ _ (by_zero-lowered rate table votes step size filler k base s later outs stands small lowered) (by_one-lowered rate table votes step size filler k base s later outs stands small lowered)
    ∙ sym (ap (λ n. best (branch_metric rate votes) (is_free size filler) n k s) left)
  where
    raised : (f : Bool) (x y z w : ℕ) → x + base ≡ z → y + base ≡ w → (if f then min x y else x) + base ≡ (if f then min z w else z)
    raised true x y z w first second = omega arith
    raised false x y z w first second = omega arith

-- and less what was taken off it
pub row_taken : (rate : Rate) (votes : List Vote) (size filler k base least : ℕ) (row lower : List ℕ) → IsLowered rate votes size filler k base row → ((s : ℕ) → s < 256 → get_or lower s 0 + least ≡ get_or row s 0) → IsLowered rate votes size filler k (base + least) lower
row_taken rate votes size filler k base least row lower lowered taken = λ s small. omega (arith, lowered s small, taken s small)

-- where one cost is zero, none is above 120
pub row_small : (rate : Rate) (votes : List Vote) (size filler k base : ℕ) (row : List ℕ) → IsLight rate votes → IsLowered rate votes size filler k base row → (s : ℕ) × (s < 256) × (get_or row s 0 ≡ 0) → (s : ℕ) → s < 256 → get_or row s 0 ≤ 120
row_small rate votes size filler k base row light lowered least s small =
    omega (arith, lowered s small, lowered least.0 least.1, least.2, best-near rate votes size filler (size + 8 - k) k s least.0 light small least.1)

-- one more row in the list of rows
pub rows_more : (rate : Rate) (votes : List Vote) (size filler k from base : ℕ) (rows new : List (List ℕ)) → from ≡ k + 1 → IsLoweredFrom rate votes size filler from rows → ((j : ℕ) → j ≢ k → get_or new j [] ≡ get_or rows j []) → IsLowered rate votes size filler k base (get_or new k []) → IsLoweredFrom rate votes size filler k new
rows_more rate votes size filler k from base rows new next before same row = λ j low high. ⊎_elim
    (λ (above : k < j).
    let old : (base : ℕ) × IsLowered rate votes size filler j base (get_or rows j []) = before j (omega arith) high in
    (old.0, subst (IsLowered rate votes size filler j old.0) (sym (same j (λ equal. omega arith))) old.1))
    (λ (below : j ≤ k).
    let here : k ≡ j = omega arith in
    (base, subst (λ k. IsLowered rate votes size filler k base (get_or new k [])) here row))
    (cases_lt k j)

-- one more row is filled
pub filled_more : (rate : Rate) (table : List (List Bit)) (votes step : List Vote) (size filler k from base most t : ℕ) (near_metrics : List ℕ) (rows new : List (List ℕ)) → IsOutputs rate table → IsStep rate votes k step → IsLight rate votes → k < size + 8 → from ≡ k + 1 → IsFilled rate votes size filler from base most rows → ((j : ℕ) → j ≢ k → get_or new j [] ≡ get_or rows j []) → t ≡ total step → t ≤ 15 → ((i : ℕ) → i < 128 → get_or near_metrics i 0 ≡ near table step i) → ((i : ℕ) → i < 128 → get_or near_metrics i 0 ≤ t) → ((s : ℕ) → s < 256 → get_or (get_or new k []) s 0 ≡ row_near (is_free size filler k) (get_or rows (k + 1) []) near_metrics t s) → IsFilled rate votes size filler k base (most + 15) new
filled_more rate table votes step size filler k from base most t near_metrics rows new outs stands light within next before same total_is few metrics le row =
    let later : IsLowered rate votes size filler (k + 1) base (get_or rows (k + 1) []) = subst (λ k. IsLowered rate votes size filler k base (get_or rows k [])) next before.here in
    let bound : (s : ℕ) → s < 256 → get_or (get_or rows (k + 1) []) s 0 ≤ most = subst (λ k. (s : ℕ) → s < 256 → get_or (get_or rows k []) s 0 ≤ most) next before.small in
    let here : IsLowered rate votes size filler k base (get_or new k []) = row_lowered rate table votes step size filler k base (get_or rows (k + 1) []) (get_or new k []) outs stands within later (λ s small. row s small ∙ row_near-is (is_free size filler k) (get_or rows (k + 1) []) near_metrics t table step s total_is metrics small) in
    record {
      rows_from = rows_more rate votes size filler k from base rows new next before.rows_from same here;
      here = here;
      small = λ s small. omega (arith, row s small, row_near-le (is_free size filler k) (get_or rows (k + 1) []) near_metrics t s le small, bound (s / 2) (omega arith), few);
    }

-- the least cost is taken off
pub filled_lower : (rate : Rate) (votes : List Vote) (size filler k base most least : ℕ) (rows new : List (List ℕ)) → IsLight rate votes → IsFilled rate votes size filler k base most rows → ((j : ℕ) → j ≢ k → get_or new j [] ≡ get_or rows j []) → ((s : ℕ) → s < 256 → get_or (get_or new k []) s 0 + least ≡ get_or (get_or rows k []) s 0) → (s : ℕ) × (s < 256) × (get_or (get_or new k []) s 0 ≡ 0) → IsFilled rate votes size filler k (base + least) 120 new
filled_lower rate votes size filler k base most least rows new light before same taken zero_at =
    let here : IsLowered rate votes size filler k (base + least) (get_or new k []) = row_taken rate votes size filler k base least (get_or rows k []) (get_or new k []) before.here taken in
    record {
      rows_from = rows_more rate votes size filler k (k + 1) (base + least) rows new refl (λ j low high. before.rows_from j (omega arith) high) same here;
      here = here;
      small = row_small rate votes size filler k (base + least) (get_or new k []) light here zero_at;
    }

nat_lt-raised : (x y z w base : ℕ) → x + base ≡ z → y + base ≡ w → nat_lt x y ≡ nat_lt z w
nat_lt-raised x y z w base first second = ⊎_elim
    (λ (less : (nat_lt x y ≡ true) × (suc x ≤ y)). ⊎_elim
    (λ (also : (nat_lt z w ≡ true) × (suc z ≤ w)). less.0 ∙ sym also.0)
    (λ (not_so : (nat_lt z w ≡ false) × (w < suc z)). absurd (omega (arith, less.1, not_so.1)))
    (leb_tells (suc z) w))
    (λ (more : (nat_lt x y ≡ false) × (y < suc x)). ⊎_elim
    (λ (also : (nat_lt z w ≡ true) × (suc z ≤ w)). absurd (omega (arith, more.1, also.1)))
    (λ (not_so : (nat_lt z w ≡ false) × (w < suc z)). more.0 ∙ sym not_so.0)
    (leb_tells (suc z) w))
    (leb_tells (suc x) y)

-- the trace by one more step, along lowered rows
pub walk_lowered : (rate : Rate) (table : List (List Bit)) (votes step : List Vote) (size filler from k s : ℕ) (rows : List (List ℕ)) (bit : Bit) → IsOutputs rate table → IsStep rate votes k step → from ≤ k → k < size → s < 256 → IsLoweredFrom rate votes size filler from rows → bit ≡ choice (is_free size filler k && nat_lt (by_one (get_or rows (k + 1) []) table step s) (by_zero (get_or rows (k + 1) []) table step s)) → trace (branch_metric rate votes) (is_free size filler) (size + 8 - k) k s ≡ bit ∷ trace (branch_metric rate votes) (is_free size filler) (size + 8 - (k + 1)) (k + 1) (after s bit)
walk_lowered rate table votes step size filler from k s rows bit outs stands past within small path_metrics chosen =
    let m : ℕ = size + 8 - (k + 1) in
    let left : size + 8 - k ≡ suc m = omega arith in
    let later : List ℕ = get_or rows (k + 1) [] in
    let held : (base : ℕ) × IsLowered rate votes size filler (k + 1) base later = path_metrics (k + 1) (omega arith) (omega arith) in
    let same : bit ≡ choice (takes_one (branch_metric rate votes) (is_free size filler) m k s) = chosen ∙ ap (λ b. choice (is_free size filler k && b)) (nat_lt-raised _ _ _ _ held.0 (by_one-lowered rate table votes step size filler k held.0 s later outs stands small held.1) (by_zero-lowered rate table votes step size filler k held.0 s later outs stands small held.1)) in
    ap (λ n. trace (branch_metric rate votes) (is_free size filler) n k s) left ∙ ap (λ b. b ∷ trace (branch_metric rate votes) (is_free size filler) m (k + 1) (after s b)) (sym same)

-- a state of no cost less a base is the least
pub least_lowered : (rate : Rate) (votes : List Vote) (size filler k base s : ℕ) (row : List ℕ) → IsLowered rate votes size filler k base row → s < 256 → get_or row s 0 ≡ 0 → IsLeastState rate votes size filler k s
least_lowered rate votes size filler k base s row lowered small none other inside = omega (arith, lowered s small, lowered other inside, none)

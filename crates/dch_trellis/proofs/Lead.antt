-- A walk by the inputs that the copies tell is the one of least cost.
use Rattle.std.proofs.Common.{◌≡◌, ◌+◌, ◌-◌, ◌*◌, ◌<◌, ◌≤◌, ◌++◌, ℕ, zero, suc, List, [], ◌∷◌, Bool, true, false, length, get_or, drop, take, sum_by, arith, refl, ap, sym, subst, ◌∙◌, inr, ⊎_elim}
use Rattle.std.specs.Prelude.{min, slice_set, if◌then◌else◌}
use Rattle.std.proofs.lemmas.Bool.{cases_lt}
use Rattle.std.proofs.lemmas.Bool.Decides.{nat_tests}
use Rattle.std.proofs.lemmas.List.{drop_more, drop_all, take-set-le, get_or-set_same, get_or-set_other}
use Rattle.std.proofs.lemmas.List.Sums.{sum_by-cons, sum_by-take-drop}
use Rattle.dch_bits.specs.declared.bit.Bit.{Bit}
use Rattle.dch_bits.specs.declared.bit.Bit.TheVariants.{Zero, One}
use Rattle.dch_bits.specs.declared.bit.Vote.{Vote}
use Rattle.dch_bits.specs.Bits.{plus}
use Rattle.dch_coding.specs.declared.rate.Rate.{Rate}
use Rattle.dch_coding.specs.declared.rate.Rate.TheVariants.{Half, Third}
use Rattle.dch_coding.specs.Conv.{outputs, coded_length}
use Rattle.dch_trellis.specs.Nearest.{all_copies}
use Rattle.dch_trellis.specs.Windows.{after}
use Rattle.dch_trellis.specs.Search.{BranchMetrics, no_votes, branch_metric, is_free, best, takes_one, choice, trace, found}
use Rattle.dch_trellis.specs.Steps.{step_vote, IsStep}
use Rattle.dch_trellis.specs.Undamaged.{AreOutputs, fewest, step_fewest, fewest_from, input_metric, CostsFewest, IsTold, IsLeastState, MeetsLeast, LeadTo}
use Rattle.dch_trellis.proofs.Found.{closed_after}
use Rattle.dch_trellis.proofs.Room.{step_inside, best-le-copies}
use Rattle.dch_trellis.proofs.Rows.{walk_written, found-written}
use Rattle.dch_trellis.proofs.Told.{branch_metric-ge, input_metric-is}

fewest-drop : (votes : List Vote) (i at j : ℕ) → i < length votes → at ≡ i → j ≡ i + 1 → sum_by fewest (drop i votes) ≡ fewest (get_or votes at no_votes) + sum_by fewest (drop j votes)
fewest-drop votes i at j inside same next = rw (same, next, drop_more votes i no_votes inside) (sum_by-cons fewest (get_or votes i no_votes) (drop (i + 1) votes))

-- the fewest from a step on, and from the next
pub fewest_from-step : (rate : Rate) (votes step : List Vote) (k : ℕ) → IsStep rate votes k step → outputs rate * (k + 1) ≤ length votes → fewest_from rate votes k ≡ step_fewest step + fewest_from rate votes (k + 1)
fewest_from-step Half votes step k stands room =
    let first : sum_by fewest (drop (2 * k) votes) ≡ fewest (get_or votes (2 * k + 0) no_votes) + sum_by fewest (drop (2 * k + 1) votes) = fewest-drop votes (2 * k) (2 * k + 0) (2 * k + 1) (omega arith) (omega arith) (omega arith) in
    let second : sum_by fewest (drop (2 * k + 1) votes) ≡ fewest (get_or votes (2 * k + 1) no_votes) + sum_by fewest (drop (2 * (k + 1)) votes) = fewest-drop votes (2 * k + 1) (2 * k + 1) (2 * (k + 1)) (omega arith) (omega arith) (omega arith) in
    omega (arith, first, second, ap fewest stands.first, ap fewest stands.second, ap fewest stands.third)
fewest_from-step Third votes step k stands room =
    let first : sum_by fewest (drop (3 * k) votes) ≡ fewest (get_or votes (3 * k + 0) no_votes) + sum_by fewest (drop (3 * k + 1) votes) = fewest-drop votes (3 * k) (3 * k + 0) (3 * k + 1) (omega arith) (omega arith) (omega arith) in
    let second : sum_by fewest (drop (3 * k + 1) votes) ≡ fewest (get_or votes (3 * k + 1) no_votes) + sum_by fewest (drop (3 * k + 2) votes) = fewest-drop votes (3 * k + 1) (3 * k + 1) (3 * k + 2) (omega arith) (omega arith) (omega arith) in
    let third : sum_by fewest (drop (3 * k + 2) votes) ≡ fewest (get_or votes (3 * k + 2) no_votes) + sum_by fewest (drop (3 * (k + 1)) votes) = fewest-drop votes (3 * k + 2) (3 * k + 2) (3 * (k + 1)) (omega arith) (omega arith) (omega arith) in
    omega (arith, first, second, third, ap fewest stands.first, ap fewest stands.second, ap fewest stands.third)

-- past the last step nothing is left
pub fewest_from-end : (rate : Rate) (votes : List Vote) (size k : ℕ) → length votes ≡ coded_length rate size → k ≡ size + 8 → fewest_from rate votes k ≡ 0
fewest_from-end rate votes size k sized end =
    let past : length votes ≡ outputs rate * k = sized ∙ ap (λ n. outputs rate * n) (sym end) in
    ap (sum_by fewest) (drop_all (outputs rate * k) votes (omega arith))

pub fewest_from-start : (rate : Rate) (votes : List Vote) → fewest_from rate votes 0 ≡ sum_by fewest votes
fewest_from-start Half votes = refl
fewest_from-start Third votes = refl

-- the fewest before a step and from it on
pub fewest_from-before : (rate : Rate) (votes : List Vote) (k n : ℕ) → n ≡ outputs rate * k → sum_by fewest (take n votes) + fewest_from rate votes k ≡ fewest_from rate votes 0
fewest_from-before rate votes k n same = rw same (sum_by-take-drop fewest votes (outputs rate * k)) ∙ sym (fewest_from-start rate votes)

least-ge : (b : Bool) (x y z : ℕ) → z ≤ x → z ≤ y → z ≤ (if b then min x y else x)
least-ge true x y z first second = omega arith
least-ge false x y z first second = first

-- a step costs at least as much as the lesser of two inputs, and the lesser of two states after it
best-ge : (p : BranchMetrics) (free : ℕ → Bool) (m k s low rest : ℕ) → ((b : Bit) → low ≤ p k s b) → s < 256 → ((other : ℕ) → other < 256 → rest ≤ best p free m (k + 1) other) → low + rest ≤ best p free (suc m) k s
best-ge p free m k s low rest costs small later =
    let zero_next : after s Zero < 256 = omega arith in
    let one_next : after s One < 256 = omega arith in
    least-ge (free k) (p k s Zero + best p free m (k + 1) (after s Zero)) (p k s One + best p free m (k + 1) (after s One)) (low + rest) (omega (arith, costs Zero, later (after s Zero) zero_next)) (omega (arith, costs One, later (after s One) one_next))

-- no state costs less than the fewest
pub best-fewest : (rate : Rate) (votes : List Vote) (size filler m k s : ℕ) → k + m ≡ size + 8 → length votes ≡ coded_length rate size → s < 256 → fewest_from rate votes k ≤ best (branch_metric rate votes) (is_free size filler) m k s
best-fewest rate votes size filler zero k s end sized small = omega (arith, fewest_from-end rate votes size k sized (omega arith))
best-fewest rate votes size filler (suc m) k s end sized small =
    let step : List Vote = step_vote rate votes k 0 ∷ step_vote rate votes k 1 ∷ step_vote rate votes k 2 ∷ [] in
    let stands : IsStep rate votes k step = record { first = refl; second = refl; third = refl } in
    omega (arith, fewest_from-step rate votes step k stands (step_inside rate size k (length votes) (omega arith) sized), best-ge (branch_metric rate votes) (is_free size filler) m k s (step_fewest step) (fewest_from rate votes (k + 1)) (λ b. branch_metric-ge rate votes step k s b stands) small (λ other inside. best-fewest rate votes size filler m (k + 1) other (omega arith) sized inside))

-- the input that alone costs least is taken, where it may be, before the state that costs least
told_zero : (p : BranchMetrics) (free : ℕ → Bool) (m k s : ℕ) (f : Bool) → free k ≡ f → p k s Zero < p k s One → best p free m (k + 1) (after s Zero) ≤ best p free m (k + 1) (after s One) → (takes_one p free m k s ≡ false) × (best p free (suc m) k s ≡ p k s Zero + best p free m (k + 1) (after s Zero))
told_zero p free m k s true allowed less later = (rw allowed (grind (arith, nat_tests)), rw allowed (omega arith))
told_zero p free m k s false allowed less later = (rw allowed refl, rw allowed refl)

told_one : (p : BranchMetrics) (free : ℕ → Bool) (m k s : ℕ) → free k ≡ true → p k s One < p k s Zero → best p free m (k + 1) (after s One) ≤ best p free m (k + 1) (after s Zero) → (takes_one p free m k s ≡ true) × (best p free (suc m) k s ≡ p k s One + best p free m (k + 1) (after s One))
told_one p free m k s allowed less later = (rw allowed (grind (arith, nat_tests)), rw allowed (omega arith))

-- the walk by a told input
record Goes (p : BranchMetrics) (free : ℕ → Bool) (m k s low : ℕ) (b : Bit) : Type 0 where
  walk : trace p free (suc m) k s ≡ b ∷ trace p free m (k + 1) (after s b)
  cost : best p free (suc m) k s ≡ low + best p free m (k + 1) (after s b)

goes : (p : BranchMetrics) (free : ℕ → Bool) (m k s low : ℕ) (b : Bit) → (b ≡ One → free k ≡ true) → p k s b ≡ low → low < p k s (plus One b) → s < 256 → ((other : ℕ) → other < 256 → best p free m (k + 1) (after s b) ≤ best p free m (k + 1) other) → Goes p free m k s low b
goes p free m k s low Zero allowed least alone small later =
    let next : after s One < 256 = omega arith in
    let told : (takes_one p free m k s ≡ false) × (best p free (suc m) k s ≡ p k s Zero + best p free m (k + 1) (after s Zero)) = told_zero p free m k s (free k) refl (omega arith) (later (after s One) next) in
    record {
      walk = ap (λ t. choice t ∷ trace p free m (k + 1) (after s (choice t))) told.0;
      cost = omega (arith, told.1);
    }
goes p free m k s low One allowed least alone small later =
    let next : after s Zero < 256 = omega arith in
    let told : (takes_one p free m k s ≡ true) × (best p free (suc m) k s ≡ p k s One + best p free m (k + 1) (after s One)) = told_one p free m k s (allowed refl) (omega arith) (later (after s Zero) next) in
    record {
      walk = ap (λ t. choice t ∷ trace p free m (k + 1) (after s (choice t))) told.0;
      cost = omega (arith, told.1);
    }

after-lt : (s : ℕ) (b : Bit) → s < 256 → after s b < 256
after-lt s Zero small = omega arith
after-lt s One small = omega arith

-- no input is taken at the start
pub lead_none : (rate : Rate) (votes : List Vote) (size filler : ℕ) (out : List Bit) → LeadTo rate votes size filler 0 out 0
lead_none rate votes size filler out =
    let whole : size + 8 - 0 ≡ size + 8 = omega arith in
    record {
      small = omega arith;
      written = λ least. ap (λ n. trace (branch_metric rate votes) (is_free size filler) n 0 0) (sym whole);
      cost = λ least. omega (arith, ap (λ n. best (branch_metric rate votes) (is_free size filler) n 0 0) whole);
    }

-- the walk by the input that a step tells, where no state costs less than the one after it
goes_told : (rate : Rate) (numbers : List ℕ) (votes step : List Vote) (size filler k s : ℕ) (b : Bit) → AreOutputs rate numbers → IsStep rate votes k step → s < 256 → (b ≡ One → is_free size filler k ≡ true) → IsTold step (get_or numbers s 0) b → IsLeastState rate votes size filler (k + 1) (after s b) → Goes (branch_metric rate votes) (is_free size filler) (size + 8 - (k + 1)) k s (step_fewest step) b
goes_told rate numbers votes step size filler k s b outs stands small allowed told later =
    goes (branch_metric rate votes) (is_free size filler) (size + 8 - (k + 1)) k s (step_fewest step) b allowed
    (sym (input_metric-is rate numbers votes step k s b outs stands small) ∙ told.least)
    (omega (arith, told.alone, input_metric-is rate numbers votes step k s (plus One b) outs stands small))
    small later

-- then no state costs less than the one before it
least_before : (rate : Rate) (votes step : List Vote) (size filler k s : ℕ) (b : Bit) → IsStep rate votes k step → k < size → IsLeastState rate votes size filler (k + 1) (after s b) → Goes (branch_metric rate votes) (is_free size filler) (size + 8 - (k + 1)) k s (step_fewest step) b → IsLeastState rate votes size filler k s
least_before rate votes step size filler k s b stands within later moved other inside =
    let p : BranchMetrics = branch_metric rate votes in
    let free : ℕ → Bool = is_free size filler in
    let m : ℕ = size + 8 - (k + 1) in
    let left : size + 8 - k ≡ suc m = omega arith in
    omega (arith, ap (λ n. best p free n k s) left, ap (λ n. best p free n k other) left, moved.cost, best-ge p free m k other (step_fewest step) (best p free m (k + 1) (after s b)) (λ c. branch_metric-ge rate votes step k other c stands) inside later)

met_later : (rate : Rate) (votes : List Vote) (size filler k s : ℕ) → MeetsLeast rate votes size filler (k + 1) s → IsLeastState rate votes size filler (k + 1) s
met_later rate votes size filler k s met = ⊎_elim (λ (first : k + 1 ≡ 0). absurd (omega arith)) (λ (least : IsLeastState rate votes size filler (k + 1) s). least) met

-- a later input is no input before the step
pub lead_kept : (rate : Rate) (votes : List Vote) (size filler i k s : ℕ) (out : List Bit) (b : Bit) → i ≤ k → LeadTo rate votes size filler i out s → LeadTo rate votes size filler i (slice_set out k b) s
lead_kept rate votes size filler i k s out b past front = record {
  small = front.small;
  written = λ met. front.written met ∙ ap (λ bits. bits ++ trace (branch_metric rate votes) (is_free size filler) (size + 8 - i) i s) (sym (take-set-le i out k b past));
  cost = front.cost;
}

-- and one more input
pub lead_more : (rate : Rate) (numbers : List ℕ) (votes step : List Vote) (size filler k s : ℕ) (out : List Bit) (b : Bit) → AreOutputs rate numbers → IsStep rate votes k step → length votes ≡ coded_length rate size → length out ≡ size → k < size → (b ≡ One → is_free size filler k ≡ true) → IsTold step (get_or numbers s 0) b → LeadTo rate votes size filler k out s → LeadTo rate votes size filler (k + 1) (slice_set out k b) (after s b)
lead_more rate numbers votes step size filler k s out b outs stands sized long within allowed told front =
    let p : BranchMetrics = branch_metric rate votes in
    let free : ℕ → Bool = is_free size filler in
    let m : ℕ = size + 8 - (k + 1) in
    let left : size + 8 - k ≡ suc m = omega arith in
    record {
      small = after-lt s b front.small;
      written = λ met.
          let later : IsLeastState rate votes size filler (k + 1) (after s b) = met_later rate votes size filler k (after s b) met in
          let moved : Goes p free m k s (step_fewest step) b = goes_told rate numbers votes step size filler k s b outs stands front.small allowed told later in
          walk_written _ _ _ out k b (front.written (inr (least_before rate votes step size filler k s b stands within later moved))) (ap (λ n. trace p free n k s) left ∙ moved.walk) (omega arith);
      cost = λ met.
          let later : IsLeastState rate votes size filler (k + 1) (after s b) = met_later rate votes size filler k (after s b) met in
          let moved : Goes p free m k s (step_fewest step) b = goes_told rate numbers votes step size filler k s b outs stands front.small allowed told later in
          omega (arith, front.cost (inr (least_before rate votes step size filler k s b stands within later moved)), ap (λ n. best p free n k s) left, moved.cost, fewest_from-step rate votes step k stands (step_inside rate size k (length votes) (omega arith) sized));
    }

pub lead_start : (rate : Rate) (votes : List Vote) (size filler k s : ℕ) (out : List Bit) → k ≡ 0 → s ≡ 0 → LeadTo rate votes size filler k out s
lead_start rate votes size filler k s out first none = rw (first, none) (lead_none rate votes size filler out)

-- one more input, with the states before
pub leads_more : (rate : Rate) (numbers : List ℕ) (votes step : List Vote) (size filler k s next : ℕ) (out : List Bit) (b : Bit) (states : List ℕ) → AreOutputs rate numbers → IsStep rate votes k step → length votes ≡ coded_length rate size → length out ≡ size → k < size → k + 1 < length states → (b ≡ One → is_free size filler k ≡ true) → IsTold step (get_or numbers s 0) b → next ≡ after s b → get_or states k 0 ≡ s → ((j : ℕ) → j ≤ k → LeadTo rate votes size filler j out (get_or states j 0)) → (j : ℕ) → j ≤ k + 1 → LeadTo rate votes size filler j (slice_set out k b) (get_or (slice_set states (k + 1) next) j 0)
leads_more rate numbers votes step size filler k s next out b states outs stands sized long within room allowed told next_is here before j below = ⊎_elim
    (λ (older : j < k + 1).
    subst (LeadTo rate votes size filler j (slice_set out k b)) (sym (get_or-set_other states (k + 1) j next 0 (λ equal. omega arith)))
    (lead_kept rate votes size filler j k (get_or states j 0) out b (omega arith) (before j (omega arith))))
    (λ (newest : k + 1 ≤ j).
    let same : j ≡ k + 1 = omega arith in
    let Leads : ℕ → Type 0 = λ j. LeadTo rate votes size filler j (slice_set out k b) (get_or (slice_set states (k + 1) next) j 0) in
    subst Leads (sym same)
    (subst (LeadTo rate votes size filler (k + 1) (slice_set out k b)) (sym (get_or-set_same states (k + 1) next 0 room ∙ next_is))
    (lead_more rate numbers votes step size filler k s out b outs stands sized long within allowed told (subst (LeadTo rate votes size filler k out) here (before k (omega arith))))))
    (cases_lt j (k + 1))

-- past the last step nothing is left to cost
pub tail_none : (rate : Rate) (votes : List Vote) (size k s : ℕ) → length votes ≡ coded_length rate size → k ≡ size + 8 → CostsFewest rate votes size k s
tail_none rate votes size k s sized end =
    let none : size + 8 - k ≡ 0 = omega arith in
    record { at = λ filler. ap (λ n. best (branch_metric rate votes) (is_free size filler) n k s) none ∙ sym (fewest_from-end rate votes size k sized end) }

-- a step of the tail that fits costs the fewest
pub tail_more : (rate : Rate) (numbers : List ℕ) (votes step : List Vote) (size k s : ℕ) → AreOutputs rate numbers → IsStep rate votes k step → length votes ≡ coded_length rate size → size ≤ k → k < size + 8 → s < 256 → input_metric step (get_or numbers s 0) Zero ≡ step_fewest step → CostsFewest rate votes size (k + 1) (after s Zero) → CostsFewest rate votes size k s
tail_more rate numbers votes step size k s outs stands sized past within small fits later =
    let m : ℕ = size + 8 - (k + 1) in
    let left : size + 8 - k ≡ suc m = omega arith in
    record {
      at = λ filler.
          let zero : best (branch_metric rate votes) (is_free size filler) (suc m) k s ≡ branch_metric rate votes k s Zero + best (branch_metric rate votes) (is_free size filler) m (k + 1) (after s Zero) = rw (closed_after size filler k past) refl in
          ap (λ n. best (branch_metric rate votes) (is_free size filler) n k s) left
          ∙ omega (arith, zero, later.at filler, fits, input_metric-is rate numbers votes step k s Zero outs stands small, fewest_from-step rate votes step k stands (step_inside rate size k (length votes) within sized));
    }

-- a tail that costs the fewest comes after the state of least cost
least_tail : (rate : Rate) (votes : List Vote) (size filler s : ℕ) → length votes ≡ coded_length rate size → CostsFewest rate votes size size s → IsLeastState rate votes size filler size s
least_tail rate votes size filler s sized tail other inside =
    omega (arith, tail.at filler, best-fewest rate votes size filler (size + 8 - size) size other (omega arith) sized inside)

pub found-led : (rate : Rate) (votes : List Vote) (size filler s : ℕ) (out : List Bit) → length votes ≡ coded_length rate size → length out ≡ size → LeadTo rate votes size filler size out s → CostsFewest rate votes size size s → out ≡ found rate votes size filler
found-led rate votes size filler s out sized long front tail =
    found-written rate votes size filler size out _ long (omega arith) (front.written (inr (least_tail rate votes size filler s sized tail)))

pub best-led : (rate : Rate) (votes : List Vote) (size filler s : ℕ) (out : List Bit) → length votes ≡ coded_length rate size → LeadTo rate votes size filler size out s → CostsFewest rate votes size size s → best (branch_metric rate votes) (is_free size filler) (size + 8) 0 0 ≡ sum_by fewest votes
best-led rate votes size filler s out sized front tail =
    omega (arith, front.cost (inr (least_tail rate votes size filler s sized tail)), tail.at filler, fewest_from-start rate votes)

-- all costs fit
pub best-le-all : (rate : Rate) (votes : List Vote) (size filler : ℕ) → length votes ≡ coded_length rate size → best (branch_metric rate votes) (is_free size filler) (size + 8) 0 0 ≤ all_copies votes
best-le-all Half votes size filler sized = best-le-copies Half votes size filler (size + 8) 0 0 (omega arith) sized
best-le-all Third votes size filler sized = best-le-copies Third votes size filler (size + 8) 0 0 (omega arith) sized

-- what the walk costs before a step, and from it on
pub best-parts : (rate : Rate) (votes : List Vote) (size filler k s before row base n : ℕ) (out : List Bit) → LeadTo rate votes size filler k out s → MeetsLeast rate votes size filler k s → n ≡ outputs rate * k → before ≡ sum_by fewest (take n votes) → row + base ≡ best (branch_metric rate votes) (is_free size filler) (size + 8 - k) k s → before + (base + row) ≡ best (branch_metric rate votes) (is_free size filler) (size + 8) 0 0
best-parts rate votes size filler k s before row base n out front met place counted lowered =
    omega (arith, front.cost met, fewest_from-before rate votes k n place, counted, lowered)

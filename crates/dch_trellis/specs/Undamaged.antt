-- A block whose coded bits all agree with most of their copies.
use Rattle.std.specs.Prelude.{◌≡◌, ◌+◌, ◌-◌, ◌*◌, ◌/◌, ◌%◌, ◌^◌, ◌==◌, ◌<◌, ◌≤◌, ◌++◌, ◌⊎◌, ℕ, List, if◌then◌else◌, min, nat_lt, sum_by, take, drop, slice_index}
use Rattle.dch_bits.specs.declared.bit.Bit.{Bit}
use Rattle.dch_bits.specs.declared.bit.Bit.TheVariants.{Zero, One}
use Rattle.dch_bits.specs.declared.bit.Vote.{Vote}
use Rattle.dch_bits.specs.Bits.{bit_of_number, plus}
use Rattle.dch_coding.specs.declared.rate.Rate.{Rate}
use Rattle.dch_coding.specs.Conv.{outputs}
use Rattle.dch_trellis.specs.declared.undamaged.Front.{Front}
use Rattle.dch_trellis.specs.Windows.{output}
use Rattle.dch_trellis.specs.Search.{branch_metric, is_free, best, trace}
use Rattle.dch_trellis.specs.Steps.{vote_at}
use Rattle.dch_trellis.specs.Classes.{class_at, class_metric}

-- what input Zero puts out in state s, as a number: in an odd state the opposite of the even one
abbrev pub outputs_at : List (List Bit) → ℕ → ℕ
outputs_at table s = if s % 2 == 0 then class_at table (s / 2) else 7 - class_at table (s / 2)

-- bit t of number s is output t of state s at input Zero
pub record AreOutputs (rate : Rate) (numbers : List ℕ) : Type 0 where
  pub small : (s : ℕ) → s < 256 → slice_index numbers s < 8
  pub at : (s t : ℕ) → s < 256 → t < outputs rate → bit_of_number (slice_index numbers s / 2 ^ t % 2) ≡ output rate s t

-- the fewest copies that differ from a coded bit, whichever it is, and from the outputs of a step
abbrev pub fewest : Vote → ℕ
fewest vote = min vote.zeros vote.ones

abbrev pub step_fewest : List Vote → ℕ
step_fewest step = fewest (vote_at step 0) + fewest (vote_at step 1) + fewest (vote_at step 2)

-- and from all outputs from step k on
abbrev pub fewest_from : Rate → List Vote → ℕ → ℕ
fewest_from rate votes k = sum_by fewest (drop (outputs rate * k) votes)

-- 1 where the second number is the greater one
abbrev pub is_more : ℕ → ℕ → ℕ
is_more few many = if nat_lt few many then 1 else 0

-- where more copies of a step are Zero, and where more are One, as numbers of three bits
abbrev pub more_zeros : List Vote → ℕ
more_zeros step = is_more (vote_at step 0).ones (vote_at step 0).zeros +
    2 * is_more (vote_at step 1).ones (vote_at step 1).zeros + 4 * is_more (vote_at step 2).ones (vote_at step 2).zeros

abbrev pub more_ones : List Vote → ℕ
more_ones step = is_more (vote_at step 0).zeros (vote_at step 0).ones +
    2 * is_more (vote_at step 1).zeros (vote_at step 1).ones + 4 * is_more (vote_at step 2).zeros (vote_at step 2).ones

-- what an input costs, by the outputs at input Zero
abbrev pub input_metric : List Vote → ℕ → Bit → ℕ
input_metric step numbers Zero = class_metric step numbers
input_metric step numbers One = class_metric step (7 - numbers)

-- an input costs as little as any outputs do, and the other one costs more
pub record IsTold (step : List Vote) (numbers : ℕ) (bit : Bit) : Type 0 where
  pub least : input_metric step numbers bit ≡ step_fewest step
  pub alone : step_fewest step < input_metric step numbers (plus One bit)

-- from step k on no state costs less than state s
abbrev pub IsLeastState : Rate → List Vote → ℕ → ℕ → ℕ → ℕ → Type 0
IsLeastState rate votes size filler k s = (other : ℕ) → other < 256
    → best (branch_metric rate votes) (is_free size filler) (size + 8 - k) k s ≤ best (branch_metric rate votes)
    (is_free size filler) (size + 8 - k) k other

-- or step k is the first, with state zero alone
abbrev pub MeetsLeast : Rate → List Vote → ℕ → ℕ → ℕ → ℕ → Type 0
MeetsLeast rate votes size filler k s = (k ≡ 0) ⊎ IsLeastState rate votes size filler k s

-- the inputs before step k lead to state s: where no state costs less from there on, the walk of least cost begins with
-- them, and before step k it costs as little as any outputs do
pub record LeadTo (rate : Rate) (votes : List Vote) (size filler k : ℕ) (out : List Bit) (s : ℕ) : Type 0 where
  pub small : s < 256
  pub written : MeetsLeast rate votes size filler k s
      → trace (branch_metric rate votes) (is_free size filler) (size + 8) 0 0 ≡ take k out
      ++ trace (branch_metric rate votes) (is_free size filler) (size + 8 - k) k s
  pub cost : MeetsLeast rate votes size filler k s
      → best (branch_metric rate votes) (is_free size filler) (size + 8) 0 0 + fewest_from rate votes k
      ≡ fewest_from rate votes 0 + best (branch_metric rate votes) (is_free size filler) (size + 8 - k) k s

-- the steps before each of the first ones lead to its state
pub record IsFront (rate : Rate) (votes : List Vote) (size filler : ℕ) (out : List Bit) (front : Front) : Type 0 where
  pub within : front.steps ≤ size
  pub leads : (k : ℕ) → k ≤ front.steps → LeadTo rate votes size filler k out (slice_index front.states k)

-- from step k and state s on some inputs cost as little as any outputs do
pub record CostsFewest (rate : Rate) (votes : List Vote) (size k s : ℕ) : Type 0 where
  pub at : (filler : ℕ) → best (branch_metric rate votes) (is_free size filler) (size + 8 - k) k s
      ≡ fewest_from rate votes k

-- Legal sequences radio frame by radio frame: which combinations may follow another one.
use Rattle.std.specs.Prelude.{◌≡◌, ◌≤◌, ◌<◌, ◌+◌, ◌%◌, ◌==◌, ◌&&◌, ◌||◌, ℕ, zero, suc, List, Bool, true, false, length, slice_index}
use Rattle.dch_types.specs.declared.channel.Side.{Side}
use Rattle.dch_types.specs.Parts.{format_number}
use Rattle.dch_collision.specs.Sequences.{frames_of}

-- all numbers below n pass a test
unfoldable pub all_below : (ℕ → Bool) → ℕ → Bool
all_below test zero = true
all_below test (suc n) = all_below test n && test n

-- channel j may have its format of combination c in radio frame n, after another combination: a TTI starts, or the
-- format stays
abbrev pub stays : Side → ℕ → ℕ → ℕ → ℕ → Bool
stays side n previous c j = (n % frames_of side j == 0) || (format_number side c j == format_number side previous j)

-- combination c may stand in radio frame n after another one, in a sequence of channel i and format f
unfoldable pub fits : Side → ℕ → ℕ → ℕ → ℕ → ℕ → Bool
fits side i f n previous c = (format_number side c i == f) && all_below (stays side n previous c) (length side.channels)

-- the combination before radio frame n; for the first radio frame it doesn't count
abbrev pub previous_of : List ℕ → ℕ → ℕ
previous_of sequence zero = 0
previous_of sequence (suc n) = slice_index sequence n

-- no combination from a number on fits
abbrev pub NoneFits : Side → ℕ → ℕ → ℕ → ℕ → ℕ → Type 0
NoneFits side i f n previous from = (c : ℕ) → from ≤ c → c < length side.combinations → fits side i f n previous c
    ≡ false

-- the least combination from a number on that fits
pub record IsLeastFit (side : Side) (i f n previous from c : ℕ) : Type 0 where
  pub above : from ≤ c
  pub there : c < length side.combinations
  pub may : fits side i f n previous c ≡ true
  pub least : (other : ℕ) → from ≤ other → other < c → fits side i f n previous other ≡ false

-- the least combination that fits stands in each radio frame from one on
abbrev pub LeastFrom : Side → ℕ → ℕ → ℕ → List ℕ → Type 0
LeastFrom side i f from sequence = (n : ℕ) → from ≤ n → n < length sequence
    → IsLeastFit side i f n (previous_of sequence n) 0 (slice_index sequence n)

-- no radio frame from one on can take a greater combination
abbrev pub NoneGreater : Side → ℕ → ℕ → List ℕ → ℕ → Type 0
NoneGreater side i f sequence from = (n : ℕ) → from ≤ n → n < length sequence
    → NoneFits side i f n (previous_of sequence n) (slice_index sequence n + 1)

-- the last radio frame that can take a greater combination, and the least such one
pub record IsTurn (side : Side) (i f : ℕ) (sequence : List ℕ) (n c : ℕ) : Type 0 where
  pub within : n < length sequence
  pub choice : IsLeastFit side i f n (previous_of sequence n) (slice_index sequence n + 1) c
  pub last : NoneGreater side i f sequence (n + 1)

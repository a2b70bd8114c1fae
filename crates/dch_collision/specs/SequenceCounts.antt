-- How many legal sequences there are.
use Rattle.std.specs.Prelude.{◌≡◌, ◌<◌, ◌+◌, ◌-◌, ◌&&◌, ◌↔◌, ℕ, zero, suc, List, [], ◌∷◌, Bool, true, IsTrue, length, slice_index, if◌then◌else◌}
use Rattle.dch_types.specs.declared.channel.Side.{Side}
use Rattle.dch_types.specs.Sums.{total}
use Rattle.dch_collision.specs.Sequences.{IsLegal, frames_of}
use Rattle.dch_collision.specs.Steps.{fits}

-- how many lists of so many numbers, each below a bound, pass a test
unfoldable pub how_many : ℕ → ℕ → (List ℕ → Bool) → ℕ
how_many bound zero test = if test [] then 1 else 0
how_many bound (suc count) test = total (λ c. how_many bound count (λ rest. test (c ∷ rest))) bound

-- a sequence goes on legally from radio frame n after a combination
unfoldable pub goes_on : Side → ℕ → ℕ → ℕ → ℕ → List ℕ → Bool
goes_on side i f n previous [] = true
goes_on side i f n previous (c ∷ rest) = fits side i f n previous c && goes_on side i f (suc n) c rest

-- a whole sequence is legal
abbrev pub is_legal : Side → ℕ → ℕ → List ℕ → Bool
is_legal side i f sequence = goes_on side i f 0 0 sequence

-- a list of as many combinations as channel i has radio frames in a TTI
pub record IsList (side : Side) (i : ℕ) (sequence : List ℕ) : Type 0 where
  pub whole : length sequence ≡ frames_of side i
  pub there : (n : ℕ) → n < length sequence → slice_index sequence n < length side.combinations

-- the test tells the legal sequences
abbrev pub TellsLegal : Side → ℕ → ℕ → Type 0
TellsLegal side i f = (sequence : List ℕ) → IsList side i sequence
    → IsTrue (is_legal side i f sequence) ↔ IsLegal side i f sequence

-- the number of legal sequences of channel i and format f
abbrev pub legal_count : Side → ℕ → ℕ → ℕ
legal_count side i f = how_many (length side.combinations) (frames_of side i) (is_legal side i f)

-- the ways in which a sequence may go on from radio frame n to the end of the TTI after a combination
unfoldable pub ways_on : Side → ℕ → ℕ → ℕ → ℕ → ℕ
ways_on side i f n previous = how_many (length side.combinations) (frames_of side i - n) (goes_on side i f n previous)

-- a list of these numbers, for each combination
abbrev pub AreWays : Side → ℕ → ℕ → ℕ → List ℕ → Type 0
AreWays side i f n ways = (c : ℕ) → c < length side.combinations → slice_index ways c ≡ ways_on side i f n c

-- those that begin with combination c: none where it doesn't fit in radio frame n
abbrev pub ways_with : Side → ℕ → ℕ → ℕ → ℕ → ℕ → ℕ
ways_with side i f n previous c = if fits side i f n previous c then ways_on side i f (n + 1) c else 0

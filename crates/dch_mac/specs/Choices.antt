-- The best of the first combinations.
use Rattle.std.specs.Prelude.{◌≡◌, ◌<◌, ℕ, false, Option, Some, None}
use Rattle.std.specs.Ordering.{is_gt}
use Rattle.dch_mac.specs.Asked.{Asked}
use Rattle.dch_mac.specs.Best.{carried, bits_of, compared}
use Rattle.dch_mac.specs.Candidates.{IsCandidate}
use Rattle.dch_mac.specs.declared.best.Choice.{Choice}

-- a combination with its list of bits carried, and its bits in all
pub record IsChoice (asked : Asked) (choice : Choice) : Type 0 where
  pub carried : choice.carried ≡ carried asked choice.combination
  pub bits : choice.bits ≡ bits_of asked choice.combination

-- the best of the first combinations
pub record IsBestBelow (asked : Asked) (count : ℕ) (choice : Choice) : Type 0 where
  pub what : IsChoice asked choice
  pub below : choice.combination < count
  pub candidate : IsCandidate asked choice.combination
  pub best : (other : ℕ) → other < count → IsCandidate asked other → is_gt (compared asked other choice.combination)
      ≡ false

-- the best of the first combinations, if any of them may be chosen
abbrev pub IsBestOf : Asked → ℕ → Option Choice → Type 0
IsBestOf asked count None = (other : ℕ) → other < count → ¬ IsCandidate asked other
IsBestOf asked count (Some choice) = IsBestBelow asked count choice

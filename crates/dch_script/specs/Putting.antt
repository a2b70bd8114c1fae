-- Text that is put into a report as far as there is room.
use Rattle.std.specs.Prelude.{◌≡◌, ◌++◌, ℕ, List, take}
use Rattle.dch_script.specs.Held.{Held}

-- a text stands behind what the report held, cut where its room ends
pub record Puts (old : Held) (text : List ℕ) (new : Held) : Type 0 where
  pub most : new.most ≡ old.most
  pub cut : new.text ≡ take old.most (old.text ++ text)

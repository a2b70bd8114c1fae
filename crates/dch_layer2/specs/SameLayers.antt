-- Two layers that say the same.
use Rattle.std.specs.Prelude.{◌≡◌, ℕ}
use Rattle.dch_layer2.specs.Layers.{Layer}

-- they agree in each bearer, in the combinations that are blocked, in the one that runs, and in what each channel was
-- given
pub record IsSameLayer (layer other : Layer) : Type 0 where
  pub bearings : (b : ℕ) → other.bearings b ≡ layer.bearings b
  pub blocked : other.blocked ≡ layer.blocked
  pub running : other.running ≡ layer.running
  pub given : (i : ℕ) → other.given i ≡ layer.given i

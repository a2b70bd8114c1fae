-- Two states of a network controller that say the same.
use Rattle.std.specs.Prelude.{◌≡◌}
use Rattle.dch_layer2.specs.SameLayers.{IsSameLayer}
use Rattle.dch_rnc.specs.State.{State}

-- they agree in the configuration, in the CFN, and in layer 2
pub record IsSameState (state other : State) : Type 0 where
  pub planned : other.planned ≡ state.planned
  pub cfn : other.cfn ≡ state.cfn
  pub layer : IsSameLayer state.layer other.layer

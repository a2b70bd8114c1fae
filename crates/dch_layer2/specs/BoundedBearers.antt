-- What a bearer holds is limited (TS 25.322 11.2.3, 11.3.3): in acknowledged mode each PDU that came had at most 126
-- octets and none lies beyond the window, and in unacknowledged mode no unit that ended waits.
use Rattle.std.specs.Prelude.{◌≡◌, ◌<◌, ℕ, [], length}
use Rattle.dch_types.specs.declared.bearer.Mode.TheVariants.{Um, Am}
use Rattle.dch_types.specs.declared.config.Config.{Config}
use Rattle.dch_rlcum.specs.Receiving.{Receiving}
use Rattle.dch_am.specs.Receiver.{Receiver}
use Rattle.dch_amlaw.specs.Bounded.{IsBoundedReceiver}
use Rattle.dch_layer2.specs.Bearings.{Bearing, Transparent, Unacknowledged, Acknowledged, bearer_in, rules_in}
use Rattle.dch_layer2.specs.Layers.{Layer}

pub record IsBoundedUm (config : Config) (b : ℕ) (r : Receiving) : Type 0 where
  pub mode : (bearer_in config b).mode ≡ Um
  pub settled : r.waiting ≡ []

pub record IsBoundedAm (config : Config) (b : ℕ) (r : Receiver) : Type 0 where
  pub mode : (bearer_in config b).mode ≡ Am
  pub receiver : IsBoundedReceiver (rules_in config b).window r

-- bearer b is limited
abbrev pub IsBounded : Config → ℕ → Bearing → Type 0
IsBounded config b (Transparent w us) = Unit {0}
IsBounded config b (Unacknowledged s r) = IsBoundedUm config b r
IsBounded config b (Acknowledged s r) = IsBoundedAm config b r

-- each receiver of all bearers of an end is bounded, and in unacknowledged mode no SDU that ended waits
abbrev pub AreBounded : Config → Layer → Type 0
AreBounded config layer = (b : ℕ) → b < length config.bearers → IsBounded config b (layer.bearings b)

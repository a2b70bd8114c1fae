-- How many bytes of report can still come of what a bearer holds: of the unit in progress, and in acknowledged mode of
-- the PDUs that arrived behind a missing one.
use Rattle.std.specs.Prelude.{ℕ, length}
use Rattle.dch_types.specs.declared.config.Config.{Config}
use Rattle.dch_types.specs.Sums.{total}
use Rattle.dch_steptext.specs.ReceiverBytes.{part_bytes, receiver_bytes}
use Rattle.dch_layer2.specs.Bearings.{Bearing, Transparent, Unacknowledged, Acknowledged, rules_in}
use Rattle.dch_layer2.specs.Layers.{Layer}

-- of bearer b
abbrev pub bearing_bytes : Config → ℕ → Bearing → ℕ
bearing_bytes config b (Transparent w us) = 0
bearing_bytes config b (Unacknowledged s r) = part_bytes r.part
bearing_bytes config b (Acknowledged s r) = receiver_bytes (rules_in config b).window r

-- how many bytes of report the SDUs in progress and the kept PDUs of all bearers of an end may still take
abbrev pub layer_bytes : Config → Layer → ℕ
layer_bytes config layer = total (λ b. bearing_bytes config b (layer.bearings b)) (length config.bearers)

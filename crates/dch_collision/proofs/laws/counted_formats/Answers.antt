use Rattle.dch_collision.proofs.Removed.{counted_uplink, counted_downlink}
use Rattle.dch_collision.proofs.laws.counted_formats.Goals as goal

pub returns-clause-uplink : goal.returns-clause-uplink
returns-clause-uplink c = counted_uplink

pub returns-clause-downlink : goal.returns-clause-downlink
returns-clause-downlink c = counted_downlink

use Rattle.dch_runlaw.proofs.DownlinkSent.{downlink_damaged}
use Rattle.dch_runlaw.proofs.UplinkSent.{uplink_damaged}
use Rattle.dch_runlaw.proofs.tti_laws.damaged_tti_law.Goals as goal

pub returns-clause-uplink : goal.returns-clause-uplink
returns-clause-uplink c = uplink_damaged

pub returns-clause-downlink : goal.returns-clause-downlink
returns-clause-downlink c = downlink_damaged

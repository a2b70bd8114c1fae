use Rattle.dch_runlaw.proofs.DownlinkSent.{downlink_sent}
use Rattle.dch_runlaw.proofs.UplinkSent.{uplink_sent}
use Rattle.dch_runlaw.proofs.tti_laws.sent_tti_law.Goals as goal

pub returns-clause-downlink : goal.returns-clause-downlink
returns-clause-downlink c = downlink_sent

pub returns-clause-uplink : goal.returns-clause-uplink
returns-clause-uplink c = uplink_sent

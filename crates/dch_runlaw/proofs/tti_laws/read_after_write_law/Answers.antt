use Rattle.dch_runlaw.proofs.ReadAfterWrite.{downlink_answered, uplink_answered}
use Rattle.dch_runlaw.proofs.tti_laws.read_after_write_law.Goals as goal

pub returns-clause-uplink : goal.returns-clause-uplink
returns-clause-uplink c = uplink_answered

pub returns-clause-downlink : goal.returns-clause-downlink
returns-clause-downlink c = downlink_answered

-- A run ends well only where its lines were followed to the end.
use Rattle.std.proofs.Common.{◌≡◌, refl}
use Rattle.dch_lines.specs.declared.stop.Outcome.{Outcome}
use Rattle.dch_lines.specs.declared.stop.Outcome.TheVariants.{Ok as Done, Refused as MetMalformed, ReadFault as FailedReading, WriteFault as FailedWriting, NoMemory as Lacking, TooLong as TookTooMuch}
use Rattle.dch_check.specs.declared.status.Status.TheVariants.{Ok as Well}
use Rattle.dch_check.specs.Configured.{outcome_status}

pub only_well : (outcome : Outcome) → Well ≡ outcome_status outcome → outcome ≡ Done
only_well Done same = refl
only_well MetMalformed same = cc
only_well FailedReading same = cc
only_well FailedWriting same = cc
only_well Lacking same = cc
only_well TookTooMuch same = cc

use Rattle.dch_rlcum.specs.Receiving.{opened}
use Rattle.dch_rlcum.proofs.Received.{handed_units}
use Rattle.dch_rlcum.proofs.laws.arrived_units_law.Goals as goal

pub returns : goal.returns
returns c = λ pdu row xs. handed_units pdu row 0 opened xs

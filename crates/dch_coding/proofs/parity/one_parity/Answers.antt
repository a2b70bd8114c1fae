use Rattle.dch_coding.proofs.Attached.{attached_one, length-attached}
use Rattle.dch_coding.proofs.Unique.{parity_some, parity_one}
use Rattle.dch_coding.proofs.parity.one_parity.Goals as goal

pub returns-clause-some : goal.returns-clause-some
returns-clause-some c low block = parity_some low block

pub returns-clause-one : goal.returns-clause-one
returns-clause-one c low block parity other first second = parity_one low block parity other first second

pub returns-clause-attached : goal.returns-clause-attached
returns-clause-attached c kind block out other first second = attached_one kind block out other first second

pub returns-clause-length : goal.returns-clause-length
returns-clause-length c kind block out known = length-attached kind block out known

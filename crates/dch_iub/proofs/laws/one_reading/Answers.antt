use Rattle.dch_iub.proofs.Back.{one_reading}
use Rattle.dch_iub.proofs.laws.one_reading.Goals as goal

pub returns-clause-one : goal.returns-clause-one
returns-clause-one c = one_reading

pub returns-clause-back : goal.returns-clause-back
returns-clause-back c config dir set cfn qe other_cfn other_qe frame held other written read = one_reading config dir set cfn qe other_cfn other_qe frame held other written.read read

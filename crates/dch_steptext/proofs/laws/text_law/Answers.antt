use Rattle.std.proofs.Common.{refl}
use Rattle.dch_script.proofs.Adding.{text_of-append}
use Rattle.dch_steptext.proofs.laws.text_law.Goals as goal

pub returns-clause-one : goal.returns-clause-one
returns-clause-one c line = refl

pub returns-clause-append : goal.returns-clause-append
returns-clause-append c = text_of-append

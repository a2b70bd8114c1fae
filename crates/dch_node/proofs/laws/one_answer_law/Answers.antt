use Rattle.dch_types.specs.Parts.{side_of}
use Rattle.dch_iub.proofs.Refused.{no_form}
use Rattle.dch_node.proofs.IubFrames.{one_frame, one_number}
use Rattle.dch_node.proofs.laws.one_answer_law.Goals as goal

pub returns-clause-number : goal.returns-clause-number
returns-clause-number c config dir set frame error other = one_number dir (side_of config dir) config.payload_check set frame error other

pub returns-clause-apart : goal.returns-clause-apart
returns-clause-apart c config dir set cfn qe frame error held cause = no_form config dir set frame error cause cfn qe held

pub returns-clause-reading : goal.returns-clause-reading
returns-clause-reading c = one_frame

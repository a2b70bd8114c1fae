use Rattle.dch_link.proofs.OneNodes.{one_pass}
use Rattle.dch_link.proofs.OneText.{change_planned, change_same, event_pass, stage_pass}
use Rattle.dch_link.proofs.laws.one_text_law.Goals as goal

pub returns-clause-stage : goal.returns-clause-stage
returns-clause-stage c stage old new older newer lines rest is planned same a b = one_pass new newer lines rest (stage_pass stage old new older newer lines rest is planned same a b)

pub returns-clause-event : goal.returns-clause-event
returns-clause-event c event old new older newer lines rest planned same a b = one_pass new newer lines rest (event_pass event old new older newer lines rest planned same a b)

pub returns-clause-change : goal.returns-clause-change
returns-clause-change c second old new older newer good planned same a b = (change_planned second old new good planned a, change_same second old new older newer good planned same a b)

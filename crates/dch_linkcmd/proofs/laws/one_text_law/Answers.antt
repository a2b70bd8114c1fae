use Rattle.dch_linkcmd.specs.Run.{opened_run}
use Rattle.dch_linkcmd.proofs.OneText.{IsOneText, lines_text, opened_planned, opened_same}
use Rattle.dch_linkcmd.proofs.laws.one_text_law.Goals as goal

pub returns-clause-lines : goal.returns-clause-lines
returns-clause-lines c old new older newer lines text more planned same a b =
    let one : IsOneText new newer text more = lines_text old new older newer lines text more planned same a b in (one.planned, one.same, one.text_is)

pub returns-clause-script : goal.returns-clause-script
returns-clause-script c began second first quiet new newer lines text more good then a b =
    (lines_text (opened_run began second first quiet) new (opened_run began second first quiet) newer lines text more (opened_planned began second first quiet good then) (opened_same began second first quiet) a b).text_is

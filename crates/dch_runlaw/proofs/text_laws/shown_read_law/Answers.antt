use Rattle.dch_runlaw.proofs.TextTold.{over_shown, run_shown, units_shown}
use Rattle.dch_runlaw.proofs.text_laws.shown_read_law.Goals as goal

pub returns : goal.returns
returns c = record {
  same = units_shown;
  read = run_shown;
  over = over_shown;
}

use Rattle.std.proofs.Common.{[], ap}
use Rattle.dch_runlaw.proofs.bearer_laws.tm_law.Goals as goal
use Rattle.dch_runlaw.specs.TmHistory.{units_in}
use Rattle.dch_runlaw.proofs.Tm.{sub_units, tm_all_came, tm_carried, tm_some}
use Rattle.dch_runlaw.proofs.TmRuns.{tm_history, tm_over}

pub returns-clause-some : goal.returns-clause-some
returns-clause-some c config out into b i events w is run faithful = tm_some config out b i [] [] w (tm_history config out into b i events w is run) tt faithful

pub returns-clause-all : goal.returns-clause-all
returns-clause-all c config out into b i events w running is run e = tm_carried config out b i w running (tm_history config out into b i events w is run) e

pub returns-clause-some_of_two : goal.returns-clause-some_of_two
returns-clause-some_of_two c first second out into b i j earlier later w is on run before faithful =
    tm_some second out b j (units_in first out b i (run.mid.out i).given) (units_in first out b i (run.mid.out i).taken) w (tm_over first second out into b i j earlier later w is on run) (sub_units first out b i (run.mid.out i) before) faithful

pub returns-clause-all_of_two : goal.returns-clause-all_of_two
returns-clause-all_of_two c first second out into b i j earlier later w running is on run before e =
    tm_all_came second out b j (units_in first out b i (run.mid.out i).given) (units_in first out b i (run.mid.out i).taken) w running (tm_over first second out into b i j earlier later w is on run) (ap (units_in first out b i) before) e

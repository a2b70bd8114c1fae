use Rattle.std.proofs.Common.{ap}
use Rattle.dch_runlaw.proofs.bearer_laws.um_whole_law.Goals as goal
use Rattle.dch_runlaw.specs.UmHistory.{pdus_in}
use Rattle.dch_runlaw.proofs.UmRuns.{um_history, um_over}
use Rattle.dch_runlaw.proofs.UmWhole.{um_all_came, um_carried}

pub returns-clause-one : goal.returns-clause-one
returns-clause-one c config out into b i events w running is run e = um_carried config out b i w running (um_history config out into b i events w is run) e

pub returns-clause-two : goal.returns-clause-two
returns-clause-two c first second out into b i j earlier later w running is on run before e =
    um_all_came second out b j (pdus_in first out b i (run.mid.out i).given) (pdus_in first out b i (run.mid.out i).taken) w running (um_over first second out into b i j earlier later w is on run) (ap (pdus_in first out b i) before) e

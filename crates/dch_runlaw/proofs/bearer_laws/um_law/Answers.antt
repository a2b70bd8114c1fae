use Rattle.std.proofs.Common.{[]}
use Rattle.dch_runlaw.proofs.bearer_laws.um_law.Goals as goal
use Rattle.dch_runlaw.proofs.UmKnown.{known_history, known_over}
use Rattle.dch_runlaw.proofs.UmRuns.{um_history, um_over}

pub returns-clause-one : goal.returns-clause-one
returns-clause-one c config out into b i events w is run faithful = known_history config out b i [] [] w (um_history config out into b i events w is run) tt faithful

pub returns-clause-two : goal.returns-clause-two
returns-clause-two c first second out into b i j earlier later w is on run before faithful = known_over first second out b i j run.mid w (um_over first second out into b i j earlier later w is on run) before faithful

use Rattle.dch_tti.proofs.Moved.{as_many, moved, one_to_one}
use Rattle.dch_tti.proofs.frame_laws.moved_cells_law.Goals as goal

pub returns-clause-places : goal.returns-clause-places
returns-clause-places c = one_to_one

pub returns-clause-cells : goal.returns-clause-cells
returns-clause-cells c = moved

pub returns-clause-all : goal.returns-clause-all
returns-clause-all c = as_many

use Rattle.std.proofs.Common.{sym, ◌∙◌}
use Rattle.dch_inter.proofs.FirstColumns.{frame_of_column, frame_of-below}
use Rattle.dch_inter.proofs.frame.Goals as goal

pub returns-clause-value : goal.returns-clause-value
returns-clause-value c = c.column.ensures.value ∙ sym (frame_of_column c.args.f c.args.len c.args.i c.requires.frames c.requires.divides c.requires.inside)

pub returns-clause-inside : goal.returns-clause-inside
returns-clause-inside c = rw (returns-clause-value c) (frame_of-below c.args.f c.args.len c.args.i c.requires.frames c.requires.divides c.requires.inside)

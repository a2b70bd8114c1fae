use Rattle.std.proofs.Common.{sym}
use Rattle.dch_inter.proofs.FirstColumns.{place_of_row, place_of-below}
use Rattle.dch_inter.proofs.place.Goals as goal

pub returns-clause-value : goal.returns-clause-value
returns-clause-value c = sym (place_of_row c.args.f c.args.len c.args.i c.requires.frames c.requires.divides c.requires.inside)

pub returns-clause-inside : goal.returns-clause-inside
returns-clause-inside c = rw (returns-clause-value c) (place_of-below c.args.f c.args.len c.args.i c.requires.frames c.requires.divides c.requires.inside)

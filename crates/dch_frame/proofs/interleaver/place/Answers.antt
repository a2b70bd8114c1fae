use Rattle.std.proofs.Common.{length}
use Rattle.dch_inter.proofs.Rows.{second_of-below}
use Rattle.dch_frame.proofs.interleaver.place.Goals as goal

pub returns-clause-inside : goal.returns-clause-inside
returns-clause-inside c = rw (c.requires.table.shown c.args.k c.requires.inside) (second_of-below (length c.args.places.now) c.args.k c.requires.inside)

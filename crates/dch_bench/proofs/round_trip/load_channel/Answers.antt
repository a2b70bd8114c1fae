use Rattle.dch_bench.proofs.Noted.{noted_on}
use Rattle.dch_bench.proofs.round_trip.load_channel.Goals as goal

pub returns-clause-noted : goal.returns-clause-noted
returns-clause-noted g c = noted_on (g.E.Ends.loaded c.args.ends.now) (g.E.Ends.loaded c.load.new.self) c.args.noted.now c.note.new.noted c.args.channel c.args.format
    c.load.ensures.loaded c.load.ensures.same c.note.ensures.it c.note.ensures.same c.requires.noted

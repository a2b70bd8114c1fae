use Rattle.std.proofs.Common.{rules}
use Rattle.dch_ulphy.proofs.Padded.{padded_is}
use Rattle.dch_ulphy.proofs.tti.load.Goals as goal

pub returns-clause-loaded : goal.returns-clause-loaded
returns-clause-loaded c = record {
  room = c.load.ensures.room;
  format = c.load.ensures.format;
  coded = c.code.new.out;
  is = search rules;
  cells = padded_is c.args.channel.now.frames c.pad-len.result c.code.new.out c.pad-len.new.out _ c.requires.channel.frames c.pad-len.ensures.long c.pad-len.ensures.whole (search rules) c.pad-len.ensures.cells c.load.ensures.cells;
}

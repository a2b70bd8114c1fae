use Rattle.std.proofs.Common.{arith}
use Rattle.dch_types.specs.declared.channel.Dir.TheVariants.{Up, Down}
use Rattle.dch_gen.specs.Run.{HappenAll, PassesAll}
use Rattle.dch_gen.specs.Units.{offered, offered_below}
use Rattle.dch_gen.proofs.Advancing.{advances_events, advances_then, may_less}
use Rattle.dch_gen.proofs.generator.Generator.pass_frame.Goals as goal

pub offer-requires-2-clause-room : goal.offer-requires-2-clause-room
offer-requires-2-clause-room c = c.offer.ensures.counts 6 (may_less c.args.self.now 12 32 (omega arith) c.requires.room)

pub pass_stages-requires-clause-room : goal.pass_stages-requires-clause-room
pass_stages-requires-clause-room c = c.offer-2.ensures.counts 20 (c.offer.ensures.counts 26 c.requires.room)

pub returns : goal.returns
returns c =
    let both = advances_events 6 6 (offered_below c.args.frames c.args.frame Up 6) (offered_below c.args.frames c.args.frame Down 6) c.args.self.now c.offer.new.self c.offer-2.new.self c.offer.ensures c.offer-2.ensures in
    advances_then 12 20 (HappenAll (offered c.args.frames c.args.frame)) PassesAll c.args.self.now c.offer-2.new.self c.pass_stages.new.self both c.pass_stages.ensures

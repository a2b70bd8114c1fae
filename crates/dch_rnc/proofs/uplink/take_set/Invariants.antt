use Rattle.dch_types.specs.declared.channel.Dir.TheVariants.{Up}
use Rattle.dch_layer2.specs.Bounded.{HasRead}
use Rattle.dch_rnc.specs.State.{set_readings}
use Rattle.dch_rnc.proofs.uplink.take_set.Given as goal

abbrev pub invariant-loop-i : goal.invariant-loop-i
invariant-loop-i g l = HasRead g.U.Indications.shows l.accepted.config Up (set_readings l.accepted.config.uplink.side l.set l.blocks) l.i l.fn.layer l.layer l.fn.user l.user

use Rattle.dch_types.specs.declared.channel.Dir.TheVariants.{Down}
use Rattle.dch_layer2.specs.Bounded.{HasRead}
use Rattle.dch_ue.specs.Values.{readings_of}
use Rattle.dch_ue.proofs.receiver.give_ttis.Given as goal

abbrev pub invariant-loop-i : goal.invariant-loop-i
invariant-loop-i g l = HasRead g.U.Indications.shows l.accepted.config Down (readings_of l.ttis) l.i l.fn.layer l.layer l.fn.user l.user

use Rattle.std.proofs.Common.{◌+◌, ◌*◌}
use Rattle.dch_types.specs.declared.channel.Dir.TheVariants.{Up}
use Rattle.dch_accept.specs.HeldSets.{held_at}
use Rattle.dch_layer2.specs.Opening.{blocks_in}
use Rattle.dch_rnc.specs.Values.{taken_shown}
use Rattle.dch_node.specs.Standing.{Tells}
use Rattle.dch_steptext.specs.Reports.{TellsFew}
use Rattle.dch_link.specs.Comparing.{ComparesAll, good_of}
use Rattle.dch_link.proofs.link.Link.compare_up.Given as goal

abbrev pub invariant-channels : goal.invariant-channels
invariant-channels g l =
    ComparesAll Up (λ i. good_of (taken_shown l.self.rnc i)) (λ i. blocks_in (held_at l.self.ue.layer.given i)) l.channel (Tells g.U.Indications.shows l.fn.user l.user)
    × TellsFew g.U.Indications.shows (1 + 300 * l.channel) l.fn.user l.user

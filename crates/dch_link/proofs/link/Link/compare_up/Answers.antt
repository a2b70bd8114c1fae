use Rattle.std.proofs.Common.{◌+◌, ◌*◌, List, arith, ap, subst}
use Rattle.dch_types.specs.declared.channel.Dir.TheVariants.{Up}
use Rattle.dch_node.specs.Standing.{Tells}
use Rattle.dch_link.specs.Values.{Nodes}
use Rattle.dch_link.specs.contracts.link.Link.{the_view}
use Rattle.dch_bits.specs.declared.bit.Bit.{Bit}
use Rattle.dch_accept.specs.Blocks.{Held}
use Rattle.dch_accept.specs.HeldSets.{held_at}
use Rattle.dch_layer2.specs.Opening.{blocks_in}
use Rattle.dch_rnc.specs.Lending.{held_of}
use Rattle.dch_rnc.specs.Values.{taken_shown}
use Rattle.dch_steptext.proofs.Reporting.{few_none, few_then}
use Rattle.dch_link.specs.Comparing.{Compares, good_of}
use Rattle.dch_link.proofs.Reporting.{compares-none, compares_next}
use Rattle.dch_link.proofs.link.Link.compare_up.Goals as goal

pub channels-preserved : goal.channels-preserved
channels-preserved g c =
    let nodes : Nodes = the_view c.self.inside in
    let now : Nodes = c.args.self.now in
    let i = c.channels.channel in
    let own : Compares Up i (good_of (taken_shown nodes.rnc i)) (blocks_in (held_at nodes.ue.layer.given i)) (Tells g.U.Indications.shows c.channels.user c.compare.new.user) =
    subst (λ (l : List (List Bit)). Compares Up i l (blocks_in (held_at nodes.ue.layer.given i)) (Tells g.U.Indications.shows c.channels.user c.compare.new.user)) (ap good_of c.taken-taken.ensures)
    (subst (λ (h : Held). Compares Up i (good_of (held_of c.taken-taken.result)) (blocks_in h) (Tells g.U.Indications.shows c.channels.user c.compare.new.user)) c.given.ensures c.compare.ensures.compared) in (
      compares_next g.U.Indications.shows Up (λ i. good_of (taken_shown now.rnc i)) (λ i. blocks_in (held_at now.ue.layer.given i)) i c.args.user.now c.channels.user c.compare.new.user c.channels.invariant.0
          (subst (λ (n : Nodes). Compares Up i (good_of (taken_shown n.rnc i)) (blocks_in (held_at n.ue.layer.given i)) (Tells g.U.Indications.shows c.channels.user c.compare.new.user)) c.self.view_is own),
      few_then g.U.Indications.shows (1 + 300 * i) 301 (1 + 300 * (i + 1)) c.args.user.now c.channels.user c.compare.new.user (omega arith) c.channels.invariant.1 c.compare.ensures.few,
    )

pub channels-init : goal.channels-init
channels-init g c = (compares-none g.U.Indications.shows Up (λ i. good_of (taken_shown c.args.self.now.rnc i)) (λ i. blocks_in (held_at c.args.self.now.ue.layer.given i)) c.args.user.now, few_none g.U.Indications.shows (1 + 300 * 0) c.args.user.now (omega arith))

use Rattle.std.proofs.Common.{◌∙◌, List, ap, length, sym, subst}
use Rattle.dch_bits.specs.declared.bit.Vote.{Vote}
use Rattle.dch_accept.proofs.Overwritten.{whole_written}
use Rattle.dch_collision.specs.Directions.{copies_in}
use Rattle.dch_collision.specs.declared.direction.Direction.{Direction}
use Rattle.dch_margin.specs.Counts.{AreCounts}
use Rattle.dch_margin.proofs.worst.count_cells.Goals as goal

pub returns-in_ok-votes-in-Up-clause-counts : goal.returns-in_ok-votes-in-Up-clause-counts
returns-in_ok-votes-in-Up-clause-counts c =
    subst (λ (votes : List Vote). AreCounts (copies_in c.args.direction c.args.i c.args.f c.args.sequence.now) votes)
    (sym (whole_written c.in_ok-votes-in-Up.votes.len c.in_ok-votes-in-Up.votes.items c.count_uplink.new.votes c.in_ok-votes-in-Up.votes.ok.0 (c.count_uplink.auto.votes ∙ ap length c.deref_mut-in-Up.ensures.value)))
    (subst (λ (d : Direction). AreCounts (copies_in d c.args.i c.args.f c.args.sequence.now) c.count_uplink.new.votes) (sym c.in-Up.is) c.count_uplink.ensures)

pub returns-in_ok-votes-in-Down-clause-counts : goal.returns-in_ok-votes-in-Down-clause-counts
returns-in_ok-votes-in-Down-clause-counts c =
    subst (λ (votes : List Vote). AreCounts (copies_in c.args.direction c.args.i c.args.f c.args.sequence.now) votes)
    (sym (whole_written c.in_ok-votes-in-Down.votes.len c.in_ok-votes-in-Down.votes.items c.count_downlink.new.votes c.in_ok-votes-in-Down.votes.ok.0 (c.count_downlink.auto.votes ∙ ap length c.deref_mut-in-Down.ensures.value)))
    (subst (λ (d : Direction). AreCounts (copies_in d c.args.i c.args.f c.args.sequence.now) c.count_downlink.new.votes) (sym c.in-Down.is) (c.count_downlink.ensures c.args.sequence.now))

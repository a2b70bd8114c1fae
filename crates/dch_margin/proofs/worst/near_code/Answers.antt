use Rattle.std.proofs.Common.{◌∙◌, List, ap, length, sym, subst}
use Rattle.dch_accept.proofs.Overwritten.{whole_written}
use Rattle.dch_bits.specs.declared.bit.Vote.{Vote}
use Rattle.dch_trellis.specs.Distance.{copies_at}
use Rattle.dch_collision.specs.Directions.{copies_in, side_in}
use Rattle.dch_margin.specs.Differ.{DifferInBlock, IsLeast}
use Rattle.dch_margin.specs.Worst.{IsNear}
use Rattle.dch_margin.proofs.Cases.{least_of_block, near_sent}
use Rattle.dch_margin.proofs.worst.near_code.Goals as goal

pub nearest_code-requires-clause-least : goal.nearest_code-requires-clause-least
nearest_code-requires-clause-least c =
    subst (λ (votes : List Vote). IsLeast (DifferInBlock c.args.sizes.now.coding c.args.sizes.now.plan (copies_at votes) c.args.least.block) c.args.least.cells) (sym c.deref_mut.ensures.value)
    (least_of_block (side_in c.args.direction) (copies_in c.args.direction) c.args.i c.args.f c.args.sequence.now c.in_ok-votes.votes.items c.args.sizes.now c.args.least c.requires.sizes c.in_ok-votes.ensures.long c.in_ok-votes.ensures.counts c.requires.least)

pub returns-clause-near : goal.returns-clause-near
returns-clause-near c =
    near_sent (side_in c.args.direction) (copies_in c.args.direction) c.args.i c.args.f c.args.sequence.now c.in_ok-votes.votes.items c.args.sizes.now c.args.least.block c.args.least.cells c.nearest_code.new.code _
    c.requires.sizes c.in_ok-votes.ensures.long c.in_ok-votes.ensures.counts c.requires.least.there
    (whole_written c.in_ok-code.code.len c.in_ok-code.code.items c.nearest_code.new.code c.in_ok-code.code.ok.0 (c.nearest_code.auto.code ∙ ap length c.deref_mut-3.ensures.value))
    (subst (λ (votes : List Vote). IsNear c.args.sizes.now.coding c.args.sizes.now.plan (copies_at votes) c.args.least.block c.args.least.cells c.nearest_code.new.code) c.deref_mut.ensures.value c.nearest_code.ensures.near)

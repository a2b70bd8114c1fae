use Rattle.std.proofs.Common.{◌∙◌, ◌++◌, ap, ap₂, arith, length, sym}
use Rattle.dch_rlcpdu.specs.Body.{padded}
use Rattle.dch_rlcpdu.specs.Indicators.{indicator_octets}
use Rattle.dch_txbuf.specs.Cuts.{is_padded, left_at, indicators_with, octets_of}
use Rattle.dch_txbuf.proofs.Marking.{IsSplit, split_is}
use Rattle.dch_txbuf.proofs.body.write_body.Goals as goal

pub write_parts-requires-clause-count : goal.write_parts-requires-clause-count
write_parts-requires-clause-count c =
    let is : IsSplit c.args.lead (length c.args.out.now) (length c.split_at_mut-indicators.result.0.now) (length c.split_at_mut-indicators.result.1.now) c.args.cut.now (left_at c.args.start.now c.args.sdus.now.items) =
    split_is c.args.lead (length c.args.out.now) (length c.split_at_mut-indicators.result.0.now) (length c.split_at_mut-indicators.result.1.now) c.count_ends-ends.result c.from.result c.args.cut.now (left_at c.args.start.now c.args.sdus.now.items) c.requires.there
    (omega (arith, c.split_at_mut-indicators.ensures.front_len)) (omega (arith, c.split_at_mut-indicators.ensures.front_len, c.split_at_mut-indicators.ensures.back_len)) c.count_ends-ends.ensures c.from.ensures c.requires.padded in
    is.count

pub write_parts-requires-clause-padded : goal.write_parts-requires-clause-padded
write_parts-requires-clause-padded c =
    let is : IsSplit c.args.lead (length c.args.out.now) (length c.split_at_mut-indicators.result.0.now) (length c.split_at_mut-indicators.result.1.now) c.args.cut.now (left_at c.args.start.now c.args.sdus.now.items) =
    split_is c.args.lead (length c.args.out.now) (length c.split_at_mut-indicators.result.0.now) (length c.split_at_mut-indicators.result.1.now) c.count_ends-ends.result c.from.result c.args.cut.now (left_at c.args.start.now c.args.sdus.now.items) c.requires.there
    (omega (arith, c.split_at_mut-indicators.ensures.front_len)) (omega (arith, c.split_at_mut-indicators.ensures.front_len, c.split_at_mut-indicators.ensures.back_len)) c.count_ends-ends.ensures c.from.ensures c.requires.padded in
    c.requires.padded ∙ ap (λ r. is_padded r c.args.lead c.args.cut.now (left_at c.args.start.now c.args.sdus.now.items)) (sym is.whole)

pub returns-clause-text : goal.returns-clause-text
returns-clause-text c =
    let us = left_at c.args.start.now c.args.sdus.now.items in
    let is : IsSplit c.args.lead (length c.args.out.now) (length c.split_at_mut-indicators.result.0.now) (length c.split_at_mut-indicators.result.1.now) c.args.cut.now (left_at c.args.start.now c.args.sdus.now.items) =
    split_is c.args.lead (length c.args.out.now) (length c.split_at_mut-indicators.result.0.now) (length c.split_at_mut-indicators.result.1.now) c.count_ends-ends.result c.from.result c.args.cut.now (left_at c.args.start.now c.args.sdus.now.items) c.requires.there
    (omega (arith, c.split_at_mut-indicators.ensures.front_len)) (omega (arith, c.split_at_mut-indicators.ensures.front_len, c.split_at_mut-indicators.ensures.back_len)) c.count_ends-ends.ensures c.from.ensures c.requires.padded in
    ap₂ (λ ms xs. ms ++ xs) (c.write_parts.ensures.indicators ∙ ap (λ r. indicator_octets (indicators_with c.args.lead r c.args.cut.now us)) is.whole) (c.write_parts.ensures.octets ∙ ap (λ n. padded n (octets_of c.args.cut.now us)) is.rest)

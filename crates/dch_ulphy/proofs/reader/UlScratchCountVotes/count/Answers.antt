use Rattle.std.proofs.Common.{◌≡◌, ◌+◌, ◌*◌, ◌<◌, ◌≤◌, ◌∙◌, ℕ, List, length, drop, arith, ap, ap₂, sym}
use Rattle.std.specs.Prelude.{◌++◌}
use Rattle.std.proofs.lemmas.List.{get_or_append_left, length-take-le, take-append-le}
use Rattle.dch_bits.specs.declared.bit.Vote.{Vote}
use Rattle.dch_types.specs.declared.channel.Trch.{Trch}
use Rattle.dch_tti.specs.Read.{coded_in, votes_in}
use Rattle.dch_ulphy.proofs.Rooms.{RowsFit, rows_fit}
use Rattle.dch_ulphy.proofs.Damaged.{votes_told}
use Rattle.dch_ulphy.proofs.SentBack.{votes_counted}
use Rattle.dch_ulphy.proofs.reader.UlScratchCountVotes.count.Goals as goal

pub slice_bounds-votes-end : goal.slice_bounds-votes-end
slice_bounds-votes-end c =
    let trch : Trch = c.channel-trch.result.now in
    let fits : RowsFit c.args.accepted.now c.args.rx_frames.now c.args.channel c.args.format trch.frames c.div_ceil-rows.result c.args.out.now =
    rows_fit c.args.accepted.now c.args.rx_frames.now c.args.channel c.args.format trch c.format.result.now c.tti_bits-bits.result c.div_ceil-rows.result c.args.out.now
    c.requires.opened c.requires.channel c.channel-trch.ensures.value c.channel-trch.ensures.good c.requires.format.inside c.format.ensures.value c.tti_bits-bits.ensures c.div_ceil-rows.ensures c.requires.room in
    fits.all

pub slice_bounds-votes-end-2 : goal.slice_bounds-votes-end-2
slice_bounds-votes-end-2 c =
    let trch : Trch = c.channel-trch.result.now in
    let fits : RowsFit c.args.accepted.now c.args.rx_frames.now c.args.channel c.args.format trch.frames c.div_ceil-rows.result c.args.out.now =
    rows_fit c.args.accepted.now c.args.rx_frames.now c.args.channel c.args.format trch c.format.result.now c.tti_bits-bits.result c.div_ceil-rows.result c.args.out.now
    c.requires.opened c.requires.channel c.channel-trch.ensures.value c.channel-trch.ensures.good c.requires.format.inside c.format.ensures.value c.tti_bits-bits.ensures c.div_ceil-rows.ensures c.requires.room in
    sym fits.taken

pub slice_mut-requires-clause-in_bounds : goal.slice_mut-requires-clause-in_bounds
slice_mut-requires-clause-in_bounds c =
    let trch : Trch = c.channel-trch.result.now in
    let fits : RowsFit c.args.accepted.now c.args.rx_frames.now c.args.channel c.args.format trch.frames c.div_ceil-rows.result c.args.out.now =
    rows_fit c.args.accepted.now c.args.rx_frames.now c.args.channel c.args.format trch c.format.result.now c.tti_bits-bits.result c.div_ceil-rows.result c.args.out.now
    c.requires.opened c.requires.channel c.channel-trch.ensures.value c.channel-trch.ensures.good c.requires.format.inside c.format.ensures.value c.tti_bits-bits.ensures c.div_ceil-rows.ensures c.requires.room in
    omega (arith, fits.one, c.requires.scratch)

pub demultiplex_tti-requires-clause-whole : goal.demultiplex_tti-requires-clause-whole
demultiplex_tti-requires-clause-whole c =
    let trch : Trch = c.channel-trch.result.now in
    let fits : RowsFit c.args.accepted.now c.args.rx_frames.now c.args.channel c.args.format trch.frames c.div_ceil-rows.result c.args.out.now =
    rows_fit c.args.accepted.now c.args.rx_frames.now c.args.channel c.args.format trch c.format.result.now c.tti_bits-bits.result c.div_ceil-rows.result c.args.out.now
    c.requires.opened c.requires.channel c.channel-trch.ensures.value c.channel-trch.ensures.good c.requires.format.inside c.format.ensures.value c.tti_bits-bits.ensures c.div_ceil-rows.ensures c.requires.room in
    let counted : length c.slice_mut.result.now ≡ c.div_ceil-rows.result = omega (arith, c.slice_mut.ensures.len) in
    fits.taken ∙ ap₂ (λ rows frames. rows * frames) (sym counted) (ap (λ (trch : Trch). trch.frames) c.channel-trch.ensures.value)

pub returns-clause-few : goal.returns-clause-few
returns-clause-few c j v early =
    let trch : Trch = c.channel-trch.result.now in
    let fits : RowsFit c.args.accepted.now c.args.rx_frames.now c.args.channel c.args.format trch.frames c.div_ceil-rows.result c.args.out.now =
    rows_fit c.args.accepted.now c.args.rx_frames.now c.args.channel c.args.format trch c.format.result.now c.tti_bits-bits.result c.div_ceil-rows.result c.args.out.now
    c.requires.opened c.requires.channel c.channel-trch.ensures.value c.channel-trch.ensures.good c.requires.format.inside c.format.ensures.value c.tti_bits-bits.ensures c.div_ceil-rows.ensures c.requires.room in
    let heard : List Vote = c.demultiplex_tti.new.votes in
    let long : length heard ≡ c.div_ceil-rows.result * trch.frames = c.demultiplex_tti.auto.votes ∙ fits.taken in
    let inside : j < length heard = omega (arith, early, fits.coded, long) in
    let front = get_or_append_left heard (drop (c.div_ceil-rows.result * trch.frames) c.args.out.now) v j inside in
    omega (arith, ap (λ (v : Vote). v.zeros + v.ones) front, c.demultiplex_tti.ensures.few j v inside)

pub returns-clause-counted : goal.returns-clause-counted
returns-clause-counted c =
    let trch : Trch = c.channel-trch.result.now in
    let fits : RowsFit c.args.accepted.now c.args.rx_frames.now c.args.channel c.args.format trch.frames c.div_ceil-rows.result c.args.out.now =
    rows_fit c.args.accepted.now c.args.rx_frames.now c.args.channel c.args.format trch c.format.result.now c.tti_bits-bits.result c.div_ceil-rows.result c.args.out.now
    c.requires.opened c.requires.channel c.channel-trch.ensures.value c.channel-trch.ensures.good c.requires.format.inside c.format.ensures.value c.tti_bits-bits.ensures c.div_ceil-rows.ensures c.requires.room in
    let heard : List Vote = c.demultiplex_tti.new.votes in
    let long : length heard ≡ c.div_ceil-rows.result * trch.frames = c.demultiplex_tti.auto.votes ∙ fits.taken in
    votes_counted c.args.accepted.now c.args.rx_frames.now c.args.channel c.args.format heard _ (long ∙ fits.padded) (omega (arith, fits.coded, long)) c.demultiplex_tti.ensures.votes

pub returns-clause-corrected : goal.returns-clause-corrected
returns-clause-corrected c blocks was =
    let trch : Trch = c.channel-trch.result.now in
    let fits : RowsFit c.args.accepted.now c.args.rx_frames.now c.args.channel c.args.format trch.frames c.div_ceil-rows.result c.args.out.now =
    rows_fit c.args.accepted.now c.args.rx_frames.now c.args.channel c.args.format trch c.format.result.now c.tti_bits-bits.result c.div_ceil-rows.result c.args.out.now
    c.requires.opened c.requires.channel c.channel-trch.ensures.value c.channel-trch.ensures.good c.requires.format.inside c.format.ensures.value c.tti_bits-bits.ensures c.div_ceil-rows.ensures c.requires.room in
    let heard : List Vote = c.demultiplex_tti.new.votes in
    let bits : ℕ = coded_in c.args.accepted.now.config.uplink.side c.args.channel c.args.format in
    let inside : bits ≤ length heard = omega (arith, fits.coded, c.demultiplex_tti.auto.votes, fits.taken) in
    let long : length (votes_in c.args.accepted.now.config.uplink.side c.args.channel c.args.format (heard ++ drop (c.div_ceil-rows.result * trch.frames) c.args.out.now)) ≡ bits =
    ap length (take-append-le bits heard _ inside) ∙ length-take-le bits heard inside in
    votes_told c.args.accepted.now c.args.rx_frames.now c.args.channel c.args.format blocks _ c.config-config.ensures.planned c.requires.channel long (returns-clause-counted c) was

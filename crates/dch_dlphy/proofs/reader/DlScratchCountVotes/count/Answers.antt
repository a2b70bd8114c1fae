use Rattle.std.proofs.Common.{◌≡◌, ◌+◌, ◌*◌, ◌<◌, ◌≤◌, ℕ, List, length, take, arith, ap, sym, ◌∙◌, subst}
use Rattle.std.specs.Prelude.{◌++◌}
use Rattle.std.proofs.lemmas.List.{get_or_append_left, length-take-le}
use Rattle.dch_bits.specs.declared.bit.Trit.{Trit}
use Rattle.dch_bits.specs.declared.bit.Vote.{Vote}
use Rattle.dch_types.specs.declared.channel.Side.{Side}
use Rattle.dch_types.specs.Parts.{channel_at}
use Rattle.dch_config.specs.Good.{IsGood}
use Rattle.dch_frame.specs.declared.pattern.Pattern.{Pattern}
use Rattle.dch_frame.specs.Patterns.{copies_below}
use Rattle.dch_frame.specs.Votes.{votes_of}
use Rattle.dch_frame.proofs.KeptBits.{copies_inside}
use Rattle.dch_tti.specs.Read.{coded_in, votes_in}
use Rattle.dch_tti.proofs.Reading.{take_whole}
use Rattle.dch_dlphy.specs.Loaded.{tti_cells}
use Rattle.dch_dlphy.specs.Read.{AreVotes}
use Rattle.dch_dlphy.proofs.Damaged.{opened_listed, votes_told}
use Rattle.dch_dlphy.proofs.Demultiplexed.{kept_cells, read_back}
use Rattle.dch_dlphy.proofs.Fits.{ReadFits, places_all, read_fits}
use Rattle.dch_dlphy.proofs.reader.DlScratchCountVotes.count.Goals as goal

-- as many votes as coded bits
sized_front : (side : Side) (i f : ℕ) (votes rest : List Vote) → length votes ≡ coded_in side i f → length (votes_in side i f (votes ++ rest)) ≡ coded_in side i f
sized_front side i f votes rest long = ap length (take_whole (coded_in side i f) votes rest long) ∙ long

pub slice_mut-room-requires-clause-in_bounds : goal.slice_mut-room-requires-clause-in_bounds
slice_mut-room-requires-clause-in_bounds c =
    let fits : ReadFits c.args.accepted.now c.args.rx_frames.now c.args.channel c.args.format =
    read_fits c.args.accepted.now c.args.rx_frames.now c.args.channel c.args.format c.requires.opened (subst IsGood c.config-config.ensures.value c.config-config.ensures.good).downlink.side c.requires.channel c.requires.format.inside in
    omega (arith, places_all c.args.accepted.now c.args.channel c.args.format c.bits_per_frame-places.result c.frames_of-frames.result c.bits_per_frame-places.ensures.value c.frames_of-frames.ensures.value, fits.cells, c.requires.scratch)

pub slice_bounds-count_votes-end : goal.slice_bounds-count_votes-end
slice_bounds-count_votes-end c =
    let fits : ReadFits c.args.accepted.now c.args.rx_frames.now c.args.channel c.args.format =
    read_fits c.args.accepted.now c.args.rx_frames.now c.args.channel c.args.format c.requires.opened (subst IsGood c.config-config.ensures.value c.config-config.ensures.good).downlink.side c.requires.channel c.requires.format.inside in
    omega (arith, fits.votes, c.pattern_of-pattern.ensures.len, c.requires.room)

pub slice_bounds-count_votes-end-2 : goal.slice_bounds-count_votes-end-2
slice_bounds-count_votes-end-2 c =
    let fits : ReadFits c.args.accepted.now c.args.rx_frames.now c.args.channel c.args.format =
    read_fits c.args.accepted.now c.args.rx_frames.now c.args.channel c.args.format c.requires.opened (subst IsGood c.config-config.ensures.value c.config-config.ensures.good).downlink.side c.requires.channel c.requires.format.inside in
    sym (length-take-le c.pattern_of-pattern.result.len c.args.out.now (omega (arith, fits.votes, c.pattern_of-pattern.ensures.len, c.requires.room)))

pub count_votes-requires-clause-room : goal.count_votes-requires-clause-room
count_votes-requires-clause-room c =
    let fits : ReadFits c.args.accepted.now c.args.rx_frames.now c.args.channel c.args.format =
    read_fits c.args.accepted.now c.args.rx_frames.now c.args.channel c.args.format c.requires.opened (subst IsGood c.config-config.ensures.value c.config-config.ensures.good).downlink.side c.requires.channel c.requires.format.inside in
    length-take-le c.pattern_of-pattern.result.len c.args.out.now (omega (arith, fits.votes, c.pattern_of-pattern.ensures.len, c.requires.room))

pub returns-clause-counted : goal.returns-clause-counted
returns-clause-counted c =
    let planned = c.args.accepted.now in
    let i : ℕ = c.args.channel in
    let f : ℕ = c.args.format in
    let side : Side = planned.config.downlink.side in
    let cells : List Trit = c.demultiplex_tti.new.out in
    let votes : List Vote = c.count_votes.new.out in
    let fits : ReadFits c.args.accepted.now c.args.rx_frames.now c.args.channel c.args.format =
    read_fits c.args.accepted.now c.args.rx_frames.now c.args.channel c.args.format c.requires.opened (subst IsGood c.config-config.ensures.value c.config-config.ensures.good).downlink.side c.requires.channel c.requires.format.inside in
    let sized : length votes ≡ c.pattern_of-pattern.result.len = c.count_votes.auto.out ∙ length-take-le c.pattern_of-pattern.result.len c.args.out.now (omega (arith, fits.votes, c.pattern_of-pattern.ensures.len, c.requires.room)) in
    let long : length cells ≡ tti_cells planned i f = omega (arith, c.demultiplex_tti.auto.out, c.slice_mut-room.ensures.len, places_all c.args.accepted.now c.args.channel c.args.format c.bits_per_frame-places.result c.frames_of-frames.result c.bits_per_frame-places.ensures.value c.frames_of-frames.ensures.value) in
    let all : copies_below c.pattern_of-pattern.result.kind c.pattern_of-pattern.result.len ≤ (channel_at side i).frames * c.bits_per_frame-places.result =
    subst (λ (pattern : Pattern). copies_below pattern.kind pattern.len ≤ (channel_at side i).frames * c.bits_per_frame-places.result) (sym c.pattern_of-pattern.ensures.value) c.bits_per_frame-places.ensures.fits in
    let enough : c.kept.result ≤ length cells = omega (arith, c.kept.ensures.sum, all, long, ap (λ n. (channel_at side i).frames * n) c.bits_per_frame-places.ensures.value) in
    let inside : c.kept.result ≤ length c.deref.result.now = omega (arith, enough, long, fits.cells, c.requires.scratch, c.deref.ensures.len) in
    let read : take c.kept.result c.deref.result.now ≡ take c.kept.result cells = read_back c.kept.result _ c.deref.result.now cells _ _ c.deref.ensures.value enough inside in
    subst (AreVotes planned c.args.rx_frames.now i f) (sym (take_whole (coded_in side i f) votes _ (sized ∙ c.pattern_of-pattern.ensures.len))) (record {
      cells = take c.kept.result cells;
      kept = kept_cells planned c.args.rx_frames.now i f c.kept.result c.pattern_of-pattern.result cells c.pattern_of-pattern.ensures.value c.kept.ensures.sum long enough c.demultiplex_tti.ensures;
      are = λ j v inside. c.count_votes.ensures.votes j v inside ∙ ap (λ cells. votes_of c.pattern_of-pattern.result cells j) read ∙ ap (λ (pattern : Pattern). votes_of pattern (take c.kept.result cells) j) c.pattern_of-pattern.ensures.value;
    })

pub returns-clause-few : goal.returns-clause-few
returns-clause-few c j v early =
    let pattern : Pattern = c.pattern_of-pattern.result in
    let votes : List Vote = c.count_votes.new.out in
    let fits : ReadFits c.args.accepted.now c.args.rx_frames.now c.args.channel c.args.format =
    read_fits c.args.accepted.now c.args.rx_frames.now c.args.channel c.args.format c.requires.opened (subst IsGood c.config-config.ensures.value c.config-config.ensures.good).downlink.side c.requires.channel c.requires.format.inside in
    let sized : length votes ≡ pattern.len = c.count_votes.auto.out ∙ length-take-le pattern.len c.args.out.now (omega (arith, fits.votes, c.pattern_of-pattern.ensures.len, c.requires.room)) in
    let inside : j < length votes = omega (arith, early, sized, c.pattern_of-pattern.ensures.len) in
    let all : copies_below pattern.kind pattern.len ≤ (channel_at c.args.accepted.now.config.downlink.side c.args.channel).frames * c.bits_per_frame-places.result =
    subst (λ (pattern : Pattern). copies_below pattern.kind pattern.len ≤ (channel_at c.args.accepted.now.config.downlink.side c.args.channel).frames * c.bits_per_frame-places.result) (sym c.pattern_of-pattern.ensures.value) c.bits_per_frame-places.ensures.fits in
    subst (λ (vote : Vote). vote.zeros + vote.ones ≤ 460800) (sym (get_or_append_left votes _ v j inside))
    (omega (arith, c.count_votes.ensures.few j v inside, copies_inside pattern j (omega (arith, inside, sized)), all, c.bits_per_frame-places.ensures.room))

pub returns-clause-corrected : goal.returns-clause-corrected
returns-clause-corrected c blocks was =
    let fits : ReadFits c.args.accepted.now c.args.rx_frames.now c.args.channel c.args.format =
    read_fits c.args.accepted.now c.args.rx_frames.now c.args.channel c.args.format c.requires.opened (subst IsGood c.config-config.ensures.value c.config-config.ensures.good).downlink.side c.requires.channel c.requires.format.inside in
    let sized : length c.count_votes.new.out ≡ c.pattern_of-pattern.result.len = c.count_votes.auto.out ∙ length-take-le c.pattern_of-pattern.result.len c.args.out.now (omega (arith, fits.votes, c.pattern_of-pattern.ensures.len, c.requires.room)) in
    votes_told c.args.accepted.now c.args.rx_frames.now c.args.channel c.args.format blocks _ c.config-config.ensures.planned c.requires.channel c.requires.format.inside (opened_listed c.args.accepted.now c.args.channel c.args.rx_frames.now c.requires.opened)
    (sized_front c.args.accepted.now.config.downlink.side c.args.channel c.args.format c.count_votes.new.out _ (sized ∙ c.pattern_of-pattern.ensures.len)) (returns-clause-counted c) was

use Rattle.std.proofs.Common.{◌≡◌, ℕ, List, length, arith, ap, sym, ◌∙◌, subst, take}
use Rattle.dch_bits.specs.declared.bit.Vote.{Vote}
use Rattle.dch_types.specs.declared.channel.Dir.{Dir}
use Rattle.dch_types.specs.declared.channel.Format.{Format}
use Rattle.dch_types.specs.declared.channel.Side.{Side}
use Rattle.dch_types.specs.declared.channel.Trch.{Trch}
use Rattle.dch_types.specs.Lengths.{tti_bits}
use Rattle.dch_types.specs.Parts.{channel_at, format_at, side_of}
use Rattle.dch_coding.specs.declared.room.CodingRoom.{CodingRoom}
use Rattle.dch_coding.specs.Rooms.{Holds, format_room}
use Rattle.dch_tti.specs.Read.{coded_in, votes_in}
use Rattle.dch_tti.specs.RxFrames.{IsReaderOf, RxFrames}
use Rattle.dch_tti.proofs.Reading.{arrives, holds_format, take_whole, tti_read, votes_long}
use Rattle.dch_tti.proofs.tti_reader.TtiReader.read_blocks.Goals as goal

pub read-requires-clause-block : goal.read-requires-clause-block
read-requires-clause-block g c =
    let planned = c.args.accepted.now in
    let dir : Dir = g.R.CountVotes.dir in
    let trch : Trch = c.channel-trch.result.now in
    let kind : Format = c.format-kind.result.now in
    let reader : RxFrames = c.self.inside.rx_frames in
    let channel : trch ≡ channel_at (side_of planned.config dir) c.args.channel = c.channel-trch.ensures.value ∙ ap (λ (dir : Dir). channel_at (side_of planned.config dir) c.args.channel) c.dir.ensures in
    let holds : Holds reader.room.coding (format_room trch kind) =
    holds_format planned dir reader c.args.channel c.args.format trch kind (subst (IsReaderOf planned dir) (sym c.self.view_is) c.requires.opened) c.requires.channel c.requires.format.inside channel c.format-kind.ensures.value in
    omega (arith, holds.code_block, ap (λ (room : CodingRoom). room.code_block) c.self.invariant.2)

pub slice_bounds-votes-end : goal.slice_bounds-votes-end
slice_bounds-votes-end g c =
    let planned = c.args.accepted.now in
    let dir : Dir = g.R.CountVotes.dir in
    let trch : Trch = c.channel-trch.result.now in
    let kind : Format = c.format-kind.result.now in
    let reader : RxFrames = c.self.inside.rx_frames in
    let channel : trch ≡ channel_at (side_of planned.config dir) c.args.channel = c.channel-trch.ensures.value ∙ ap (λ (dir : Dir). channel_at (side_of planned.config dir) c.args.channel) c.dir.ensures in
    let holds : Holds reader.room.coding (format_room trch kind) =
    holds_format planned dir reader c.args.channel c.args.format trch kind (subst (IsReaderOf planned dir) (sym c.self.view_is) c.requires.opened) c.requires.channel c.requires.format.inside channel c.format-kind.ensures.value in
    let long : length (take c.tti_bits.result c.deref.result.now) ≡ c.tti_bits.result =
    votes_long reader.room.coding trch kind c.tti_bits.result c.deref.result.now c.tti_bits.ensures c.channel-trch.ensures.good holds (omega (arith, c.self.invariant.1, c.deref_mut.ensures.len, c.count.auto.out, c.deref.ensures.len)) in
    sym long

pub read-requires-clause-coded : goal.read-requires-clause-coded
read-requires-clause-coded g c =
    let planned = c.args.accepted.now in
    let dir : Dir = g.R.CountVotes.dir in
    let trch : Trch = c.channel-trch.result.now in
    let kind : Format = c.format-kind.result.now in
    let reader : RxFrames = c.self.inside.rx_frames in
    let channel : trch ≡ channel_at (side_of planned.config dir) c.args.channel = c.channel-trch.ensures.value ∙ ap (λ (dir : Dir). channel_at (side_of planned.config dir) c.args.channel) c.dir.ensures in
    let holds : Holds reader.room.coding (format_room trch kind) =
    holds_format planned dir reader c.args.channel c.args.format trch kind (subst (IsReaderOf planned dir) (sym c.self.view_is) c.requires.opened) c.requires.channel c.requires.format.inside channel c.format-kind.ensures.value in
    let long : length (take c.tti_bits.result c.deref.result.now) ≡ c.tti_bits.result =
    votes_long reader.room.coding trch kind c.tti_bits.result c.deref.result.now c.tti_bits.ensures c.channel-trch.ensures.good holds (omega (arith, c.self.invariant.1, c.deref_mut.ensures.len, c.count.auto.out, c.deref.ensures.len)) in
    long ∙ c.tti_bits.ensures

pub returns-clause-read : goal.returns-clause-read
returns-clause-read g c =
    let planned = c.args.accepted.now in
    let i : ℕ = c.args.channel in
    let f : ℕ = c.args.format in
    let side : Side = side_of planned.config g.R.CountVotes.dir in
    let trch : Trch = c.channel-trch.result.now in
    let out : List Vote = c.count.new.out in
    let channel : trch ≡ channel_at side i = c.channel-trch.ensures.value ∙ ap (λ (dir : Dir). channel_at (side_of planned.config dir) i) c.dir.ensures in
    let bits : c.tti_bits.result ≡ coded_in side i f = c.tti_bits.ensures ∙ ap (tti_bits trch) c.format-kind.ensures.value ∙ ap (λ (trch : Trch). tti_bits trch (format_at trch f)) channel in
    let votes : take c.tti_bits.result c.deref.result.now ≡ votes_in side i f out =
    ap (take c.tti_bits.result) (c.deref.ensures.value ∙ take_whole _ out _ (omega (arith, c.count.auto.out, c.deref_mut.ensures.len))) ∙ ap (λ n. take n out) bits in
    let holds : Holds c.self.inside.rx_frames.room.coding (format_room trch c.format-kind.result.now) =
    holds_format planned g.R.CountVotes.dir c.self.inside.rx_frames i f trch c.format-kind.result.now (subst (IsReaderOf planned g.R.CountVotes.dir) (sym c.self.view_is) c.requires.opened) c.requires.channel c.requires.format.inside channel c.format-kind.ensures.value in
    let long : length (take c.tti_bits.result c.deref.result.now) ≡ c.tti_bits.result =
    votes_long c.self.inside.rx_frames.room.coding trch c.format-kind.result.now c.tti_bits.result c.deref.result.now c.tti_bits.ensures c.channel-trch.ensures.good holds (omega (arith, c.self.invariant.1, c.deref_mut.ensures.len, c.count.auto.out, c.deref.ensures.len)) in
    tti_read planned g.R.CountVotes.dir (g.R.CountVotes.counts planned) c.args.self.now i f trch c.format-kind.result.now (take c.tti_bits.result c.deref.result.now) (votes_in side i f out) c.read.new.out
    channel c.format-kind.ensures.value votes (long ∙ c.tti_bits.ensures) c.requires.format
    (subst (λ reader. g.R.CountVotes.counts planned reader i f (votes_in side i f out)) c.self.view_is c.count.ensures.counted) c.read.ensures.read

pub returns-clause-corrected : goal.returns-clause-corrected
returns-clause-corrected g c blocks sent =
    let planned = c.args.accepted.now in
    let i : ℕ = c.args.channel in
    let f : ℕ = c.args.format in
    let side : Side = side_of planned.config g.R.CountVotes.dir in
    let trch : Trch = c.channel-trch.result.now in
    let out : List Vote = c.count.new.out in
    let channel : trch ≡ channel_at side i = c.channel-trch.ensures.value ∙ ap (λ (dir : Dir). channel_at (side_of planned.config dir) i) c.dir.ensures in
    let bits : c.tti_bits.result ≡ coded_in side i f = c.tti_bits.ensures ∙ ap (tti_bits trch) c.format-kind.ensures.value ∙ ap (λ (trch : Trch). tti_bits trch (format_at trch f)) channel in
    let votes : take c.tti_bits.result c.deref.result.now ≡ votes_in side i f out =
    ap (take c.tti_bits.result) (c.deref.ensures.value ∙ take_whole _ out _ (omega (arith, c.count.auto.out, c.deref_mut.ensures.len))) ∙ ap (λ n. take n out) bits in
    arrives side i f trch c.format-kind.result.now (take c.tti_bits.result c.deref.result.now) (votes_in side i f out) c.read.new.out blocks channel c.format-kind.ensures.value votes c.read.ensures.corrected
    (c.count.ensures.corrected blocks (subst (λ reader. g.R.CountVotes.damaged planned reader i f blocks) (sym c.self.view_is) sent))

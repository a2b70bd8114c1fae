-- A reader that was opened, and what is read of the votes that were counted.
use Rattle.std.proofs.Common.{◌≡◌, ◌<◌, ℕ, List, length, take, arith, ap, sym, ◌∙◌, subst}
use Rattle.std.specs.Prelude.{◌++◌}
use Rattle.std.proofs.Math.Seq.{take-append_seam}
use Rattle.std.proofs.lemmas.Grind.{div_ceil_times}
use Rattle.std.proofs.lemmas.List.{length-take-le}
use Rattle.dch_bits.specs.declared.bit.Bit.{Bit}
use Rattle.dch_bits.specs.declared.bit.Vote.{Vote}
use Rattle.dch_types.specs.declared.channel.Dir.{Dir}
use Rattle.dch_types.specs.declared.channel.Format.{Format}
use Rattle.dch_types.specs.declared.channel.Side.{Side}
use Rattle.dch_types.specs.declared.channel.Trch.{Trch}
use Rattle.dch_types.specs.Lengths.{tti_bits}
use Rattle.dch_types.specs.Limits.{IsChannel}
use Rattle.dch_types.specs.Parts.{channel_at, format_at, side_of}
use Rattle.dch_coding.specs.declared.room.CodingRoom.{CodingRoom}
use Rattle.dch_coding.specs.Rooms.{Holds, format_room}
use Rattle.dch_accept.specs.declared.room.TtiRoom.{TtiRoom}
use Rattle.dch_accept.specs.Blocks.{Held}
use Rattle.dch_accept.specs.Frames.{most_cells}
use Rattle.dch_accept.specs.Plans.{Planned}
use Rattle.dch_accept.specs.Rooms.{most_room}
use Rattle.dch_accept.proofs.Rooms.{holds_coding}
use Rattle.dch_tti.specs.Corrected.{ReadsCorrectable}
use Rattle.dch_tti.specs.Received.{ArrivesAs, IsReceived}
use Rattle.dch_tti.specs.Formats.{IsFormatOf}
use Rattle.dch_tti.specs.Read.{AreVotesOf, IsTtiRead, coded_in}
use Rattle.dch_tti.specs.RxFrames.{AreMissing, IsReaderOf, RxFrames}

-- without a frame
pub opened_missing : (planned : Planned) (dir : Dir) (most : ℕ) (reader : RxFrames) → most ≡ most_cells planned.config dir → reader.room ≡ most_room planned dir → AreMissing most 8 reader.frames → IsReaderOf planned dir reader
opened_missing planned dir most reader same room missing = record {
  room = room;
  all = missing.all;
  each = λ k inside. record {
    room = missing.room k inside ∙ same;
    listed = λ c found. let none = missing.none k in cc;
    long = λ c found. let none = missing.none k in cc;
  };
}

-- it has room to decode each TTI of the direction,
pub holds_format : (planned : Planned) (dir : Dir) (reader : RxFrames) (i f : ℕ) (channel : Trch) (format : Format) → IsReaderOf planned dir reader → i < length (side_of planned.config dir).channels
    → f < length (channel_at (side_of planned.config dir) i).formats → channel ≡ channel_at (side_of planned.config dir) i → format ≡ format_at channel f → Holds reader.room.coding (format_room channel format)
holds_format planned dir reader i f channel format is inside there same kind =
    subst (λ (format : Format). Holds reader.room.coding (format_room channel format)) (sym kind)
    (subst (λ (channel : Trch). Holds reader.room.coding (format_room channel (format_at channel f))) (sym same)
    (subst (λ (room : TtiRoom). Holds room.coding (format_room (channel_at (side_of planned.config dir) i) (format_at (channel_at (side_of planned.config dir) i) f))) (sym is.room) (holds_coding planned dir i f inside there)))

-- and for the votes of its coded bits
pub votes_long : (room : CodingRoom) (channel : Trch) (format : Format) (n : ℕ) (votes : List Vote) → n ≡ tti_bits channel format → IsChannel channel → Holds room (format_room channel format) → length votes ≡ room.bits
    → length (take n votes) ≡ n
votes_long room channel format n votes bits good holds all =
    length-take-le n votes (omega (arith, bits, holds.bits, all, (div_ceil_times (tti_bits channel format) channel.frames (omega (arith, good.frames))).0))

-- what is decoded of the votes that were counted is read
pub tti_read : (planned : Planned) (dir : Dir) (AreVotes : RxFrames → ℕ → ℕ → List Vote → Type 0) (reader : RxFrames) (i f : ℕ) (channel : Trch) (format : Format) (votes counted : List Vote) (held : Held)
    → channel ≡ channel_at (side_of planned.config dir) i → format ≡ format_at channel f → votes ≡ counted → length votes ≡ tti_bits channel format → IsFormatOf (side_of planned.config dir) reader i f
    → AreVotes reader i f counted → IsReceived channel f format votes held → IsTtiRead planned dir AreVotes reader i held
tti_read planned dir AreVotes reader i f channel format votes counted held same kind all long given are received =
    let side : Side = side_of planned.config dir in
    let number : f ≡ held.format = sym received.numbered in
    let there : IsReceived (channel_at side i) f (format_at (channel_at side i) f) votes held =
    subst (λ (channel : Trch). IsReceived channel f (format_at channel f) votes held) same (subst (λ (format : Format). IsReceived channel f format votes held) kind received) in
    let sized : length votes ≡ coded_in side i f = long ∙ ap (tti_bits channel) kind ∙ ap (λ (channel : Trch). tti_bits channel (format_at channel f)) same in
    record {
      format = subst (λ f. IsFormatOf side reader i f) number given;
      votes = votes;
      long = sized ∙ ap (coded_in side i) number;
      are = subst (λ f. AreVotes reader i f votes) number (subst (λ votes. AreVotes reader i f votes) (sym all) are);
      blocks = subst (λ f. IsReceived (channel_at side i) f (format_at (channel_at side i) f) votes held) number there;
    }

-- the votes that are decoded are those that were counted
pub arrives : (side : Side) (i f : ℕ) (channel : Trch) (format : Format) (votes counted : List Vote) (held : Held) (blocks : List Bit)
    → channel ≡ channel_at side i → format ≡ format_at channel f → votes ≡ counted → ReadsCorrectable channel format votes held → AreVotesOf side i f blocks counted → ArrivesAs blocks held
arrives side i f channel format votes counted held blocks same kind all reads are =
    let here : ReadsCorrectable (channel_at side i) (format_at (channel_at side i) f) counted held =
    subst (λ votes. ReadsCorrectable (channel_at side i) (format_at (channel_at side i) f) votes held) all
    (subst (λ (channel : Trch). ReadsCorrectable channel (format_at channel f) votes held) same
    (subst (λ (format : Format). ReadsCorrectable channel format votes held) kind reads)) in
    here blocks are.joined are.sent are.whole are.are are.correctable

-- the front of two lists
pub take_whole : {X : Type 0} (n : ℕ) (xs ys : List X) → length xs ≡ n → take n (xs ++ ys) ≡ xs
take_whole n xs ys long = ap (λ n. take n (xs ++ ys)) (sym long) ∙ take-append_seam xs ys

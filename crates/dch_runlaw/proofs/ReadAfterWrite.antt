-- What a reader answers for a TTI whose radio frames were all pushed as they were written.
use Rattle.std.proofs.Common.{◌≡◌, ◌<◌, ◌%◌, ℕ, List, length, refl}
use Rattle.dch_bits.specs.declared.bit.Bit.{Bit}
use Rattle.dch_types.specs.declared.channel.Dir.{Dir}
use Rattle.dch_types.specs.declared.channel.Dir.TheVariants.{Up, Down}
use Rattle.dch_types.specs.Parts.{channel_at, format_at, side_of}
use Rattle.dch_collision.specs.Sequences.{IsLegal, frames_of}
use Rattle.dch_accept.specs.Blocks.{Held, bits_of}
use Rattle.dch_accept.specs.Plans.{IsPlanned, Planned}
use Rattle.dch_tti.specs.Loaded.{Loaded}
use Rattle.dch_tti.specs.Outcomes.{IsOutcome, IsSentBack}
use Rattle.dch_tti.specs.RxFrames.{IsReaderOf, RxFrames}
use Rattle.dch_tti.specs.declared.outcome.TtiOutcome.{TtiOutcome}
use Rattle.dch_tti.specs.declared.outcome.TtiOutcome.TheVariants.{Blocks, BadFrame}
use Rattle.dch_tti.proofs.Pushed.{sent_frames}
use Rattle.dch_dlphy.specs.Frames.{multiplexed as downlink_cells}
use Rattle.dch_dlphy.specs.Loaded.{IsLoaded as IsLoadedDown}
use Rattle.dch_dlphy.specs.Read.{IsTtiRead as IsDownlinkRead}
use Rattle.dch_dlphy.specs.Sent.{AreSentAndPushed as AreSentAndPushedDown}
use Rattle.dch_ulphy.specs.Frames.{multiplexed as uplink_cells}
use Rattle.dch_ulphy.specs.Loaded.{IsLoaded as IsLoadedUp}
use Rattle.dch_ulphy.specs.Read.{IsTtiRead as IsUplinkRead}
use Rattle.dch_ulphy.specs.Sent.{AreSentAndPushed as AreSentAndPushedUp}
use Rattle.dch_runlaw.specs.SentRead.{IsReadAsSent}
use Rattle.dch_runlaw.proofs.DownlinkSent.{downlink_opened}
use Rattle.dch_runlaw.proofs.UplinkSent.{uplink_sent}

-- what is answered for a TTI that is read as it was sent
answered : (planned : Planned) (dir : Dir) (IsRead : RxFrames → ℕ → Held → Type 0) (reader : RxFrames) (i f : ℕ) (blocks : List Bit) (before after : Held) (outcome : TtiOutcome) → IsReadAsSent planned dir IsRead reader i f blocks
    → IsOutcome (side_of planned.config dir) IsRead reader i before outcome after → IsSentBack f blocks outcome after
answered planned dir IsRead reader i f blocks before after Blocks sent is = record { read = refl; number = sent.number after is; arrives = sent.arrives after is }
answered planned dir IsRead reader i f blocks before after (BadFrame n) sent is = absurd (sent.good n is.0)

pub uplink_answered : (planned : Planned) (i f first : ℕ) (sequence : List ℕ) (blocks : List Bit) (loaded : Loaded) (readers : ℕ → RxFrames) (before after : Held) (outcome : TtiOutcome) → IsPlanned planned → i < length planned.config.uplink.side.channels
    → first % frames_of planned.config.uplink.side i ≡ 0 → length blocks ≡ bits_of (format_at (channel_at planned.config.uplink.side i) f) → IsLoadedUp planned i f blocks loaded → IsLegal planned.config.uplink.side i f sequence
    → AreSentAndPushedUp planned i first sequence loaded readers → IsOutcome planned.config.uplink.side (IsUplinkRead planned) (readers (frames_of planned.config.uplink.side i)) i before outcome after → IsSentBack f blocks outcome after
uplink_answered planned i f first sequence blocks loaded readers before after outcome good inside starts whole from legal pushed is =
    let reader : RxFrames = readers (frames_of planned.config.uplink.side i) in
    answered planned Up (IsUplinkRead planned) reader i f blocks before after outcome
    (uplink_sent planned reader i f blocks good inside (record {
      sequence = sequence;
      legal = legal;
      sent = record { loaded = loaded; from = from; whole = whole; frames = sent_frames planned Up (uplink_cells planned) i first sequence loaded readers good.good.uplink.side inside starts pushed };
    })) is

pub downlink_answered : (planned : Planned) (i f first : ℕ) (sequence : List ℕ) (blocks : List Bit) (loaded : Loaded) (readers : ℕ → RxFrames) (before after : Held) (outcome : TtiOutcome) → IsPlanned planned → i < length planned.config.downlink.side.channels
    → first % frames_of planned.config.downlink.side i ≡ 0 → length blocks ≡ bits_of (format_at (channel_at planned.config.downlink.side i) f) → IsLoadedDown planned i f blocks loaded
    → AreSentAndPushedDown planned i first sequence loaded readers → IsReaderOf planned Down (readers (frames_of planned.config.downlink.side i))
    → IsOutcome planned.config.downlink.side (IsDownlinkRead planned) (readers (frames_of planned.config.downlink.side i)) i before outcome after → IsSentBack f blocks outcome after
downlink_answered planned i f first sequence blocks loaded readers before after outcome good inside starts whole from pushed opened is =
    let reader : RxFrames = readers (frames_of planned.config.downlink.side i) in
    answered planned Down (IsDownlinkRead planned) reader i f blocks before after outcome
    (downlink_opened planned reader i f blocks good opened inside (record {
      sequence = sequence;
      sent = record { loaded = loaded; from = from; whole = whole; frames = sent_frames planned Down (downlink_cells planned) i first sequence loaded readers good.good.downlink.side inside starts pushed };
    })) is

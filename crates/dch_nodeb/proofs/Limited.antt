-- What a Node B tells in a step: at most eight lines, each of which is short, or on a frame of a good configuration.
use Rattle.std.proofs.Common.{◌≡◌, ◌<◌, ◌≤◌, ℕ, zero, suc, List, [], ◌∷◌, Bool, true, false, Option, length, arith, refl, ◌∙◌, ap, sym, subst, inl, inr, length-append}
use Rattle.std.specs.Prelude.{nat_lt, if◌then◌else◌}
use Rattle.dch_bits.specs.declared.bit.Trit.{Trit}
use Rattle.dch_types.specs.declared.channel.Dir.TheVariants.{Up, Down}
use Rattle.dch_types.specs.declared.config.Config.{Config}
use Rattle.dch_types.specs.Limits.{IsDownlink, IsFrames, IsSide}
use Rattle.dch_accept.specs.Frames.{Frame, tfci_bits}
use Rattle.dch_accept.specs.Plans.{Planned}
use Rattle.dch_tti.specs.RxFrames.{RxFrames}
use Rattle.dch_indication.specs.Lines.{BadTti, Iub, IubBad, Line, joined}
use Rattle.dch_indication.proofs.Telling.{told_one}
use Rattle.dch_node.specs.IubFrames.{refusal_number}
use Rattle.dch_node.specs.Standing.{TellsSuch}
use Rattle.dch_node.specs.Values.{Radio}
use Rattle.dch_node.proofs.IubFrames.{refusal_small}
use Rattle.dch_txframes.specs.Values.{IubTxBuffer, radio_if, radio_sent}
use Rattle.dch_txframes.proofs.Lengths.{cells-le, read_octets-le}
use Rattle.dch_steptext.specs.Limits.{AreLimited, IsLimited}
use Rattle.dch_steptext.proofs.Texts.{limited-append}
use Rattle.dch_nodeb.specs.Moves.{Keeps, Receives, Sends, Writes}
use Rattle.dch_nodeb.specs.Steps.{DeliversSet, radio_line}
use Rattle.dch_nodeb.specs.Values.{DownlinkTransmitter, IubRxBuffer, UplinkReceiver}

-- no line, and one line
none_limited : (n : ℕ) (lines : List Line) → lines ≡ [] → AreLimited n lines
none_limited n lines none = subst (λ (ls : List Line). AreLimited n ls) (sym none) (record { few = omega arith; each = tt })

one_limited : (n : ℕ) (lines : List Line) (line : Line) → 0 < n → lines ≡ line ∷ [] → IsLimited line → AreLimited n lines
one_limited n lines line some is limited = subst (λ (ls : List Line). AreLimited n ls) (sym is) (record { few = omega (arith, some); each = (limited, tt) })

-- nobody is told
pub untold_limited : {S : Type 0} (shows : S → Line → S → Type 0) (user : S) → TellsSuch shows (AreLimited 8) user user
untold_limited shows user = record { lines = []; told = refl; such = none_limited 8 [] refl }

-- of an Iub frame that came
pub kept_limited : {S : Type 0} (shows : S → Line → S → Type 0) (planned : Planned) (set : ℕ) (octets : List ℕ) (old new : List IubRxBuffer) (before after : S) → set < 1000 → Keeps shows planned set octets old new before after → TellsSuch shows (AreLimited 8) before after
kept_limited shows planned set octets old new before after small keeps = record {
  lines = keeps.lines;
  told = keeps.told;
  such = elim keeps.took [
    | inl taken ↦ none_limited 8 keeps.lines taken.quiet
    | inr refused ↦ one_limited 8 keeps.lines (IubBad Down set (refusal_number refused.error)) (omega arith) refused.reported (inl (small, refusal_small refused.error))
  ];
}

-- of the downlink radio frame
tfci_few : (config : Config) → tfci_bits config Down ≤ 120
tfci_few config = go (nat_lt config.downlink.sf 128)
  where
    go : (b : Bool) → (if b then 120 else 30) ≤ 120
    go true = omega arith
    go false = omega arith

pub sent_limited : {S : Type 0} (shows : S → Line → S → Type 0) (planned : Planned) (cfn : ℕ) (old new : DownlinkTransmitter) (before after : S) → IsDownlink planned.config.downlink → Sends shows planned cfn old new before after → TellsSuch shows (AreLimited 8) before after
sent_limited shows planned cfn old new before after good sends = record {
  lines = radio_line (radio_sent new.radio) ∷ [];
  told = told_one shows before after _ sends.shown;
  such = one_limited 8 (radio_line (radio_sent new.radio) ∷ []) (radio_line (radio_sent new.radio)) (omega arith) refl (go new.radio.sent sends.writes);
}
  where
    frame : Frame
    frame = new.radio.frame

    go : (on : Bool) → Writes planned cfn old (radio_if on frame) → IsLimited (radio_line (radio_if on frame))
    go false writes = inl tt
    go true writes =
        let long : length frame.cells ≤ 57240 = cells-le planned.config planned.config frame.cells good refl (ap (λ (cells : List Trit). length cells) writes.cells ∙ writes.written.long) in
        inr (inr (record { dir = Down; tfci = frame.tfci; cells = frame.cells; is = refl; short = omega (arith, tfci_few planned.config, sends.opened.radio.tfci); few = omega (arith, long) }))

-- of the sets that an uplink radio frame ends
frames_few : (frames : ℕ) → IsFrames frames → frames ≤ 8
frames_few frames (inl one) = omega (arith, one)
frames_few frames (inr (inl two)) = omega (arith, two)
frames_few frames (inr (inr (inl four))) = omega (arith, four)
frames_few frames (inr (inr (inr eight))) = omega (arith, eight)

set_limited : (planned : Planned) (rx_frames : RxFrames) (set : ℕ) (lines : List Line) (iub : Option (List ℕ)) → IsSide planned.config.uplink.side → set < 8 → DeliversSet planned rx_frames set lines iub → AreLimited 1 lines
set_limited planned rx_frames set lines iub good few (inl waits) = none_limited 1 lines waits.quiet
set_limited planned rx_frames set lines iub good few (inr (inl lost)) =
    let channel : lost.channel < 1000 = omega (arith, lost.is.inside, good.few) in
    let frame : lost.frame < 1000 = omega (arith, lost.is.bad.inside, frames_few _ (good.channels lost.channel lost.is.inside).frames) in
    one_limited 1 lines (BadTti Up lost.channel lost.frame) (omega arith) lost.reported (inl (channel, frame))
set_limited planned rx_frames set lines iub good few (inr (inr up)) =
    let long : length up.octets ≤ 140000 = read_octets-le planned.config Up set up.octets _ planned.config.qe up.held good up.written.read in
    one_limited 1 lines (Iub Up set up.octets) (omega arith) up.reported (inr (inl (record { dir = Up; set = set; octets = up.octets; is = refl; small = omega (arith, few); few = long })))

all_limited : (lines : ℕ → List Line) (n : ℕ) → ((s : ℕ) → s < n → AreLimited 1 (lines s)) → AreLimited n (joined lines n)
all_limited lines zero are = none_limited 0 [] refl
all_limited lines (suc n) are =
    let first : AreLimited n (joined lines n) = all_limited lines n (λ s early. are s (omega arith)) in
    let last : AreLimited 1 (lines n) = are n (omega arith) in
    record { few = omega (arith, length-append (joined lines n) (lines n), first.few, last.few); each = limited-append (joined lines n) (lines n) first.each last.each }

pub received_limited : {S : Type 0} (shows : S → Line → S → Type 0) (planned : Planned) (cfn : ℕ) (radio : Option Radio) (old : RxFrames) (tx_buffers : List IubTxBuffer) (receiver : UplinkReceiver) (before after : S) → IsSide planned.config.uplink.side
    → Receives shows planned cfn radio old tx_buffers receiver before after → TellsSuch shows (AreLimited 8) before after
received_limited shows planned cfn radio old tx_buffers receiver before after good receives = record {
  lines = joined receives.served.lines 8;
  told = receives.served.told;
  such = all_limited receives.served.lines 8 (λ s few. set_limited planned receiver.rx_frames s (receives.served.lines s) _ good few (receives.served.sets s few));
}

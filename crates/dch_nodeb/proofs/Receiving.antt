-- An uplink radio frame that comes, or is missing, as a step of the definition.
use Rattle.std.proofs.Common.{◌+◌, ◌<◌, ℕ, List, refl, ap, sym, subst, inl, inr, Option, None}
use Rattle.std.specs.Prelude.{◌%◌}
use Rattle.std.proofs.lemmas.Bool.Decides.{eqb_tells}
use Rattle.dch_types.specs.declared.channel.Dir.TheVariants.{Up}
use Rattle.dch_accept.specs.Plans.{Planned}
use Rattle.dch_tti.specs.RxFrames.{RxFrame, RxFrames, rx_frame_at}
use Rattle.dch_indication.specs.Lines.{Line}
use Rattle.dch_node.specs.Standing.{Tells}
use Rattle.dch_node.specs.Values.{Output, Radio}
use Rattle.dch_node.specs.RxFrames.{KeepsRadio}
use Rattle.dch_node.specs.Lines.{joined}
use Rattle.dch_txframes.specs.Values.{IubTxBuffer, tx_buffer_at}
use Rattle.dch_nodeb.specs.Moves.{Hears, Receives}
use Rattle.dch_nodeb.specs.Standing.{NothingSent, Represents, Stepped}
use Rattle.dch_nodeb.specs.State.{UplinkFrame, State, coming}
use Rattle.dch_nodeb.specs.Steps.{IsReception}
use Rattle.dch_nodeb.specs.Values.{Node, UplinkReceiver}

-- the frames that are kept then
frames_kept : (planned : Planned) (state : State) (radio : Option Radio) (old new : RxFrames) → Hears planned state.cfn radio old new
    → ((k : ℕ) → k < 8 → KeepsRadio planned Up (state.frames k) (rx_frame_at old.frames k)) → (k : ℕ) → k < 8 → KeepsRadio planned Up ((coming state radio).frames k) (rx_frame_at new.frames k)
frames_kept planned state radio old new hears before k few = elim (eqb_tells k (state.cfn % 8)) [
  | inl same ↦ rw same.0 (subst (λ n. KeepsRadio planned Up radio (rx_frame_at new.frames n)) (sym same.1) hears.kept)
  | inr other ↦ rw other.0 (subst (λ (kept : RxFrame). KeepsRadio planned Up (state.frames k) kept) (sym (hears.others k other.1)) (before k few))
]

received_at : {S : Type 0} (shows : S → Line → S → Type 0) (planned : Planned) (state : State) (node : Node) (radio : Option Radio) (tx_buffers : List IubTxBuffer) (receiver : UplinkReceiver) (before after : S) → NothingSent node
    → Receives shows planned state.cfn radio node.receiver.rx_frames tx_buffers receiver before after → Represents planned state node
    → Stepped planned state (UplinkFrame radio) (record node { cfn = (node.cfn + 1) % 256; receiver = receiver; tx_buffers = tx_buffers }) (Tells shows before after)
received_at shows planned state node radio tx_buffers receiver before after quiet receives stands =
    let next : State = coming state radio in
    let served = receives.served in
    let frames : (k : ℕ) → k < 8 → KeepsRadio planned Up (next.frames k) (rx_frame_at receiver.rx_frames.frames k) =
    frames_kept planned state radio node.receiver.rx_frames receiver.rx_frames receives.hears stands.frames in
    let output : Output = record { lines = joined served.lines 8; sent = None; iub = λ s. (tx_buffer_at tx_buffers s).sent } in
    record {
      next = next;
      output = output;
      step = subst (λ (p : Planned). IsReception p state radio next output) (sym stands.active) (record {
        state = refl;
        rx_frames = receiver.rx_frames;
        kept = record { last = receives.hears.last; kept = frames };
        lines = served.lines;
        sets = served.sets;
        reported = refl;
        no_radio = refl;
      });
      stands = record { active = stands.active; cfn = ap (λ n. (n + 1) % 256) stands.cfn; kept = stands.kept; given = stands.given; frames = frames };
      shows = record { radio = rw quiet.radio refl; iub = λ s few. refl };
      tells = served.told;
    }

-- the step of a radio frame that comes, or is missing
pub received : {S : Type 0} (shows : S → Line → S → Type 0) (planned : Planned) (state : State) (node : Node) (radio : Option Radio) (tx_buffers : List IubTxBuffer) (receiver : UplinkReceiver) (before after : S) → NothingSent node
    → Receives shows planned node.cfn radio node.receiver.rx_frames tx_buffers receiver before after → Represents planned state node
    → Stepped planned state (UplinkFrame radio) (record node { cfn = (node.cfn + 1) % 256; receiver = receiver; tx_buffers = tx_buffers }) (Tells shows before after)
received shows planned state node radio tx_buffers receiver before after quiet receives stands =
    received_at shows planned state node radio tx_buffers receiver before after quiet
    (subst (λ cfn. Receives shows planned cfn radio node.receiver.rx_frames tx_buffers receiver before after) stands.cfn receives) stands

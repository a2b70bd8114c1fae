-- An Iub frame that arrives, as a step of the definition.
use Rattle.std.proofs.Common.{◌≡◌, ◌≢◌, ℕ, List, refl, ap, sym, subst, inl, inr, Some, eq-eqb}
use Rattle.std.proofs.lemmas.Bool.Decides.{eqb_tells}
use Rattle.dch_types.specs.declared.channel.Side.{Side}
use Rattle.dch_accept.specs.Plans.{Planned}
use Rattle.dch_indication.specs.Told.{Told}
use Rattle.dch_nodeb.specs.Moves.{IsRefused, IsTaken, Keeps}
use Rattle.dch_nodeb.specs.Standing.{NothingSent, KeepsFrame, Represents, Stepped}
use Rattle.dch_node.specs.Lines.{Line}
use Rattle.dch_node.specs.Standing.{Tells}
use Rattle.dch_node.specs.Values.{no_output, says}
use Rattle.dch_nodeb.specs.State.{IubFrame, DownlinkIubFrame, State, keeping}
use Rattle.dch_nodeb.specs.Steps.{IsArrival}
use Rattle.dch_node.specs.IubFrames.{blocks_at}
use Rattle.dch_nodeb.specs.Values.{Node, IubRxBuffer, rx_buffer_at}

-- the frame that is kept for a set, where one for another set is kept too
keeps-other : (side : Side) (state : State) (set s : ℕ) (frame : DownlinkIubFrame) (old new : IubRxBuffer) → s ≢ set → new ≡ old → KeepsFrame side s (state.kept s) old
    → KeepsFrame side s ((keeping state set frame).kept s) new
keeps-other side state set s frame old new other same keeps = elim (eqb_tells s set) [
  | inl is ↦ absurd (other is.1)
  | inr is ↦ rw is.0 (subst (λ (p : IubRxBuffer). KeepsFrame side s (state.kept s) p) (sym same) keeps)
]

keeps-own : (side : Side) (state : State) (set s : ℕ) (frame : DownlinkIubFrame) (new : IubRxBuffer) → s ≡ set → KeepsFrame side s (Some frame) new → KeepsFrame side s ((keeping state set frame).kept s) new
keeps-own side state set s frame new same keeps = rw (eq-eqb s set same) keeps

taken_step : {S : Type 0} (shows : S → Line → S → Type 0) (planned : Planned) (state : State) (node : Node) (new : List IubRxBuffer) (set : ℕ) (octets : List ℕ) (lines : List Line) (before after : S) → Represents planned state node → NothingSent node
    → ((s : ℕ) → s ≢ set → rx_buffer_at new s ≡ rx_buffer_at node.rx_buffers s) → IsTaken planned set octets (rx_buffer_at new set) lines → Told shows before lines after
    → Stepped planned state (IubFrame set octets) (record node { rx_buffers = new }) (Tells shows before after)
taken_step shows planned state node new set octets lines before after stands quiet others taken told =
    let filled = taken.filled in
    let frame : DownlinkIubFrame = record { cfn = filled.cfn; blocks = blocks_at (rx_buffer_at new set).held } in
    record {
      next = keeping state set frame;
      output = no_output;
      step = subst (λ (p : Planned). IsArrival p state set octets (keeping state set frame) no_output) (sym stands.active)
          (inl (record { cfn = filled.cfn; held = (rx_buffer_at new set).held; read = filled.read; state = refl; quiet = refl }));
      stands = record {
        active = stands.active;
        cfn = stands.cfn;
        kept = λ s few. elim (eqb_tells s set) [
          | inl same ↦ keeps-own planned.config.downlink.side state set s frame (rx_buffer_at new s) same.1
              (subst (λ k. KeepsFrame planned.config.downlink.side k (Some frame) (rx_buffer_at new k)) (sym same.1) (filled.named, λ i inside member. refl))
          | inr other ↦ keeps-other planned.config.downlink.side state set s frame (rx_buffer_at node.rx_buffers s) (rx_buffer_at new s) other.1 (others s other.1) (stands.kept s few)
        ];
        given = stands.given;
        frames = stands.frames;
      };
      shows = record { radio = rw quiet.radio refl; iub = quiet.iub };
      tells = subst (λ (ls : List Line). Told shows before ls after) taken.quiet told;
    }

refused_step : {S : Type 0} (shows : S → Line → S → Type 0) (planned : Planned) (state : State) (node : Node) (new : List IubRxBuffer) (set : ℕ) (octets : List ℕ) (lines : List Line) (before after : S) → Represents planned state node → NothingSent node
    → ((s : ℕ) → s ≢ set → rx_buffer_at new s ≡ rx_buffer_at node.rx_buffers s) → IsRefused planned set octets (rx_buffer_at node.rx_buffers set) (rx_buffer_at new set) lines → Told shows before lines after
    → Stepped planned state (IubFrame set octets) (record node { rx_buffers = new }) (Tells shows before after)
refused_step shows planned state node new set octets lines before after stands quiet others refused told =
    let same : (s : ℕ) → rx_buffer_at new s ≡ rx_buffer_at node.rx_buffers s = (λ s. elim (eqb_tells s set) [
      | inl is ↦ subst (λ k. rx_buffer_at new k ≡ rx_buffer_at node.rx_buffers k) (sym is.1) refused.same
      | inr other ↦ others s other.1
    ]) in
    record {
      next = state;
      output = says lines;
      step = subst (λ (p : Planned). IsArrival p state set octets state (says lines)) (sym stands.active)
          (inr (record { error = refused.error; cause = refused.cause; state = refl; reported = ap says refused.reported }));
      stands = record {
        active = stands.active;
        cfn = stands.cfn;
        kept = λ s few. subst (λ (p : IubRxBuffer). KeepsFrame planned.config.downlink.side s (state.kept s) p) (sym (same s)) (stands.kept s few);
        given = stands.given;
        frames = stands.frames;
      };
      shows = record { radio = rw quiet.radio refl; iub = quiet.iub };
      tells = told;
    }

-- the step of a frame that arrives
pub arrived : {S : Type 0} (shows : S → Line → S → Type 0) (planned : Planned) (state : State) (node : Node) (new : List IubRxBuffer) (set : ℕ) (octets : List ℕ) (before after : S) → NothingSent node → Keeps shows planned set octets node.rx_buffers new before after
    → Represents planned state node → Stepped planned state (IubFrame set octets) (record node { rx_buffers = new }) (Tells shows before after)
arrived shows planned state node new set octets before after quiet keeps stands = elim keeps.took [
  | inl taken ↦ taken_step shows planned state node new set octets keeps.lines before after stands quiet keeps.others taken keeps.told
  | inr refused ↦ refused_step shows planned state node new set octets keeps.lines before after stands quiet keeps.others refused keeps.told
]

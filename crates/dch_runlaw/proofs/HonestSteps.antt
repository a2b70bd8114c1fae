-- What steps of the nodes do to the blocks of channels, and what they leave.
use Rattle.std.proofs.Common.{◌≡◌, ◌⊎◌, ◌+◌, ◌∙◌, ℕ, zero, suc, List, [], ◌∷◌, Bool, true, false, Option, None, length, refl, ap, ⊎_elim}
use Rattle.std.specs.Prelude.{◌==◌, nat_lt}
use Rattle.dch_bits.specs.declared.bit.Bit.{Bit}
use Rattle.dch_types.specs.declared.channel.Dir.{Dir}
use Rattle.dch_types.specs.declared.channel.Dir.TheVariants.{Up}
use Rattle.dch_types.specs.declared.channel.Side.{Side}
use Rattle.dch_types.specs.declared.config.Config.{Config}
use Rattle.dch_types.specs.Parts.{channel_at, side_of}
use Rattle.dch_types.specs.Timing.{ends, set_frames, starts}
use Rattle.dch_accept.specs.HeldSets.{HeldSet}
use Rattle.dch_accept.specs.Plans.{Planned}
use Rattle.dch_tti.specs.RxFrames.{RxFrames}
use Rattle.dch_mac.specs.declared.answer.Demux.{Demux}
use Rattle.dch_mac.specs.declared.answer.Demux.TheVariants.{To, Reserved, NoBearer, Nobody}
use Rattle.dch_mac.specs.Receivers.{receiver}
use Rattle.dch_node.specs.Lines.{Line}
use Rattle.dch_node.specs.Values.{Output}
use Rattle.dch_layer2.specs.Layers.{Came, Layer, goes, takes, takes_one}
use Rattle.dch_layer2.specs.Starting.{IsStart}
use Rattle.dch_layer2.specs.Coming.{came_of}
use Rattle.dch_layer2.specs.Reading.{Bad, Nothing, Read, Reading, reads, reads_below}
use Rattle.dch_linkcmd.specs.UeSteps.{IsReading}
use Rattle.dch_linkcmd.specs.NodebSteps.{DeliversSet, IsLost, IsSentUp, IsWaiting}
use Rattle.dch_linkcmd.specs.RncState.{IubFrame, State as RncState, set_readings}
use Rattle.dch_linkcmd.specs.RncSteps.{IsReadFrame, IsRefusedFrame, Steps as RncSteps}
use Rattle.dch_linkcmd.specs.Checks.{good_in}
use Rattle.dch_runlaw.proofs.Sublists.{either}

-- taking blocks leaves what channels were given
goes_given : (config : Config) (into : Dir) (i : ℕ) (bits : List Bit) (to : Demux) (layer : Layer) (j : ℕ) → (goes config into i bits to layer).layer.given j ≡ layer.given j
goes_given config into i bits (To b skip) layer j = refl
goes_given config into i bits Reserved layer j = refl
goes_given config into i bits (NoBearer ct) layer j = refl
goes_given config into i bits Nobody layer j = refl

one_given : (config : Config) (into : Dir) (i k : ℕ) (bits : List Bit) (good : Bool) (layer : Layer) (j : ℕ) → (takes_one config into i k bits good layer).layer.given j ≡ layer.given j
one_given config into i k [] true layer j = refl
one_given config into i k (bit ∷ bits) true layer j = goes_given config into i (bit ∷ bits) (receiver config into i (bit ∷ bits)) layer j
one_given config into i k bits false layer j = refl

takes_given : (config : Config) (into : Dir) (i k : ℕ) (came : List Came) (layer : Layer) (j : ℕ) → (takes config into i k came layer).layer.given j ≡ layer.given j
takes_given config into i k [] layer j = refl
takes_given config into i k (c ∷ came) layer j = takes_given config into i (k + 1) came (takes_one config into i k c.bits c.good layer).layer j ∙ one_given config into i k c.bits c.good layer j

reads_given : (config : Config) (into : Dir) (i : ℕ) (r : Reading) (layer : Layer) (j : ℕ) → (reads config into i r layer).layer.given j ≡ layer.given j
reads_given config into i Nothing layer j = refl
reads_given config into i (Read held) layer j = takes_given config into i 0 (came_of held) layer j
reads_given config into i (Bad frame) layer j = refl

pub below_given : (config : Config) (into : Dir) (readings : ℕ → Reading) (n : ℕ) (layer : Layer) (j : ℕ) → (reads_below config into readings n layer).layer.given j ≡ layer.given j
below_given config into readings zero layer j = refl
below_given config into readings (suc i) layer j = reads_given config into i (readings i) (reads_below config into readings i layer).layer j ∙ below_given config into readings i layer j

-- a channel whose TTI goes on keeps its blocks at a start
pub start_on : (config : Config) (out : Dir) (cfn : ℕ) (old new : Layer) (i : ℕ) → IsStart config out cfn old new → starts (channel_at (side_of config out) i).frames cfn ≡ false → new.given i ≡ old.given i
start_on config out cfn old new i st q = st.given i ∙ rw q refl

-- of a downlink channel whose TTI goes on nothing is read
pub goes_on : (planned : Planned) (rx_frames : RxFrames) (i : ℕ) (r : Reading) → ends (channel_at planned.config.downlink.side i).frames rx_frames.cfn ≡ false → IsReading planned rx_frames i r → good_in r ≡ []
goes_on planned rx_frames i Nothing e is = refl
goes_on planned rx_frames i (Read held) e is = let t : ends (channel_at planned.config.downlink.side i).frames rx_frames.cfn ≡ true = is.0 in absurd (cc)
goes_on planned rx_frames i (Bad frame) e is = refl

-- an Iub frame of another set reads nothing of the channel
pub set_none : (side : Side) (s i : ℕ) (held : HeldSet) → ((channel_at side i).set == s) ≡ false → set_readings side s held i ≡ Nothing
set_none side s i held e = either (nat_lt i (length side.channels)) (λ l. rw (l, e) refl) (λ l. rw l refl)

pub other_set : (planned : Planned) (old new : RncState) (s i : ℕ) (octets : List ℕ) (output : Output) → old.planned ≡ planned → ((channel_at planned.config.uplink.side i).set == s) ≡ false → RncSteps old (IubFrame s octets) new output → new.readings i ≡ Nothing
other_set planned old new s i octets output active e step = ⊎_elim
    (λ (f : IsReadFrame old.planned old s octets new output). ap (λ (x : RncState). x.readings i) f.state ∙ ap (λ (p : Planned). set_readings p.config.uplink.side s f.held i) active ∙ set_none planned.config.uplink.side s i f.held e)
    (λ (r : IsRefusedFrame old.planned old s octets new output). ap (λ (x : RncState). x.readings i) r.state)
    step

-- and leaves what channels were given, and the CFN
pub iub_given : (old new : RncState) (s : ℕ) (octets : List ℕ) (output : Output) → RncSteps old (IubFrame s octets) new output → (j : ℕ) → new.layer.given j ≡ old.layer.given j
iub_given old new s octets output step j = ⊎_elim
    (λ (f : IsReadFrame old.planned old s octets new output). ap (λ (x : RncState). x.layer.given j) f.state ∙ below_given old.planned.config Up (set_readings old.planned.config.uplink.side s f.held) (length old.planned.config.uplink.side.channels) old.layer j)
    (λ (r : IsRefusedFrame old.planned old s octets new output). ap (λ (x : RncState). x.layer.given j) r.state)
    step

pub iub_cfn : (old new : RncState) (s : ℕ) (octets : List ℕ) (output : Output) → RncSteps old (IubFrame s octets) new output → new.cfn ≡ old.cfn
iub_cfn old new s octets output step = ⊎_elim
    (λ (f : IsReadFrame old.planned old s octets new output). ap (λ (x : RncState). x.cfn) f.state)
    (λ (r : IsRefusedFrame old.planned old s octets new output). ap (λ (x : RncState). x.cfn) r.state)
    step

-- the Node B sends an uplink Iub frame only where a TTI ends
pub serves_none : (planned : Planned) (rx_frames : RxFrames) (s : ℕ) (lines : List Line) (iub : Option (List ℕ)) → ends (set_frames planned.config.uplink.side s) rx_frames.cfn ≡ false → DeliversSet planned rx_frames s lines iub → iub ≡ None
serves_none planned rx_frames s lines iub e serves = ⊎_elim
    (λ (w : IsWaiting planned.config.uplink.side rx_frames.cfn s lines iub). w.none)
    (λ (r : IsLost planned.config.uplink.side rx_frames s lines iub ⊎ IsSentUp planned rx_frames s lines iub). ⊎_elim
    (λ (l : IsLost planned.config.uplink.side rx_frames s lines iub). l.none)
    (λ (u : IsSentUp planned rx_frames s lines iub). let t : ends (set_frames planned.config.uplink.side s) rx_frames.cfn ≡ true = u.over in absurd (cc))
    r)
    serves

-- When a bearer at an end stands for what layer 2 keeps of it.
use Rattle.std.specs.Prelude.{◌≡◌, ◌<◌, ◌≤◌, ◌*◌, ℕ, List, [], Option, Some, None, IsSome, length}
use Rattle.dch_bits.specs.declared.bit.Bit.{Bit}
use Rattle.dch_types.specs.declared.channel.Dir.{Dir}
use Rattle.dch_types.specs.declared.bearer.Mode.TheVariants.{Tm as TmMode, Um as UmMode, Am as AmMode}
use Rattle.dch_types.specs.declared.config.Config.{Config}
use Rattle.dch_config.specs.Changes.{KeepsBearer}
use Rattle.dch_rlctm.specs.Waiting.{Waiting, is_size}
use Rattle.dch_rlcum.specs.Receiving.{Receiving}
use Rattle.dch_rlcum.specs.Sending.{Sending, no_units}
use Rattle.dch_am.specs.Receiver.{Receiver}
use Rattle.dch_am.specs.Sender.{Sender}
use Rattle.dch_pair.specs.EntityStanding.{size_in}
use Rattle.dch_layer2.specs.Bearings.{Bearing, Transparent, Unacknowledged, Acknowledged, Sends, bearer_in, channel_of, ct_of, head_of, marks_start, pdu_octets, rules_in, sizes_on}
use Rattle.dch_layer2.specs.Building.{Builds}
use Rattle.dch_layer2.specs.Acknowledged.{AmRunning, HasSides}
use Rattle.dch_layer2.specs.Shapes.{shape_of}
use Rattle.dch_layer2.specs.BearerValues.{TmRunning, UmRunning}
use Rattle.dch_layer2.specs.declared.bearer.Bearer.{Bearer}
use Rattle.dch_layer2.specs.declared.bearer.Bearer.TheVariants.{Tm, Um, Am}

-- the units that wait, where the bearer has a channel to send on
abbrev pub HoldsUnits : Option ℕ → Waiting → Option Waiting → Type 0
HoldsUnits None w None = w.units ≡ []
HoldsUnits None w (Some t) = ⊥
HoldsUnits (Some i) w None = ⊥
HoldsUnits (Some i) w (Some t) = (t.units ≡ w.units) × (t.buffer ≡ w.buffer)

-- the same sizes are among both, in whatever order and however often
abbrev pub HaveSame : List ℕ → List ℕ → Type 0
HaveSame sizes others = (size : ℕ) → is_size sizes size ≡ is_size others size

pub record StandsTm (config : Config) (out into : Dir) (b : ℕ) (w : Waiting) (v : TmRunning) : Type 0 where
  pub mode : (bearer_in config b).mode ≡ TmMode
  pub number : v.number ≡ b
  pub comes_in : v.into ≡ into
  pub sizes : HaveSame v.sizes (sizes_on config out (channel_of config out b))
  pub units : HoldsUnits (channel_of config out b) w v.sender
  pub no_field : ct_of config out b ≡ None

-- the sending side of the unacknowledged mode at opening
abbrev pub opened_sends : Config → Dir → ℕ → Sends
opened_sends config out b = record {
  sending = record {
    units = no_units;
    row = [];
    number = 0;
    pdu = pdu_octets config out b;
    buffer = (bearer_in config b).buffer;
    mark_start = marks_start out;
  };
  accepted = [];
  cuts = [];
}

-- the sending side, where it has a channel to send on, and the receiving side, where it has one to receive from
abbrev pub HoldsSending : Option ℕ → Sending → Option Sending → Type 0
HoldsSending None s None = s.units ≡ no_units
HoldsSending None s (Some t) = ⊥
HoldsSending (Some i) s None = ⊥
HoldsSending (Some i) s (Some t) = t ≡ s

abbrev pub HoldsReceiving : Option ℕ → Receiving → Option Receiving → Type 0
HoldsReceiving None r None = Unit {0}
HoldsReceiving None r (Some t) = ⊥
HoldsReceiving (Some i) r None = ⊥
HoldsReceiving (Some i) r (Some t) = t ≡ r

pub record StandsUm (config : Config) (out into : Dir) (b : ℕ) (s : Sends) (r : Receiving)
    (v : UmRunning) : Type 0 where
  pub mode : (bearer_in config b).mode ≡ UmMode
  pub number : v.number ≡ b
  pub comes_in : v.into ≡ into
  pub shape : v.shape ≡ shape_of config out b
  pub sending : HoldsSending (channel_of config out b) s.sending v.sender
  pub receiving : HoldsReceiving (channel_of config into b) r v.receiver

pub record StandsAm (config : Config) (out into : Dir) (b : ℕ) (s : Sender) (r : Receiver)
    (v : AmRunning) : Type 0 where
  pub mode : (bearer_in config b).mode ≡ AmMode
  pub number : v.number ≡ b
  pub comes_in : v.into ≡ into
  pub shape : v.shape ≡ shape_of config out b
  pub comes : size_in v.entity ≡ pdu_octets config into b
  pub sides : HasSides (rules_in config b) s r v

-- bearer b, at an end that sends in one direction and receives in the other, has this bearing
abbrev pub Represents : Config → Dir → Dir → ℕ → Bearing → Bearer → Type 0
Represents config out into b (Transparent w us) (Tm v) = StandsTm config out into b w v
Represents config out into b (Transparent w us) (Um v) = ⊥
Represents config out into b (Transparent w us) (Am v) = ⊥
Represents config out into b (Unacknowledged s r) (Tm v) = ⊥
Represents config out into b (Unacknowledged s r) (Um v) = StandsUm config out into b s r v
Represents config out into b (Unacknowledged s r) (Am v) = ⊥
Represents config out into b (Acknowledged s r) (Tm v) = ⊥
Represents config out into b (Acknowledged s r) (Um v) = ⊥
Represents config out into b (Acknowledged s r) (Am v) = StandsAm config out into b s r v

-- it sends: it has a channel for that
pub record CanSend (bearer : Bearer) : Type 0 where
  pub config : Config
  pub out : Dir
  pub into : Dir
  pub b : ℕ
  pub bearing : Bearing
  pub stands : Represents config out into b bearing bearer
  pub sends : IsSome (channel_of config out b)

-- it has a block to build, of so many bits
pub record CanBuild (bearer : Bearer) (bits : ℕ) : Type 0 where
  pub config : Config
  pub out : Dir
  pub into : Dir
  pub b : ℕ
  pub bearing : Bearing
  pub stands : Represents config out into b bearing bearer
  pub some : 0 < (head_of config out b bearing).count
  pub size : (head_of config out b bearing).size ≡ bits

-- the block that it builds, and what it then stands for
pub record Built (config : Config) (out into : Dir) (b : ℕ) (old : Bearing) (block : List Bit)
    (bearer : Bearer) : Type 0 where
  pub next : Bearing
  pub builds : Builds config out b old next block
  pub stands : Represents config out into b next bearer

-- bits that may come to it: whole octets of a PDU, but for the transparent mode
abbrev pub MayCome : Config → Dir → ℕ → Bearing → ℕ → Type 0
MayCome config into b (Transparent w us) bits = Unit {0}
MayCome config into b (Unacknowledged s r) bits = (bits ≡ 8 * pdu_octets config into b)
    × (pdu_octets config into b ≤ 125)
MayCome config into b (Acknowledged s r) bits = (bits ≡ 8 * pdu_octets config into b) × (pdu_octets config into b ≤ 126)

-- it receives, and so many bits may come to it
pub record CanTake (bearer : Bearer) (bits : ℕ) : Type 0 where
  pub config : Config
  pub out : Dir
  pub into : Dir
  pub b : ℕ
  pub bearing : Bearing
  pub stands : Represents config out into b bearing bearer
  pub receives : IsSome (channel_of config into b)
  pub comes : MayCome config into b bearing bits

-- a bearer whose PDUs have as many octets in a configuration, where it has a channel to send on if it sends
pub record FitsUm (config : Config) (out : Dir) (v : UmRunning) : Type 0 where
  pub there : v.number < length config.bearers
  pub mode : (bearer_in config v.number).mode ≡ UmMode
  pub octets : pdu_octets config out v.number ≡ v.shape.octets
  pub sends : IsSome v.sender → IsSome (channel_of config out v.number)

pub record FitsAm (config : Config) (out : Dir) (v : AmRunning) : Type 0 where
  pub there : v.number < length config.bearers
  pub mode : (bearer_in config v.number).mode ≡ AmMode
  pub octets : pdu_octets config out v.number ≡ v.shape.octets

-- it goes on in another configuration: it stands for a bearer of a first one that is kept
pub record CanGoOn (config : Config) (out : Dir) (bearer : Bearer) : Type 0 where
  pub first : Config
  pub into : Dir
  pub b : ℕ
  pub bearing : Bearing
  pub stands : Represents first out into b bearing bearer
  pub keeps : KeepsBearer first config b
  pub there : b < length config.bearers

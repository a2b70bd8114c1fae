-- A TTI of which a leg gets all as it was sent, or with little damage, and what the network controller takes of it.
use Rattle.std.specs.Prelude.{◌≡◌, ◌≢◌, ◌<◌, ◌%◌, ◌==◌, ◌&&◌, ◌⊎◌, ℕ, List, [], ◌∷◌, Option, None, true, if◌then◌else◌, replicate}
use Rattle.dch_types.specs.declared.channel.Dir.TheVariants.{Up}
use Rattle.dch_types.specs.declared.channel.Trch.{Trch}
use Rattle.dch_types.specs.Parts.{channel_at, format_at}
use Rattle.dch_accept.specs.Blocks.{Held, bits_of}
use Rattle.dch_accept.specs.Plans.{Planned}
use Rattle.dch_damage.specs.Damage.{radio_after}
use Rattle.dch_node.specs.Lines.{Line}
use Rattle.dch_node.specs.Values.{Radio}
use Rattle.dch_layer2.specs.Layers.{Given}
use Rattle.dch_layer2.specs.Joined.{CarriesGiven, joined_bits}
use Rattle.dch_layer2.specs.Reading.{Read}
use Rattle.dch_linkcmd.specs.RncState.{IubFrame as IubFrameUp}
use Rattle.dch_linkcmd.specs.Checks.{good_in}
use Rattle.dch_combine.specs.Combined.{IsGoodBlock}
use Rattle.dch_combine.specs.Legs.{LegFrame, blocks_in}
use Rattle.dch_combine.specs.Sent.{IsSentBlock, TakesSent}
use Rattle.dch_linkcmd.specs.LinkLegs.{iub_from}
use Rattle.dch_linkcmd.specs.LinkSoft.{SoftState, given as given_up}
use Rattle.dch_linkcmd.specs.SoftStages.{RncGoes}
use Rattle.dch_linkcmd.specs.soft_stage.Stage.{Stage}
use Rattle.dch_linkcmd.specs.soft_stage.Stage.TheVariants.{RncTick, IubDown, RadioDown, UeTick, RadioUp, IubUp, Combine}
use Rattle.dch_runlaw.specs.Intervals.{AreFewUp, AreGood, DifferLittle, MayComeDamaged}
use Rattle.dch_runlaw.specs.Ttis.{InTti, Tti}
use Rattle.dch_runlaw.specs.SoftRuns.{Between, Move, Next, Point, Runs}

-- what the terminal sent comes to leg k in some way, and the Iub frame of a set that the leg sent itself arrives as it
-- was sent, if it sent one
abbrev pub GetsSo : (Option Radio → Option Radio → Type 0) → ℕ → ℕ → Stage → (old new : SoftState) → Type 0
GetsSo Comes k set RncTick old new = Unit {0}
GetsSo Comes k set (IubDown leg s) old new = Unit {0}
GetsSo Comes k set (RadioDown leg) old new = Unit {0}
GetsSo Comes k set UeTick old new = Unit {0}
GetsSo Comes k set (RadioUp leg) old new = leg ≡ k
    → Comes old.ue.last.sent (radio_after (old.legs k).damage Up old.ue.last.sent)
GetsSo Comes k set (IubUp s leg) old new = s ≡ set → leg ≡ k
    → iub_from (old.legs k) set ≡ (old.legs k).node_b.last.iub set
GetsSo Comes k set (Combine s) old new = Unit {0}

abbrev pub AsSent : Option Radio → Option Radio → Type 0
AsSent sent came = came ≡ sent

-- what the terminal sent arrives at leg k as it was sent, and so does the Iub frame of a set that the leg sent itself,
-- if it sent one
abbrev pub Gets : ℕ → ℕ → Stage → (old new : SoftState) → Type 0
Gets k set stage old new = GetsSo AsSent k set stage old new

-- the radio frames that the terminal sent to leg k, by the remainders of their CFNs modulo 8: with that of a stage
abbrev pub with_sent : ℕ → Stage → SoftState → (ℕ → Option Radio) → ℕ → Option Radio
with_sent k RncTick old before = before
with_sent k (IubDown leg s) old before = before
with_sent k (RadioDown leg) old before = before
with_sent k UeTick old before = before
with_sent k (RadioUp leg) old before = λ n. if (leg == k) && (n == old.cfn % 8) then old.ue.last.sent else before n
with_sent k (IubUp s leg) old before = before
with_sent k (Combine s) old before = before

-- and with those of a run, and of a TTI
abbrev pub frames_sent : ℕ → (moves : List Move) → (old new : Point) → (lines : List Line)
    → Runs old moves new lines → (ℕ → Option Radio) → ℕ → Option Radio
frames_sent k [] old new lines run before = before
frames_sent k (Between event ∷ moves) old new lines run before = frames_sent k moves run.next new run.rest run.later
    before
frames_sent k (Next ∷ moves) old new lines run before = frames_sent k moves run.next new run.rest run.later
    (with_sent k old.stage old.soft before)

abbrev pub tti_sent : ℕ → (frames set : ℕ) → (old last : Point) → Tti frames set old last → (ℕ → Option Radio)
    → ℕ → Option Radio
tti_sent k frames set old last t before = frames_sent k t.moves old last t.lines t.run before

-- each radio frame of a TTI comes to leg k with few TFCI bits wrong, and few of their cells differ from those that were
-- sent; the Iub frame of the set arrives as it was sent
pub record IsLittleDamagedAtLeg (planned : Planned) (k frames set : ℕ) (old last : Point)
    (t : Tti frames set old last) : Type 0 where
  pub arrive : InTti (GetsSo MayComeDamaged k set) frames set old last t
  pub differ : DifferLittle planned Up last.soft.cfn (AreFewUp planned set)
      (tti_sent k frames set old last t (λ n. None)) (last.soft.legs k).node_b.state.frames

-- a TTI of a set arrives at leg k as it was sent, or with little damage, and the Iub frame of the set that the leg sent
-- arrives as it was sent
abbrev pub ArrivesAtLeg : Planned → ℕ → (frames set : ℕ) → (old last : Point) → Tti frames set old last → Type 0
ArrivesAtLeg planned k frames set old last t = InTti (Gets k set) frames set old last t
    ⊎ IsLittleDamagedAtLeg planned k frames set old last t

-- where 10 ms pass at the terminal, layer 2 has these blocks for channel i
abbrev pub GivesBlocks : ℕ → Given → Stage → (old new : SoftState) → Type 0
GivesBlocks i given RncTick old new = Unit {0}
GivesBlocks i given (IubDown leg s) old new = Unit {0}
GivesBlocks i given (RadioDown leg) old new = Unit {0}
GivesBlocks i given UeTick old new = new.ue.state.layer.given i ≡ given
GivesBlocks i given (RadioUp leg) old new = Unit {0}
GivesBlocks i given (IubUp s leg) old new = Unit {0}
GivesBlocks i given (Combine s) old new = Unit {0}

-- blocks that layer 2 gave to a channel, as they are sent: each is good
abbrev pub as_sent : Trch → Given → Held
as_sent channel given = record {
  format = given.format;
  size = (format_at channel given.format).size;
  bits = joined_bits given.blocks;
  good = replicate (format_at channel given.format).number true;
  room = bits_of (format_at channel given.format);
}

-- each good block that a leg other than k has of channel i is the one that was sent, at its place and in its format
abbrev pub OthersAreSent : (ℕ → Option LegFrame) → ℕ → ℕ → Held → Type 0
OthersAreSent frames k i sent = (j b : ℕ) → j ≢ k → IsGoodBlock (blocks_in (frames j) i) b
    → IsSentBlock sent b (blocks_in (frames j) i)

-- blocks are those that layer 2 gave to a channel, in their format, and none of them is bad
pub record AreAllGiven (given : Given) (held : Held) : Type 0 where
  pub carries : CarriesGiven given held
  pub good : AreGood held

-- in each radio frame of the TTI layer 2 of the terminal has the same blocks for channel i; and at its end the network
-- controller takes an Iub frame of the set, and takes of the channel just these blocks: the good ones are those that
-- were sent, at their places. Where their format has any blocks, that is the format in which they are read, and no
-- block is bad
pub record TakesGiven (planned : Planned) (set i : ℕ) (given : Given) (frames : ℕ) (old last : Point)
    (t : Tti frames set old last) (new : SoftState) : Type 0 where
  pub stays : InTti (GivesBlocks i given) frames set old last t
  pub octets : List ℕ
  pub comes : RncGoes (given_up last.soft set) (IubFrameUp set octets) new
  pub held : Held
  pub read : new.rnc.state.readings i ≡ Read held
  pub taken : good_in (new.rnc.state.readings i) ≡ given.blocks
  pub sent : TakesSent (as_sent (channel_at planned.config.uplink.side i) given) held
  pub all : 0 < (format_at (channel_at planned.config.uplink.side i) given.format).number → AreAllGiven given held
